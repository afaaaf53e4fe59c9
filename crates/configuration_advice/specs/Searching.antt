-- What the search for the nearest configuration asks and answers.
use Rattle.std.specs.Prelude.{◌≡◌, ℕ, ◌+◌, ◌*◌, ◌≤◌, ◌<◌, ◌^◌, ℤ, pos, ◌+ℤ◌, ◌⊎◌, true, List, [], ◌∷◌, length, slice_get, Option, Some, None}
use Rattle.linear_atoms.specs.declared.atoms.Atom.{Atom}
use Rattle.linear_atoms.specs.declared.atoms.Config.{Config}
use Rattle.linear_atoms.specs.Atoms.{AreAtoms}
use Rattle.cpp_conditions.specs.Numbering.{vector_at}
use Rattle.cpp_conditions.specs.Propositions.{IsBelow, true_on}
use Rattle.cpp_conditions.specs.Validity.{plain, IsValid}
use Rattle.cpp_conditions.specs.View.{formula}
use Rattle.atom_solver.specs.Solutions.{IsBefore}
use Rattle.configuration_advice.specs.declared.comparing.Advice.{Advice}
use Rattle.configuration_advice.specs.declared.choices.Choice.{Choice}
use Rattle.configuration_advice.specs.declared.question.Question.{Question}
use Rattle.configuration_advice.specs.Choices.{AreChosen}
use Rattle.configuration_advice.specs.Nearest.{differing}
use Rattle.configuration_advice.specs.Tests.{at_least}

-- two tests for each feature from this number on: that it has at least its given value, and that it has more
abbrev pub pairs : ℕ → List ℤ → List Atom
pairs n [] = []
pairs n (g ∷ gs) = at_least n g ∷ at_least n (g +ℤ pos 1) ∷ pairs (n + 1) gs

-- they stand in the list from this place on
abbrev pub ArePairs : List Atom → ℕ → ℕ → List ℤ → Type 0
ArePairs atoms place n [] = Unit {0}
ArePairs atoms place n (g ∷ gs) =
    (slice_get atoms place ≡ Some (at_least n g)) × (slice_get atoms (place + 1) ≡ Some (at_least n (g +ℤ pos 1))) × ArePairs atoms (place + 2) (n + 1) gs

-- a question is well formed
pub record IsAsked (q : Question) : Type 0 where
  pub atoms : AreAtoms (length q.prepared.now.features) q.atoms.now
  pub below : IsBelow (length q.atoms.now) (formula q.quiet.now)
  pub paired : ArePairs q.atoms.now q.first 0 q.given.now.values
  pub room : q.first + 2 * length q.given.now.values ≤ length q.atoms.now
  pub few : length q.atoms.now < 2 ^ 32
  pub count : length q.given.now.values ≡ length q.prepared.now.features

-- valid, without alarms, and as chosen
pub record IsCandidate (q : Question) (choices : List Choice) (values : List ℤ) : Type 0 where
  pub valid : IsValid (plain q.prepared.now) values
  pub quiet : true_on (vector_at q.atoms.now values) (formula q.quiet.now) ≡ true
  pub chosen : AreChosen choices q.given.now.values values

-- no candidate is before it
pub record IsFirstOf (q : Question) (choices : List Choice) (values : List ℤ) : Type 0 where
  pub candidate : IsCandidate q choices values
  pub first : (others : List ℤ) → IsCandidate q choices others → IsBefore others values → ⊥

abbrev pub IsRefuted : Question → List Choice → Type 0
IsRefuted q choices = (values : List ℤ) → IsCandidate q choices values → ⊥

-- the first candidate, or none where there is none
abbrev pub FindsFirst : Question → List Choice → Option Config → Type 0
FindsFirst q choices None = IsRefuted q choices
FindsFirst q choices (Some config) = IsFirstOf q choices config.values

-- ---- the nearest candidate

-- values with so many changes come before advice: they have fewer, or as many, and are before its configuration
abbrev pub ComesBefore : ℕ → List ℤ → Advice → Type 0
ComesBefore changed values advice = (changed < advice.changed) ⊎ ((changed ≡ advice.changed) × IsBefore values advice.config.values)

abbrev pub Precedes : Advice → Advice → Type 0
Precedes first second = ComesBefore first.changed first.config.values second

abbrev pub IsNearer : List ℤ → List ℤ → Advice → Type 0
IsNearer given values advice = ComesBefore (differing given values) values advice

-- there is advice that the values are not nearer than
abbrev pub IsBeaten : List ℤ → List ℤ → Option Advice → Type 0
IsBeaten given values None = ⊥
IsBeaten given values (Some advice) = IsNearer given values advice → ⊥

abbrev pub HaveOneLength : Option Advice → Option Advice → Type 0
HaveOneLength None found = Unit {0}
HaveOneLength (Some best) None = Unit {0}
HaveOneLength (Some best) (Some found) = length best.config.values ≡ length found.config.values

-- a candidate with at most so many changes
pub record IsCandidateWithin (q : Question) (choices : List Choice) (most : ℕ) (advice : Advice) : Type 0 where
  pub candidate : IsCandidate q choices advice.config.values
  pub changed : advice.changed ≡ differing q.given.now.values advice.config.values
  pub within : advice.changed ≤ most

abbrev pub MayBeCandidateWithin : Question → List Choice → ℕ → Option Advice → Type 0
MayBeCandidateWithin q choices most None = Unit {0}
MayBeCandidateWithin q choices most (Some advice) = IsCandidateWithin q choices most advice

-- the nearest candidate, if one has at most so many changes
pub record FindsNearest (q : Question) (choices : List Choice) (most : ℕ) (found : Option Advice) : Type 0 where
  pub advice : MayBeCandidateWithin q choices most found
  pub nearest : (values : List ℤ) → IsCandidate q choices values → differing q.given.now.values values ≤ most → IsBeaten q.given.now.values values found
