-- Parts of a model that share no feature.
use Rattle.std.specs.Prelude.{◌≡◌, ℕ, ℤ, Bool, true, if◌then◌else◌, List, [], ◌∷◌, map, length, Option, Some, None}
use Rattle.linear_atoms.specs.declared.atoms.Atom.{Atom}
use Rattle.linear_atoms.specs.declared.ranges.Span.{Span}
use Rattle.linear_atoms.specs.Forms.{sum_at}
use Rattle.cpp_conditions.specs.declared.conditions.Condition.{Condition}
use Rattle.cpp_conditions.specs.Propositions.{Proposition, true_at}
use Rattle.cpp_conditions.specs.Validity.{AreFit, all_true}
use Rattle.cpp_conditions.specs.View.{proposition}
use Rattle.atom_solver.specs.Free.{Serves}
use Rattle.atom_solver.specs.Spans.{ranges, FindsIn}

-- the first values at the features that are marked, and the second elsewhere
abbrev pub mixed : List Bool → List ℤ → List ℤ → List ℤ
mixed [] vs ws = ws
mixed (m ∷ ms) [] ws = ws
mixed (m ∷ ms) (v ∷ vs) [] = []
mixed (m ∷ ms) (v ∷ vs) (w ∷ ws) = (if m then v else w) ∷ mixed ms vs ws

-- of the features that are marked these values alone
abbrev pub fixed : List Bool → List ℤ → List Span → List Span
fixed [] vs ss = ss
fixed (m ∷ ms) [] ss = ss
fixed (m ∷ ms) (v ∷ vs) [] = []
fixed (m ∷ ms) (v ∷ vs) (s ∷ ss) = (if m then record { low = v; high = v } else s) ∷ fixed ms vs ss

-- the terms have the sum that they have at the first values, or at the second
abbrev pub IsSumOf : Bool → List Bool → List (ℕ × ℤ) → Type 0
IsSumOf inside marks ts = (vs ws : List ℤ) → length vs ≡ length ws → sum_at ts (mixed marks vs ws) ≡ sum_at ts (if inside then vs else ws)

-- the proposition has the truth that it has at the first values, or at the second
abbrev pub IsTruthOf : Bool → List Bool → Proposition Atom → Type 0
IsTruthOf inside marks p = (vs ws : List ℤ) → length vs ≡ length ws → true_at (mixed marks vs ws) p ≡ true_at (if inside then vs else ws) p

-- some of the conditions, which read only what is marked, while the others read nothing that is
pub record IsPart (marks : List Bool) (conditions part : List Condition) : Type 0 where
  pub kept : (vs : List ℤ) → all_true vs (map proposition conditions) ≡ true → all_true vs (map proposition part) ≡ true
  pub inner : (vs ws : List ℤ) → length vs ≡ length ws → all_true vs (map proposition part) ≡ true → all_true ws (map proposition part) ≡ true
      → all_true (mixed marks vs ws) (map proposition part) ≡ true
  pub whole : (vs ws : List ℤ) → length vs ≡ length ws → all_true vs (map proposition part) ≡ true → all_true ws (map proposition conditions) ≡ true
      → all_true (mixed marks vs ws) (map proposition conditions) ≡ true
  pub fit : (n : ℕ) → AreFit n conditions → AreFit n part

-- what is left of a box once its parts are solved: nothing where one has no solution
abbrev pub Settles : (List ℤ → Bool) → List Span → Option (List Span) → Type 0
Settles holds old None = FindsIn (ranges old) holds None
Settles holds old (Some new) = Serves holds old new
