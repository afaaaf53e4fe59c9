-- What the code makes of one line, and how it keeps what is read so far.
use Rattle.std.specs.Prelude.{◌≡◌, ⊤, ℕ, nat_lt, ◌≤◌, Bool, if◌then◌else◌, List, [], ◌∷◌, ◌++◌, length, map, Result, Ok, Err}
use Rattle.std.specs.Borrow.{Bor}
use Rattle.fam_outer.specs.declared.dialect.Dialect.{Dialect}
use Rattle.fam_outer.specs.declared.faults.Place.{Place}
use Rattle.fam_outer.specs.declared.faults.ConditionFault.{ConditionFault}
use Rattle.fam_outer.specs.declared.faults.FileCode.{FileCode}
use Rattle.fam_outer.specs.declared.faults.FileCode.TheVariants as codes_of
use Rattle.fam_outer.specs.declared.faults.FileRefusal.{FileRefusal}
use Rattle.fam_outer.specs.declared.faults.FileRefusal.TheVariants as files
use Rattle.fam_outer.specs.declared.refusal.Refusal.{Refusal}
use Rattle.fam_outer.specs.declared.refusal.Refusal.TheVariants as refusals
use Rattle.linear_atoms.specs.declared.atoms.Atom.{Atom}
use Rattle.linear_atoms.specs.declared.atoms.Feature.{Feature}
use Rattle.cpp_conditions.specs.declared.conditions.Condition.{Condition}
use Rattle.cpp_conditions.specs.declared.reading.ConditionRefusal.{ConditionRefusal}
use Rattle.cpp_conditions.specs.declared.reading.ConditionRefusal.TheVariants as conditions
use Rattle.cpp_conditions.specs.Distinct.{AreAtomsOf, HaveFewAtoms, HaveMoreAtoms}
use Rattle.cpp_conditions.specs.Macros.{Macros, among}
use Rattle.cpp_conditions.specs.Propositions.{Proposition, IsFit}
use Rattle.cpp_conditions.specs.Validity.{Plain, AreFit}
use Rattle.cpp_conditions.specs.View.{proposition}
use Rattle.cpp_lines.specs.declared.open_sections.Opens.{Opens}
use Rattle.cpp_lines.specs.declared.sections.Reading.{Reading}
use Rattle.cpp_lines.specs.Defined.{names_in}
use Rattle.cpp_lines.specs.GroupConditions.{IsGroupCondition}
use Rattle.cpp_lines.specs.Lines.{line_place}
use Rattle.cpp_lines.specs.Nesting.{named_in, opened_by}
use Rattle.cpp_lines.specs.Opens.{flags, first_after}
use Rattle.cpp_lines.specs.Sections.{HasFault, IsRead, TextIsRead, line_at}

-- what the text of a condition is read as; want of memory is free
abbrev pub ReadsText : Macros → List Feature → Result (List ℕ) ConditionFault → Result Condition ConditionRefusal → Type 0
ReadsText macros features text (Ok made) = IsGroupCondition macros features text (Ok (proposition made)) × IsFit (length features) (proposition made)
ReadsText macros features text (Err (conditions.Fault fault)) = IsGroupCondition macros features text (Err fault)
ReadsText macros features text (Err conditions.NoMemory) = ⊤

-- the code of a refused condition
abbrev pub condition_refusal : ConditionRefusal → Refusal FileCode
condition_refusal conditions.NoMemory = refusals.NoMemory
condition_refusal (conditions.Fault fault) = refusals.Fault (codes_of.Condition fault)

-- the refusal of a file with this fault at a place
abbrev pub at_place : Refusal FileCode → Place → FileRefusal
at_place refusals.NoMemory place = files.NoMemory
at_place (refusals.Fault code) place = files.Fault code place

-- what the conditions that are read so far mean
abbrev pub meant : Reading → List (Proposition Atom)
meant reading = map proposition reading.conditions.items

-- plain names
abbrev pub plain_names : List (Bor (List ℕ)) → List (List ℕ)
plain_names = map (λ name. name.now)

-- how a condition is read behind what is read so far
abbrev pub macros_of : Dialect → Reading → Macros
macros_of dialect reading = among dialect.unknown (plain_names reading.above.items) (plain_names reading.defined.items)

-- the atoms are those of the model and of the conditions so far, at most 64, and all conditions are over the model's features
pub record IsKept (model : Plain) (reading : Reading) : Type 0 where
  pub atoms : AreAtomsOf (model.constraints ++ meant reading) reading.atoms.items
  pub few : length reading.atoms.items ≤ 64
  pub fit : AreFit (length model.features) reading.conditions.items

-- a condition that is added
pub record IsAdded (dialect : Dialect) (model : Plain) (text : Result (List ℕ) ConditionFault) (old new : Reading) : Type 0 where
  pub added : Proposition Atom
  pub is_read : IsGroupCondition (macros_of dialect old) model.features text (Ok added)
  pub few : HaveFewAtoms 64 (model.constraints ++ (meant old ++ added ∷ []))
  pub meant_now : meant new ≡ meant old ++ added ∷ []
  pub kept : IsKept model new

-- why a condition is not added
pub data IsConditionRefused (dialect : Dialect) (model : Plain) (text : Result (List ℕ) ConditionFault) (old : Reading) : FileCode → Type 0 where
  unread : (fault : ConditionFault) → IsGroupCondition (macros_of dialect old) model.features text (Err fault) → IsConditionRefused dialect model text old (codes_of.Condition fault)
  crowded : (p : Proposition Atom) → IsGroupCondition (macros_of dialect old) model.features text (Ok p) → HaveMoreAtoms 64 (model.constraints ++ (meant old ++ p ∷ [])) → IsConditionRefused dialect model text old codes_of.TooManyTests

abbrev pub Adds : Dialect → Plain → Result (List ℕ) ConditionFault → Reading → Reading → Result ⊤ (Refusal FileCode) → Type 0
Adds dialect model text old new (Ok _) = IsAdded dialect model text old new
Adds dialect model text old new (Err (refusals.Fault code)) = IsConditionRefused dialect model text old code
Adds dialect model text old new (Err refusals.NoMemory) = ⊤

-- a line without a fault, with its condition added
pub record IsJudged (dialect : Dialect) (model : Plain) (line : List ℕ) (old new : Reading) : Type 0 where
  pub conditions : List (Proposition Atom)
  pub is_read : IsRead dialect (macros_of dialect old) model (flags old.opens) (meant old) line conditions
  pub meant_now : meant new ≡ meant old ++ conditions
  pub kept : IsKept model new

abbrev pub Judges : Dialect → Plain → List ℕ → Reading → Reading → Result ⊤ (Refusal FileCode) → Type 0
Judges dialect model line old new (Ok _) = IsJudged dialect model line old new
Judges dialect model line old new (Err (refusals.Fault code)) = HasFault dialect (macros_of dialect old) model (flags old.opens) (meant old) line code
Judges dialect model line old new (Err refusals.NoMemory) = ⊤

-- the sections that are open behind the line, whose directive stands at this place
pub record IsFollowed (place : Place) (line : List ℕ) (old new : Reading) : Type 0 where
  pub opened : flags new.opens ≡ opened_by (named_in line) (flags old.opens)
  pub first : new.opens.first ≡ first_after (named_in line) place (flags old.opens) old.opens.first

-- the names that are defined above the next line
pub record IsNamed (line : List ℕ) (old new : Reading) : Type 0 where
  pub above : plain_names new.above.items ≡ plain_names old.above.items ++ names_in line
  pub defined : new.defined ≡ old.defined

-- a line that is added
pub record IsTaken (dialect : Dialect) (model : Plain) (start : ℕ) (first : Place) (line : List ℕ) (old new : Reading) : Type 0 where
  pub judged : IsJudged dialect model line old new
  pub lines : new.lines.items ≡ old.lines.items ++ line_at (length (meant old)) start first line ∷ []
  pub followed : IsFollowed (line_place first line) line old new
  pub named : IsNamed line old new

-- a line that has this fault
pub record IsFaulty (dialect : Dialect) (model : Plain) (first : Place) (line : List ℕ) (old new : Reading) (code : FileCode) (place : Place) : Type 0 where
  pub fault : HasFault dialect (macros_of dialect old) model (flags old.opens) (meant old) line code
  pub place_is : place ≡ line_place first line
  pub followed : IsFollowed (line_place first line) line old new

abbrev pub Takes : Dialect → Plain → ℕ → Place → List ℕ → Reading → Reading → Result ⊤ FileRefusal → Type 0
Takes dialect model start first line old new (Ok _) = IsTaken dialect model start first line old new
Takes dialect model start first line old new (Err (files.Fault code place)) = IsFaulty dialect model first line old new code place
Takes dialect model start first line old new (Err files.NoMemory) = ⊤

-- nothing is read yet
pub record IsBegun (reading : Reading) : Type 0 where
  pub lines : reading.lines.items ≡ []
  pub conditions : reading.conditions.items ≡ []
  pub opens : flags reading.opens ≡ []
  pub above : reading.above.items ≡ []

-- the lines behind end fewer sections than are open
abbrev pub is_short : ℕ → Opens → Bool
is_short ends opens = nat_lt ends (length (flags opens))

-- the fault of the outermost open section in place of a later one
abbrev pub earlier : FileRefusal → Bool → Place → FileRefusal
earlier files.NoMemory b first = files.NoMemory
earlier (files.Fault code place) b first = if b then files.Fault codes_of.NoEndif first else files.Fault code place

-- what the lines of a text are read as
abbrev pub ReadsLines : Dialect → Plain → List ℕ → Result Reading FileRefusal → Type 0
ReadsLines dialect model text (Ok reading) = TextIsRead dialect model text (Ok (record { lines = reading.lines.items; conditions = meant reading }))
ReadsLines dialect model text (Err (files.Fault code place)) = TextIsRead dialect model text (Err (code, place))
ReadsLines dialect model text (Err files.NoMemory) = ⊤
