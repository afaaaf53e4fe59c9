-- Invariants and alarms whose lines are read back.
use Rattle.std.proofs.Common.{◌≡◌, ℕ, List, [], ◌∷◌, length}
use Rattle.std.specs.Prelude.{None}
use Rattle.linear_atoms.specs.declared.atoms.Atom.{Atom}
use Rattle.linear_atoms.specs.declared.atoms.Literal.{Literal}
use Rattle.cpp_conditions.specs.Numbering.{IsAmong}
use Rattle.leaf_domain.specs.declared.form.Form.{Form}
use Rattle.leaf_domain.specs.Leaves.{LeafValue, LeafMeaning}
use Rattle.alarm_report.specs.declared.alarms.FamilyAlarm.{FamilyAlarm}
use Rattle.alarm_report.specs.Invariants.{Invariant}
use Rattle.certificate_format.specs.Lines.{IsPlace}

-- the atom of each literal stands in the list
abbrev pub AreOver : List Atom → List Literal → Type 0
AreOver atoms [] = Unit {0}
AreOver atoms (l ∷ ls) = IsAmong l.atom atoms × AreOver atoms ls

-- no form has a range of its own, and no values are known to lie apart
pub record TellsRangesAlone (M : LeafMeaning) : Type 0 where
  pub forms : (v : LeafValue) (f : Form) → M.form_range v f ≡ None
  pub steps : (v : LeafValue) (x : ℕ) → M.step_of v x ≡ 1

-- the line of a loop: its place, its region, and its leaf over as many variables as there are names
pub record IsLoopWritten (M : LeafMeaning) (atoms : List Atom) (names : List (List ℕ)) (i : Invariant) : Type 0 where
  pub place : IsPlace i.place
  pub over : AreOver atoms i.region.literals
  pub valid : M.valid i.leaf
  pub variables : i.leaf.variables ≡ length names

pub record IsAlarmWritten (atoms : List Atom) (a : FamilyAlarm) : Type 0 where
  pub place : IsPlace a.place
  pub over : AreOver atoms a.region.literals
