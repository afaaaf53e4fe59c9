-- The alarms of a family, with their regions.
use Rattle.std.specs.Prelude.{◌≡◌, ℕ, ℤ, Bool, true, List, [], ◌∷◌, ◌++◌, map, slice_get, Some}
use Rattle.fam_outer.specs.declared.faults.Place.{Place}
use Rattle.c_tree.specs.declared.tree.Kind.{Kind}
use Rattle.linear_atoms.specs.declared.atoms.Atom.{Atom}
use Rattle.cpp_conditions.specs.declared.models.Model.{Model}
use Rattle.cpp_conditions.specs.Numbering.{vector_at}
use Rattle.cpp_conditions.specs.Validity.{plain, IsValid}
use Rattle.decision_tree.specs.Plain.{Plain, leaf_of}
use Rattle.decision_tree.specs.View as shared
use Rattle.atom_solver.specs.Solutions.{IsFirst, all_hold}
use Rattle.lifted_analysis.specs.declared.findings.AlarmTree.{AlarmTree}
use Rattle.alarm_report.specs.declared.alarms.FamilyAlarm.{FamilyAlarm}
use Rattle.alarm_report.specs.declared.region.Region.{Region}
use Rattle.alarm_report.specs.Regions.{AreRegions, Meets}

-- ---- trees of stops, and the alarms of their regions

-- the vectors at which a statement may stop with a kind
pub record PlainAlarmTree : Type 0 where
  pub place : Place
  pub kind : Kind
  pub tree : Plain Bool

abbrev pub plain_alarm_tree : AlarmTree → PlainAlarmTree
plain_alarm_tree a = record { place = a.place; kind = a.kind; tree = shared.plain a.tree }

abbrev pub alarm_in : Place → Kind → Region → FamilyAlarm
alarm_in place kind region = record { place = place; kind = kind; region = region }

-- of each tree, in their order, its regions, each with the tree's place and kind
pub data AreAlarms (model : Model) (atoms : List Atom) : List PlainAlarmTree → List FamilyAlarm → Type 0 where
  no_tree : AreAlarms model atoms [] []
  tree : (t : PlainAlarmTree) (ts : List PlainAlarmTree) (rs : List Region) (alarms : List FamilyAlarm) → AreRegions model atoms t.tree rs
      → AreAlarms model atoms ts alarms → AreAlarms model atoms (t ∷ ts) (map (alarm_in t.place t.kind) rs ++ alarms)

-- ---- what alarms are good for

-- no two trees have one place and kind
abbrev pub AreKeyed : List PlainAlarmTree → Type 0
AreKeyed ts = (i j : ℕ) (t u : PlainAlarmTree) → slice_get ts i ≡ Some t → slice_get ts j ≡ Some u → t.place ≡ u.place → t.kind ≡ u.kind → i ≡ j

-- the alarm has this place and kind, and the configuration meets its region
pub record Tells (alarm : FamilyAlarm) (place : Place) (kind : Kind) (values : List ℤ) : Type 0 where
  pub place_is : alarm.place ≡ place
  pub kind_is : alarm.kind ≡ kind
  pub met : Meets alarm.region values

-- exactly one alarm does
pub record TellsOnce (alarms : List FamilyAlarm) (place : Place) (kind : Kind) (values : List ℤ) : Type 0 where
  pub index : ℕ
  pub alarm : FamilyAlarm
  pub there : slice_get alarms index ≡ Some alarm
  pub tells : Tells alarm place kind values
  pub alone : (i : ℕ) (a : FamilyAlarm) → slice_get alarms i ≡ Some a → Tells a place kind values → i ≡ index

-- some tree has this place and kind
pub record HasKey (ts : List PlainAlarmTree) (place : Place) (kind : Kind) : Type 0 where
  pub index : ℕ
  pub one : PlainAlarmTree
  pub there : slice_get ts index ≡ Some one
  pub place_is : one.place ≡ place
  pub kind_is : one.kind ≡ kind

-- At a valid configuration exactly one alarm of a tree's place and kind is told where the tree is true, and none where it is
-- false; no alarm has another place and kind, and its example is the least valid configuration that meets its region.
pub record CoversStops (model : Model) (atoms : List Atom) (ts : List PlainAlarmTree) (alarms : List FamilyAlarm) : Type 0 where
  pub one : (values : List ℤ) (n : ℕ) (t : PlainAlarmTree) → IsValid (plain model) values → slice_get ts n ≡ Some t
      → leaf_of t.tree (vector_at atoms values) ≡ true → TellsOnce alarms t.place t.kind values
  pub only : (values : List ℤ) (n : ℕ) (t : PlainAlarmTree) (i : ℕ) (a : FamilyAlarm) → IsValid (plain model) values → slice_get ts n ≡ Some t
      → slice_get alarms i ≡ Some a → Tells a t.place t.kind values → leaf_of t.tree (vector_at atoms values) ≡ true
  pub known : (i : ℕ) (a : FamilyAlarm) → slice_get alarms i ≡ Some a → HasKey ts a.place a.kind
  pub least : (i : ℕ) (a : FamilyAlarm) → slice_get alarms i ≡ Some a → IsFirst model (all_hold a.region.literals) a.region.example.values
