-- One path more, and one tree more.
use Rattle.std.specs.Prelude.{ℕ, Bool, List, [], ◌∷◌, ◌++◌, if◌then◌else◌}
use Rattle.fam_outer.specs.declared.faults.Place.{Place}
use Rattle.linear_atoms.specs.declared.atoms.Atom.{Atom}
use Rattle.cpp_conditions.specs.declared.models.Model.{Model}
use Rattle.leaf_domain.specs.Leaves.{LeafValue}
use Rattle.alarm_report.specs.declared.alarms.FamilyAlarm.{FamilyAlarm}
use Rattle.alarm_report.specs.declared.region.Region.{Region}
use Rattle.alarm_report.specs.Alarms.{PlainAlarmTree, AreAlarms}
use Rattle.alarm_report.specs.Invariants.{LeafTree, Invariant, AreOfPaths, AreInvariants}
use Rattle.alarm_report.specs.Regions.{AreRegionsOf}

-- the turns of a path, if it leads to true
abbrev pub if_true : List (ℕ × Bool) × Bool → List (List (ℕ × Bool))
if_true p = if p.1 then p.0 ∷ [] else []

-- where the old regions are those of some paths, the new ones are those of these and one more
abbrev pub Adds : Model → List Atom → List (ℕ × Bool) × Bool → List Region → List Region → Type 0
Adds model atoms p old new = (paths : List (List (ℕ × Bool))) → AreRegionsOf model atoms paths old → AreRegionsOf model atoms (paths ++ if_true p) new

-- where the old alarms are those of some trees, the new ones are those of these and one more
abbrev pub AddsTree : Model → List Atom → PlainAlarmTree → List FamilyAlarm → List FamilyAlarm → Type 0
AddsTree model atoms t old new = (ts : List PlainAlarmTree) → AreAlarms model atoms ts old → AreAlarms model atoms (ts ++ t ∷ []) new

-- the same of the invariants of paths, and of trees
abbrev pub AddsPath : Model → List Atom → Place → List (ℕ × Bool) × LeafValue → List Invariant → List Invariant → Type 0
AddsPath model atoms place path old new =
    (paths : List (List (ℕ × Bool) × LeafValue)) → AreOfPaths model atoms place paths old → AreOfPaths model atoms place (paths ++ path ∷ []) new

abbrev pub AddsLeafTree : Model → List Atom → LeafTree → List Invariant → List Invariant → Type 0
AddsLeafTree model atoms t old new = (ts : List LeafTree) → AreInvariants model atoms ts old → AreInvariants model atoms (ts ++ t ∷ []) new
