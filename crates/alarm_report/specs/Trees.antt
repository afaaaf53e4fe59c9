-- The trees of an analysis of a family: one for each place of its program, or for each place and kind, in the order of the text.
use Rattle.std.specs.Prelude.{◌≡◌, List, map}
use Rattle.std.specs.List.{All}
use Rattle.fam_outer.specs.declared.faults.Place.{Place}
use Rattle.c_tree.specs.declared.tree.Kind.{Kind}
use Rattle.c_tree.specs.Places.{program_places}
use Rattle.c_tree.specs.Tree.{Whole}
use Rattle.lifted_analysis.specs.Promises.{by_kind}
use Rattle.alarm_report.specs.Alarms.{PlainAlarmTree}
use Rattle.alarm_report.specs.Invariants.{LeafTree}

-- one tree for each key, in their order, and each is as it is to be
pub record AreTrees {T K : Type 0} (key_of : T → K) (keyed : List K) (Is : T → Type 0) (trees : List T) : Type 0 where
  pub keys : map key_of trees ≡ keyed
  pub are : All Is trees

-- one tree of leaves for each place
abbrev pub AreTreesOfPlaces : Whole → (LeafTree → Type 0) → List LeafTree → Type 0
AreTreesOfPlaces p Is trees = AreTrees (λ (t : LeafTree). t.place) (program_places p) Is trees

-- one tree of stops for each place and kind
abbrev pub AreTreesOfKinds : Whole → (PlainAlarmTree → Type 0) → List PlainAlarmTree → Type 0
AreTreesOfKinds p Is trees = AreTrees {K = Place × Kind} (λ (t : PlainAlarmTree). (t.place, t.kind)) (by_kind (program_places p)) Is trees
