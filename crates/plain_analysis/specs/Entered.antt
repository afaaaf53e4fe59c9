-- What an analysis adds to what it has found, as it enters statements.
use Rattle.std.specs.Prelude.{◌≡◌, List, [], ◌∷◌, ◌++◌, map}
use Rattle.c_tree.specs.declared.tree.Mode.{Mode}
use Rattle.fam_outer.specs.declared.faults.Place.{Place}
use Rattle.leaf_domain.specs.Leaves.{LeafValue, LeafMeaning}
use Rattle.leaf_domain.specs.Stops.{may_at}
use Rattle.plain_analysis.specs.declared.alarm.Alarm.{Alarm}
use Rattle.plain_analysis.specs.declared.entries.Noted.{Noted}
use Rattle.plain_analysis.specs.declared.findings.PlaceLeaf.{PlaceLeaf}
use Rattle.plain_analysis.specs.declared.options.Options.{Options}
use Rattle.plain_analysis.specs.Statements.{Entry}
use Rattle.plain_analysis.specs.Places.{alarms_at}

-- a place with its leaf, as plain data
abbrev pub place_and_leaf : {L : Type 0} → (L → LeafValue) → PlaceLeaf L → Place × LeafValue
place_and_leaf value p = (p.place, value p.leaf)

abbrev pub leaves_in : List Entry → List (Place × LeafValue)
leaves_in [] = []
leaves_in (e ∷ es) = (e.place, e.leaf) ∷ leaves_in es

abbrev pub alarms_in : LeafMeaning → Mode → List Entry → List Alarm
alarms_in M mode [] = []
alarms_in M mode (e ∷ es) = alarms_at (λ kind. may_at M mode kind e.statement e.leaf) e.place ++ alarms_in M mode es

-- these statements, each with its leaf and its alarms
pub record HasEntered {L : Type 0} (value : L → LeafValue) (M : LeafMeaning) (o : Options) (before now : Noted L) (es : List Entry) : Type 0 where
  pub leaves : map (place_and_leaf value) now.places.items ≡ map (place_and_leaf value) before.places.items ++ leaves_in es
  pub alarms : now.alarms.items ≡ before.alarms.items ++ alarms_in M o.mode es
