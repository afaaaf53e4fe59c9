-- What the text of a report on a family tells.
use Rattle.std.specs.Prelude.{◌≡◌, ℤ, List, length, map}
use Rattle.std.specs.List.{All}
use Rattle.fam_outer.specs.declared.faults.Place.{Place}
use Rattle.c_tree.specs.declared.tree.Kind.{Kind}
use Rattle.linear_atoms.specs.declared.atoms.Feature.{Feature}
use Rattle.linear_atoms.specs.declared.atoms.Literal.{Literal}
use Rattle.linear_atoms.specs.declared.regions.Regions.{Regions}
use Rattle.linear_atoms.specs.Atoms.{AreLiterals, AreRanges, IsWithin}
use Rattle.feature_model.specs.Features.{AreDistinct, AreNamed}
use Rattle.alarm_report.specs.declared.alarms.FamilyAlarm.{FamilyAlarm}
use Rattle.alarm_report.specs.Texts.{alarm_text}
use Rattle.certificate_format.specs.Lines.{IsPlace}

-- the features have names, no two the same, and ranges
pub record AreShownFeatures (features : List Feature) : Type 0 where
  pub named : AreNamed features
  pub distinct : AreDistinct features
  pub ranges : AreRanges features

-- an alarm at a place of a file, with literals over the features, and with values within their ranges as its example
pub record IsShown (features : List Feature) (a : FamilyAlarm) : Type 0 where
  pub place : IsPlace a.place
  pub literals : AreLiterals (length features) a.region.literals
  pub example : IsWithin features a.region.example.values

-- the place and the kind, the literals of the region, and the example
abbrev pub shown_of : FamilyAlarm → (Place × Kind) × (List Literal × List ℤ)
shown_of a = ((a.place, a.kind), (a.region.literals, a.region.example.values))

-- reports with one text, over the same features and with regions told in the same way, tell the same alarms in the same order
abbrev pub ReportsOfFamiliesTellAlarms : Type 0
ReportsOfFamiliesTellAlarms = (regions : Regions) (features : List Feature) (alarms others : List FamilyAlarm) → AreShownFeatures features → All (IsShown features) alarms → All (IsShown features) others
    → alarm_text regions features alarms ≡ alarm_text regions features others → map shown_of alarms ≡ map shown_of others
