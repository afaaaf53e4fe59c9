-- The text of a certificate.
use Rattle.std.specs.Prelude.{ℕ, List, ◌++◌, codes, flat_map}
use Rattle.c_tree.specs.declared.tree.Mode.{Mode}
use Rattle.linear_atoms.specs.declared.atoms.Feature.{Feature}
use Rattle.linear_atoms.specs.declared.regions.Regions.{Regions}
use Rattle.leaf_domain.specs.Leaves.{LeafMeaning}
use Rattle.alarm_report.specs.declared.alarms.FamilyAlarm.{FamilyAlarm}
use Rattle.alarm_report.specs.Invariants.{Invariant}
use Rattle.alarm_report.specs.LeafTexts.{known_text}
use Rattle.alarm_report.specs.Texts.{place_text, stop_text}
use Rattle.certificate_format.specs.Certificates.{header}

-- `loop LINE:COLUMN if REGION: LEAF`
abbrev pub loop_line : Regions → LeafMeaning → List Feature → List (List ℕ) → Invariant → List ℕ
loop_line regions M features names i =
    codes "loop " ++ (place_text i.place ++ (codes " if " ++ known_text regions M features names i))

-- `alarm LINE:COLUMN: KIND if REGION`
abbrev pub alarm_line : Regions → List Feature → FamilyAlarm → List ℕ
alarm_line regions features a = codes "alarm " ++ (stop_text regions features a ++ codes "\n")

-- the first line, those of the loops, and those of the alarms
abbrev pub certificate_text : Regions → LeafMeaning → List Feature → List (List ℕ) → Mode → List Invariant → List FamilyAlarm → List ℕ
certificate_text regions M features names mode loops alarms =
    header mode ++ (flat_map (loop_line regions M features names) loops ++ flat_map (alarm_line regions features) alarms)
