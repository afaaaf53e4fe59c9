-- The texts of reports: of one program, and of a family.
use Rattle.std.specs.Prelude.{ℕ, ◌<◌, ◌^◌, List, [], ◌∷◌, ◌++◌, codes, map, flat_map, length}
use Rattle.std.specs.List.{All}
use Rattle.std.specs.Fmt.{decimal}
use Rattle.fam_outer.specs.declared.faults.Place.{Place}
use Rattle.c_tree.specs.declared.tree.Kind.{Kind}
use Rattle.c_tree.specs.declared.tree.Kind.TheVariants.{Overflow, ZeroDivisor, Assertion}
use Rattle.linear_atoms.specs.declared.atoms.Feature.{Feature}
use Rattle.linear_atoms.specs.declared.atoms.Literal.{Literal}
use Rattle.linear_atoms.specs.declared.regions.Regions.{Regions}
use Rattle.plain_analysis.specs.declared.alarm.Alarm.{Alarm}
use Rattle.linear_atoms.specs.SettingTexts.{config_text}
use Rattle.alarm_report.specs.declared.alarms.FamilyAlarm.{FamilyAlarm}
use Rattle.alarm_report.specs.Pieces.{piece_text, pieces_of}

-- texts one after another, with a text between
abbrev pub joined : List ℕ → List (List ℕ) → List ℕ
joined between [] = []
joined between (t ∷ ts) = t ++ flat_map (λ u. between ++ u) ts

-- ---- places and kinds

-- a line and a column
abbrev pub place_text : Place → List ℕ
place_text place = decimal place.line ++ codes ":" ++ decimal place.column

abbrev pub kind_text : Kind → List ℕ
kind_text Overflow = codes "overflow"
kind_text ZeroDivisor = codes "zero-divisor"
kind_text Assertion = codes "assertion"

-- ---- the alarms of one program

-- an alarm's line
abbrev pub alarm_line : Alarm → List ℕ
alarm_line alarm = place_text alarm.place ++ codes ": " ++ kind_text alarm.kind ++ codes "\n"

-- how many lines there are
abbrev pub count_line : ℕ → List ℕ
count_line count = codes "alarms: " ++ decimal count ++ codes "\n"

-- the lines of the alarms, and how many they are
abbrev pub variant_text : List Alarm → List ℕ
variant_text alarms = flat_map alarm_line alarms ++ count_line (length alarms)

-- a place's numbers are words of 32 binary digits, as those of each place of a file are
abbrev pub IsWordPlace : Place → Type 0
IsWordPlace place = (place.line < 2 ^ 32) × (place.column < 2 ^ 32)

abbrev pub HaveWordPlaces : List Alarm → Type 0
HaveWordPlaces alarms = All (λ (a : Alarm). IsWordPlace a.place) alarms

-- ---- the alarms of a family

-- a region as a condition: its pieces joined by `&&`, or 1 where there is none
abbrev pub region_text : Regions → List Feature → List Literal → List ℕ
region_text regions features [] = codes "1"
region_text regions features (l ∷ ls) = joined (codes " && ") (map (piece_text features) (pieces_of regions features (l ∷ ls)))

-- where a stop of which kind may be met, and by which configurations: `LINE:COLUMN: KIND if REGION`
abbrev pub stop_text : Regions → List Feature → FamilyAlarm → List ℕ
stop_text regions features a = place_text a.place ++ codes ": " ++ kind_text a.kind ++ codes " if " ++ region_text regions features a.region.literals

-- the line of an alarm of a family: `LINE:COLUMN: KIND if REGION; example CONFIGURATION`
abbrev pub family_line : Regions → List Feature → FamilyAlarm → List ℕ
family_line regions features a = stop_text regions features a ++ codes "; example " ++ config_text features a.region.example.values ++ codes "\n"

-- the lines of the alarms of a family, and how many they are
abbrev pub alarm_text : Regions → List Feature → List FamilyAlarm → List ℕ
alarm_text regions features alarms = flat_map (family_line regions features) alarms ++ count_line (length alarms)
