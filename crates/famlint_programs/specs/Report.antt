-- The report on one program, and the stops of its runs.
use Rattle.std.specs.Prelude.{ℕ, ℤ, Bool, ◌≡◌, List, length, nat_lt, slice_get, Some, Contains, if◌then◌else◌}
use Rattle.c_tree.specs.declared.tree.Kind.{Kind}
use Rattle.c_tree.specs.declared.tree.Mode.{Mode}
use Rattle.std.specs.List.{All}
use Rattle.c_tree.specs.Tree.{Whole}
use Rattle.c_tree.specs.Value.{IsInt}
use Rattle.c_tree.specs.Run.{run_of, StoppedEnd}
use Rattle.fam_outer.specs.declared.faults.Place.{Place}
use Rattle.plain_analysis.specs.declared.alarm.Alarm.{Alarm}
use Rattle.leaf_domain.specs.Leaves.{LeafMeaning}
use Rattle.plain_analysis.specs.declared.options.Options.{Options}
use Rattle.plain_analysis.specs.Places.{alarms_of}
use Rattle.alarm_report.specs.Texts.{variant_text, HaveWordPlaces}
use Rattle.famlint_loads.specs.declared.fault.Done.{Done}

-- there is an alarm
abbrev pub some_alarm : List Alarm → Bool
some_alarm alarms = nat_lt 0 (length alarms)

-- each stop of each run of the program in this mode, on inputs of `int`, is listed
abbrev pub HasStops : Mode → Whole → List Alarm → Type 0
HasStops mode p alarms = (inputs : List ℤ) (n : ℕ) (place : Place) (kind : Kind)
    → All IsInt inputs → run_of p inputs n mode ≡ StoppedEnd place kind → Contains alarms (record { place = place; kind = kind })

-- no run of the program in this mode stops
abbrev pub NeverStops : Mode → Whole → Type 0
NeverStops mode p = (inputs : List ℤ) (n : ℕ) (place : Place) (kind : Kind) → All IsInt inputs → run_of p inputs n mode ≡ StoppedEnd place kind → ⊥

-- the status of a report on these alarms
abbrev pub report_status : List Alarm → ℕ
report_status alarms = if some_alarm alarms then 1 else 0

-- the alarms of a program, over a kind of leaf and from its start values, with these options
abbrev pub start_alarms : LeafMeaning → Options → Whole → List Alarm
start_alarms M options p = alarms_of M options p (M.start p.start)

-- the report on a program
abbrev pub report_done : LeafMeaning → Options → Whole → Done
report_done M options p = record { text = variant_text (start_alarms M options p); status = report_status (start_alarms M options p) }

-- no alarm stands twice
abbrev pub HasNoneTwice : List Alarm → Type 0
HasNoneTwice alarms = (i j : ℕ) (alarm : Alarm) → slice_get alarms i ≡ Some alarm → slice_get alarms j ≡ Some alarm → i ≡ j

-- What is promised of a report on a program: its text has a line for each alarm of the analysis, and is the report on no other
-- list of alarms; no alarm stands twice, each stop of each run of the program in this mode is among them, and at status 0 no run
-- stops.
pub record IsReport (M : LeafMeaning) (o : Options) (p : Whole) (status : ℕ) (text : List ℕ) : Type 0 where
  pub text_is : text ≡ variant_text (start_alarms M o p)
  pub alone : (others : List Alarm) → HaveWordPlaces others → text ≡ variant_text others → others ≡ start_alarms M o p
  pub once : HasNoneTwice (start_alarms M o p)
  pub stops : HasStops o.mode p (start_alarms M o p)
  pub safe : status ≡ 0 → NeverStops o.mode p
