-- How a run stands, as a text.
use Rattle.std.specs.Prelude.{ℕ, ℤ, List, ◌++◌, codes}
use Rattle.fam_outer.specs.declared.faults.Place.{Place}
use Rattle.c_tree.specs.Run.{End, AtEnd, StoppedEnd, WaitingEnd, EndedEnd}
use Rattle.linear_atoms.specs.SettingTexts.{spaced_settings}
use Rattle.alarm_report.specs.Texts.{kind_text, place_text}

-- how the run stands and where
abbrev pub front_text : List ℕ → Place → List ℕ
front_text word place = word ++ codes " " ++ place_text place

-- the value of each variable, and the end of the line
abbrev pub store_text : List (List ℕ) → List ℤ → List ℕ
store_text names store = spaced_settings names store ++ codes "\n"

-- a line: where the run stands, and the value of each variable
abbrev pub run_text : List (List ℕ) → End → List ℕ
run_text names (AtEnd place store) = front_text (codes "at") place ++ store_text names store
run_text names (StoppedEnd place kind) = front_text (codes "stopped") place ++ codes " " ++ kind_text kind ++ codes "\n"
run_text names (WaitingEnd place store) = front_text (codes "waiting") place ++ store_text names store
run_text names (EndedEnd store) = codes "ended" ++ store_text names store
