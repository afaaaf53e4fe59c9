-- Each stop of each run is reported, and no run stops where there is no alarm.
use Rattle.std.proofs.Common.{◌≡◌, ℕ, true, List, [], ◌∷◌, length, refl, subst, sym, ◌∙◌, arith}
use Rattle.std.proofs.lemmas.Bool.{lt-ltb}
use Rattle.c_tree.specs.Places.{program_places}
use Rattle.c_tree.specs.Tree.{Whole}
use Rattle.c_tree.specs.Whole.{IsProgram}
use Rattle.c_tree.specs.declared.tree.Mode.{Mode}
use Rattle.leaf_domain.specs.Leaves.{LeafMeaning, LeafLaws}
use Rattle.plain_analysis.specs.declared.alarm.Alarm.{Alarm}
use Rattle.plain_analysis.specs.declared.options.Options.{Options}
use Rattle.plain_analysis.specs.Places.{at_of, alarm_of}
use Rattle.plain_analysis.specs.Promises.{IsForeseen, RunsForeseen}
use Rattle.alarm_report.specs.Texts.{variant_text, HaveWordPlaces}
use Rattle.famlint_programs.specs.Report.{some_alarm, report_status, HasStops, NeverStops, IsReport, start_alarms}
use Rattle.famlint_programs.proofs.Once.{none_twice}

all_listed : (M : LeafMeaning) → LeafLaws M → (options : Options) (p : Whole) → RunsForeseen M options p (M.start p.start) → HasStops options.mode p (start_alarms M options p)
all_listed M laws options p runs =
    let at = at_of M options p (M.start p.start) in
    let begins = (laws.start_holds p.start p.start).1 refl in
    λ inputs n place kind ints stopped. subst (IsForeseen M at p.end (start_alarms M options p)) stopped (runs p.start inputs n begins ints)

some_listed : (a : Alarm) (others : List Alarm) → some_alarm (a ∷ others) ≡ true
some_listed a others = lt-ltb 0 (length (a ∷ others)) (omega arith)

-- where no alarm is listed, no run stops
none_listed : (mode : Mode) (p : Whole) (alarms : List Alarm) → HasStops mode p alarms → report_status alarms ≡ 0 → NeverStops mode p
none_listed mode p [] listed e = λ inputs n place kind ints stopped. absurd (omega (arith, (listed inputs n place kind ints stopped).1))
none_listed mode p (a ∷ others) listed e = absurd (omega (arith, rw (some_listed a others) at e))

-- what the law of reports says
abbrev pub TellTheirAlarms : Type 0
TellTheirAlarms = (alarms others : List Alarm) → HaveWordPlaces alarms → HaveWordPlaces others → variant_text alarms ≡ variant_text others → alarms ≡ others

-- the report on a program is one on all stops of its runs
pub is_report : (M : LeafMeaning) → LeafLaws M → (options : Options) (p : Whole) (status : ℕ) (text : List ℕ) → IsProgram p → RunsForeseen M options p (M.start p.start)
    → HaveWordPlaces (start_alarms M options p) → TellTheirAlarms
    → text ≡ variant_text (start_alarms M options p) → status ≡ report_status (start_alarms M options p) → IsReport M options p status text
is_report M laws options p status text program runs words told e f =
    let listed = all_listed M laws options p runs in
    record {
      text_is = e;
      alone = λ others fit same. sym (told (start_alarms M options p) others words fit (sym e ∙ same));
      once = none_twice (alarm_of M options p (M.start p.start)) (program_places p) program.rising;
      stops = listed;
      safe = λ zero. none_listed options.mode p (start_alarms M options p) listed (sym f ∙ zero);
    }
