-- What a product line and a given configuration are answered under `advise`, and what is promised of it.
use Rattle.std.specs.Prelude.{ℕ, ℤ, ◌≡◌, ◌<◌, true, false, Bool, List, map, Option, Some, None}
use Rattle.fam_outer.specs.declared.faults.Place.{Place}
use Rattle.c_tree.specs.declared.tree.Kind.{Kind}
use Rattle.c_tree.specs.Tree.{Whole}
use Rattle.cpp_conditions.specs.Validity.{plain, IsValid}
use Rattle.linear_atoms.specs.declared.regions.Regions.TheVariants.{Paths}
use Rattle.atom_solver.specs.Solutions.{IsBefore}
use Rattle.decision_tree.specs.Plain.{Plain}
use Rattle.leaf_domain.specs.Leaves.{LeafMeaning}
use Rattle.plain_analysis.specs.declared.options.Options.{Options}
use Rattle.plain_analysis.specs.Places.{alarm_of}
use Rattle.alarm_report.specs.Alarms.{PlainAlarmTree}
use Rattle.configuration_advice.specs.declared.comparing.Advice.{Advice}
use Rattle.configuration_advice.specs.Nearest.{differing, Advises}
use Rattle.configuration_advice.specs.Texts.{advice_text}
use Rattle.famlint_loads.specs.declared.fault.Done.{Done}
use Rattle.famlint_loads.specs.declared.product_line.ProductLine.{ProductLine}
use Rattle.famlint_families.specs.FamilyReports.{IsToldBy, AreAlarmTrees}
use Rattle.famlint_loads.specs.ProductLines.{IsProgramAt}
use Rattle.famlint_programs.specs.Report.{NeverStops}

-- 1 where there is no advice
abbrev pub advice_status : Option Advice → ℕ
advice_status None = 1
advice_status (Some advice) = 0

abbrev pub trees_of : List PlainAlarmTree → List (Plain Bool)
trees_of stops = map (λ (t : PlainAlarmTree). t.tree) stops

-- the nearest valid configuration to the given one at which the one tree of each place and kind is false
abbrev pub IsNearestWithoutAlarms : LeafMeaning → Options → ProductLine → List ℤ → Option Advice → Type 0
IsNearestWithoutAlarms M o l given found =
    IsToldBy l (AreAlarmTrees M o Paths l) (λ (trees : List PlainAlarmTree). Advises l.model l.family.atoms (trees_of trees) given found)

-- the line of such advice, with its status
pub record IsAdviseDone (M : LeafMeaning) (o : Options) (l : ProductLine) (given : List ℤ) (done : Done) : Type 0 where
  pub found : Option Advice
  pub is : IsNearestWithoutAlarms M o l given found
  pub text : done.text ≡ advice_text l.model.features found
  pub status : done.status ≡ advice_status found

-- ---- what is promised

-- no run of the program of the configuration's variant stops
pub record NeverStopsAt (o : Options) (l : ProductLine) (values : List ℤ) : Type 0 where
  pub program : Whole
  pub is : IsProgramAt l values program
  pub safe : NeverStops o.mode program

-- the analysis of the program of the configuration's variant alone has no alarm, at no place and of no kind
pub record HasNoAlarmAt (M : LeafMeaning) (o : Options) (l : ProductLine) (values : List ℤ) : Type 0 where
  pub program : Whole
  pub is : IsProgramAt l values program
  pub none : (place : Place) (kind : Kind) → alarm_of M o program (M.start program.start) place kind ≡ false

-- the analysis of the program of the configuration's variant alone has an alarm
pub record HasAlarmAt (M : LeafMeaning) (o : Options) (l : ProductLine) (values : List ℤ) : Type 0 where
  pub program : Whole
  pub is : IsProgramAt l values program
  pub place : Place
  pub kind : Kind
  pub alarm : alarm_of M o program (M.start program.start) place kind ≡ true

-- the configuration is valid, no run of its variant stops, and the analysis of that has no alarm; each valid configuration that
-- differs from the given one in fewer features has an alarm, and so has each that differs in as many and comes before it
pub record IsGoodAdvice (M : LeafMeaning) (o : Options) (l : ProductLine) (given : List ℤ) (advice : Advice) : Type 0 where
  pub valid : IsValid (plain l.model) advice.config.values
  pub safe : NeverStopsAt o l advice.config.values
  pub quiet : HasNoAlarmAt M o l advice.config.values
  pub changed : advice.changed ≡ differing given advice.config.values
  pub fewer : (others : List ℤ) → IsValid (plain l.model) others → differing given others < advice.changed → HasAlarmAt M o l others
  pub before : (others : List ℤ) → IsValid (plain l.model) others → differing given others ≡ advice.changed → IsBefore others advice.config.values → HasAlarmAt M o l others

-- where there is no advice, each valid configuration has an alarm
abbrev pub IsGood : LeafMeaning → Options → ProductLine → List ℤ → Option Advice → Type 0
IsGood M o l given None = (values : List ℤ) → IsValid (plain l.model) values → HasAlarmAt M o l values
IsGood M o l given (Some advice) = IsGoodAdvice M o l given advice

-- the text is that of good advice
pub record TellsGoodAdvice (M : LeafMeaning) (o : Options) (l : ProductLine) (given : List ℤ) (status : ℕ) (text : List ℕ) : Type 0 where
  pub found : Option Advice
  pub text_is : text ≡ advice_text l.model.features found
  pub status_is : status ≡ advice_status found
  pub good : IsGood M o l given found
