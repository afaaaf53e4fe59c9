-- What the analysis of all variants has found, for the report on it.
use Rattle.std.specs.Prelude.{ℕ, ℤ, ◌≡◌, ◌++◌, true, Bool, List, map, length}
use Rattle.std.specs.List.{All}
use Rattle.c_tree.specs.View.{whole}
use Rattle.cpp_conditions.specs.declared.formulas.Formula.{Formula}
use Rattle.cpp_conditions.specs.Numbering.{vector_at}
use Rattle.cpp_conditions.specs.Propositions.{true_on}
use Rattle.cpp_conditions.specs.Validity.{plain, IsValid}
use Rattle.cpp_conditions.specs.View.{formula}
use Rattle.decision_tree.specs.Plain.{TestsBelow}
use Rattle.decision_tree.specs.View as tree
use Rattle.linear_atoms.specs.declared.regions.Regions.{Regions}
use Rattle.linear_atoms.specs.Atoms.{AreLiterals}
use Rattle.leaf_domain.specs.Leaves.{LeafValue, LeafMeaning}
use Rattle.lifted_analysis.specs.declared.findings.AlarmTree.{AlarmTree}
use Rattle.lifted_analysis.specs.declared.findings.FamilyFindings.{FamilyFindings}
use Rattle.lifted_analysis.specs.declared.findings.PlaceTree.{PlaceTree}
use Rattle.lifted_analysis.specs.Promises.{variant_at, begin_at}
use Rattle.plain_analysis.specs.declared.options.Options.{Options}
use Rattle.plain_analysis.specs.Promises.{RunsForeseen}
use Rattle.alarm_report.specs.declared.alarms.FamilyAlarm.{FamilyAlarm}
use Rattle.alarm_report.specs.declared.invariants.FamilyInvariant.{FamilyInvariant}
use Rattle.alarm_report.specs.Alarms.{plain_alarm_tree}
use Rattle.alarm_report.specs.Invariants.{Invariant, leaf_tree}
use Rattle.alarm_report.specs.LeafTexts.{invariant_text}
use Rattle.alarm_report.specs.Texts.{alarm_text}
use Rattle.certificate_format.specs.Texts.{certificate_text}
use Rattle.famlint_loads.specs.declared.product_line.ProductLine.{ProductLine}
use Rattle.famlint_requests.specs.declared.request.FamilyTask.{FamilyTask}
use Rattle.famlint_requests.specs.declared.request.FamilyTask.TheVariants.{Analyse, Invariants, Certify, Generate}
use Rattle.famlint_families.specs.FamilyReports.{IsPlausibleFor, AreAlarmTrees, AreLeafTrees, AreAlarmsOf, AreInvariantsOf, AreLoopsOf, sizes_text, family_status}
use Rattle.famlint_families.specs.Headline.{AreAlarmsOfAll, AreInvariantsOfAll, AreLoopsOfAll}

-- the trees of stops and of leaves that are told of one analysis
pub record IsFound {L : Type 0} (value : L → LeafValue) (M : LeafMeaning) (o : Options) (r : Regions) (l : ProductLine) (f : FamilyFindings L) : Type 0 where
  pub plausible : Formula
  pub plausible_is : IsPlausibleFor l plausible
  pub valid : (values : List ℤ) → IsValid (plain l.model) values → true_on (vector_at l.family.atoms values) (formula plausible) ≡ true
  pub stops : AreAlarmTrees M o r l plausible (map plain_alarm_tree f.alarms.items)
  pub leaves : AreLeafTrees M o r l plausible (map (leaf_tree value) f.places.items)
  pub runs : (v : List Bool)
      → RunsForeseen M o (variant_at (whole l.family.code) l.family.conditions v) (begin_at M (whole l.family.code) l.family.conditions plausible v)

-- the tests of the trees are numbers of the atoms
pub record AreTested {L : Type 0} (l : ProductLine) (f : FamilyFindings L) : Type 0 where
  pub stops : All (λ (t : AlarmTree). TestsBelow (length l.family.atoms) (tree.plain t.tree)) f.alarms.items
  pub leaves : All (λ (t : PlaceTree L). TestsBelow (length l.family.atoms) (tree.plain t.tree)) f.places.items

-- the regions of the alarms have literals over the features of the model
abbrev pub AreAlarmsWithLiterals : ProductLine → List FamilyAlarm → Type 0
AreAlarmsWithLiterals l alarms = All (λ (a : FamilyAlarm). AreLiterals (length l.model.features) a.region.literals) alarms

-- the same of the regions of invariants
abbrev pub AreInvariantsWithLiterals : {L : Type 0} → ProductLine → List (FamilyInvariant L) → Type 0
AreInvariantsWithLiterals {L} l invariants = All (λ (i : FamilyInvariant L). AreLiterals (length l.model.features) i.region.literals) invariants

-- the alarms are the product line's, and what is promised of them
pub record AreGoodAlarms (M : LeafMeaning) (o : Options) (r : Regions) (l : ProductLine) (alarms : List FamilyAlarm) : Type 0 where
  pub are : AreAlarmsOf M o r l alarms
  pub all : AreAlarmsOfAll M o l alarms (family_status alarms)

-- the same of the invariants
pub record AreGoodInvariants (M : LeafMeaning) (o : Options) (r : Regions) (l : ProductLine) (invariants : List Invariant) : Type 0 where
  pub are : AreInvariantsOf M o r l invariants
  pub all : AreInvariantsOfAll M o l invariants

-- the same of the invariants of the loops
pub record AreGoodLoops (M : LeafMeaning) (o : Options) (r : Regions) (l : ProductLine) (loops : List Invariant) : Type 0 where
  pub are : AreLoopsOf M o r l loops
  pub all : AreLoopsOfAll M o l loops

-- the text of such invariants, and behind it this text
pub record AreInvariantsBefore (M : LeafMeaning) (o : Options) (r : Regions) (l : ProductLine) (behind text : List ℕ) : Type 0 where
  pub invariants : List Invariant
  pub good : AreGoodInvariants M o r l invariants
  pub is : text ≡ invariant_text r M l.model.features (whole l.family.code).names invariants ++ behind

-- the text of the certificate of the loops' invariants and of these alarms
pub record IsCertificateText (M : LeafMeaning) (o : Options) (r : Regions) (l : ProductLine) (alarms : List FamilyAlarm) (text : List ℕ) : Type 0 where
  pub loops : List Invariant
  pub good : AreGoodLoops M o r l loops
  pub is : text ≡ certificate_text r M l.model.features (whole l.family.code).names o.mode loops alarms

-- the whole text that is asked for
abbrev pub IsGoodText : LeafMeaning → Options → Regions → FamilyTask → ProductLine → List FamilyAlarm → List ℕ → Type 0
IsGoodText M o r Analyse l alarms text = text ≡ alarm_text r l.model.features alarms
IsGoodText M o r Invariants l alarms text = AreInvariantsBefore M o r l (alarm_text r l.model.features alarms) text
IsGoodText M o r Certify l alarms text = IsCertificateText M o r l alarms text
IsGoodText M o r Generate l alarms text = text ≡ sizes_text l ++ alarm_text r l.model.features alarms
