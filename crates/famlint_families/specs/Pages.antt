-- The page of a family: what it tells, and what is promised of it.
--
-- `told_by page` reads the texts of a page back out of its bytes, in their order: the alarms, the numbers of the lines of FILE, FILE, the whole
-- report, MODEL, and by what the page was made with the sums of both files (`texts_told`).
use Rattle.std.specs.Prelude.{ℕ, ◌≡◌, List, ◌++◌}
use Rattle.c_tree.specs.View.{whole}
use Rattle.linear_atoms.specs.declared.regions.Regions.{Regions}
use Rattle.leaf_domain.specs.Leaves.{LeafMeaning}
use Rattle.plain_analysis.specs.declared.options.Options.{Options}
use Rattle.alarm_page.specs.Pages.{Texts, page_of, told_by, texts_told}
use Rattle.alarm_report.specs.declared.alarms.FamilyAlarm.{FamilyAlarm}
use Rattle.alarm_report.specs.Invariants.{Invariant}
use Rattle.alarm_report.specs.LeafTexts.{invariant_text}
use Rattle.alarm_report.specs.Texts.{alarm_text}
use Rattle.famlint_loads.specs.declared.fault.Done.{Done}
use Rattle.famlint_loads.specs.declared.product_line.ProductLine.{ProductLine}
use Rattle.famlint_families.specs.declared.page.PageReport.{PageReport}
use Rattle.famlint_families.specs.FamilyReports.{AreAlarmsOf, AreInvariantsOf, family_status}
use Rattle.famlint_families.specs.Findings.{AreGoodAlarms, AreGoodInvariants}
use Rattle.famlint_families.specs.Headline.{AreAlarmsOfAll, AreInvariantsOfAll}

-- ---- the report of a page

-- what `invariants` prints of these, and what `analyse` does
abbrev pub whole_text : LeafMeaning → Regions → ProductLine → List Invariant → List FamilyAlarm → List ℕ
whole_text M r l invariants alarms =
    invariant_text r M l.model.features (whole l.family.code).names invariants ++ alarm_text r l.model.features alarms

-- the report is that of the alarms and invariants of a product line
pub record IsPageReport (M : LeafMeaning) (o : Options) (r : Regions) (l : ProductLine) (report : PageReport) : Type 0 where
  pub invariants : List Invariant
  pub alarms_are : List FamilyAlarm
  pub good_invariants : AreGoodInvariants M o r l invariants
  pub good_alarms : AreGoodAlarms M o r l alarms_are
  pub alarms : report.alarms ≡ alarm_text r l.model.features alarms_are
  pub whole_is : report.whole ≡ whole_text M r l invariants alarms_are
  pub status : report.status ≡ family_status alarms_are

-- ---- the page

-- the texts of a page with this report
abbrev pub texts_with : PageReport → List ℕ → List ℕ → List ℕ → Texts
texts_with report model file made = record { alarms = report.alarms; report = report.whole; model = model; file = file; made_by = made }

-- the texts of the page of a product line, of which this is MODEL, made by this
abbrev pub page_texts : LeafMeaning → Regions → ProductLine → List ℕ → List ℕ → List Invariant → List FamilyAlarm → Texts
page_texts M r l model made invariants alarms = record {
  alarms = alarm_text r l.model.features alarms;
  report = whole_text M r l invariants alarms;
  model = model;
  file = l.text;
  made_by = made;
}

-- the page, byte for byte; 1 where there is an alarm
abbrev pub IsPageDone : LeafMeaning → Options → Regions → ProductLine → List ℕ → List ℕ → Done → Type 0
IsPageDone M o r l model made done =
    (invariants : List Invariant) × (alarms : List FamilyAlarm) × AreInvariantsOf M o r l invariants × AreAlarmsOf M o r l alarms
    × (done ≡ record { text = page_of (page_texts M r l model made invariants alarms); status = family_status alarms })

-- ---- what is promised

-- what is read back of the page is FILE, MODEL, by what it was made, and a report of which holds what holds of one that is printed
pub record TellsOfAll (M : LeafMeaning) (o : Options) (r : Regions) (l : ProductLine) (model made : List ℕ) (status : ℕ) (page : List ℕ) : Type 0 where
  pub invariants : List Invariant
  pub alarms : List FamilyAlarm
  pub told : told_by page ≡ texts_told (page_texts M r l model made invariants alarms)
  pub good_invariants : AreInvariantsOfAll M o l invariants
  pub good_alarms : AreAlarmsOfAll M o l alarms status
