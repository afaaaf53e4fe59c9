-- The page of a report.
use Rattle.std.proofs.Common.{◌≡◌, ℕ, List, refl, sym, ap, subst, ◌∙◌}
use Rattle.linear_atoms.specs.declared.regions.Regions.{Regions}
use Rattle.leaf_domain.specs.Leaves.{LeafMeaning}
use Rattle.plain_analysis.specs.declared.options.Options.{Options}
use Rattle.alarm_page.specs.Pages.{page_of, told_by, texts_told}
use Rattle.famlint_loads.specs.declared.product_line.ProductLine.{ProductLine}
use Rattle.famlint_families.specs.declared.page.PageReport.{PageReport}
use Rattle.famlint_families.specs.Headline.{AreAlarmsOfAll}
use Rattle.famlint_families.specs.Pages.{IsPageReport, IsPageDone, TellsOfAll, page_texts, texts_with}

module _ (M : LeafMeaning) (o : Options) (r : Regions) (l : ProductLine) (model : List ℕ) (report : PageReport) (is : IsPageReport M o r l report)
    (given made : List ℕ) (made_is : given ≡ made) where
  texts_are : texts_with report model l.text given ≡ page_texts M r l model made is.invariants is.alarms_are
  texts_are = rw (is.alarms, is.whole_is, made_is) refl

  pub page_done : (page : List ℕ) → page ≡ page_of (texts_with report model l.text given) → IsPageDone M o r l model made (record { text = page; status = report.status })
  page_done page e =
      (is.invariants, is.alarms_are, is.good_invariants.are, is.good_alarms.are, rw (e ∙ ap page_of texts_are, is.status) refl)

  pub page_tells : (page : List ℕ) → told_by page ≡ texts_told (texts_with report model l.text given) → TellsOfAll M o r l model made report.status page
  page_tells page e = record {
    invariants = is.invariants;
    alarms = is.alarms_are;
    told = e ∙ ap texts_told texts_are;
    good_invariants = is.good_invariants.all;
    good_alarms = subst (λ n. AreAlarmsOfAll M o l is.alarms_are n) (sym is.status) is.good_alarms.all;
  }
