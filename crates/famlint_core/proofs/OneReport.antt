-- A report on a family tells one list of alarms, and its regions are conditions.
use Rattle.std.proofs.Common.{◌≡◌, ℕ, ℤ, List, length, sym, ap, subst, ◌∙◌}
use Rattle.std.specs.Prelude.{slice_get, slice_index_or, Some, Ok}
use Rattle.std.specs.List.{All}
use Rattle.std.proofs.lemmas.Option.{slice_get-get_or}
use Rattle.fam_outer.specs.declared.dialect.Dialect.{Dialect}
use Rattle.fam_outer.specs.declared.dialect.Unknown.{Unknown}
use Rattle.c_tree.specs.Places.{program_places}
use Rattle.c_tree.specs.View.{whole}
use Rattle.linear_atoms.specs.declared.atoms.Atom.{Atom}
use Rattle.linear_atoms.specs.declared.atoms.Feature.{Feature}
use Rattle.linear_atoms.specs.declared.atoms.Literal.{Literal}
use Rattle.linear_atoms.specs.declared.regions.Regions.{Regions}
use Rattle.linear_atoms.specs.Atoms.{AreLiterals, IsWithin}
use Rattle.cpp_conditions.specs.Grammar.{ReadsAs}
use Rattle.cpp_conditions.specs.Macros.{no_macros}
use Rattle.cpp_conditions.specs.Propositions.{Proposition, true_at}
use Rattle.cpp_conditions.specs.Validity.{Plain, plain}
use Rattle.cpp_conditions.proofs.Within.{valid_parts}
use Rattle.atom_solver.specs.Solutions.{all_hold}
use Rattle.feature_model.specs.Features.{AreDistinct, AreNamed, HaveSwitches}
use Rattle.alarm_report.specs.declared.alarms.FamilyAlarm.{FamilyAlarm}
use Rattle.alarm_report.specs.Texts.{alarm_text, region_text}
use Rattle.certificate_format.specs.Lines.{IsPlace}
use Rattle.certificate_laws.specs.Laws.{FamiliesAreOfFiles}
use Rattle.region_laws.specs.Spelled.{SpellsRegion}
use Rattle.report_laws.specs.FamilyReports.{AreShownFeatures, IsShown, ReportsOfFamiliesTellAlarms}
use Rattle.plain_analysis.specs.declared.options.Options.{Options}
use Rattle.leaf_domain.specs.Leaves.{LeafMeaning}
use Rattle.famlint_loads.specs.declared.product_line.ProductLine.{ProductLine}
use Rattle.famlint_loads.specs.ProductLines.{IsProductLine}
use Rattle.famlint_families.specs.Headline.{AreAlarmsOfAll}
use Rattle.famlint_core.specs.Theorem.{ReportsTellOneList, RegionsAreConditions}
use Rattle.famlint_core.proofs.Certified.{HaveEntries, model_entries, are_named, are_distinct, are_ranges, have_switches}
use Rattle.famlint_core.proofs.VariantOnce.{VariantLaws, AreAlike, alike}
use Rattle.famlint_programs.proofs.Keys.{all_at}

-- the features of a model that was read
shown_features : (dialect : Dialect) (m f : List ℕ) (l : ProductLine) → IsProductLine dialect m f l → AreShownFeatures l.model.features
shown_features dialect m f l is =
    let entries : HaveEntries l.model.features = model_entries dialect.unknown m l.model is.model in
    record { named = are_named l.model.features entries; distinct = are_distinct l.model.features entries; ranges = are_ranges l.model.features entries }

-- alarms of all variants are such as reports have
module _ (files : FamiliesAreOfFiles) (dialect : Dialect) (m f : List ℕ) (k : ProductLine) (line : IsProductLine dialect m f k)
    (M : LeafMeaning) (o : Options) (alarms : List FamilyAlarm) (status : ℕ) (all : AreAlarmsOfAll M o k alarms status) where
  one_shown : (i : ℕ) (a : FamilyAlarm) → slice_get alarms i ≡ Some a → IsShown k.model.features a
  one_shown i a there =
      let place = all.places i a there in
      record {
        place = all_at IsPlace (program_places (whole k.family.code)) place.0 a.place (files dialect k.model f k.family line.family).placed place.1;
        literals = all.literals i a there;
        example = (valid_parts (plain k.model) a.region.example.values (all.examples i a there).valid).0;
      }

  all_shown : All (IsShown k.model.features) alarms
  all_shown = λ n d within. one_shown n (slice_index_or alarms n d) (slice_get-get_or alarms n d within)

pub one_list : VariantLaws → FamiliesAreOfFiles → ReportsOfFamiliesTellAlarms → ReportsTellOneList
one_list laws files tell model file dialect analysis regions told status text (k, line, report) l is =
    let e : AreAlike k l = alike laws dialect told.model told.file k l line is in
    let alarms : List FamilyAlarm = report.0 in
    let text_is : text ≡ alarm_text regions l.model.features alarms = report.1 ∙ ap (λ (m : Plain). alarm_text regions m.features alarms) e.model in
    let mine : All (IsShown k.model.features) alarms = all_shown files dialect told.model told.file k line _ _ alarms status report.2 in
    let shown : All (IsShown l.model.features) alarms = subst (λ (m : Plain). All (IsShown m.features) alarms) e.model mine in (
      alarms,
      text_is,
      shown,
      λ others are others_is. tell regions l.model.features others alarms (shown_features dialect told.model told.file l is) are shown (sym others_is ∙ text_is),
    )

-- ---- regions

abbrev pub RegionsSpell : Type 0
RegionsSpell = (regions : Regions) (features : List Feature) (literals : List Literal) → AreNamed features → AreDistinct features
    → HaveSwitches features → AreLiterals (length features) literals → SpellsRegion regions features literals

abbrev pub RegionsMean : Type 0
RegionsMean = (unknown : Unknown) (regions : Regions) (features : List Feature) (literals : List Literal) (p : Proposition Atom) (values : List ℤ)
    → AreNamed features → AreDistinct features → HaveSwitches features
    → AreLiterals (length features) literals → ReadsAs (no_macros unknown) features (region_text regions features literals) (Ok p)
    → IsWithin features values → true_at values p ≡ all_hold literals values

pub are_conditions : RegionsSpell → RegionsMean → RegionsAreConditions
are_conditions spell mean dialect told l is regions alarm shown =
    let features : List Feature = l.model.features in
    let entries : HaveEntries features = model_entries dialect.unknown told.model l.model is.model in
    let named = are_named features entries in
    let distinct = are_distinct features entries in
    let switches = have_switches features entries in (
      spell regions features alarm.region.literals named distinct switches shown.literals,
      λ unknown condition values reads valid. mean unknown regions features alarm.region.literals condition values named distinct switches shown.literals reads
          (valid_parts (plain l.model) values valid).0,
    )
