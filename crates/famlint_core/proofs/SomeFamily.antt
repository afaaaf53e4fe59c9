-- What is asked of all variants at once is answered: a report, a certificate or a page.
use Rattle.std.proofs.Common.{ℕ, List, [], ◌∷◌, ◌++◌, length, Result, Ok, Err, refl, ap}
use Rattle.std.proofs.lemmas.List.Elements.{All-cons, All-nil}
use Rattle.fam_outer.specs.declared.dialect.Dialect.{Dialect}
use Rattle.fam_outer.specs.declared.faults.Place.{Place}
use Rattle.c_tree.specs.declared.tree.Kind.{Kind}
use Rattle.c_tree.specs.Places.{program_places}
use Rattle.c_tree.specs.View.{whole}
use Rattle.linear_atoms.specs.declared.atoms.Atom.{Atom}
use Rattle.linear_atoms.specs.declared.regions.Regions.{Regions}
use Rattle.cpp_conditions.specs.declared.formulas.Formula.{Formula}
use Rattle.cpp_conditions.specs.Numbering.{AreAllAmong}
use Rattle.cpp_conditions.specs.Propositions.{Proposition}
use Rattle.cpp_conditions.specs.Validity.{plain}
use Rattle.cpp_conditions.specs.View.{formula}
use Rattle.leaf_domain.specs.Leaves.{LeafMeaning}
use Rattle.lifted_analysis.specs.Promises.{leaf_at, stop_at, by_kind}
use Rattle.lifted_analysis.specs.Turns.{loop_places}
use Rattle.plain_analysis.specs.declared.options.Options.{Options}
use Rattle.alarm_page.specs.Pages.{page_of}
use Rattle.alarm_report.specs.declared.alarms.FamilyAlarm.{FamilyAlarm}
use Rattle.alarm_report.specs.Alarms.{PlainAlarmTree}
use Rattle.alarm_report.specs.Invariants.{LeafTree, Invariant}
use Rattle.alarm_report.specs.LeafTexts.{invariant_text}
use Rattle.alarm_report.specs.Texts.{alarm_text}
use Rattle.alarm_report.specs.Trees.{AreTrees}
use Rattle.certificate_format.specs.Loops.{trees_at}
use Rattle.certificate_format.specs.Texts.{certificate_text}
use Rattle.reading_laws.specs.Answered.{FirstConfigurationsAreFound}
use Rattle.famlint_requests.specs.declared.request.Analysis.{Analysis}
use Rattle.famlint_requests.specs.declared.request.FamilyTask.{FamilyTask}
use Rattle.famlint_requests.specs.declared.request.FamilyTask.TheVariants.{Analyse, Invariants, Certify, Generate}
use Rattle.famlint_requests.specs.MadeBy.{made_by}
use Rattle.famlint_loads.specs.declared.fault.Done.{Done}
use Rattle.famlint_loads.specs.declared.fault.Fault.{Fault}
use Rattle.famlint_loads.specs.declared.product_line.ProductLine.{ProductLine}
use Rattle.famlint_loads.specs.Contents.{Contents}
use Rattle.famlint_loads.specs.Loads.{IsFamily}
use Rattle.famlint_programs.specs.AnalysisOptions.{options_of}
use Rattle.feature_values.specs.Values.{tests_of}
use Rattle.c_parser.specs.FamilyReading.{uses_in}
use Rattle.famlint_programs.specs.ProgramAnswers.{meaning_of}
use Rattle.famlint_families.specs.FamilyAnswers.{AnswersFamily, AnswersPage}
use Rattle.famlint_families.specs.FamilyReports.{IsAlarmTreeOf, IsLeafTree, AreAlarmsOf, AreInvariantsOf, AreLoopsOf, IsFamilyDone, family_status, sizes_text}
use Rattle.famlint_families.specs.Pages.{IsPageDone, page_texts}
use Rattle.famlint_core.proofs.SomeLine.{AnswerLaws, LineAnswer, line, no_line, some_line}
use Rattle.famlint_core.proofs.SomeNumbering.{some_plausible}
use Rattle.famlint_core.proofs.SomeRegions.{some_alarms, some_invariants}
use Rattle.famlint_core.proofs.SomeTree.{some_stop_tree, some_place_tree}

-- ---- the atoms of the constraints

among_front : (atoms : List Atom) (cs ps : List (Proposition Atom)) → AreAllAmong atoms (cs ++ ps) → AreAllAmong atoms cs
among_front atoms [] ps h = tt
among_front atoms (c ∷ cs) ps h = (h.0, among_front atoms cs ps h.1)

-- the atoms of a family are among others those of the model's constraints
pub have_constraints : (l : ProductLine) (dialect : Dialect) (bytes : List ℕ) → IsFamily dialect l.model bytes (Ok l.family) → AreAllAmong l.family.atoms (plain l.model).constraints
have_constraints l dialect bytes h = among_front l.family.atoms (plain l.model).constraints (h.accepted.are.told.conditions ++ tests_of l.model.features (uses_in l.model h.spelled)) h.conditions.atoms_are.all

-- ---- trees

module _ (M : LeafMeaning) (o : Options) (r : Regions) (l : ProductLine) (plausible : Formula) where
  -- a tree of each place and kind
  pub some_stops : (keys : List (Place × Kind)) → (trees : List PlainAlarmTree) × AreTrees {K = Place × Kind} (λ (t : PlainAlarmTree). (t.place, t.kind)) keys (IsAlarmTreeOf M o r l plausible) trees
  some_stops [] = ([], record { keys = refl; are = All-nil (IsAlarmTreeOf M o r l plausible) })
  some_stops ((place, kind) ∷ keys) =
      let own = some_stop_tree r (length l.family.atoms) (stop_at M o (whole l.family.code) l.family.conditions plausible (place, kind)) (formula plausible) in
      let t : PlainAlarmTree = record { place = place; kind = kind; tree = own.0 } in
      let behind = some_stops keys in
      (t ∷ behind.0, record { keys = ap (λ (ks : List (Place × Kind)). (place, kind) ∷ ks) behind.1.keys; are = All-cons (IsAlarmTreeOf M o r l plausible) t behind.0 own.1 behind.1.are })

  -- a tree of each place
  some_places : (places : List Place) → (trees : List LeafTree) × AreTrees (λ (t : LeafTree). t.place) places (IsLeafTree M o r l plausible) trees
  some_places [] = ([], record { keys = refl; are = All-nil (IsLeafTree M o r l plausible) })
  some_places (place ∷ places) =
      let own = some_place_tree r (length l.family.atoms) (leaf_at M o (whole l.family.code) l.family.conditions plausible place) (formula plausible) in
      let t : LeafTree = record { place = place; tree = own.0 } in
      let behind = some_places places in
      (t ∷ behind.0, record { keys = ap (λ (ps : List Place). place ∷ ps) behind.1.keys; are = All-cons (IsLeafTree M o r l plausible) t behind.0 own.1 behind.1.are })

-- ---- alarms and invariants

module _ (first : FirstConfigurationsAreFound) (M : LeafMeaning) (o : Options) (r : Regions) (l : ProductLine) (among : AreAllAmong l.family.atoms (plain l.model).constraints) where
  alarms_of : (alarms : List FamilyAlarm) × AreAlarmsOf M o r l alarms
  alarms_of =
      let plausible = some_plausible l.model.constraints l.family.atoms among in
      let trees = some_stops M o r l plausible.0 (by_kind (program_places (whole l.family.code))) in
      let alarms = some_alarms first l.model l.family.atoms trees.0 in
      (alarms.0, record { plausible = plausible.0; plausible_is = plausible.1; trees = trees.0; told = trees.1; tells = alarms.1 })

  invariants_of : (invariants : List Invariant) × AreInvariantsOf M o r l invariants
  invariants_of =
      let plausible = some_plausible l.model.constraints l.family.atoms among in
      let trees = some_places M o r l plausible.0 (program_places (whole l.family.code)) in
      let invariants = some_invariants first l.model l.family.atoms trees.0 in
      (invariants.0, record { plausible = plausible.0; plausible_is = plausible.1; trees = trees.0; told = trees.1; tells = invariants.1 })

  loops_of : (loops : List Invariant) × AreLoopsOf M o r l loops
  loops_of =
      let plausible = some_plausible l.model.constraints l.family.atoms among in
      let trees = some_places M o r l plausible.0 (program_places (whole l.family.code)) in
      let loops = some_invariants first l.model l.family.atoms (trees_at (loop_places (whole l.family.code).body) trees.0) in
      (loops.0, record { plausible = plausible.0; plausible_is = plausible.1; trees = trees.0; told = trees.1; tells = loops.1 })

  -- what is asked of the product line
  pub some_family_done : (task : FamilyTask) → (done : Done) × IsFamilyDone M o r task l done
  some_family_done Analyse =
      let alarms = alarms_of in (record { text = alarm_text r l.model.features alarms.0; status = family_status alarms.0 }, (alarms.0, alarms.1, refl))
  some_family_done Invariants =
      let invariants = invariants_of in
      let alarms = alarms_of in (
        record {
          text = invariant_text r M l.model.features (whole l.family.code).names invariants.0 ++ alarm_text r l.model.features alarms.0;
          status = family_status alarms.0;
        },
        (invariants.0, alarms.0, invariants.1, alarms.1, refl),
      )
  some_family_done Certify =
      let loops = loops_of in
      let alarms = alarms_of in (
        record {
          text = certificate_text r M l.model.features (whole l.family.code).names o.mode loops.0 alarms.0;
          status = family_status alarms.0;
        },
        (loops.0, alarms.0, loops.1, alarms.1, refl),
      )
  some_family_done Generate =
      let alarms = alarms_of in (record { text = sizes_text l ++ alarm_text r l.model.features alarms.0; status = family_status alarms.0 }, (alarms.0, alarms.1, refl))

  some_page_done : (model made : List ℕ) → (done : Done) × IsPageDone M o r l model made done
  some_page_done model made =
      let invariants = invariants_of in
      let alarms = alarms_of in (
        record { text = page_of (page_texts M r l model made invariants.0 alarms.0); status = family_status alarms.0 },
        (invariants.0, alarms.0, invariants.1, alarms.1, refl),
      )

-- ---- answers

family_by : AnswerLaws → (dialect : Dialect) (analysis : Analysis) (r : Regions) (task : FamilyTask) (told : Contents) → LineAnswer dialect told.model told.file
    → (answer : Result Done Fault) × AnswersFamily dialect analysis r task told answer
family_by laws dialect analysis r task told (line l h) =
    let done = some_family_done laws.configurations (meaning_of analysis.domain) (options_of analysis (whole l.family.code)) r l (have_constraints l dialect told.file h.family) task in
    (Ok done.0, (l, h, done.1))
family_by laws dialect analysis r task told (no_line given h) = (Err given, h)

-- `analyse`, `invariants` and `certify` are answered
pub some_family : AnswerLaws → (dialect : Dialect) (analysis : Analysis) (r : Regions) (task : FamilyTask) (told : Contents) → (answer : Result Done Fault) × AnswersFamily dialect analysis r task told answer
some_family laws dialect analysis r task told = family_by laws dialect analysis r task told (some_line laws dialect told.model told.file)

page_by : AnswerLaws → (dialect : Dialect) (analysis : Analysis) (r : Regions) (told : Contents) → LineAnswer dialect told.model told.file → (answer : Result Done Fault) × AnswersPage dialect analysis r told answer
page_by laws dialect analysis r told (line l h) =
    let done = some_page_done laws.configurations (meaning_of analysis.domain) (options_of analysis (whole l.family.code)) r l (have_constraints l dialect told.file h.family) told.model (made_by dialect analysis r) in
    (Ok done.0, (l, h, done.1))
page_by laws dialect analysis r told (no_line given h) = (Err given, h)

-- `page` is answered
pub some_page : AnswerLaws → (dialect : Dialect) (analysis : Analysis) (r : Regions) (told : Contents) → (answer : Result Done Fault) × AnswersPage dialect analysis r told answer
some_page laws dialect analysis r told = page_by laws dialect analysis r told (some_line laws dialect told.model told.file)
