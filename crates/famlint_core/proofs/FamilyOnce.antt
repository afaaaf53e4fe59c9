-- What is asked of all variants of a family is answered once.
use Rattle.std.proofs.Common.{◌≡◌, ℕ, Bool, List, [], ◌∷◌, ◌++◌, map, length, Result, Ok, Err, refl, sym, ap, ap₂, subst, ◌∙◌}
use Rattle.std.specs.Prelude.{codes, if◌then◌else◌}
use Rattle.std.specs.Fmt.{decimal}
use Rattle.std.specs.List.{All, AllByRecursion}
use Rattle.std.proofs.lemmas.List.Elements.{recursion_from_All}
use Rattle.fam_outer.specs.declared.dialect.Dialect.{Dialect}
use Rattle.fam_outer.specs.declared.faults.Place.{Place}
use Rattle.c_tree.specs.declared.tree.Kind.{Kind}
use Rattle.c_tree.specs.Places.{program_places}
use Rattle.c_tree.specs.Project.{projected_program}
use Rattle.c_tree.specs.Tree.{Whole}
use Rattle.c_tree.specs.View.{whole}
use Rattle.linear_atoms.specs.declared.atoms.Atom.{Atom}
use Rattle.linear_atoms.specs.declared.regions.Regions.{Regions}
use Rattle.cpp_conditions.specs.declared.formulas.Formula.{Formula}
use Rattle.cpp_conditions.specs.Propositions.{true_on}
use Rattle.cpp_conditions.specs.Validity.{Plain, plain}
use Rattle.cpp_conditions.specs.View.{formula}
use Rattle.atom_solver.specs.Plausible.{IsPlausible}
use Rattle.decision_tree.specs.Plain as trees
use Rattle.leaf_domain.specs.Leaves.{LeafValue, LeafMeaning, nothing_of}
use Rattle.lifted_analysis.specs.Promises.{truths_of, stop_at, leaf_at, by_kind}
use Rattle.lifted_analysis.specs.Turns.{loop_places}
use Rattle.plain_analysis.specs.declared.options.Options.{Options}
use Rattle.plain_analysis.specs.Places.{at_of, alarm_of}
use Rattle.alarm_report.specs.declared.alarms.FamilyAlarm.{FamilyAlarm}
use Rattle.alarm_report.specs.Alarms.{PlainAlarmTree, AreAlarms}
use Rattle.alarm_report.specs.Invariants.{LeafTree, Invariant, AreInvariants}
use Rattle.alarm_report.specs.LeafTexts.{invariant_text}
use Rattle.alarm_report.specs.Texts.{alarm_text}
use Rattle.certificate_format.specs.Loops.{trees_at}
use Rattle.certificate_format.specs.Texts.{certificate_text}
use Rattle.c_parser.proofs.KeptTexts.{TextsAreReadOnce}
use Rattle.famlint_requests.specs.declared.request.Analysis.{Analysis}
use Rattle.famlint_requests.specs.declared.request.FamilyTask.{FamilyTask}
use Rattle.famlint_requests.specs.declared.request.FamilyTask.TheVariants.{Analyse, Invariants, Certify, Generate}
use Rattle.famlint_loads.specs.declared.fault.Done.{Done}
use Rattle.famlint_loads.specs.declared.fault.Fault.{Fault}
use Rattle.famlint_loads.specs.declared.product_line.ProductLine.{ProductLine}
use Rattle.famlint_loads.specs.Contents.{Contents}
use Rattle.famlint_programs.proofs.Keys.{key}
use Rattle.famlint_programs.specs.AnalysisOptions.{options_of}
use Rattle.famlint_programs.specs.ProgramAnswers.{meaning_of}
use Rattle.famlint_families.specs.FamilyAnswers.{AnswersFamily}
use Rattle.famlint_families.specs.FamilyReports.{IsPlausibleFor, IsAlarmTreeOf, IsLeafTree, AreAlarmsOf, AreInvariantsOf, AreLoopsOf, IsFamilyDone, family_status}
use Rattle.famlint_families.specs.Told.{IsToldTree}
use Rattle.certificate_laws.proofs.Lists.{first_same, rest_same, none_or_some}
use Rattle.famlint_core.proofs.OneNumbering.{one_plausible}
use Rattle.famlint_core.proofs.OneRegions.{one_alarms, one_invariants}
use Rattle.famlint_core.proofs.OneTree.{one_told}
use Rattle.famlint_core.proofs.SameLines.{AreSameLines, are_same}
use Rattle.famlint_core.proofs.VariantOnce.{VariantLaws, no_line_refusal, same_line_refusal}

-- ---- lists of trees with the same keys

module _ {T K : Type 0} (key_of : T → K) (P Q : T → Type 0) (one : (t u : T) → key_of t ≡ key_of u → P t → Q u → t ≡ u) where
  by_recursion : (ts us : List T) → map key_of ts ≡ map key_of us → AllByRecursion P ts → AllByRecursion Q us → ts ≡ us
  by_recursion [] [] e h k = refl
  by_recursion [] (u ∷ us) e h k = absurd (none_or_some (key_of u) (map key_of us) e)
  by_recursion (t ∷ ts) [] e h k = absurd (none_or_some (key_of t) (map key_of ts) (sym e))
  by_recursion (t ∷ ts) (u ∷ us) e h k =
      ap₂ (λ (x : T) (xs : List T). x ∷ xs) (one t u (first_same (key_of t) (key_of u) (map key_of ts) (map key_of us) e) h.0 k.0)
      (by_recursion ts us (rest_same (key_of t) (key_of u) (map key_of ts) (map key_of us) e) h.1 k.1)

  one_list : (ts us : List T) → map key_of ts ≡ map key_of us → All P ts → All Q us → ts ≡ us
  one_list ts us e h k = by_recursion ts us e (recursion_from_All P ts h) (recursion_from_All Q us k)

-- ---- what the analysis of a vector's variant finds

-- by the truths of the conditions, and whether the vector is plausible
abbrev stop_by : LeafMeaning → Options → Place × Kind → Whole → List Bool → Bool → Bool
stop_by M o at w truths plausible =
    alarm_of M o (projected_program truths w) (if plausible then M.start (projected_program truths w).start else nothing_of (length w.names)) at.0 at.1

abbrev leaf_by : LeafMeaning → Options → Place → Whole → List Bool → Bool → LeafValue
leaf_by M o place w truths plausible =
    at_of M o (projected_program truths w) (if plausible then M.start (projected_program truths w).start else nothing_of (length w.names)) place

module _ (M : LeafMeaning) (o : Options) (r : Regions) (k l : ProductLine) (e : AreSameLines k l) where
  module _ (p q : Formula) (p_is : IsPlausibleFor k p) (q_is : IsPlausibleFor l q) where
    same_plausible : (v : List Bool) → true_on v (formula p) ≡ true_on v (formula q)
    same_plausible v =
        one_plausible l.family.atoms e.rising k.model.constraints l.model.constraints (ap (λ (m : Plain). m.constraints) e.model) (formula p) (formula q)
        (subst (λ (atoms : List Atom). IsPlausible k.model.constraints atoms (formula p)) e.atoms p_is) q_is v

    same_by : {X : Type 0} (f : Whole → List Bool → Bool → X) (v : List Bool)
        → f (whole k.family.code) (truths_of k.family.conditions v) (true_on v (formula p)) ≡ f (whole l.family.code) (truths_of l.family.conditions v) (true_on v (formula q))
    same_by f v =
        ap (λ (w : Whole). f w (truths_of k.family.conditions v) (true_on v (formula p))) e.code
        ∙ ap₂ (λ (ts : List Bool) (b : Bool). f (whole l.family.code) ts b) (e.truths v) (same_plausible v)

    one_stop_tree : (t u : PlainAlarmTree) → key t ≡ key u → IsAlarmTreeOf M o r k p t → IsAlarmTreeOf M o r l q u → t ≡ u
    one_stop_tree t u same h i =
        let mine : Place × Kind → List Bool → Bool = stop_at M o (whole k.family.code) k.family.conditions p in
        let yours : Place × Kind → List Bool → Bool = stop_at M o (whole l.family.code) l.family.conditions q in
        let told : IsToldTree r (length l.family.atoms) (mine (key u)) (formula p) t.tree =
        subst (λ (at : Place × Kind). IsToldTree r (length l.family.atoms) (mine at) (formula p) t.tree) same
        (subst (λ (atoms : List Atom). IsToldTree r (length atoms) (mine (key t)) (formula p) t.tree) e.atoms h) in
        let tree : t.tree ≡ u.tree =
        one_told (length l.family.atoms) (mine (key u)) (yours (key u)) (formula p) (formula q) (same_by (stop_by M o (key u))) same_plausible r t.tree u.tree told i in
        ap₂ (λ (at : Place × Kind) (x : trees.Plain Bool). let it : PlainAlarmTree = record { place = at.0; kind = at.1; tree = x } in it) same tree

    one_leaf_tree : (t u : LeafTree) → t.place ≡ u.place → IsLeafTree M o r k p t → IsLeafTree M o r l q u → t ≡ u
    one_leaf_tree t u same h i =
        let mine : Place → List Bool → LeafValue = leaf_at M o (whole k.family.code) k.family.conditions p in
        let yours : Place → List Bool → LeafValue = leaf_at M o (whole l.family.code) l.family.conditions q in
        let told : IsToldTree r (length l.family.atoms) (mine u.place) (formula p) t.tree =
        subst (λ (place : Place). IsToldTree r (length l.family.atoms) (mine place) (formula p) t.tree) same
        (subst (λ (atoms : List Atom). IsToldTree r (length atoms) (mine t.place) (formula p) t.tree) e.atoms h) in
        let tree : t.tree ≡ u.tree =
        one_told (length l.family.atoms) (mine u.place) (yours u.place) (formula p) (formula q) (same_by (leaf_by M o u.place)) same_plausible r t.tree u.tree told i in
        ap₂ (λ (place : Place) (x : trees.Plain LeafValue). let it : LeafTree = record { place = place; tree = x } in it) same tree

    one_leaf_trees : (ts us : List LeafTree) → map (λ (t : LeafTree). t.place) ts ≡ program_places (whole k.family.code) → map (λ (t : LeafTree). t.place) us ≡ program_places (whole l.family.code)
        → All (IsLeafTree M o r k p) ts → All (IsLeafTree M o r l q) us → ts ≡ us
    one_leaf_trees ts us mine yours h i =
        one_list (λ (t : LeafTree). t.place) (IsLeafTree M o r k p) (IsLeafTree M o r l q) one_leaf_tree ts us (mine ∙ ap program_places e.code ∙ sym yours) h i

  -- ---- alarms and invariants

  pub same_alarms : (alarms others : List FamilyAlarm) → AreAlarmsOf M o r k alarms → AreAlarmsOf M o r l others → alarms ≡ others
  same_alarms alarms others h i =
      let keys : map key h.trees ≡ map key i.trees = h.told.keys ∙ ap (λ (w : Whole). by_kind (program_places w)) e.code ∙ sym i.told.keys in
      let same : h.trees ≡ i.trees =
      one_list key (IsAlarmTreeOf M o r k h.plausible) (IsAlarmTreeOf M o r l i.plausible) (one_stop_tree h.plausible i.plausible h.plausible_is i.plausible_is) h.trees i.trees keys h.told.are i.told.are in
      one_alarms k.model l.model e.model l.family.atoms i.trees alarms others
      (subst (λ (ts : List PlainAlarmTree). AreAlarms k.model l.family.atoms ts alarms) same (subst (λ (atoms : List Atom). AreAlarms k.model atoms h.trees alarms) e.atoms h.tells)) i.tells

  of_trees : (ts us : List LeafTree) (invariants others : List Invariant) → ts ≡ us → AreInvariants k.model k.family.atoms ts invariants → AreInvariants l.model l.family.atoms us others → invariants ≡ others
  of_trees ts us invariants others same h i =
      one_invariants k.model l.model e.model l.family.atoms us invariants others
      (subst (λ (xs : List LeafTree). AreInvariants k.model l.family.atoms xs invariants) same (subst (λ (atoms : List Atom). AreInvariants k.model atoms ts invariants) e.atoms h)) i

  pub same_invariants : (invariants others : List Invariant) → AreInvariantsOf M o r k invariants → AreInvariantsOf M o r l others → invariants ≡ others
  same_invariants invariants others h i =
      of_trees h.trees i.trees invariants others
      (one_leaf_trees h.plausible i.plausible h.plausible_is i.plausible_is h.trees i.trees h.told.keys i.told.keys h.told.are i.told.are) h.tells i.tells

  pub same_loops : (loops others : List Invariant) → AreLoopsOf M o r k loops → AreLoopsOf M o r l others → loops ≡ others
  same_loops loops others h i =
      let same : h.trees ≡ i.trees = one_leaf_trees h.plausible i.plausible h.plausible_is i.plausible_is h.trees i.trees h.told.keys i.told.keys h.told.are i.told.are in
      of_trees (trees_at (loop_places (whole k.family.code).body) h.trees) (trees_at (loop_places (whole l.family.code).body) i.trees) loops others
      (ap₂ (λ (w : Whole) (ts : List LeafTree). trees_at (loop_places w.body) ts) e.code same) h.tells i.tells

  -- ---- what is done

  -- a text before that of the alarms, and their status
  abbrev before_alarms : List ℕ → Plain → List FamilyAlarm → Done
  before_alarms front m alarms = record { text = front ++ alarm_text r m.features alarms; status = family_status alarms }

  abbrev told_alarms : Plain → List FamilyAlarm → Done
  told_alarms m alarms = record { text = alarm_text r m.features alarms; status = family_status alarms }

  abbrev told_invariants : Plain → Whole → List Invariant → List ℕ
  told_invariants m w invariants = invariant_text r M m.features w.names invariants

  abbrev certified : Plain → Whole → List Invariant → List FamilyAlarm → Done
  certified m w loops alarms = record { text = certificate_text r M m.features w.names o.mode loops alarms; status = family_status alarms }

  abbrev sizes : List ℕ → Whole → List ℕ
  sizes text w = codes "bytes: " ++ decimal (length text) ++ codes "\nplaces: " ++ decimal (length (program_places w)) ++ codes "\n"

  same_before : (front other : List ℕ) (alarms others : List FamilyAlarm) → front ≡ other → alarms ≡ others → before_alarms front (plain k.model) alarms ≡ before_alarms other (plain l.model) others
  same_before front other alarms others f same =
      ap (λ (x : List ℕ). before_alarms x (plain k.model) alarms) f ∙ ap₂ (λ (m : Plain) (found : List FamilyAlarm). before_alarms other m found) e.model same

  pub same_told_invariants : (invariants others : List Invariant) → invariants ≡ others → told_invariants (plain k.model) (whole k.family.code) invariants ≡ told_invariants (plain l.model) (whole l.family.code) others
  same_told_invariants invariants others same =
      ap (λ (is : List Invariant). told_invariants (plain k.model) (whole k.family.code) is) same ∙ ap₂ (λ (m : Plain) (w : Whole). told_invariants m w others) e.model e.code

  pub same_done : (task : FamilyTask) (x y : Done) → IsFamilyDone M o r task k x → IsFamilyDone M o r task l y → x ≡ y
  same_done Analyse x y (alarms, h, is) (others, i, other) = is ∙ ap₂ told_alarms e.model (same_alarms alarms others h i) ∙ sym other
  same_done Invariants x y (invariants, alarms, g, h, is) (more, others, j, i, other) =
      is
      ∙ same_before (told_invariants (plain k.model) (whole k.family.code) invariants) (told_invariants (plain l.model) (whole l.family.code) more) alarms others
      (same_told_invariants invariants more (same_invariants invariants more g j)) (same_alarms alarms others h i)
      ∙ sym other
  same_done Certify x y (loops, alarms, g, h, is) (more, others, j, i, other) =
      is
      ∙ ap₂ (λ (m : Plain) (w : Whole). certified m w loops alarms) e.model e.code
      ∙ ap₂ (λ (ls : List Invariant) (found : List FamilyAlarm). certified (plain l.model) (whole l.family.code) ls found) (same_loops loops more g j) (same_alarms alarms others h i)
      ∙ sym other
  same_done Generate x y (alarms, h, is) (others, i, other) =
      is ∙ same_before (sizes k.text (whole k.family.code)) (sizes l.text (whole l.family.code)) alarms others (ap₂ sizes e.text e.code) (same_alarms alarms others h i) ∙ sym other

-- ---- the answer

-- the options of an analysis, of the programs of the same file
pub same_family_done : (M : LeafMeaning) (analysis : Analysis) (r : Regions) (task : FamilyTask) (k l : ProductLine) → AreSameLines k l → (x y : Done)
    → IsFamilyDone M (options_of analysis (whole k.family.code)) r task k x → IsFamilyDone M (options_of analysis (whole l.family.code)) r task l y → x ≡ y
same_family_done M analysis r task k l e x y h i =
    same_done M (options_of analysis (whole l.family.code)) r k l e task x y (subst (λ (w : Whole). IsFamilyDone M (options_of analysis w) r task k x) e.code h) i

pub one_family : VariantLaws → TextsAreReadOnce → (dialect : Dialect) (analysis : Analysis) (r : Regions) (task : FamilyTask) (told : Contents) (a b : Result Done Fault)
    → AnswersFamily dialect analysis r task told a → AnswersFamily dialect analysis r task told b → a ≡ b
one_family laws once dialect analysis r task told (Ok x) (Ok y) (k, h, i) (l, j, q) =
    ap (λ (d : Done). Ok d) (same_family_done (meaning_of analysis.domain) analysis r task k l (are_same laws once dialect told.model told.file k l h j) x y i q)
one_family laws once dialect analysis r task told (Ok x) (Err g) (k, h, i) j = absurd (no_line_refusal laws dialect told.model told.file k g h j)
one_family laws once dialect analysis r task told (Err g) (Ok x) h (k, j, i) = absurd (no_line_refusal laws dialect told.model told.file k g j h)
one_family laws once dialect analysis r task told (Err f) (Err g) h k = ap (λ (x : Fault). Err x) (same_line_refusal laws dialect told.model told.file f g h k)
