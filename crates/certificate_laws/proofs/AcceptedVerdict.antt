-- A check of a certificate of an analysis answers yes.
use Rattle.std.proofs.Common.{◌≡◌, ◌≤◌, ℕ, ℤ, Bool, true, false, not, ◌||◌, if◌then◌else◌, List, [], ◌∷◌, Option, Some, None, length, refl, ap, sym, subst, ◌∙◌, inl}
use Rattle.std.specs.List.{AllByRecursion}
use Rattle.std.proofs.lemmas.List.{length-map}
use Rattle.std.proofs.lemmas.List.Elements.{recursion_from_All}
use Rattle.fam_outer.specs.declared.faults.Place.{Place}
use Rattle.c_tree.specs.declared.tree.Kind.{Kind}
use Rattle.c_tree.specs.declared.tree.Mode.{Mode}
use Rattle.c_tree.specs.Fit.{IsPlain, IsCodeOf}
use Rattle.c_tree.specs.Places.{places_of, program_places}
use Rattle.c_tree.specs.Tree.{Whole}
use Rattle.c_tree.specs.Whole.{IsProgram}
use Rattle.c_tree.proofs.Wholes.{IsPlain-projected, IsProgram-projected}
use Rattle.linear_atoms.specs.declared.atoms.Atom.{Atom}
use Rattle.linear_atoms.specs.Atoms as atom
use Rattle.cpp_conditions.specs.declared.formulas.Formula.{Formula}
use Rattle.cpp_conditions.specs.declared.models.Model.{Model}
use Rattle.cpp_conditions.specs.Numbering.{vector_at}
use Rattle.cpp_conditions.specs.Propositions.{true_on}
use Rattle.cpp_conditions.specs.Validity.{plain, IsValid}
use Rattle.cpp_conditions.specs.View.{formula}
use Rattle.decision_tree.specs.Plain.{leaf_of, TestsBelow}
use Rattle.leaf_domain.specs.declared.range.Range.{Range}
use Rattle.leaf_domain.specs.Leaves.{LeafValue, LeafMeaning, LeafLaws, nothing_of, is_nothing_of}
use Rattle.leaf_domain.specs.Soundness.{TransferAnswers}
use Rattle.plain_analysis.specs.declared.options.Options.{Options}
use Rattle.plain_analysis.specs.Places.{is_same_place, entry_in, at_of, alarm_of, alarm_by, may_stop}
use Rattle.plain_analysis.specs.Statements.{Entry, passed, entries_by, final_heads}
use Rattle.plain_analysis.specs.Ways.{enter, end_of}
use Rattle.plain_analysis.proofs.Kept.{IsLeaf, AreLeaves, enter_leaves}
use Rattle.plain_analysis.proofs.Located.{listed}
use Rattle.plain_analysis.proofs.Nothing.{nothing_value}
use Rattle.merged_findings.specs.Merged.{IsTreeWhere}
use Rattle.lifted_analysis.specs.Lines.{bounded_by, given_at, set_from}
use Rattle.lifted_analysis.specs.Promises.{truths_of, variant_at, begin_at, leaf_at, stop_at, by_kind}
use Rattle.lifted_analysis.specs.Turns.{Turn, turns_by, inductive_in, loop_places}
use Rattle.lifted_analysis.specs.Turns as turn
use Rattle.alarm_report.specs.Alarms.{PlainAlarmTree}
use Rattle.alarm_report.specs.Invariants.{LeafTree}
use Rattle.certificate_format.specs.declared.certificates.Certificate.{Certificate}
use Rattle.certificate_format.specs.Loops.{trees_at}
use Rattle.invariant_certificate.specs.declared.verdicts.Verdict.{Verdict}
use Rattle.invariant_certificate.specs.declared.verdicts.Verdict.TheVariants.{Yes, NotInductive, Unlisted}
use Rattle.invariant_certificate.specs.Passes.{is_inductive, is_covered, is_listed}
use Rattle.invariant_certificate.specs.Passes as passes
use Rattle.invariant_certificate.specs.Verdicts.{IsVerdict}
use Rattle.invariant_certificate.proofs.Looped.{turn_place, turns_placed, loops_projected, loops_placed}
use Rattle.invariant_certificate.proofs.Sublists.{IsIn, Within, at_left, in_more, one_of_all}
use Rattle.certificate_laws.specs.Accepted.{IsSome, AreToldByBounds, AreBelowJoins, IsOfAnalysis}
use Rattle.certificate_laws.specs.ReadBack.{IsBoundsOf}
use Rattle.certificate_laws.proofs.AcceptedLists.{all_by_one, in_right, in_map, in_mapped}
use Rattle.certificate_laws.proofs.AcceptedLines.{given_by, listed as alarms_listed}
use Rattle.certificate_laws.proofs.AcceptedPasses.{IsSame, same_pass, placed}
use Rattle.certificate_laws.proofs.AcceptedTrees.{place_of, kept_trees, trees_placed, all_right_here, met_here, told_here}
use Rattle.certificate_laws.proofs.AcceptedTurns.{IsGood, IsFoundIn, good_turns, heads_found}

abbrev key_of : PlainAlarmTree → Place × Kind
key_of t = (t.place, t.kind)

never_both : (b : Bool) → b ≡ true → not b ≡ true → ⊥
never_both true e f = cc
never_both false e f = cc

all_mapped : {X : Type 0} (P Q : X → Type 0) → ((x : X) → P x → Q x) → (xs : List X) → AllByRecursion P xs → AllByRecursion Q xs
all_mapped P Q f [] h = tt
all_mapped P Q f (x ∷ xs) h = (f x h.0, all_mapped P Q f xs h.1)

module _ (M : LeafMeaning) (laws : LeafLaws M) (transfer : (m : Mode) → TransferAnswers M m) (told : AreToldByBounds M) (joins : AreBelowJoins M)
    (o : Options) (model : Model) (p : Whole) (conditions : List Formula) (atoms : List Atom) (c : Certificate) (program : IsProgram p)
    (h : IsOfAnalysis M o model p conditions atoms c) (values : List ℤ) (valid : IsValid (plain model) values) where
  abbrev v : List Bool
  v = vector_at atoms values

  abbrev q : Whole
  q = variant_at p conditions v

  abbrev d : LeafValue
  d = M.start q.start

  abbrev ts : List Turn
  ts = turns_by M o.mode (final_heads M o) q.body (enter d)

  abbrev es : List Entry
  es = entries_by M o.mode (final_heads M o) q.body (enter d)

  -- the leaf at a place in the analysis of the variant
  abbrev F : Place → LeafValue
  F x = at_of M o q d x

  abbrev g : Place → LeafValue
  g x = given_at M c.loops.items v d x

  -- ---- the variant and its start

  variant : IsProgram q
  variant = IsProgram-projected (truths_of conditions v) p program

  plain_body : IsPlain q.body
  plain_body = IsPlain-projected (truths_of conditions v) p.body

  count : d.variables ≡ length p.names
  count = laws.start_variables q.start ∙ variant.starts

  start_valid : M.valid d
  start_valid = laws.start_valid q.start (subst (λ n. n ≤ 48) (sym variant.starts) variant.few) variant.ints

  held_content : (n : ℕ) (x : Option (List ℤ)) (s : List ℤ) → M.holds (record { variables = n; content = x }) s → is_nothing_of (record { variables = n; content = x }) ≡ false
  held_content n None s k = absurd (laws.nothing_holds n s k)
  held_content n (Some ns) s k = refl

  start_some : IsSome M p.names d
  start_some = record { valid = start_valid; holds = held_content d.variables d.content q.start ((laws.start_holds q.start q.start).1 refl); count = count }

  code : IsCodeOf d.variables q.body
  code = subst (λ n. IsCodeOf n q.body) (sym count) variant.names

  vector_length : length v ≡ length atoms
  vector_length = length-map atoms (λ (a : Atom). atom.holds a values)

  begins : (f : Formula) → true_on v (formula f) ≡ true → begin_at M p conditions f v ≡ d
  begins f e = ap (λ (b : Bool). if b then M.start q.start else nothing_of (length p.names)) e

  -- ---- the trees at the configuration

  abbrev IsLeafTree : LeafTree → Type 0
  IsLeafTree t = IsTreeWhere (length atoms) (leaf_at M o p conditions h.leaves_are.plausible t.place) (formula h.leaves_are.plausible) t.tree

  abbrev IsAlarmTreeOf : PlainAlarmTree → Type 0
  IsAlarmTreeOf t = IsTreeWhere (length atoms) (stop_at M o p conditions h.stops_are.plausible (t.place, t.kind)) (formula h.stops_are.plausible) t.tree

  leaf_trees : AllByRecursion IsLeafTree (trees_at (loop_places p.body) h.places)
  leaf_trees = kept_trees IsLeafTree (loop_places p.body) h.places (recursion_from_All IsLeafTree h.places h.leaves_are.trees.are)

  stop_trees : AllByRecursion IsAlarmTreeOf h.stops
  stop_trees = recursion_from_All IsAlarmTreeOf h.stops h.stops_are.trees.are

  leaves_below : AllByRecursion (λ (t : LeafTree). TestsBelow (length atoms) t.tree) (trees_at (loop_places p.body) h.places)
  leaves_below = all_mapped IsLeafTree (λ (t : LeafTree). TestsBelow (length atoms) t.tree) (λ t k. k.tests) (trees_at (loop_places p.body) h.places) leaf_trees

  stops_below : AllByRecursion (λ (t : PlainAlarmTree). TestsBelow (length atoms) t.tree) h.stops
  stops_below = all_mapped IsAlarmTreeOf (λ (t : PlainAlarmTree). TestsBelow (length atoms) t.tree) (λ t k. k.tests) h.stops stop_trees

  leaves_there : AllByRecursion (λ (t : LeafTree). leaf_of t.tree v ≡ F t.place) (trees_at (loop_places p.body) h.places)
  leaves_there =
      all_mapped IsLeafTree (λ (t : LeafTree). leaf_of t.tree v ≡ F t.place) (λ t k. k.leads v vector_length (h.leaves_are.valid values valid) ∙ ap (λ x. at_of M o q x t.place) (begins h.leaves_are.plausible (h.leaves_are.valid values valid)))
      (trees_at (loop_places p.body) h.places) leaf_trees

  loops_within : Within (loop_places p.body) (program_places p)
  loops_within = at_left (loop_places p.body) (places_of p.body) (p.end ∷ []) (loops_placed p.body)

  -- each loop of the family has its tree
  tree_there : (x : Place) → IsIn x (loop_places p.body) → (t : LeafTree) × IsIn t (trees_at (loop_places p.body) h.places) × (t.place ≡ x)
  tree_there x i =
      in_mapped place_of x (trees_at (loop_places p.body) h.places)
      (subst (IsIn x) (sym (trees_placed (loop_places p.body) (program_places p) loops_within h.places h.leaves_are.trees.keys program.rising)) i)

  -- ---- the heads that the lines give

  told_by : (x : LeafValue) → M.valid x → x.variables ≡ length p.names → (b : Option (List Range)) → IsBoundsOf M p.names x b → bounded_by M b d ≡ x
  told_by x hv hc None e = sym (nothing_value x d.variables e (hc ∙ sym count))
  told_by x hv hc (Some rs) e = ap (λ (l : List Range). set_from M 0 l d) e.1 ∙ told p.names d x start_some (record { valid = hv; holds = e.0; count = hc })

  given_there : (x : Place) → IsIn x (loop_places p.body) → M.valid (F x) → (F x).variables ≡ length p.names → g x ≡ F x
  given_there x i hv hc =
      let t = tree_there x i in
      let met = met_here model atoms values valid (trees_at (loop_places p.body) h.places) h.invariants h.loops_are leaves_below t.0 t.1 in
      given_by model atoms values valid M p.names F d x (told_by (F x) hv hc) h.invariants c.loops.items h.read.loops
      (all_right_here model atoms values valid F (trees_at (loop_places p.body) h.places) h.invariants h.loops_are leaves_below leaves_there)
      (met.0, met.1, met.2 ∙ t.2, met.3)

  begun : AreLeaves M d.variables (enter d)
  begun = let self : IsLeaf M d.variables d = record { valid = start_valid; count = refl } in enter_leaves M laws d.variables d self

  abbrev IsGoodHere : Turn → Type 0
  IsGoodHere t = IsGood M laws o (transfer o.mode) joins d.variables t

  good : AllByRecursion IsGoodHere ts
  good = good_turns M laws o (transfer o.mode) joins d.variables q.body (enter d) begun code

  heads : AllByRecursion (IsFoundIn M o.mode (final_heads M o) es) ts
  heads = heads_found M o.mode (final_heads M o) es q.body (enter d) (listed M o.mode (final_heads M o) q d plain_body variant.rising)

  turn_in : (t : Turn) → IsIn t ts → IsIn t.place (loop_places p.body)
  turn_in t i =
      in_more t.place (loop_places q.body) (loop_places p.body) (loops_projected (truths_of conditions v) p.body)
      (subst (IsIn t.place) (turns_placed M o.mode (final_heads M o) q.body (enter d) plain_body) (in_map turn_place t ts i))

  given_turn : (t : Turn) → IsIn t ts → g t.place ≡ t.head
  given_turn t i =
      let k : IsGoodHere t = one_of_all IsGoodHere t ts good i in
      let found : IsFoundIn M o.mode (final_heads M o) es t = one_of_all (IsFoundIn M o.mode (final_heads M o) es) t ts heads i in
      let head : F t.place ≡ t.head = found (if is_same_place q.end t.place then end_of M (passed M o.mode (final_heads M o) q.body (enter d)) else nothing_of d.variables) in
      given_there t.place (turn_in t i) (subst M.valid (sym head) k.head.valid) (ap (λ (x : LeafValue). x.variables) head ∙ (k.head.count ∙ count)) ∙ head

  same : IsSame M o.mode g (final_heads M o) q.body (enter d)
  same = same_pass M o.mode g (final_heads M o) q.body (enter d) (all_by_one (λ (t : Turn). g t.place ≡ t.head) ts given_turn)

  -- ---- loops

  all_inductive : (xs : List Turn) → AllByRecursion IsGoodHere xs → (x : Place) → inductive_in M xs x ≡ true
  all_inductive [] k x = refl
  all_inductive (t ∷ xs) k x =
      elim (is_same_place t.place x) as (λ b. (if b then turn.is_inductive M t else inductive_in M xs x) ≡ true) [ true ↦ k.0.inductive | false ↦ all_inductive xs k.1 x ]

  pub inductive : (x : Place) → is_inductive M p conditions atoms c x values ≡ true
  inductive x =
      ap (λ m. inductive_in M (turns_by M m (placed M o.mode g (final_heads M o)) q.body (enter d)) x) h.read.mode_is
      ∙ (ap (λ (l : List Turn). inductive_in M l x) same.turns ∙ all_inductive ts good x)

  -- ---- stops

  stops_same : (at : Place × Kind) → passes.may_stop M p conditions atoms c at values ≡ alarm_of M o q d at.0 at.1
  stops_same at =
      ap (λ m. alarm_by M m (placed M o.mode g (final_heads M o)) q d at.0 at.1) h.read.mode_is
      ∙ ap (λ (l : List Entry). may_stop M o.mode (entry_in l at.0) at.1) same.entries

  stop_listed : (at : Place × Kind) → IsIn at (by_kind (program_places p)) → alarm_of M o q d at.0 at.1 ≡ true → is_listed c.alarms.items at v ≡ true
  stop_listed at i e =
      let t = in_mapped key_of at h.stops (subst (IsIn at) (sym h.stops_are.trees.keys) i) in
      let tree : IsAlarmTreeOf t.0 = one_of_all IsAlarmTreeOf t.0 h.stops stop_trees t.1 in
      let true_there : leaf_of t.0.tree v ≡ true =
      tree.leads v vector_length (h.stops_are.valid values valid) ∙ (ap (λ x. alarm_of M o q x t.0.place t.0.kind) (begins h.stops_are.plausible (h.stops_are.valid values valid)) ∙ subst (λ (x : Place × Kind). alarm_of M o q d x.0 x.1 ≡ true) (sym t.2) e) in
      let a = told_here model atoms values valid h.stops h.alarms h.alarms_are stops_below t.0 t.1 true_there in
      subst (λ (x : Place × Kind). is_listed c.alarms.items x v ≡ true) t.2
      (alarms_listed model atoms values valid t.0.place t.0.kind h.alarms c.alarms.items h.read.alarms a)

  covered_by : (at : Place × Kind) (b : Bool) → (b ≡ true → is_listed c.alarms.items at v ≡ true) → (not b || is_listed c.alarms.items at v) ≡ true
  covered_by at true k = k refl
  covered_by at false k = refl

  pub covered : (at : Place × Kind) → IsIn at (by_kind (program_places p)) → is_covered M p conditions atoms c at values ≡ true
  covered at i = covered_by at (passes.may_stop M p conditions atoms c at values) (λ e. stop_listed at i (sym (stops_same at) ∙ e))

-- ---- the verdict

module _ (M : LeafMeaning) (laws : LeafLaws M) (transfer : (m : Mode) → TransferAnswers M m) (told : AreToldByBounds M) (joins : AreBelowJoins M)
    (o : Options) (model : Model) (p : Whole) (conditions : List Formula) (atoms : List Atom) (c : Certificate) (program : IsProgram p)
    (h : IsOfAnalysis M o model p conditions atoms c) where
  pub answers_yes : (verdict : Verdict) → IsVerdict M model p conditions atoms c verdict → verdict ≡ Yes
  answers_yes Yes k = refl
  answers_yes (NotInductive place config) k =
      absurd (never_both _ (inductive M laws transfer told joins o model p conditions atoms c program h config.values k.least.valid place) k.least.met)
  answers_yes (Unlisted place kind config) k =
      let here : (let at : Place × Kind = (place, kind) in IsIn at (by_kind (program_places p))) =
      subst (λ l. let at : Place × Kind = (place, kind) in IsIn at l) (sym k.1.there) (in_right (place, kind) k.1.before ((place, kind) ∷ k.1.after) (inl refl)) in
      absurd (never_both _ (covered M laws transfer told joins o model p conditions atoms c program h config.values k.1.least.valid (place, kind) here) k.1.least.met)
