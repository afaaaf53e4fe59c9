-- What a pass over a family found says of each valid configuration.
use Rattle.std.proofs.Common.{◌≡◌, ℤ, Bool, true, false, not, ◌||◌, List, [], ◌∷◌, map, length, if◌then◌else◌, refl, ap, sym, subst, ◌∙◌}
use Rattle.std.specs.List.{All, AllByRecursion}
use Rattle.std.proofs.lemmas.List.{length-map}
use Rattle.std.proofs.lemmas.List.Elements.{All-from_recursion, recursion_from_All}
use Rattle.fam_outer.specs.declared.faults.Place.{Place}
use Rattle.c_tree.specs.declared.tree.Kind.{Kind}
use Rattle.c_tree.specs.Places.{places_of, program_places}
use Rattle.c_tree.specs.Run.{run_of}
use Rattle.c_tree.specs.Tree.{Whole}
use Rattle.c_tree.specs.Whole.{IsProgram, IsRising}
use Rattle.c_tree.proofs.Wholes.{IsPlain-projected}
use Rattle.linear_atoms.specs.declared.atoms.Atom.{Atom}
use Rattle.linear_atoms.specs.Atoms as atoms
use Rattle.cpp_conditions.specs.declared.formulas.Formula.{Formula}
use Rattle.cpp_conditions.specs.declared.models.Model.{Model}
use Rattle.cpp_conditions.specs.Numbering.{vector_at}
use Rattle.cpp_conditions.specs.Propositions.{true_on}
use Rattle.cpp_conditions.specs.Validity.{plain, IsValid}
use Rattle.cpp_conditions.specs.View.{formula}
use Rattle.certificate_format.specs.declared.certificates.Certificate.{Certificate}
use Rattle.decision_tree.specs.View as tree
use Rattle.leaf_domain.specs.Leaves.{LeafMeaning, LeafLaws, nothing_of}
use Rattle.lifted_analysis.specs.declared.findings.AlarmTree.{AlarmTree}
use Rattle.lifted_analysis.specs.declared.findings.LoopTree.{LoopTree}
use Rattle.lifted_analysis.specs.Canon.{IsTreeOf}
use Rattle.lifted_analysis.specs.Lines.{given_heads}
use Rattle.lifted_analysis.specs.Pass.{heads_at, pass_stop_at, turns_at_vector, inductive_at}
use Rattle.lifted_analysis.specs.Promises.{truths_of, variant_at, begin_at, by_kind}
use Rattle.lifted_analysis.specs.Turns.{Turn, AreInductive, turns_by, inductive_in, loop_places}
use Rattle.lifted_analysis.specs.Turns as turns
use Rattle.plain_analysis.specs.Places.{at_by, alarm_by, alarms_by}
use Rattle.plain_analysis.specs.Ways.{enter}
use Rattle.plain_analysis.specs.Promises.{RunsForeseenBy, IsForeseen}
use Rattle.invariant_certificate.specs.Failing.{HoldsAlways, AllHold}
use Rattle.invariant_certificate.specs.FirstFailing.{loop_holds, stop_holds}
use Rattle.invariant_certificate.specs.Passes.{begin_of, is_inductive, may_stop, is_covered, is_listed}
use Rattle.invariant_certificate.specs.Verdicts.{AllInductive, StopsAreListed}
use Rattle.invariant_certificate.proofs.First.{Agree}
use Rattle.invariant_certificate.proofs.Inductive.{all_inductive}
use Rattle.invariant_certificate.proofs.Listed.{listed_is, in_by_kind}
use Rattle.invariant_certificate.proofs.Looped.{turn_place, turns_placed, loops_projected, loops_placed, places_projected}
use Rattle.invariant_certificate.proofs.Sublists.{IsIn, one_of_all, Within, whole, both, at_left, in_more, rising_some}

abbrev pub loop_key : LoopTree → Place
loop_key l = l.place

abbrev pub stop_key : AlarmTree → Place × Kind
stop_key a = (a.place, a.kind)

covered_listed : (m l : Bool) → m ≡ true → (not m || l) ≡ true → l ≡ true
covered_listed true l e h = h
covered_listed false l e h = absurd (let k : false ≡ true = e in cc)

module _ (M : LeafMeaning) (model : Model) (p : Whole) (cs : List Formula) (ats : List Atom) (c : Certificate) (pl : Formula) where
  -- what is known of the pass's trees
  pub record IsPassed (loops : List LoopTree) (alarms : List AlarmTree) : Type 0 where
    pub valid : (values : List ℤ) → IsValid (plain model) values → true_on (vector_at ats values) (formula pl) ≡ true
    pub alarms_are : All (λ (a : AlarmTree). IsTreeOf (length ats) (pass_stop_at M c.mode p cs pl c.loops.items (a.place, a.kind)) (tree.plain a.tree)) alarms
    pub loops_are : All (λ (l : LoopTree). IsTreeOf (length ats) (inductive_at M c.mode p cs pl c.loops.items l.place) (tree.plain l.tree)) loops

  begins : (values : List ℤ) → true_on (vector_at ats values) (formula pl) ≡ true → begin_at M p cs pl (vector_at ats values) ≡ begin_of M p cs ats c values
  begins values e = ap (λ (b : Bool). if b then M.start (variant_at p cs (vector_at ats values)).start else nothing_of (length p.names)) e

  inductive_same : (values : List ℤ) (q : Place) → true_on (vector_at ats values) (formula pl) ≡ true
      → inductive_at M c.mode p cs pl c.loops.items q (vector_at ats values) ≡ is_inductive M p cs ats c q values
  inductive_same values q e =
      let v = vector_at ats values in
      ap (λ d. inductive_in M (turns_by M c.mode (given_heads M c.loops.items v d) (variant_at p cs v).body (enter d)) q) (begins values e)

  stop_same : (values : List ℤ) (at : Place × Kind) → true_on (vector_at ats values) (formula pl) ≡ true
      → pass_stop_at M c.mode p cs pl c.loops.items at (vector_at ats values) ≡ may_stop M p cs ats c at values
  stop_same values at e =
      let v = vector_at ats values in
      ap (λ d. alarm_by M c.mode (given_heads M c.loops.items v d) (variant_at p cs v) d at.0 at.1) (begins values e)

  vector_length : (values : List ℤ) → length (vector_at ats values) ≡ length ats
  vector_length values = length-map ats (λ (a : Atom). atoms.holds a values)

  module _ (loops : List LoopTree) (alarms : List AlarmTree) (h : IsPassed loops alarms) where
    loops_agree_on : (ls : List LoopTree) → AllByRecursion (λ (l : LoopTree). IsTreeOf (length ats) (inductive_at M c.mode p cs pl c.loops.items l.place) (tree.plain l.tree)) ls
        → Agree model loop_key (loop_holds ats) (is_inductive M p cs ats c) ls
    loops_agree_on [] a = tt
    loops_agree_on (l ∷ ls) a = (
      λ k valid. a.0.leads (vector_at ats k) (vector_length k) ∙ inductive_same k l.place (h.valid k valid),
      loops_agree_on ls a.1,
    )

    pub loops_agree : Agree model loop_key (loop_holds ats) (is_inductive M p cs ats c) loops
    loops_agree =
        loops_agree_on loops (recursion_from_All (λ (l : LoopTree). IsTreeOf (length ats) (inductive_at M c.mode p cs pl c.loops.items l.place) (tree.plain l.tree)) loops h.loops_are)

    stops_agree_on : (xs : List AlarmTree) → AllByRecursion (λ (a : AlarmTree). IsTreeOf (length ats) (pass_stop_at M c.mode p cs pl c.loops.items (a.place, a.kind)) (tree.plain a.tree)) xs
        → Agree model stop_key (stop_holds ats c.alarms.items) (is_covered M p cs ats c) xs
    stops_agree_on [] a = tt
    stops_agree_on (x ∷ xs) a = (
      λ k valid. ap (λ (b : Bool). not b || is_listed c.alarms.items (x.place, x.kind) (vector_at ats k))
          (a.0.leads (vector_at ats k) (vector_length k) ∙ stop_same k (x.place, x.kind) (h.valid k valid)),
      stops_agree_on xs a.1,
    )

    pub stops_agree : Agree model stop_key (stop_holds ats c.alarms.items) (is_covered M p cs ats c) alarms
    stops_agree =
        stops_agree_on alarms
        (recursion_from_All (λ (a : AlarmTree). IsTreeOf (length ats) (pass_stop_at M c.mode p cs pl c.loops.items (a.place, a.kind)) (tree.plain a.tree)) alarms h.alarms_are)

  -- ---- stops of runs

  module _ (laws : LeafLaws M) (program : IsProgram p) (valid : (values : List ℤ) → IsValid (plain model) values → true_on (vector_at ats values) (formula pl) ≡ true)
      (runs : (v : List Bool) → AreInductive M (turns_at_vector M c.mode p cs pl c.loops.items v)
      → RunsForeseenBy M c.mode (heads_at M p cs pl c.loops.items v) (variant_at p cs v) (begin_at M p cs pl v))
      (settled : AllInductive M model p cs ats c) (covered : AllHold model (is_covered M p cs ats c) (by_kind (program_places p))) where
    variant_loops : (v : List Bool) → Within (loop_places (variant_at p cs v).body) (loop_places p.body)
    variant_loops v = loops_projected (truths_of cs v) p.body

    rising_loops : IsRising (loop_places p.body)
    rising_loops = rising_some (loop_places p.body) (program_places p) (at_left (loop_places p.body) (places_of p.body) (p.end ∷ []) (loops_placed p.body)) program.rising

    turn_places : (v : List Bool) → map turn_place (turns_at_vector M c.mode p cs pl c.loops.items v) ≡ loop_places (variant_at p cs v).body
    turn_places v =
        turns_placed M c.mode (heads_at M p cs pl c.loops.items v) (variant_at p cs v).body (enter (begin_at M p cs pl v)) (IsPlain-projected (truths_of cs v) p.body)

    inductive_there : (values : List ℤ) → IsValid (plain model) values → AreInductive M (turns_at_vector M c.mode p cs pl c.loops.items (vector_at ats values))
    inductive_there values ok =
        let v = vector_at ats values in
        let ts = turns_at_vector M c.mode p cs pl c.loops.items v in
        All-from_recursion (λ (t : Turn). turns.is_inductive M t ≡ true) ts
        (all_inductive M ts
        (subst IsRising (sym (turn_places v)) (rising_some (loop_places (variant_at p cs v).body) (loop_places p.body) (variant_loops v) rising_loops))
        (λ q i. inductive_same values q (valid values ok)
        ∙ one_of_all (λ (x : Place). HoldsAlways model (is_inductive M p cs ats c x)) q (loop_places p.body)
        (recursion_from_All (λ (x : Place). HoldsAlways model (is_inductive M p cs ats c x)) (loop_places p.body) settled)
        (in_more q (loop_places (variant_at p cs v).body) (loop_places p.body) (variant_loops v) (subst (IsIn q) (turn_places v) i)) values ok))

    variant_places : (v : List Bool) → Within (program_places (variant_at p cs v)) (program_places p)
    variant_places v =
        both (places_of (variant_at p cs v).body) (places_of p.body) (p.end ∷ []) (p.end ∷ []) (places_projected (truths_of cs v) p.body) (whole (p.end ∷ []))

    pub stops_listed : StopsAreListed M model p cs ats c
    stops_listed values inputs n place kind ok ints stop =
        let v = vector_at ats values in
        let q = variant_at p cs v in
        let d = begin_at M p cs pl v in
        let H = heads_at M p cs pl c.loops.items v in
        let start : M.holds d q.start = subst (λ x. M.holds x q.start) (sym (begins values (valid values ok))) ((laws.start_holds q.start q.start).1 refl) in
        let seen : IsForeseen M (at_by M c.mode H q d) q.end (alarms_by M c.mode H q d) (run_of q inputs n c.mode) = runs v (inductive_there values ok) q.start inputs n start ints in
        let found = listed_is (alarm_by M c.mode H q d) (program_places q) (record { place = place; kind = kind })
        (subst (λ end. IsForeseen M (at_by M c.mode H q d) q.end (alarms_by M c.mode H q d) end) stop seen) in
        let there = in_by_kind place kind (program_places p) (in_more place (program_places q) (program_places p) (variant_places v) found.1) in
        let holds : is_covered M p cs ats c (place, kind) values ≡ true =
        one_of_all (λ (x : Place × Kind). HoldsAlways model (is_covered M p cs ats c x)) (place, kind) (by_kind (program_places p))
        (recursion_from_All (λ (x : Place × Kind). HoldsAlways model (is_covered M p cs ats c x)) (by_kind (program_places p)) covered) there values ok in
        covered_listed (may_stop M p cs ats c (place, kind) values) (is_listed c.alarms.items (place, kind) v) (sym (stop_same values (place, kind) (valid values ok)) ∙ found.0) holds
