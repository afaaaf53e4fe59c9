-- What the analysis of a family answers is what it promises.
use Rattle.std.proofs.Common.{◌≡◌, ℕ, ◌≤◌, ◌<◌, ◌+◌, true, false, Bool, List, [], ◌∷◌, ◌++◌, map, length, if◌then◌else◌, refl, ap, sym, subst, ◌∙◌, inl, inr, Result, Ok, Err, slice_index_or}
use Rattle.std.specs.Prelude.{OnOk}
use Rattle.std.specs.List.{All}
use Rattle.std.proofs.lemmas.List.{map-append}
use Rattle.std.proofs.lemmas.List.Elements.{All-cons, All-nil}
use Rattle.fam_outer.specs.declared.faults.Place.{Place}
use Rattle.c_tree.specs.declared.tree.Kind.{Kind}
use Rattle.c_tree.specs.declared.tree.Kind.TheVariants.{Overflow, ZeroDivisor, Assertion}
use Rattle.c_tree.specs.Places.{program_places}
use Rattle.c_tree.specs.Project.{projected, projected_program, projected_start}
use Rattle.c_tree.specs.Tree.{Code, Whole}
use Rattle.c_tree.specs.Whole.{IsProgram}
use Rattle.c_tree.proofs.Starts.{length-start, ints-start}
use Rattle.c_tree.proofs.Wholes.{IsPlain-projected, IsProgram-projected}
use Rattle.cpp_conditions.specs.declared.formulas.Formula.{Formula}
use Rattle.cpp_conditions.specs.Propositions.{true_on}
use Rattle.cpp_conditions.specs.View.{formula}
use Rattle.decision_tree.specs.declared.tree.Tree.{Tree}
use Rattle.decision_tree.specs.Plain.{Plain, leaf, node, leaf_of, IsReducedFrom, TestsBelow}
use Rattle.decision_tree.specs.Numbered.{Numbered, kept, branch, erase}
use Rattle.decision_tree.specs.View.{numbered, plain}
use Rattle.decision_tree.proofs.Reduced.{tests_below}
use Rattle.leaf_domain.specs.Leaves.{LeafValue, LeafMeaning, LeafLaws, nothing_of}
use Rattle.leaf_domain.specs.Soundness.{TransferAnswers, TransferHolds, NothingStops}
use Rattle.plain_analysis.specs.declared.options.Options.{Options}
use Rattle.plain_analysis.specs.Places.{at_by, alarm_by}
use Rattle.plain_analysis.specs.Promises.{RunsForeseen}
use Rattle.plain_analysis.specs.Statements.{Heads, passed, final_heads}
use Rattle.plain_analysis.specs.declared.ways.Ways as rust
use Rattle.plain_analysis.specs.Ways.{enter, end_of}
use Rattle.plain_analysis.proofs.Held.{analysis_foresees}
use Rattle.tree_unify.specs.Formulas as formulas
use Rattle.lifted_analysis.specs.declared.noted.Noted.{Noted}
use Rattle.lifted_analysis.specs.declared.family_context.FamilyContext.{FamilyContext}
use Rattle.lifted_analysis.specs.declared.findings.AlarmTree.{AlarmTree}
use Rattle.lifted_analysis.specs.declared.findings.PlaceTree.{PlaceTree}
use Rattle.lifted_analysis.specs.Canon.{IsTreeOf}
use Rattle.lifted_analysis.specs.Conditions.{AreTreesOf}
use Rattle.lifted_analysis.specs.Entries.{visits_at, leaves_in, stops_in, turns_in, leaf_there, stop_there, turn_there, IsReducedTree, AreReduced, AreReducedStops, IsSizedTurn, AreSized, entered_with, HasEntered}
use Rattle.lifted_analysis.specs.Findings.{HasEnded, HasNoted, AreFindings}
use Rattle.lifted_analysis.specs.Promises.{truths_of, variant_at, begin_at, leaf_at, stop_at, by_kind, valued, Occurs}
use Rattle.lifted_analysis.specs.Start.{start_at}
use Rattle.lifted_analysis.specs.declared.noted.TurnTree.{TurnTree}
use Rattle.lifted_analysis.specs.Rules.{passed_with}
use Rattle.lifted_analysis.specs.States.{truths_in, ways_at, IsTest, HasRegionNumber}
use Rattle.lifted_analysis.specs.Turns.{Turn, is_inductive}
use Rattle.lifted_analysis.proofs.ConditionLemmas.{truths_same, tests_each, occurs_below}
use Rattle.lifted_analysis.proofs.EntryLemmas.{three, reduced_push}
use Rattle.lifted_analysis.proofs.FoundLemmas.{leaves_are, stops_are, loops_are}
use Rattle.lifted_analysis.proofs.PassedLemmas.{AreFit}

-- ---- keys and values of two lists

pub keys_are : {X K Y : Type 0} (f : X → K × Y) (g : K → Y) (xs : List X) (ks : List K) → map f xs ≡ map (λ k. (k, g k)) ks → map (λ x. (f x).0) xs ≡ ks
keys_are f g [] [] e = refl
keys_are f g [] (k ∷ ks) e = cc
keys_are f g (x ∷ xs) [] e = cc
keys_are f g (x ∷ xs) (k ∷ ks) e =
    let h : f x ≡ (k, g k) = cc in
    let t : map f xs ≡ map (λ k. (k, g k)) ks = cc in
    ap (λ u. u.0 ∷ map (λ x. (f x).0) xs) h ∙ ap (λ l. k ∷ l) (keys_are f g xs ks t)

pub values_are : {X K Y : Type 0} (f : X → K × Y) (g : K → Y) (xs : List X) (ks : List K) → map f xs ≡ map (λ k. (k, g k)) ks → All (λ x. (f x).1 ≡ g (f x).0) xs
values_are f g [] ks e = All-nil (λ x. (f x).1 ≡ g (f x).0)
values_are f g (x ∷ xs) [] e = cc
values_are f g (x ∷ xs) (k ∷ ks) e =
    let h : f x ≡ (k, g k) = cc in
    let t : map f xs ≡ map (λ k. (k, g k)) ks = cc in
    All-cons (λ x. (f x).1 ≡ g (f x).0) x xs (ap (λ u. u.1) h ∙ ap g (sym (ap (λ u. u.0) h))) (values_are f g xs ks t)

-- ---- the tree of the values

module _ {L : Type 0} (value : L → LeafValue) (exact : (a b : L) → value a ≡ value b → a ≡ b) where
  valued_same : (t u : Plain L) → valued value t ≡ valued value u → t ≡ u
  valued_same (leaf x) (leaf y) e = let h : value x ≡ value y = cc in ap leaf (exact x y h)
  valued_same (leaf x) (node k low high) e = cc
  valued_same (node k low high) (leaf y) e = cc
  valued_same (node k low high) (node j p q) e =
      let a : k ≡ j = cc in
      let b : valued value low ≡ valued value p = cc in
      let c : valued value high ≡ valued value q = cc in
      ap (λ n. node n low high) a ∙ (ap (λ x. node j x high) (valued_same low p b) ∙ ap (node j p) (valued_same high q c))

  valued_reduced : (m : ℕ) (t : Plain L) → IsReducedFrom m t → IsReducedFrom m (valued value t)
  valued_reduced m (leaf x) r = tt
  valued_reduced m (node k low high) r = (r.0, λ e. r.1 (valued_same low high e), valued_reduced (k + 1) low r.2, valued_reduced (k + 1) high r.3)

  valued_below : (m : ℕ) (t : Plain L) → TestsBelow m t → TestsBelow m (valued value t)
  valued_below m (leaf x) b = tt
  valued_below m (node k low high) b = (b.0, valued_below m low b.1, valued_below m high b.2)

  by_turn : (b : Bool) (x y : LeafValue) (a c : L) → x ≡ value a → y ≡ value c → (if b then y else x) ≡ value (if b then c else a)
  by_turn true x y a c e f = f
  by_turn false x y a c e f = e

  valued_leaf : (t : Plain L) (v : List Bool) → leaf_of (valued value t) v ≡ value (leaf_of t v)
  valued_leaf (leaf x) v = refl
  valued_leaf (node k low high) v = by_turn (slice_index_or v k false) _ _ _ _ (valued_leaf low v) (valued_leaf high v)

-- the leaf with the number of a tree that is a leaf
pub leaf_kept : {A : Type 0} (t : Numbered A) (x : A) → erase t ≡ leaf x → (n : ℕ) × (t ≡ kept n x)
leaf_kept (kept n y) x e = let h : y ≡ x = cc in (n, ap (kept n) h)
leaf_kept (branch n k low high) x e = cc

-- the trees of places, and trees of truths, over so many tests
module _ (family : FamilyContext) (m : ℕ) (small : (k : ℕ) → IsTest family k → k < m) where
  below : {A : Type 0} (t : Numbered A) → IsReducedTree family t → TestsBelow m (erase t)
  below t r = tests_below m (erase t) (λ k w. small k (r.tests k w))

  pub leaf_findings : {L : Type 0} (value : L → LeafValue) → ((a b : L) → value a ≡ value b → a ≡ b) → (ps : List (PlaceTree L)) (places : List Place) (at : Place → List Bool → LeafValue) → AreReduced family ps
      → ((v : List Bool) → map (leaf_there value v) ps ≡ map (λ (q : Place). (q, at q v)) places) → All (λ (x : PlaceTree L). IsTreeOf m (at x.place) (valued value (plain x.tree))) ps
  leaf_findings value exact ps places at trees leaves = λ k d lt.
      let x = slice_index_or ps k d in
      let r = trees k d lt in
      record {
        reduced = valued_reduced value exact 0 (plain x.tree) r.tree.reduced;
        tests = valued_below value exact m (plain x.tree) (below (numbered x.tree) r);
        leads = λ v e. valued_leaf value exact (plain x.tree) v ∙ values_are (leaf_there value v) (λ q. at q v) ps places (leaves v) k d lt;
      }

  pub truth_findings : {X K : Type 0} (key : X → K) (tree : X → Tree Bool) (xs : List X) (ks : List K) (f : K → List Bool → Bool) → All (λ (x : X). IsReducedTree family (numbered (tree x))) xs
      → ((v : List Bool) → map {B = K × Bool} (λ (x : X). (key x, leaf_of (plain (tree x)) v)) xs ≡ map {B = K × Bool} (λ (k : K). (k, f k v)) ks) → All (λ (x : X). IsTreeOf m (f (key x)) (plain (tree x))) xs
  truth_findings key tree xs ks f trees truths = λ k d lt.
      let x = slice_index_or xs k d in
      let r = trees k d lt in
      record {
        reduced = r.tree.reduced;
        tests = below (numbered (tree x)) r;
        leads = λ v e. values_are (λ x. (key x, leaf_of (plain (tree x)) v)) (λ k. f k v) xs ks (truths v) k d lt;
      }

  pub findings_below : {L : Type 0} (ps : List (PlaceTree L)) → AreReduced family ps → All (λ (x : PlaceTree L). TestsBelow m (plain x.tree)) ps
  findings_below ps trees = λ k d lt. below (numbered (slice_index_or ps k d).tree) (trees k d lt)

twice : {X Y Z : Type 0} (f : X → Y) (g : Y → Z) (xs : List X) → map (λ (x : X). g (f x)) xs ≡ map g (map f xs)
twice f g [] = refl
twice f g (x ∷ xs) = ap (λ l. g (f x) ∷ l) (twice f g xs)

module _ {L : Type 0} (value : L → LeafValue) (family : FamilyContext) where
  -- the last place, after a tree and three alarm trees
  pub ended_made : {E : Type 0} (made : Result (Unit {0}) E) (a c d z : Noted L) (ps : List (PlaceTree L)) (place : Place) (tree : Tree L)
      → IsReducedTree family (numbered tree) → ps ≡ a.places.items ++ record { place = place; tree = tree } ∷ [] → c.places.items ≡ ps
      → ((v : List Bool) → map (stop_there v) c.alarms.items ≡ map (stop_there v) a.alarms.items ++ ((place, Overflow), false) ∷ [])
      → (AreReducedStops family a.alarms.items → AreReducedStops family c.alarms.items)
      → ((v : List Bool) → map (stop_there v) d.alarms.items ≡ map (stop_there v) c.alarms.items ++ ((place, ZeroDivisor), false) ∷ [])
      → (AreReducedStops family c.alarms.items → AreReducedStops family d.alarms.items) → d.places.items ≡ c.places.items
      → OnOk made ((v : List Bool) → map (stop_there v) z.alarms.items ≡ map (stop_there v) d.alarms.items ++ ((place, Assertion), false) ∷ [])
      → OnOk made (AreReducedStops family d.alarms.items → AreReducedStops family z.alarms.items) → z.places.items ≡ d.places.items
      → c.turns.items ≡ a.turns.items → d.turns.items ≡ c.turns.items → z.turns.items ≡ d.turns.items
      → OnOk made (HasEnded value family place (plain tree) a z)
  ended_made (Err e) a c d z ps place tree r pushed h f g i j k l m n t1 t2 t3 = tt
  ended_made (Ok u) a c d z ps place tree r pushed h f g i j k l m n t1 t2 t3 =
      let x : PlaceTree L = record { place = place; tree = tree } in
      let places : z.places.items ≡ a.places.items ++ x ∷ [] = n ∙ (k ∙ (h ∙ pushed)) in
      record {
        leaves = λ v. ap (map (leaf_there value v)) places ∙ map-append (leaf_there value v) a.places.items (x ∷ []);
        stops = λ v. three (map (stop_there v) a.alarms.items) (map (stop_there v) c.alarms.items) (map (stop_there v) d.alarms.items) (map (stop_there v) z.alarms.items) _ _ _ (f v) (i v) (l v);
        turns = t3 ∙ (t2 ∙ t1);
        trees = λ q. reduced_push (λ (p : PlaceTree L). IsReducedTree family (numbered p.tree)) a.places.items z.places.items x places r q;
        alarm_trees = λ q. m (j (g q));
      }

  module _ (M : LeafMeaning) (laws : LeafLaws M) (A : TransferAnswers M family.options.now.mode) (N : NothingStops M family.options.now.mode) (p : Whole) (program : IsProgram p) (count : family.variables ≡ length p.names) where
    begin_valid : (b : Bool) (ts : List Bool) → M.valid (if b then M.start (projected_start ts p.declared p.start) else nothing_of family.variables)
    begin_valid true ts =
        laws.start_valid (projected_start ts p.declared p.start) (subst (λ n. n ≤ 48) (sym (length-start ts p.declared 0 p.start ∙ program.starts)) program.few)
        (ints-start ts p.declared (length p.names) 0 p.start program.declared program.ints)
    begin_valid false ts = laws.nothing_valid family.variables (subst (λ n. n ≤ 48) (sym count) program.few)

    begin_count : (b : Bool) (ts : List Bool) → (if b then M.start (projected_start ts p.declared p.start) else nothing_of family.variables).variables ≡ length p.names
    begin_count true ts = laws.start_variables (projected_start ts p.declared p.start) ∙ (length-start ts p.declared 0 p.start ∙ program.starts)
    begin_count false ts = count

    pub start_valid : (v : List Bool) → M.valid (start_at M family p.start p.declared v)
    start_valid v = begin_valid (leaf_of (plain family.plausible.now) v) (truths_in family.choices.now v)

    pub start_count : (v : List Bool) → (start_at M family p.start p.declared v).variables ≡ length p.names
    start_count v = begin_count (leaf_of (plain family.plausible.now) v) (truths_in family.choices.now v)

    -- all that is found
    pub noted_made : (K H : List Bool → Heads) (a b z : Noted L) (c : Code) (w : rust.Ways (Tree L)) (tree : Plain L) → ((v : List Bool) → K v ≡ H v) → ((v : List Bool) → AreFit M family.options.now.mode (length p.names) (H v))
        → c ≡ p.body → a.places.items ≡ [] → a.alarms.items ≡ [] → a.turns.items ≡ []
        → HasEntered value M family a b (entered_with value M family K c w)
        → ((v : List Bool) → ways_at value w v ≡ enter (start_at M family p.start p.declared v))
        → ((v : List Bool) → value (leaf_of tree v) ≡ end_of M (passed_with M family K c v (ways_at value w v)))
        → HasEnded value family p.end tree b z → HasNoted value M family p H z
    noted_made K H a b z c w tree heads fit body none no_alarms no_turns entered started after ended =
        let mode = family.options.now.mode in
        let d : List Bool → LeafValue = λ v. start_at M family p.start p.declared v in
        let ts : List Bool → List Bool = λ v. truths_in family.choices.now v in
        let is : (v : List Bool) → entered_with value M family K c w v ≡ visits_at M mode (ts v) (H v) p.body (enter (d v)) = λ v.
        ap (λ G. visits_at M mode (ts v) G c (ways_at value w v)) (heads v)
        ∙ (ap (λ x. visits_at M mode (ts v) (H v) x (ways_at value w v)) body ∙ ap (visits_at M mode (ts v) (H v) p.body) (started v)) in
        record {
          leaves = λ v.
              let last : value (leaf_of tree v) ≡ end_of M (passed M mode (H v) (projected (ts v) p.body) (enter (d v))) =
              after v ∙ (ap (λ G. end_of M (passed M mode G (projected (ts v) c) (ways_at value w v))) (heads v)
              ∙ (ap (λ x. end_of M (passed M mode (H v) (projected (ts v) x) (ways_at value w v))) body ∙ ap (λ u. end_of M (passed M mode (H v) (projected (ts v) p.body) u)) (started v)))
              in
              ended.leaves v
              ∙ (ap (λ l. l ++ (p.end, value (leaf_of tree v)) ∷ []) (entered.leaves v ∙ ap (λ l. map (leaf_there value v) l ++ leaves_in (entered_with value M family K c w v)) none)
              ∙ (ap (λ l. leaves_in l ++ (p.end, value (leaf_of tree v)) ∷ []) (is v)
              ∙ (ap (λ (x : LeafValue). leaves_in (visits_at M mode (ts v) (H v) p.body (enter (d v))) ++ (p.end, x) ∷ []) last
              ∙ leaves_are M laws mode A N p program (ts v) (d v) (start_valid v) (start_count v) (H v) (fit v))));
          stops = λ v.
              let end : List ((Place × Kind) × Bool) = ((p.end, Overflow), false) ∷ (((p.end, ZeroDivisor), false) ∷ (((p.end, Assertion), false) ∷ [])) in
              ended.stops v
              ∙ (ap (λ l. l ++ end) (entered.stops v ∙ ap (λ l. map (stop_there v) l ++ stops_in M mode (entered_with value M family K c w v)) no_alarms)
              ∙ (ap (λ l. stops_in M mode l ++ end) (is v)
              ∙ stops_are M laws mode A N p program (ts v) (d v) (start_valid v) (start_count v) (H v) (fit v)));
          turns = λ v.
              let said : Turn → Place × Bool = λ t. (t.place, is_inductive M t) in
              let there : map (turn_there value v) z.turns.items ≡ turns_in (visits_at M mode (ts v) (H v) p.body (enter (d v))) =
              ap (map (turn_there value v)) ended.turns ∙ (entered.turns v ∙ (ap (λ l. map (turn_there value v) l ++ turns_in (entered_with value M family K c w v)) no_turns ∙ ap turns_in (is v)))
              in
              twice (turn_there value v) said z.turns.items ∙ (ap (map said) there
              ∙ loops_are M laws mode A N p program (ts v) (d v) (start_valid v) (start_count v) (H v) (fit v));
          trees = ended.trees (entered.trees (subst (AreReduced family) (sym none) (All-nil (λ (x : PlaceTree L). IsReducedTree family (numbered x.tree)))));
          alarm_trees = ended.alarm_trees (entered.alarm_trees (subst (AreReducedStops family) (sym no_alarms) (All-nil (λ (x : AlarmTree). IsReducedTree family (numbered x.tree)))));
          sized = subst (AreSized value family) (sym ended.turns) (entered.sized (subst (AreSized value family) (sym no_turns) (All-nil (λ (t : TurnTree L). IsSizedTurn value family t))));
        }

-- ---- over formulas

-- start values by formulas
pub begins : (M : LeafMeaning) (family : FamilyContext) (p : Whole) (cs : List Formula) (pl : Formula) → AreTreesOf cs family.choices.now → formulas.IsTreeOf (formula pl) (plain family.plausible.now) → family.variables ≡ length p.names
    → (v : List Bool) → start_at M family p.start p.declared v ≡ begin_at M p cs pl v
begins M family p cs pl trees plausible count v =
    ap (λ (b : Bool). if b then M.start (projected_start (truths_in family.choices.now v) p.declared p.start) else nothing_of family.variables) (plausible.truth v)
    ∙ (ap (λ ts. if true_on v (formula pl) then M.start (projected_start ts p.declared p.start) else nothing_of family.variables) (truths_same cs family.choices.now v trees)
    ∙ ap (λ n. if true_on v (formula pl) then M.start (projected_start (truths_of cs v) p.declared p.start) else nothing_of n) count)

module _ {L : Type 0} (value : L → LeafValue) (exact : (a b : L) → value a ≡ value b → a ≡ b) (M : LeafMeaning) (family : FamilyContext) (p : Whole) (cs : List Formula) (pl : Formula)
    (trees : AreTreesOf cs family.choices.now) (plausible : formulas.IsTreeOf (formula pl) (plain family.plausible.now)) (count : family.variables ≡ length p.names) (no_lines : family.lines.now ≡ []) where
  occurs : (k : ℕ) → IsTest family k → Occurs cs pl k
  occurs k (inl w) = inl (plausible.tests k w)
  occurs k (inr (inl w)) = inr (tests_each cs family.choices.now k trees w)
  occurs k (inr (inr w)) = absurd (subst (HasRegionNumber k) no_lines w)

  module _ (f : Noted L) (h : HasNoted value M family p (λ v. final_heads M family.options.now) f) where
    leaves_at : (v : List Bool) → map (leaf_there value v) f.places.items ≡ map (λ (q : Place). (q, leaf_at M family.options.now p cs pl q v)) (program_places p)
    leaves_at v =
        let H = final_heads M family.options.now in
        let mode = family.options.now.mode in
        h.leaves v
        ∙ (ap (λ ts. map (λ (q : Place). (q, at_by M mode H (projected_program ts p) (start_at M family p.start p.declared v) q)) (program_places p)) (truths_same cs family.choices.now v trees)
        ∙ ap (λ d. map (λ (q : Place). (q, at_by M mode H (variant_at p cs v) d q)) (program_places p)) (begins M family p cs pl trees plausible count v))

    stops_at : (v : List Bool) → map (stop_there v) f.alarms.items ≡ map (λ (q : Place × Kind). (q, stop_at M family.options.now p cs pl q v)) (by_kind (program_places p))
    stops_at v =
        let H = final_heads M family.options.now in
        let mode = family.options.now.mode in
        h.stops v
        ∙ (ap (λ ts. map (λ (q : Place × Kind). (q, alarm_by M mode H (projected_program ts p) (start_at M family p.start p.declared v) q.0 q.1)) (by_kind (program_places p))) (truths_same cs family.choices.now v trees)
        ∙ ap (λ d. map (λ (q : Place × Kind). (q, alarm_by M mode H (variant_at p cs v) d q.0 q.1)) (by_kind (program_places p))) (begins M family p cs pl trees plausible count v))

    pub are_findings : AreFindings value M family.options.now p cs pl (record { places = f.places; alarms = f.alarms })
    are_findings = record {
      places = keys_are (leaf_there value []) (λ q. leaf_at M family.options.now p cs pl q []) f.places.items (program_places p) (leaves_at []);
      trees = λ m b. leaf_findings family m (λ k w. occurs_below m k cs pl b (occurs k w)) value exact f.places.items (program_places p) (λ q v. leaf_at M family.options.now p cs pl q v) h.trees leaves_at;
      kinds = keys_are (stop_there []) (λ q. stop_at M family.options.now p cs pl q []) f.alarms.items (by_kind (program_places p)) (stops_at []);
      alarms = λ m b. truth_findings family m (λ k w. occurs_below m k cs pl b (occurs k w)) (λ (a : AlarmTree). (a.place, a.kind)) (λ (a : AlarmTree). a.tree) f.alarms.items (by_kind (program_places p)) (λ q v. stop_at M family.options.now p cs pl q v) h.alarm_trees stops_at;
      places_numbered = λ k d lt. (h.trees k d lt).tree;
      alarms_numbered = λ k d lt. (h.alarm_trees k d lt).tree;
      reduced = λ k d lt. (h.trees k d lt).tree.reduced;
      below = λ m b. findings_below family m (λ k w. occurs_below m k cs pl b (occurs k w)) f.places.items h.trees;
      tests = λ k d lt j w. occurs j ((h.trees k d lt).tests j w);
      alarm_tests = λ k d lt j w. occurs j ((h.alarm_trees k d lt).tests j w);
    }

-- ---- runs

pub variant_runs : (M : LeafMeaning) → LeafLaws M → (o : Options) → TransferAnswers M o.mode → TransferHolds M o.mode → (p : Whole) → IsProgram p → (cs : List Formula) (pl : Formula) (v : List Bool)
    → RunsForeseen M o (variant_at p cs v) (begin_at M p cs pl v)
variant_runs M laws o A T p program cs pl v =
    let ts = truths_of cs v in
    analysis_foresees M laws o A T (variant_at p cs v) (begin_at M p cs pl v) (IsProgram-projected ts p program) (record { body = IsPlain-projected ts p.body; declared = refl })
    (valid (true_on v (formula pl))) (count (true_on v (formula pl)))
  where
    valid : (b : Bool) → M.valid (if b then M.start (variant_at p cs v).start else nothing_of (length p.names))
    valid true =
        laws.start_valid (projected_start (truths_of cs v) p.declared p.start) (subst (λ n. n ≤ 48) (sym (length-start (truths_of cs v) p.declared 0 p.start ∙ program.starts)) program.few)
        (ints-start (truths_of cs v) p.declared (length p.names) 0 p.start program.declared program.ints)
    valid false = laws.nothing_valid (length p.names) program.few

    count : (b : Bool) → (if b then M.start (variant_at p cs v).start else nothing_of (length p.names)).variables ≡ length p.names
    count true = laws.start_variables (projected_start (truths_of cs v) p.declared p.start) ∙ (length-start (truths_of cs v) p.declared 0 p.start ∙ program.starts)
    count false = refl
