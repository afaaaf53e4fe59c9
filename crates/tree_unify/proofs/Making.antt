-- Trees that are made of two trees, and noted.
use Rattle.std.proofs.Common.{◌≡◌, ℕ, ◌+◌, ◌*◌, ◌<◌, ◌≤◌, min, Bool, true, false, List, [], ◌∷◌, ◌++◌, cond, length, refl, sym, ◌∙◌, ap, subst, inl, inr, arith, Result, Ok, Err, IfOk, None, Some}
use Rattle.std.proofs.lemmas.Result.{IfOk-weaker}
use Rattle.std.specs.Map.{lookup, keys_of}
use Rattle.std.proofs.lemmas.Bool.Decides.{eqb_tells}
use Rattle.decision_tree.specs.declared.tree.Tree.{Tree}
use Rattle.decision_tree.specs.Plain.{Plain, leaf, node, leaf_of, IsNodeOf, IsReduced, IsReducedFrom, TestsBelow}
use Rattle.decision_tree.specs.Numbered.{Numbered, kept, erase, root, IsWithin, IsNumbered}
use Rattle.decision_tree.specs.Listed.{IsOf, Keeps, IsNumberedTree, IsTreeIn}
use Rattle.decision_tree.specs.View.{numbered, plain}
use Rattle.decision_tree.proofs.Reached.{reached, has_leaf_of}
use Rattle.decision_tree.proofs.Reduced.{lower_bound, tests_below, test_below}
use Rattle.decision_tree.proofs.Nodes.{reduced_of_made, leads_of_made}
use Rattle.decision_tree.proofs.Places.{length-mapped}
use Rattle.tree_unify.specs.declared.memo.Pair.{Pair}
use Rattle.tree_unify.specs.Known.{IsKnown}
use Rattle.tree_unify.specs.Leafwise.{IsUnified, LeavesComeFromBoth, TestsAreOfEither}
use Rattle.tree_unify.specs.Leaves.{HoldsLeaves}
use Rattle.tree_unify.specs.Made.{same_pair, IsMade, IsMemo, IsNoted, IsPairOfLeaves, IsTally}
use Rattle.tree_unify.specs.Sides.{first_of, side_of}
use Rattle.tree_unify.proofs.Bound.{tally_bound}
use Rattle.tree_unify.proofs.Places.{inserted_last}
use Rattle.tree_unify.proofs.Remembered.{memo_empty, tally_empty, memo_kept, memo_added, memo_found, tally_added, tally_pushed}
use Rattle.tree_unify.proofs.SideLemmas.{small_side, pick, split_of_sides}
use Rattle.tree_unify.proofs.Unified.{unified_of_sides, tests_of_made}
use Rattle.tree_unify.proofs.Pairs.{has_of_two}

-- the leaf that an operation gives
pub made_leaf : {A B C : Type 0} (P : A → B → C → Type 0) (z : C) (forest : List (Plain C)) (a : A) (b : B) (r : Numbered C) → P a b z → erase r ≡ leaf z → IsOf forest r → IsMade P forest (leaf a) (leaf b) r
made_leaf P z forest a b r h same own = record {
  unified = subst (IsUnified P (leaf a) (leaf b)) (sym same) (record { at_each = λ v. h });
  reduced = λ m p q. subst (IsReducedFrom m) (sym same) tt;
  tests = subst (TestsAreOfEither (leaf a) (leaf b)) (sym same) (record { each = λ k w. absurd w });
  own = own;
}

module _ {L : Type 0} where
  -- the sides at a test that is not above the first one have their tests above it
  pub side_above : (t : Plain L) (k : ℕ) (value : Bool) → IsReduced t → k ≤ first_of t → IsReducedFrom (k + 1) (side_of k value t)
  side_above (leaf x) k value r h = tt
  side_above (node test low high) k value r h =
      elim (eqb_tells test k) [
        | inl e ↦ subst (λ b. IsReducedFrom (k + 1) (cond b (cond value high low) (node test low high))) (sym e.0) (subst (λ j. IsReducedFrom (j + 1) (cond value high low)) e.1 (chosen value))
        | inr e ↦ subst (λ b. IsReducedFrom (k + 1) (cond b (cond value high low) (node test low high))) (sym e.0) (above e.1, r.1, r.2, r.3)
      ]
    where
      chosen : (b : Bool) → IsReducedFrom (test + 1) (cond b high low)
      chosen true = r.3
      chosen false = r.2

      above : (test ≡ k → ⊥) → k + 1 ≤ test
      above ne = omega arith

  first_above : (t : Plain L) (m k : ℕ) → IsReducedFrom m t → first_of t ≡ k → k < 320 → m ≤ k
  first_above (leaf x) m k r e h = absurd (omega arith)
  first_above (node test low high) m k r e h = omega (arith, r.0)

least_left : (a b k : ℕ) → k ≡ min a b → k ≤ a
least_left a b k e = omega arith

least_right : (a b k : ℕ) → k ≡ min a b → k ≤ b
least_right a b k e = omega arith

bound_of_two : {A B : Type 0} (t : Plain A) (u : Plain B) (m k : ℕ) → k ≡ min (first_of t) (first_of u) → k < 320 → IsReducedFrom m t → IsReducedFrom m u → m ≤ k
bound_of_two t u m k e lt ht hu = elim (pick (first_of t) (first_of u) k e) [ inl j ↦ first_above t m k ht j lt | inr j ↦ first_above u m k hu j lt ]

leaf_pair : {A B : Type 0} {t : Numbered A} {u : Numbered B} (p : Pair) (m n : ℕ) (x : A) (y : B) → p.left ≡ m → p.right ≡ n → IsWithin (kept m x) t → IsWithin (kept n y) u → IsPairOfLeaves t u p
leaf_pair {t} {u} p m n x y l k v w = record { first = x; second = y; left = subst (λ i. IsWithin (kept i x) t) (sym l) v; right = subst (λ i. IsWithin (kept i y) u) (sym k) w }

-- a new pair counts one
pub counted_leaf : {C E : Type 0} (es fs : List (Pair × Tree C)) (made : Result (Tree C) E) (p : Pair) (s d : ℕ) → lookup (same_pair p) es ≡ None → d ≡ s + 1 → IfOk made (λ r. IsNoted p (numbered r) es fs) → IfOk made (λ _. d + length es ≡ s + length fs)
counted_leaf es fs made p s d none e =
    elim made as (λ o. IfOk o (λ r. IsNoted p (numbered r) es fs) → IfOk o (λ _. d + length es ≡ s + length fs)) [
      | Ok r ↦ λ b. let f : length fs ≡ length es + 1 = ap length (b.entries ∙ inserted_last same_pair p b.tree es none) ∙ pushed es (p, b.tree) in omega arith
      | Err x ↦ λ _. tt
    ]
  where
    pushed : {X : Type 0} (xs : List X) (x : X) → length (xs ++ x ∷ []) ≡ length xs + 1
    pushed [] x = refl
    pushed (y ∷ xs) x = let h = pushed xs x in omega arith

module _ {A B C : Type 0} {P : A → B → C → Type 0} where
  -- what is made of the sides may be the side of a node
  pub side_made : {forest : List (Plain C)} (t : Plain A) (u : Plain B) (k : ℕ) (value : Bool) (s : Plain A) (w : Plain B) (r : Numbered C) → IsReduced t → IsReduced u → k ≡ min (first_of t) (first_of u) → s ≡ side_of k value t → w ≡ side_of k value u → IsMade P forest s w r → IsReducedFrom (k + 1) (erase r)
  side_made t u k value s w r ht hu e f g h =
      h.reduced (k + 1) (subst (IsReducedFrom (k + 1)) (sym f) (side_above t k value ht (least_left (first_of t) (first_of u) k e)))
      (subst (IsReducedFrom (k + 1)) (sym g) (side_above u k value hu (least_right (first_of t) (first_of u) k e)))

  pub side_tree : {forest : List (Plain C)} (t : Plain A) (u : Plain B) (k : ℕ) (value : Bool) (s : Plain A) (w : Plain B) (r : Numbered C) → TestsBelow 320 t → TestsBelow 320 u → IsReduced t → IsReduced u → k ≡ min (first_of t) (first_of u) → s ≡ side_of k value t → w ≡ side_of k value u → IsMade P forest s w r → IsTreeIn (k + 1) 320 forest r
  side_tree t u k value s w r bt bu ht hu e f g h =
      let bs : TestsBelow 320 s = subst (TestsBelow 320) (sym f) (small_side t 320 k value bt) in
      let bw : TestsBelow 320 w = subst (TestsBelow 320) (sym g) (small_side u 320 k value bu) in
      record {
        reduced = side_made t u k value s w r ht hu e f g h;
        small = tests_below 320 (erase r) (λ j x. elim (h.tests.each j x) [ inl y ↦ test_below 320 j s bs y | inr y ↦ test_below 320 j w bw y ]);
        own = h.own;
      }

  -- the node that is made of the sides
  pub made_node : {before middle after : List (Plain C)} (t s0 s1 : Plain A) (u w0 w1 : Plain B) (k : ℕ) (p q r : Numbered C) → k ≡ min (first_of t) (first_of u) → k < 320
      → s0 ≡ side_of k false t → s1 ≡ side_of k true t → w0 ≡ side_of k false u → w1 ≡ side_of k true u
      → IsReducedFrom (k + 1) (erase p) → IsReducedFrom (k + 1) (erase q)
      → IsMade P before s0 w0 p → IsMade P middle s1 w1 q → IsNodeOf k (erase p) (erase q) (erase r) → IsOf after r → IsMade P after t u r
  made_node t s0 s1 u w0 w1 k p q r e lt f0 f1 g0 g1 rp rq hp hq made own =
      let st = split_of_sides t k s0 s1 f0 f1 in
      let su = split_of_sides u k w0 w1 g0 g1 in
      record {
        unified = unified_of_sides {P = P} k t s0 s1 u w0 w1 (erase p) (erase q) (erase r) st su hp.unified hq.unified (leads_of_made k (erase p) (erase q) (erase r) made);
        reduced = λ m ht hu. lower_bound (erase r) k m (bound_of_two t u m k e lt ht hu) (reduced_of_made k (erase p) (erase q) (erase r) rp rq made);
        tests = record { each = tests_of_made k t s0 s1 u w0 w1 (erase p) (erase q) (erase r) st su (has_of_two t u k e lt) hp.tests hq.tests made };
        own = own;
      }

  known_kept : {before after : List (Plain C)} {t : Numbered A} {u : Numbered B} {ls ns : List (Pair × Tree C)} → Keeps before after → IsKnown P before t u ls ns → IsKnown P after t u ls ns
  known_kept k h = record { of_leaves = memo_kept k h.of_leaves; of_nodes = memo_kept k h.of_nodes; tally = h.tally }

  noted_memo : {forest : List (Plain C)} {t : Numbered A} {u : Numbered B} {es fs : List (Pair × Tree C)} (p : Pair) (r : Numbered C) (a : Numbered A) (b : Numbered B) → IsNumbered t → IsNumbered u → IsMemo P forest t u es → IsWithin a t → IsWithin b u → p.left ≡ root a → p.right ≡ root b → IsMade P forest (erase a) (erase b) r → IsNoted p r es fs → IsMemo P forest t u fs
  noted_memo {forest} {t} {u} {es} {fs} p r a b ht hu h v w l k made noted =
      subst (IsMemo P forest t u) (sym noted.entries) (memo_added p noted.tree a b ht hu h v w l k (subst (IsMade P forest (erase a) (erase b)) (sym noted.same) made))

  -- one more node is known
  pub known_node : {E : Type 0} {before after : List (Plain C)} {t : Numbered A} {u : Numbered B} (ls es fs : List (Pair × Tree C)) (made : Result (Tree C) E) (p : Pair) (a : Numbered A) (b : Numbered B) → IsNumbered t → IsNumbered u → Keeps before after → IsKnown P before t u ls es → IsWithin a t → IsWithin b u → p.left ≡ root a → p.right ≡ root b
      → IfOk made (λ r. IsMade P after (erase a) (erase b) (numbered r)) → IfOk made (λ r. IsNoted p (numbered r) es fs) → IfOk made (λ _. IsKnown P after t u ls fs)
  known_node {E} {before} {after} {t} {u} ls es fs made p a b ht hu k h v w l m =
      elim made as (λ o. IfOk o (λ r. IsMade P after (erase a) (erase b) (numbered r)) → IfOk o (λ r. IsNoted p (numbered r) es fs) → IfOk o (λ _. IsKnown P after t u ls fs)) [
        | Ok r ↦ λ x y. record { of_leaves = memo_kept k h.of_leaves; of_nodes = noted_memo p (numbered r) a b ht hu (memo_kept k h.of_nodes) v w l m x y; tally = h.tally }
        | Err e ↦ λ _ _. tt
      ]

  -- one more leaf is known
  pub known_leaf : {E : Type 0} {before after : List (Plain C)} {t : Numbered A} {u : Numbered B} (es fs ns : List (Pair × Tree C)) (made : Result (Tree C) E) (p : Pair) (m n : ℕ) (x : A) (y : B) → IsNumbered t → IsNumbered u → Keeps before after → IsKnown P before t u es ns → lookup (same_pair p) es ≡ None → IsWithin (kept m x) t → IsWithin (kept n y) u → p.left ≡ m → p.right ≡ n
      → IfOk made (λ r. IsMade P after (leaf x) (leaf y) (numbered r)) → IfOk made (λ r. IsNoted p (numbered r) es fs) → IfOk made (λ _. IsKnown P after t u fs ns)
  known_leaf {E} {before} {after} {t} {u} es fs ns made p m n x y ht hu k h none v w l j =
      elim made as (λ o. IfOk o (λ r. IsMade P after (leaf x) (leaf y) (numbered r)) → IfOk o (λ r. IsNoted p (numbered r) es fs) → IfOk o (λ _. IsKnown P after t u fs ns)) [
        | Ok r ↦ λ a b. record {
          of_leaves = noted_memo p (numbered r) (kept m x) (kept n y) ht hu (memo_kept k h.of_leaves) v w l j a b;
          of_nodes = memo_kept k h.of_nodes;
          tally = subst (λ ds. IsTally (IsPairOfLeaves t u) (keys_of ds)) (sym b.entries) (tally_added es p b.tree h.tally (leaf_pair p m n x y l j v w) none);
        }
        | Err e ↦ λ _ _. tt
      ]

  -- and there is room for it
  pub bounded_leaf : {forest : List (Plain C)} (t : Numbered A) (u : Numbered B) (es ns : List (Pair × Tree C)) (p : Pair) (m n : ℕ) (x : A) (y : B) (s d : ℕ) → IsNumbered t → IsNumbered u → IsKnown P forest t u es ns → lookup (same_pair p) es ≡ None → IsWithin (kept m x) t → IsWithin (kept n y) u → p.left ≡ m → p.right ≡ n → d ≡ s + 1
      → (xs : List A) (ys : List B) → HoldsLeaves xs (erase t) → HoldsLeaves ys (erase u) → d + length es ≤ s + length xs * length ys
  bounded_leaf t u es ns p m n x y s d ht hu h none v w l j e xs ys hx hy =
      let one = tally_pushed es p h.tally (leaf_pair p m n x y l j v w) none in
      let f : length (keys_of es ++ p ∷ []) ≤ length xs * length ys = tally_bound t u (keys_of es ++ p ∷ []) ht hu xs ys one hx hy in
      let k : length (keys_of es ++ p ∷ []) ≡ length es + 1 = pushed (keys_of es) p ∙ ap (λ i. i + 1) (length-mapped (λ (a : Pair × Tree C). a.0) es) in
      omega arith
    where
      pushed : {X : Type 0} (zs : List X) (z : X) → length (zs ++ z ∷ []) ≡ length zs + 1
      pushed [] z = refl
      pushed (a ∷ zs) z = let g = pushed zs z in omega arith

  pub bounded_known : {forest : List (Plain C)} (t : Numbered A) (u : Numbered B) (es ns : List (Pair × Tree C)) (s : ℕ) → IsNumbered t → IsNumbered u → IsKnown P forest t u es ns
      → (xs : List A) (ys : List B) → HoldsLeaves xs (erase t) → HoldsLeaves ys (erase u) → s + length es ≤ s + length xs * length ys
  bounded_known t u es ns s ht hu h xs ys hx hy =
      let f : length (keys_of es) ≤ length xs * length ys = tally_bound t u (keys_of es) ht hu xs ys h.tally hx hy in
      let k : length (keys_of es) ≡ length es = length-mapped (λ (a : Pair × Tree C). a.0) es in
      omega arith

  -- what is found for a pair
  pub made_found : {E : Type 0} {forest : List (Plain C)} {t : Numbered A} {u : Numbered B} {es : List (Pair × Tree C)} (shared : Result (Tree C) E) (p : Pair) (r : Tree C) (a : Numbered A) (b : Numbered B) → IsMemo P forest t u es → lookup (same_pair p) es ≡ Some r → IsWithin a t → IsWithin b u → p.left ≡ root a → p.right ≡ root b → IfOk shared (λ s. numbered s ≡ numbered r) → IfOk shared (λ s. IsMade P forest (erase a) (erase b) (numbered s))
  made_found {E} {forest} shared p r a b h there v w l k =
      let m = memo_found p r a b h there v w l k in
      IfOk-weaker shared (λ s. numbered s ≡ numbered r) (λ s. IsMade P forest (erase a) (erase b) (numbered s)) (λ s e. subst (IsMade P forest (erase a) (erase b)) (sym e) m)

  -- the same, of what a call answers
  pub made_node_ok : {E : Type 0} {before middle : List (Plain C)} (after : List (Plain C)) (made : Result (Tree C) E) (t s0 s1 : Plain A) (u w0 w1 : Plain B) (k : ℕ) (p q : Numbered C) → k ≡ min (first_of t) (first_of u) → k < 320
      → s0 ≡ side_of k false t → s1 ≡ side_of k true t → w0 ≡ side_of k false u → w1 ≡ side_of k true u
      → IsReduced t → IsReduced u → IsMade P before s0 w0 p → IsMade P middle s1 w1 q
      → IfOk made (λ r. IsNodeOf k (erase p) (erase q) (plain r)) → IfOk made (λ r. IsOf after (numbered r)) → IfOk made (λ r. IsMade P after t u (numbered r))
  made_node_ok {E} {before} {middle} after made t s0 s1 u w0 w1 k p q e lt f0 f1 g0 g1 ht hu hp hq =
      elim made as (λ o. IfOk o (λ r. IsNodeOf k (erase p) (erase q) (plain r)) → IfOk o (λ r. IsOf after (numbered r)) → IfOk o (λ r. IsMade P after t u (numbered r))) [
        | Ok r ↦ λ m own. made_node t s0 s1 u w0 w1 k p q (numbered r) e lt f0 f1 g0 g1 (side_made t u k false s0 w0 p ht hu e f0 g0 hp) (side_made t u k true s1 w1 q ht hu e f1 g1 hq) hp hq m own
        | Err x ↦ λ _ _. tt
      ]

  -- nothing is known yet
  pub known_empty : (forest : List (Plain C)) (t : Numbered A) (u : Numbered B) (ls ns : List (Pair × Tree C)) → ls ≡ [] → ns ≡ [] → IsKnown P forest t u ls ns
  known_empty forest t u ls ns e f = record { of_leaves = memo_empty ls e; of_nodes = memo_empty ns f; tally = tally_empty ls e }

leaves_come : {A B C : Type 0} {P : A → B → C → Type 0} (t : Plain A) (u : Plain B) (r : Plain C) → IsUnified P t u r → IsReduced r → TestsBelow 320 r → LeavesComeFromBoth P t u r
leaves_come {P = P} t u r m reduced small = record {
  each = λ z w.
      let v = reached 320 r z reduced small w in
      (leaf_of t v.0, leaf_of u v.0, has_leaf_of t v.0, has_leaf_of u v.0, subst (P (leaf_of t v.0) (leaf_of u v.0)) v.2 (m.at_each v.0));
}

module _ {A B C E : Type 0} (P : A → B → C → Type 0) (forest : List (Plain C)) (made : Result (Tree C) E) where
  abbrev MadeOf : Plain A → Plain B → Type 0
  MadeOf t u = IfOk made (λ r. IsMade P forest t u (numbered r))

  pub made_at_leaves : (t : Plain A) (u : Plain B) (x : A) (y : B) → t ≡ leaf x → u ≡ leaf y → MadeOf (leaf x) (leaf y) → MadeOf t u
  made_at_leaves t u x y e f h = subst (λ s. MadeOf s u) (sym e) (subst (λ s. MadeOf (leaf x) s) (sym f) h)

  pub made_unified : (t : Plain A) (u : Plain B) → MadeOf t u → IfOk made (λ r. IsUnified P t u (plain r))
  made_unified t u h = IfOk-weaker made (λ r. IsMade P forest t u (numbered r)) (λ r. IsUnified P t u (plain r)) (λ r m. m.unified) h

  -- a tree in the forest, as both operands are trees
  pub made_tree : (t : Numbered A) (u : Numbered B) → IsNumberedTree 0 320 t → IsNumberedTree 0 320 u → MadeOf (erase t) (erase u) → IfOk made (λ r. IsTreeIn 0 320 forest (numbered r))
  made_tree t u ht hu h =
      IfOk-weaker made (λ r. IsMade P forest (erase t) (erase u) (numbered r)) (λ r. IsTreeIn 0 320 forest (numbered r))
      (λ r m. record {
        reduced = m.reduced 0 ht.reduced hu.reduced;
        small = tests_below 320 (plain r) (λ k w. elim (m.tests.each k w) [ inl x ↦ test_below 320 k (erase t) ht.small x | inr y ↦ test_below 320 k (erase u) hu.small y ]);
        own = m.own;
      }) h

  -- each leaf of it is reached by a vector, and so comes from those of the operands there
  pub made_leaves : (t : Numbered A) (u : Numbered B) → IsNumberedTree 0 320 t → IsNumberedTree 0 320 u → MadeOf (erase t) (erase u) → IfOk made (λ r. LeavesComeFromBoth P (erase t) (erase u) (plain r))
  made_leaves t u ht hu h =
      IfOk-weaker made (λ r. IsMade P forest (erase t) (erase u) (numbered r)) (λ r. LeavesComeFromBoth P (erase t) (erase u) (plain r))
      (λ r m. leaves_come (erase t) (erase u) (plain r) m.unified (m.reduced 0 ht.reduced hu.reduced)
      (tests_below 320 (plain r) (λ k w. elim (m.tests.each k w) [ inl x ↦ test_below 320 k (erase t) ht.small x | inr y ↦ test_below 320 k (erase u) hu.small y ]))) h

  pub made_tests : (t : Plain A) (u : Plain B) → MadeOf t u → IfOk made (λ r. TestsAreOfEither t u (plain r))
  made_tests t u h = IfOk-weaker made (λ r. IsMade P forest t u (numbered r)) (λ r. TestsAreOfEither t u (plain r)) (λ r m. m.tests) h
