-- A walk makes one node for each pair of subtrees.
use Rattle.std.proofs.Common.{◌≡◌, ℕ, ◌+◌, ◌*◌, ◌<◌, ◌≤◌, min, Bool, true, false, cond, List, [], ◌∷◌, ◌++◌, length, refl, sym, ◌∙◌, ap, subst, arith, Result, Ok, Err, IfOk, None, Some}
use Rattle.std.specs.Map.{lookup, keys_of}
use Rattle.indexmap.specs.IndexMap.{insert_entry}
use Rattle.decision_tree.specs.declared.tree.Tree.{Tree}
use Rattle.decision_tree.specs.Plain.{Plain}
use Rattle.decision_tree.specs.Numbered.{Numbered, erase, root, IsWithin, IsNumbered}
use Rattle.decision_tree.specs.View.{numbered}
use Rattle.decision_tree.proofs.Places.{length-mapped}
use Rattle.tree_unify.specs.declared.memo.Pair.{Pair}
use Rattle.tree_unify.specs.Known.{IsWalked}
use Rattle.tree_unify.specs.Made.{same_pair, IsNoted, IsPairOf, IsTally, IsNotedWithin}
use Rattle.tree_unify.specs.Sides.{first_of, side_of, node_count}
use Rattle.tree_unify.specs.Subtrees.{HoldsSubtrees}
use Rattle.tree_unify.proofs.Bound.{walk_bound}
use Rattle.tree_unify.proofs.Making.{counted_leaf}
use Rattle.tree_unify.proofs.Pairs.{fewer_of_two}
use Rattle.tree_unify.proofs.Places.{inserted_last}
use Rattle.tree_unify.proofs.Remembered.{pair_left, pair_right, tally_empty, tally_added, tally_pushed}
use Rattle.tree_unify.proofs.Within.{within_both, within_self, count_within}

pub on_ok : {X E : Type 0} (r : Result X E) (Q : Type 0) → Q → IfOk r (λ _. Q)
on_ok (Ok x) Q h = h
on_ok (Err e) Q h = tt

pushed : {X : Type 0} (zs : List X) (z : X) → length (zs ++ z ∷ []) ≡ length zs + 1
pushed [] z = refl
pushed (a ∷ zs) z = let g = pushed zs z in omega arith

-- a key that an entry more does not have
missing : {K X : Type 0} (f : K → Bool) (es : List (K × X)) (k : K) (v : X) → lookup f es ≡ None → f k ≡ false → lookup f (es ++ (k, v) ∷ []) ≡ None
missing f [] k v n e = ap (λ b. cond b (Some v) None) e
missing f (d ∷ es) k v n e = by_test (f d.0) (missing f es k v) n
  where
    by_test : (b : Bool) → (lookup f es ≡ None → f k ≡ false → lookup f (es ++ (k, v) ∷ []) ≡ None) → cond b (Some d.1) (lookup f es) ≡ None → cond b (Some d.1) (lookup f (es ++ (k, v) ∷ [])) ≡ None
    by_test true rest m = cc
    by_test false rest m = rest m e

by_false : (b : Bool) → (b ≡ true → ⊥) → b ≡ false
by_false true h = absurd (h refl)
by_false false h = refl

pub walked_empty : {A B C : Type 0} (t : Numbered A) (u : Numbered B) (es : List (Pair × Tree C)) → es ≡ [] → IsWalked t u es
walked_empty t u es none = record { tally = tally_empty es none }

pub noted_none : {A B C : Type 0} (t : Numbered A) (u : Numbered B) (es fs : List (Pair × Tree C)) → fs ≡ es → IsNotedWithin t u es fs
noted_none t u es fs e = record { others = λ p h n. subst (λ gs. lookup (same_pair p) gs ≡ None) (sym e) n }

-- what is known already is a pair of subtrees for each entry
pub walk_known : {A B C : Type 0} (t : Numbered A) (u : Numbered B) (es fs : List (Pair × Tree C)) (s d : ℕ) → IsNumbered t → IsNumbered u → IsWalked t u es → d ≡ s
    → (xs : List (Plain A)) (ys : List (Plain B)) → HoldsSubtrees xs (erase t) → HoldsSubtrees ys (erase u) → d + length es ≤ s + length xs * length ys
walk_known t u es fs s d ht hu h e xs ys hx hy =
    let f : length (keys_of es) ≤ length xs * length ys = walk_bound t u (keys_of es) ht hu xs ys h.tally hx hy in
    let k : length (keys_of es) ≡ length es = length-mapped (λ (a : Pair × Tree _). a.0) es in
    omega arith

module _ {A B : Type 0} (t : Numbered A) (u : Numbered B) where
  -- a pair of subtrees, with fewer nodes in all
  pub record AreSides (s : Numbered A) (w : Numbered B) : Type 0 where
    pub first : IsWithin s t
    pub second : IsWithin w u
    pub fewer : node_count (erase s) + node_count (erase w) < node_count (erase t) + node_count (erase u)

  pub sides : (k : ℕ) (value : Bool) (s : Numbered A) (w : Numbered B) → k ≡ min (first_of (erase t)) (first_of (erase u)) → k < 320
      → IsWithin s t → IsWithin w u → erase s ≡ side_of k value (erase t) → erase w ≡ side_of k value (erase u) → AreSides s w
  sides k value s w e lt v x f g = record {
    first = v;
    second = x;
    fewer = subst (λ a. node_count a + node_count (erase w) < node_count (erase t) + node_count (erase u)) (sym f) (subst (λ b. node_count (side_of k value (erase t)) + node_count b < node_count (erase t) + node_count (erase u)) (sym g) (fewer_of_two (erase t) (erase u) k value e lt));
  }

  -- a pair of subtrees of the sides is one of the trees
  wider : (s : Numbered A) (w : Numbered B) (q : Pair) → AreSides s w → IsPairOf s w q → IsPairOf t u q
  wider s w q a h = record {
    first = h.first;
    second = h.second;
    first_within = within_both h.first s t h.first_within a.first;
    second_within = within_both h.second w u h.second_within a.second;
    left = h.left;
    right = h.right;
  }

  module _ (T : Numbered A) (U : Numbered B) (ht : IsNumbered T) (hu : IsNumbered U) (vt : IsWithin t T) (vu : IsWithin u U) (p : Pair) (left : p.left ≡ root t) (right : p.right ≡ root u) where
    pub pair_of : IsPairOf T U p
    pair_of = record { first = t; second = u; first_within = vt; second_within = vu; left = left; right = right }

    -- the pair is none of subtrees of the sides
    not_of_sides : (s : Numbered A) (w : Numbered B) → AreSides s w → IsPairOf s w p → ⊥
    not_of_sides s w a h =
        let e : erase t ≡ erase h.first = (ht.tells t h.first vt (within_both h.first t T (within_both h.first s t h.first_within a.first) vt)).0 (sym left ∙ h.left) in
        let f : erase u ≡ erase h.second = (hu.tells u h.second vu (within_both h.second u U (within_both h.second w u h.second_within a.second) vu)).0 (sym right ∙ h.right) in
        let i : node_count (erase t) ≤ node_count (erase s) = subst (λ x. node_count x ≤ node_count (erase s)) (sym e) (count_within s h.first h.first_within) in
        let j : node_count (erase u) ≤ node_count (erase w) = subst (λ x. node_count x ≤ node_count (erase w)) (sym f) (count_within w h.second h.second_within) in
        absurd (omega (arith, a.fewer))

    module _ {C : Type 0} (es fs gs : List (Pair × Tree C)) (s0 s1 : Numbered A) (w0 w1 : Numbered B) (a : AreSides s0 w0) (b : AreSides s1 w1) (m : IsNotedWithin s0 w0 es fs) (n : IsNotedWithin s1 w1 fs gs) where
      -- so it is not known behind them, where it was not before
      pub still_new : lookup (same_pair p) es ≡ None → lookup (same_pair p) gs ≡ None
      still_new none = n.others p (not_of_sides s1 w1 b) (m.others p (not_of_sides s0 w0 a) none)

      module _ {E : Type 0} (hs : List (Pair × Tree C)) (made : Result (Tree C) E) (new : lookup (same_pair p) es ≡ None) where
        pub noted_within : IfOk made (λ r. IsNoted p (numbered r) gs hs) → IfOk made (λ _. IsNotedWithin t u es hs)
        noted_within =
            elim made as (λ o. IfOk o (λ r. IsNoted p (numbered r) gs hs) → IfOk o (λ _. IsNotedWithin t u es hs)) [
              | Ok r ↦ λ h. record {
                others = λ q apart none. subst (λ xs. lookup (same_pair q) xs ≡ None) (sym (h.entries ∙ inserted_last same_pair p h.tree gs (still_new new)))
                    (missing (same_pair q) gs p h.tree (n.others q (λ x. apart (wider s1 w1 q b x)) (m.others q (λ x. apart (wider s0 w0 q a x)) none)) (by_false (same_pair q p) (λ e. apart (same q e))));
              }
              | Err x ↦ λ _. tt
            ]
          where
            same : (q : Pair) → same_pair q p ≡ true → IsPairOf t u q
            same q e = record { first = t; second = u; first_within = within_self t; second_within = within_self u; left = pair_left q p e ∙ left; right = pair_right q p e ∙ right }

        pub walked_node : IsWalked T U gs → IfOk made (λ r. IsNoted p (numbered r) gs hs) → IfOk made (λ _. IsWalked T U hs)
        walked_node k =
            elim made as (λ o. IfOk o (λ r. IsNoted p (numbered r) gs hs) → IfOk o (λ _. IsWalked T U hs)) [
              | Ok r ↦ λ h. record { tally = subst (λ xs. IsTally (IsPairOf T U) (keys_of xs)) (sym h.entries) (tally_added gs p h.tree k.tally pair_of (still_new new)) }
              | Err x ↦ λ _. tt
            ]

        pub counted_node : (s d f : ℕ) → d + length es ≡ s + length gs → f ≡ d + 1 → IfOk made (λ r. IsNoted p (numbered r) gs hs) → IfOk made (λ _. f + length es ≡ s + length hs)
        counted_node s d f e g h =
            let k = counted_leaf gs hs made p d f (still_new new) g h in
            elim made as (λ o. IfOk o (λ _. f + length gs ≡ d + length hs) → IfOk o (λ _. f + length es ≡ s + length hs)) [ Ok r ↦ λ i. omega arith | Err x ↦ λ _. tt ] k

        pub room_for_node : (s d f : ℕ) → IsWalked T U gs → d + length es ≡ s + length gs → f ≡ d + 1
            → (xs : List (Plain A)) (ys : List (Plain B)) → HoldsSubtrees xs (erase T) → HoldsSubtrees ys (erase U) → f + length es ≤ s + length xs * length ys
        room_for_node s d f k e g xs ys hx hy =
            let one = tally_pushed gs p k.tally pair_of (still_new new) in
            let i : length (keys_of gs ++ p ∷ []) ≤ length xs * length ys = walk_bound T U (keys_of gs ++ p ∷ []) ht hu xs ys one hx hy in
            let j : length (keys_of gs ++ p ∷ []) ≡ length gs + 1 = pushed (keys_of gs) p ∙ ap (λ n. n + 1) (length-mapped (λ (x : Pair × Tree C). x.0) gs) in
            omega arith
