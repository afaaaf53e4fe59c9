-- A lifted domain of one variable holds only the stores that it must; its order is that of its stores, and its join is the least.
use Rattle.std.proofs.Common.{◌≡◌, ℕ, zero, suc, ◌<◌, ℤ, Bool, true, false, if◌then◌else◌, List, [], ◌∷◌, Option, Some, None, length, map, slice_set, refl, sym, ap, subst, ◌∙◌, arith}
use Rattle.std.specs.List.{AllByRecursion, list_any, zip}
use Rattle.leaf_domain.specs.declared.range.Range.{Range}
use Rattle.leaf_domain.specs.Ranges.{Within}
use Rattle.leaf_domain.specs.Leaves.{LeafValue, nothing_of, at_store}
use Rattle.leaf_domain.specs.Exactness.{LeafExactness, IsStorePut}
use Rattle.leaf_domain.proofs.Variables.{length_replaced, held_length}
use Rattle.leaf_domain.proofs.OnlyHeld.{replaced_back, both_pass, put_at, put_back, put_other, made_only, inside_passes}
use Rattle.nonrelational_leaf.specs.Parts.{PartMeaning}
use Rattle.nonrelational_leaf.specs.PartLaws.{PartLaws, PartExactness}
use Rattle.nonrelational_leaf.specs.Exact.{IsOrderedByStores, JoinIsLeast}
use Rattle.nonrelational_leaf.specs.Lifted.{reduced_by, all_reduced_by, AllOwn, AllHave, best_part, all_best, part_at, leaf_of, IsLeaf, ContentHolds, leaf_holds, settled, joined_all, narrowed_all, leaf_leq, joined_leaf, narrowed_leaf, leaf_with, met_leaf, set_leaf, lifted}
use Rattle.nonrelational_leaf.proofs.PartLists as lists
use Rattle.nonrelational_leaf.proofs.LiftedLaws.{at, below_of, made_back, second_best, some_holds, lifted_laws}

module _ {P : Type 0} (D : PartMeaning P) (L : PartLaws D) (E : PartExactness D) where
  -- ---- one variable
  -- where a leaf with another part for a variable holds a store, so do its parts
  with_back : (n : ℕ) (us : List ℤ) (x : ℕ) (p : P) (s : List ℤ) → leaf_holds D (leaf_with D (at n (Some us)) x p) s → (D.is_bare p ≡ false) × AllHave D (slice_set (D.parts us) x p) s
  with_back n us x p s = by_test (D.is_bare p) refl
    where
      by_test : (t : Bool) → D.is_bare p ≡ t → leaf_holds D (if t then nothing_of n else leaf_of D (all_best D (slice_set (D.parts us) x p))) s → (D.is_bare p ≡ false) × AllHave D (slice_set (D.parts us) x p) s
      by_test true e h = absurd h
      by_test false e h = (e, lists.best_back D L (slice_set (D.parts us) x p) s (made_back D L (all_best D (slice_set (D.parts us) x p)) s h))

  meet_only : (n : ℕ) (c : Option (List ℤ)) (x : ℕ) (r : Range) (s : List ℤ) → IsLeaf D (at n c) → x < n → leaf_holds D (met_leaf D (at n c) x r) s → ContentHolds D c s × Within (at_store s x) r
  meet_only n None x r s p l h = absurd h
  meet_only n (Some us) x r s p l h =
      let k : x < length (D.parts us) = below_of x n (length (D.parts us)) l p.1.1 in
      let m : P = D.meet_range (part_at D (D.parts us) x) r in
      let (e, w) = with_back n us x m s h in
      let (i, j) = E.meet_only (part_at D (D.parts us) x) r (at_store s x) e (put_at D.has (D.parts us) s x m k w) in
      (put_back D.has D.bare (D.parts us) s x m k w i, j)

  set_only : (n : ℕ) (c : Option (List ℤ)) (x : ℕ) (r : Range) (s : List ℤ) → IsLeaf D (at n c) → x < n → leaf_holds D (set_leaf D (at n c) x r) s → IsStorePut (lifted D) (at n c) x r s
  set_only n None x r s p l h = absurd h
  set_only n (Some us) x r s p l h =
      let k : x < length (D.parts us) = below_of x n (length (D.parts us)) l p.1.1 in
      let (e, w) = with_back n us x (D.of_range r) s h in
      let m : ℤ = L.number (part_at D (D.parts us) x) in
      let f : length s ≡ length (D.parts us) = held_length D.has (slice_set (D.parts us) x (D.of_range r)) s w ∙ length_replaced (D.parts us) x (D.of_range r) in
      record {
        store = slice_set s x m;
        held = put_other D.has D.bare (D.parts us) s x (D.of_range r) m k w (L.own_has (part_at D (D.parts us) x) (lists.part_own D L (D.parts us) x k p.1.2));
        number = at_store s x;
        within = E.range_only r (at_store s x) (put_at D.has (D.parts us) s x (D.of_range r) k w);
        put = replaced_back s x m (below_of x (length (D.parts us)) (length s) k (sym f));
      }

  -- ---- narrow
  settled_back : (ps : List P) (s : List ℤ) → leaf_holds D (settled D ps) s → AllHave D ps s
  settled_back ps s = by_test (list_any D.is_bare ps)
    where
      by_test : (t : Bool) → leaf_holds D (if t then nothing_of (length ps) else leaf_of D ps) s → AllHave D ps s
      by_test true h = absurd h
      by_test false h = made_back D L ps s h

  narrow_only : (ts : List ℤ) (n m : ℕ) (c d : Option (List ℤ)) (s : List ℤ) → IsLeaf D (at n c) → IsLeaf D (at m d) → n ≡ m → leaf_leq D (at m d) (at n c) ≡ true → leaf_holds D (narrowed_leaf D ts (at n c) (at m d)) s → ContentHolds D c s
  narrow_only ts n m None d s p q e f h = absurd h
  narrow_only ts n m (Some us) None s p q e f h = absurd h
  narrow_only ts n m (Some us) (Some bs) s p q e f h =
      made_only D.has D.leq (D.narrow ts) (E.narrow_only ts) (D.parts us) (all_best D (D.parts bs)) s (second_best D L n m us bs p q e) f
      (settled_back (narrowed_all D ts (D.parts us) (all_best D (D.parts bs))) s h)

  pub lifted_exactness : LeafExactness (lifted D)
  lifted_exactness = record {
    some_holds = λ a. some_holds D L a.variables a.content;
    meet_only = λ a x r s p l i h. meet_only a.variables a.content x r s p l h;
    meet_form_only = λ a f op s p g h. ((lifted_laws D L).best_holds a s p).0 h;
    set_only = λ a x r s p l i h. set_only a.variables a.content x r s p l h;
    narrow_only = λ ts a b s k. narrow_only ts a.variables b.variables a.content b.content s k.first k.second k.same;
  }

  -- ---- the order
  -- parts by the best bounds of parts that leaves have
  record IsBestOfOwn (b : P) : Type 0 where
    part : P
    own : D.own part
    best : b ≡ best_part D part

  all_best_own : (ps : List P) → AllOwn D ps → AllByRecursion IsBestOfOwn (all_best D ps)
  all_best_own ps h = lists.each_reduced IsBestOfOwn D.reduction ps (lists.each_weaker D.own (λ p. IsBestOfOwn (best_part D p)) (λ p k. record { part = p; own = k; best = refl }) ps h)

  best_in : (b : P) → IsBestOfOwn b → D.has b (L.number b)
  best_in b h = L.own_has b (subst D.own (sym h.best) (L.best_own h.part h.own))

  best_leq : (a b : P) → IsBestOfOwn a → ((n : ℤ) → D.has a n → D.has b n) → D.leq a b ≡ true
  best_leq a b h i =
      subst (λ q. D.leq q b ≡ true) (sym h.best) (E.inside_leq h.part b h.own (λ n k. i n (subst (λ q. D.has q n) (sym h.best) k)))

  seen_inside : (n m : ℕ) (c d : Option (List ℤ)) → IsLeaf D (at n c) → IsLeaf D (at m d) → n ≡ m → ((s : List ℤ) → ContentHolds D c s → ContentHolds D d s) → leaf_leq D (at n c) (at m d) ≡ true
  seen_inside n m None d p q e i = refl
  seen_inside n m (Some us) None p q e i = let (s, h) = lists.some_store D L (D.parts us) p.1.2 in absurd (i s h)
  seen_inside n m (Some us) (Some bs) p q e i =
      inside_passes D.has IsBestOfOwn L.number best_in D.leq best_leq (all_best D (D.parts us)) (D.parts bs) (lists.length_best D L (D.parts us) ∙ sym p.1.1 ∙ e ∙ q.1.1)
      (all_best_own (D.parts us) p.1.2) (λ s h. i s (lists.best_back D L (D.parts us) s h))

  pub ordered_by_stores : IsOrderedByStores (lifted D)
  ordered_by_stores a b k = (λ e s h. (lifted_laws D L).leq_holds a b s k e h, seen_inside a.variables b.variables a.content b.content k.first k.second k.same)

  -- ---- the join
  joined_best : (us bs : List P) → AllOwn D us → AllOwn D bs → all_best D (joined_all D (all_best D us) (all_best D bs)) ≡ joined_all D (all_best D us) (all_best D bs)
  joined_best us bs h k = by_reduction D.reduction us bs h k E.join_best
    where
      by_reduction : (o : Option (P → P)) (us bs : List P) → AllOwn D us → AllOwn D bs → ((a b : P) → D.own a → D.own b → reduced_by o (D.join (reduced_by o a) (reduced_by o b)) ≡ D.join (reduced_by o a) (reduced_by o b))
          → all_reduced_by o (joined_all D (all_reduced_by o us) (all_reduced_by o bs)) ≡ joined_all D (all_reduced_by o us) (all_reduced_by o bs)
      by_reduction None us bs h k same = refl
      by_reduction (Some f) [] bs h k same = refl
      by_reduction (Some f) (a ∷ us) [] h k same = refl
      by_reduction (Some f) (a ∷ us) (b ∷ bs) h k same =
          ap (λ x. x ∷ map f (joined_all D (map f us) (map f bs))) (same a b h.0 k.0) ∙ ap (λ xs. D.join (f a) (f b) ∷ xs) (by_reduction (Some f) us bs h.1 k.1 same)

  join_below : (n m o : ℕ) (c d f : Option (List ℤ)) → IsLeaf D (at n c) → IsLeaf D (at m d) → leaf_leq D (at n c) (at o f) ≡ true → leaf_leq D (at m d) (at o f) ≡ true → leaf_leq D (joined_leaf D (at n c) (at m d)) (at o f) ≡ true
  join_below n m o None d f p q e g = g
  join_below n m o (Some us) None f p q e g = e
  join_below n m o (Some us) (Some bs) None p q e g = cc
  join_below n m o (Some us) (Some bs) (Some cs) p q e g =
      rw (ap (all_best D) (L.parts_told (joined_all D (all_best D (D.parts us)) (all_best D (D.parts bs)))) ∙ joined_best (D.parts us) (D.parts bs) p.1.2 q.1.2)
      (both_pass D.own D.leq D.join E.join_least (all_best D (D.parts us)) (all_best D (D.parts bs)) (D.parts cs) (lists.own_best D L (D.parts us) p.1.2) (lists.own_best D L (D.parts bs) q.1.2) e g)

  pub join_least : JoinIsLeast (lifted D)
  join_least a b c k l = join_below a.variables b.variables c.variables a.content b.content c.content k.first l.first
