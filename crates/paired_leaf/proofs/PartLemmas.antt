-- The two leaves of a pair are its parts, and equality of pairs is that of both parts.
use Rattle.std.proofs.Common.{◌≡◌, ℕ, ℤ, Bool, true, false, ◌&&◌, List, Option, Some, None, refl, ap, sym, ◌∙◌}
use Rattle.leaf_domain.specs.Leaves.{LeafValue, LeafMeaning, LeafLaws, is_nothing_of, same_leaf}
use Rattle.leaf_domain.proofs.LeafEquality.{leaf_decides}
use Rattle.paired_leaf.specs.Pairs.{pair_of, first_of, second_of, IsPair, AreParts}
use Rattle.paired_leaf.proofs.PairLemmas.{at, both_true, first_is, second_is, pair_valid, first_nothing, second_nothing}

differ : {Q : Type 0} → true ≡ false → Q
differ e = cc

module _ (A B : LeafMeaning) where
  pub part_first : (a b : LeafValue) → AreParts A B a b → first_of (pair_of a b) ≡ a
  part_first a b h = by_content a.variables b.variables a.content b.content h.alike
    where
      by_content : (n m : ℕ) (c d : Option (List ℤ)) → is_nothing_of (at n c) ≡ is_nothing_of (at m d) → first_of (pair_of (at n c) (at m d)) ≡ at n c
      by_content n m None d e = refl
      by_content n m (Some ns) None e = differ (sym e)
      by_content n m (Some ns) (Some ms) e = first_is (at n (Some ns)) (at m (Some ms)) refl refl

  pub part_second : (a b : LeafValue) → AreParts A B a b → second_of (pair_of a b) ≡ b
  part_second a b h = by_content a.variables b.variables a.content b.content h.same h.alike
    where
      by_content : (n m : ℕ) (c d : Option (List ℤ)) → n ≡ m → is_nothing_of (at n c) ≡ is_nothing_of (at m d) → second_of (pair_of (at n c) (at m d)) ≡ at m d
      by_content n m None None s e = ap (λ k. at k None) s
      by_content n m None (Some ms) s e = differ e
      by_content n m (Some ns) None s e = differ (sym e)
      by_content n m (Some ns) (Some ms) s e = second_is (at n (Some ns)) (at m (Some ms)) s refl refl

  pub parts_pair : LeafLaws A → LeafLaws B → (a b : LeafValue) → AreParts A B a b → IsPair A B (pair_of a b)
  parts_pair L K a b h = pair_valid A B L K a b h.first h.second h.same

  -- the two leaves of a pair
  pub pair_parts : (v : LeafValue) → IsPair A B v → AreParts A B (first_of v) (second_of v)
  pair_parts v p = record { first = p.first; second = p.second; same = refl; alike = first_nothing v ∙ sym (second_nothing v) }

  -- ---- equality
  pub pairs_same : (v w : LeafValue) → IsPair A B v → IsPair A B w → (same_leaf (first_of v) (first_of w) && same_leaf (second_of v) (second_of w)) ≡ same_leaf v w
  pairs_same v w p q =
      by_tests (same_leaf (first_of v) (first_of w) && same_leaf (second_of v) (second_of w)) (same_leaf v w)
      (λ e.
      let t = both_true (same_leaf (first_of v) (first_of w)) (same_leaf (second_of v) (second_of w)) e in
      let f = (leaf_decides (first_of v) (first_of w)).0 t.0 in
      let g = (leaf_decides (second_of v) (second_of w)).0 t.1 in
      (leaf_decides v w).1 (sym p.is ∙ ap (λ a. pair_of a (second_of v)) f ∙ ap (λ b. pair_of (first_of w) b) g ∙ q.is))
      (λ e.
      let f = (leaf_decides v w).0 e in
      both_same ((leaf_decides (first_of v) (first_of w)).1 (ap (λ u. first_of u) f)) ((leaf_decides (second_of v) (second_of w)).1 (ap (λ u. second_of u) f)))
    where
      by_tests : (s t : Bool) → (s ≡ true → t ≡ true) → (t ≡ true → s ≡ true) → s ≡ t
      by_tests true t f g = sym (f refl)
      by_tests false true f g = g refl
      by_tests false false f g = refl

      both_same : {s t : Bool} → s ≡ true → t ≡ true → (s && t) ≡ true
      both_same {s} {t} e f = ap (λ x. x && t) e ∙ f
