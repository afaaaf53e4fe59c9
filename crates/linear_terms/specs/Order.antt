-- The order of terms: item by item, a number before its coefficient, a proper prefix first.
use Rattle.std.specs.Prelude.{◌≡◌, ℕ, nat_eq, ℤ, Bool, ◌&&◌, List, Some, refl}
use Rattle.std.specs.declared.cmp.Ordering.{Ordering}
use Rattle.std.specs.Ordering.{ordering_then, nat_cmp, int_cmp, int_eq, is_eq}
use Rattle.std.specs.Cmp.{IsTotalOrder, IsEquivalence, IsPartialOrder, then_total, on_total, nat_cmp_total, int_cmp_total, both_tied, unsigned_ties, and_equiv, on_equiv, nat_eq_equiv, int_eq_equiv, partial_order_from_total}
use Rattle.std.specs.Cmp.Lexicographic.{pointwise, slice_cmp, lists_total, lists_ties, lists_equiv}
use Rattle.std.specs.Cmp.Derive.{alike_po}

abbrev pub same_term : ℕ × ℤ → ℕ × ℤ → Bool
same_term s t = nat_eq s.0 t.0 && int_eq s.1 t.1

abbrev pub same_terms : List (ℕ × ℤ) → List (ℕ × ℤ) → Bool
same_terms = pointwise same_term

abbrev pub term_order : ℕ × ℤ → ℕ × ℤ → Ordering
term_order s t = ordering_then (nat_cmp s.0 t.0) (int_cmp s.1 t.1)

abbrev pub terms_order : List (ℕ × ℤ) → List (ℕ × ℤ) → Ordering
terms_order = slice_cmp term_order

pub terms_total : IsTotalOrder terms_order
terms_total = lists_total (then_total (on_total (λ t. t.0) nat_cmp_total) (on_total (λ t. t.1) int_cmp_total))

term_tie : (s t : ℕ × ℤ) → same_term s t ≡ is_eq (term_order s t)
term_tie s t = both_tied _ _ (nat_cmp s.0 t.0) (int_cmp s.1 t.1) (unsigned_ties s.0 t.0) refl

pub terms_tie : (xs ys : List (ℕ × ℤ)) → same_terms xs ys ≡ is_eq (terms_order xs ys)
terms_tie = lists_ties term_order term_tie

pub terms_equivalence : IsEquivalence same_terms
terms_equivalence = lists_equiv (and_equiv (on_equiv (λ t. t.0) nat_eq_equiv) (on_equiv (λ t. t.1) int_eq_equiv))

pub terms_partial_order : IsPartialOrder same_terms (λ xs ys. Some (terms_order xs ys))
terms_partial_order = alike_po (partial_order_from_total terms_total) terms_tie
