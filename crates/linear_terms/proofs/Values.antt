-- The values of sums and multiples of terms.
use Rattle.std.proofs.Common.{◌≡◌, ℕ, ◌<◌, ℤ, pos, ◌+ℤ◌, ◌*ℤ◌, Bool, true, false, if◌then◌else◌, List, [], ◌∷◌, ◌++◌, sym, ap, refl, arith, get_or}
use Rattle.std.proofs.lemmas.Int.{ints}
use Rattle.std.proofs.lemmas.Cmp.{ranked}
use Rattle.std.proofs.Math.IntN.{zero-*ℤ}
use Rattle.std.specs.declared.cmp.Ordering.{Ordering}
use Rattle.std.specs.declared.cmp.Ordering.TheVariants.{Less, Equal, Greater}
use Rattle.std.specs.Ordering.{nat_cmp, int_eq, MatchOrdering}
use Rattle.linear_terms.specs.Terms.{one, placed, with_term, terms_sum, terms_by, sum_at}
use Rattle.linear_terms.proofs.Integers.{sum-times, past}
use Rattle.linear_terms.proofs.Sums.{is_zero}

module _ (values : List ℤ) where
  abbrev worth : ℕ → ℤ
  worth n = get_or values n (pos 0)

  one_by : (b : Bool) (n : ℕ) (a : ℤ) (ts : List (ℕ × ℤ)) → b ≡ int_eq a (pos 0) → sum_at ((if b then [] else (n, a) ∷ []) ++ ts) values ≡ a *ℤ worth n +ℤ sum_at ts values
  one_by true n a ts e = let z : a ≡ pos 0 = is_zero a (sym e) in rw (z, zero-*ℤ (worth n)) (omega (arith, ints))
  one_by false n a ts e = refl

  one-at : (n : ℕ) (a : ℤ) (ts : List (ℕ × ℤ)) → sum_at (one n a ++ ts) values ≡ a *ℤ worth n +ℤ sum_at ts values
  one-at n a ts = one_by (int_eq a (pos 0)) n a ts refl

  alone_by : (b : Bool) (n : ℕ) (a : ℤ) → b ≡ int_eq a (pos 0) → sum_at (if b then [] else (n, a) ∷ []) values ≡ a *ℤ worth n +ℤ pos 0
  alone_by true n a e = let z : a ≡ pos 0 = is_zero a (sym e) in rw (z, zero-*ℤ (worth n)) refl
  alone_by false n a e = refl

  placed-at : (o : Ordering) (n : ℕ) (a : ℤ) (t : ℕ × ℤ) (ts more : List (ℕ × ℤ)) → MatchOrdering o (n < t.0) (n ≡ t.0) (t.0 < n)
      → sum_at more values ≡ a *ℤ worth n +ℤ sum_at ts values
      → sum_at (placed o n a t ts more) values ≡ a *ℤ worth n +ℤ sum_at (t ∷ ts) values
  placed-at Less n a t ts more o h = one-at n a (t ∷ ts)
  placed-at Equal n a t ts more o h =
      let e : sum_at (one n (a +ℤ t.1) ++ ts) values ≡ (a +ℤ t.1) *ℤ worth n +ℤ sum_at ts values = one-at n (a +ℤ t.1) ts in
      let f : (a +ℤ t.1) *ℤ worth n ≡ a *ℤ worth n +ℤ t.1 *ℤ worth n = sum-times a t.1 (worth n) in
      let g : t.1 *ℤ worth n ≡ t.1 *ℤ worth t.0 = ap (λ x. t.1 *ℤ worth x) o in
      omega (arith, ints)
  placed-at Greater n a t ts more o h = omega (arith, ints)

  with_term-at : (n : ℕ) (a : ℤ) (ts : List (ℕ × ℤ)) → sum_at (with_term n a ts) values ≡ a *ℤ worth n +ℤ sum_at ts values
  with_term-at n a [] = alone_by (int_eq a (pos 0)) n a refl
  with_term-at n a (t ∷ ts) = placed-at (nat_cmp n t.0) n a t ts (with_term n a ts) (ranked n t.0 _ refl) (with_term-at n a ts)

  pub terms_sum_at : (ts us : List (ℕ × ℤ)) → sum_at (terms_sum ts us) values ≡ sum_at ts values +ℤ sum_at us values
  terms_sum_at [] us = omega (arith, ints)
  terms_sum_at (t ∷ ts) us =
      let e : sum_at (with_term t.0 t.1 (terms_sum ts us)) values ≡ t.1 *ℤ worth t.0 +ℤ sum_at (terms_sum ts us) values = with_term-at t.0 t.1 (terms_sum ts us) in
      let f : sum_at (terms_sum ts us) values ≡ sum_at ts values +ℤ sum_at us values = terms_sum_at ts us in
      omega (arith, ints)

  pub terms_by_at : (k : ℤ) (ts : List (ℕ × ℤ)) → sum_at (terms_by k ts) values ≡ sum_at ts values *ℤ k
  terms_by_at k [] = sym (zero-*ℤ k)
  terms_by_at k (t ∷ ts) =
      let e : sum_at (one t.0 (t.1 *ℤ k) ++ terms_by k ts) values ≡ (t.1 *ℤ k) *ℤ worth t.0 +ℤ sum_at (terms_by k ts) values = one-at t.0 (t.1 *ℤ k) (terms_by k ts) in
      let f : sum_at (terms_by k ts) values ≡ sum_at ts values *ℤ k = terms_by_at k ts in
      let g : (t.1 *ℤ k) *ℤ worth t.0 ≡ (t.1 *ℤ worth t.0) *ℤ k = past t.1 k (worth t.0) in
      let h : (t.1 *ℤ worth t.0 +ℤ sum_at ts values) *ℤ k ≡ (t.1 *ℤ worth t.0) *ℤ k +ℤ sum_at ts values *ℤ k = sum-times (t.1 *ℤ worth t.0) (sum_at ts values) k in
      omega (arith, ints)
