-- Stores as values of the terms, and back.
use Rattle.std.proofs.Common.{◌≡◌, ◌≢◌, ◌⊎◌, inl, inr, ℕ, ℤ, pos, neg_ℤ, ◌*◌, ◌/◌, ◌%◌, ◌<◌, arith, ◌∙◌, ap, true, false, nat_eq, List, map, slice_index_or}
use Rattle.std.proofs.lemmas.Int.{ints}
use Rattle.std.specs.List.{range_with_len}
use Rattle.std.proofs.lemmas.Bool.Decides.{eqb_tells}
use Rattle.std.proofs.lemmas.List.FromFn.{get_or-map-range_with_len, length-map-range_with_len}
use Rattle.octagon_matrix.specs.Terms.{opposite}
use Rattle.octagon_matrix.specs.Matrices.{MatrixValue, entry_of}
use Rattle.octagon_matrix.proofs.Stores.{term-opposite}
use Rattle.octagon_matrix.specs.Stores.{term_value, Holds}
use Rattle.octagon_closure.proofs.Octagons.{IsOdd, Meets}

pub terms-odd : (s : List ℤ) → IsOdd (term_value s)
terms-odd s = record { odd = λ a. term-opposite s a }

pub holds-meets : (m : MatrixValue) (s : List ℤ) → Holds m s → Meets m.variables (entry_of m) (term_value s)
holds-meets m s h = record { odd = terms-odd s; meets = h.bounds }

abbrev pub store_of : ℕ → (ℕ → ℤ) → List ℤ
store_of n v = map (λ x. v (2 * x)) (range_with_len 0 n)

value-at : (n : ℕ) (v : ℕ → ℤ) (x : ℕ) → x < n → slice_index_or (store_of n v) x (pos 0) ≡ v (2 * x)
value-at n v x h = get_or-map-range_with_len (λ y. v (2 * y)) 0 n x x (pos 0) h (omega arith)

even-term : (a : ℕ) → a % 2 ≡ 0 → 2 * (a / 2) ≡ a
even-term a h = omega arith

odd-term : (a : ℕ) → (a % 2 ≢ 0) → 2 * (a / 2) ≡ opposite a
unfolding opposite
odd-term a h = omega arith

term-by : (n : ℕ) (v : ℕ → ℤ) (a : ℕ) → IsOdd v → a < 2 * n → ((nat_eq (a % 2) 0 ≡ true) × (a % 2 ≡ 0)) ⊎ ((nat_eq (a % 2) 0 ≡ false) × (a % 2 ≢ 0)) → term_value (store_of n v) a ≡ v a
term-by n v a o h (inl e) = rw (e.0) (value-at n v (a / 2) (omega arith) ∙ ap v (even-term a (e.1)))
term-by n v a o h (inr e) =
    let k : slice_index_or (store_of n v) (a / 2) (pos 0) ≡ neg_ℤ (v a) = value-at n v (a / 2) (omega arith) ∙ (ap v (odd-term a (e.1)) ∙ o.odd a) in
    rw (e.0) (omega (arith, ints))

pub term-of : (n : ℕ) (v : ℕ → ℤ) (a : ℕ) → IsOdd v → a < 2 * n → term_value (store_of n v) a ≡ v a
term-of n v a o h = term-by n v a o h (eqb_tells (a % 2) 0)

pub meets-holds : (m : MatrixValue) (v : ℕ → ℤ) → Meets m.variables (entry_of m) v → Holds m (store_of m.variables v)
meets-holds m v w = record {
  size = length-map-range_with_len (λ x. v (2 * x)) 0 m.variables;
  bounds = λ a b h k. rw (term-of m.variables v a w.odd h, term-of m.variables v b w.odd k) (w.meets a b h k);
}
