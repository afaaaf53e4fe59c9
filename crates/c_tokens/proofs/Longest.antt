-- The longest front that passes a test.
use Rattle.std.proofs.Common.{◌≡◌, ℕ, zero, suc, ◌<◌, ◌≤◌, inl, inr, Bool, true, false, cond, List, length, take, refl, ap, ◌∙◌, arith}
use Rattle.std.proofs.lemmas.Bool.{cases_order, both_ways}
use Rattle.c_tokens.specs.Lexemes.{IsLongest, longest_up_to}

longest_fits : (test : List ℕ → Bool) (n : ℕ) (bytes : List ℕ) → longest_up_to test n bytes ≤ n
longest_fits test zero bytes = omega arith
longest_fits test (suc n) bytes = let h = longest_fits test n bytes in elim (test (take (suc n) bytes)) as (λ v. cond v (suc n) (longest_up_to test n bytes) ≤ suc n) [ true ↦ omega arith | false ↦ omega arith ]

longest_passes : (test : List ℕ → Bool) (n : ℕ) (bytes : List ℕ) → 0 < longest_up_to test n bytes → test (take (longest_up_to test n bytes) bytes) ≡ true
longest_passes test zero bytes lt = absurd (omega arith)
longest_passes test (suc n) bytes lt = elim (test (take (suc n) bytes)) as (λ v. test (take (suc n) bytes) ≡ v → 0 < cond v (suc n) (longest_up_to test n bytes) → test (take (cond v (suc n) (longest_up_to test n bytes)) bytes) ≡ true) [ true ↦ λ e h. e | false ↦ λ e h. longest_passes test n bytes h ] refl lt

longest_last : (test : List ℕ → Bool) (n : ℕ) (bytes : List ℕ) (m : ℕ) → longest_up_to test n bytes < m → m ≤ n → test (take m bytes) ≡ false
longest_last test zero bytes m lt le = absurd (omega arith)
longest_last test (suc n) bytes m lt le = elim (test (take (suc n) bytes)) as (λ v. test (take (suc n) bytes) ≡ v → cond v (suc n) (longest_up_to test n bytes) < m → test (take m bytes) ≡ false) [
  | true ↦ λ e h. absurd (omega arith)
  | false ↦ λ e h. elim (cases_order m (suc n)) [ inl k ↦ ap (λ (i : ℕ). test (take i bytes)) k ∙ e | inr k ↦ longest_last test n bytes m h (omega arith) ]
] refl lt

pub is_longest : (test : List ℕ → Bool) (bytes : List ℕ) → IsLongest test (longest_up_to test (length bytes) bytes) bytes
is_longest test bytes = record {
  fits = longest_fits test (length bytes) bytes;
  passes = longest_passes test (length bytes) bytes;
  longest = longest_last test (length bytes) bytes;
}

not_below : (test : List ℕ → Bool) (bytes : List ℕ) (n m : ℕ) → IsLongest test n bytes → IsLongest test m bytes → n < m → ⊥
not_below test bytes n m p q lt = both_ways (test (take m bytes)) (p.longest m lt q.fits) (q.passes (omega arith))

-- there is one longest front
pub one_longest : (test : List ℕ → Bool) (bytes : List ℕ) (n m : ℕ) → IsLongest test n bytes → IsLongest test m bytes → n ≡ m
one_longest test bytes n m p q = elim (cases_order n m) [
  | inl e ↦ e
  | inr k ↦ elim k [ inl lt ↦ absurd (not_below test bytes n m p q lt) | inr lt ↦ absurd (not_below test bytes m n q p lt) ]
]
