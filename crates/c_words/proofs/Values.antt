-- The number that digits in a base write, digit by digit.
use Rattle.std.proofs.Common.{◌≡◌, ℕ, suc, ◌+◌, ◌-◌, ◌*◌, ◌^◌, ◌<◌, ◌≤◌, List, [], length, drop, get_or, Some, None, ap, subst, arith, add-one, ◌∙◌, refl}
use Rattle.std.proofs.lemmas.Bool.{lt-leb, le-leb}
use Rattle.std.proofs.lemmas.List.{length-drop}
use Rattle.std.proofs.Math.Nat.{mul_assoc, mul_comm, add-mul, pow-zero, pow-suc, one-le-pow, mul-le-mul_left, mul-one}
use Rattle.std.proofs.Math.ListN.{drop_of_length-le}
use Rattle.std.proofs.Math.Seq.{drop-cons}
use Rattle.std.specs.Char.{digit_value}
use Rattle.c_words.specs.Numbers.{value_in, up_to}

shift : (b v d p q : ℕ) → (v * b + d) * p + q ≡ v * (p * b) + (d * p + q)
shift b v d p q = omega (arith, add-mul (v * b) d p, mul_assoc v b p, ap (λ (i : ℕ). v * i) (mul_comm b p))

-- the value so far, with what is left to read behind it
pub one_more : (base : ℕ) (digits : List ℕ) (i v : ℕ) → i < length digits
    → (v * base + digit_value (get_or digits i 0)) * base ^ (length digits - (i + 1)) + value_in base (drop (i + 1) digits) ≡ v * base ^ (length digits - i) + value_in base (drop i digits)
one_more base digits i v lt =
    let k : length digits - i ≡ suc (length digits - (i + 1)) = omega arith in
    let n : length (drop (suc i) digits) ≡ length digits - (i + 1) = omega (arith, length-drop (suc i) digits) in
    rw (k, pow-suc, drop-cons digits i 0 lt, n, add-one i) (shift base v (digit_value (get_or digits i 0)) (base ^ (length digits - suc i)) (value_in base (drop (suc i) digits)))

pub all_read : (base : ℕ) (digits : List ℕ) (i v : ℕ) → length digits ≤ i → v * base ^ (length digits - i) + value_in base (drop i digits) ≡ value_in base digits → v ≡ value_in base digits
all_read base digits i v le e =
    let k : length digits - i ≡ 0 = omega arith in
    let h : v * base ^ 0 + value_in base [] ≡ value_in base digits = subst (λ (j : ℕ). v * base ^ j + value_in base [] ≡ value_in base digits) k (subst (λ (xs : List ℕ). v * base ^ (length digits - i) + value_in base xs ≡ value_in base digits) (drop_of_length-le digits le) e) in
    let once : v * base ^ 0 ≡ v = ap (λ (p : ℕ). v * p) (pow-zero base) ∙ mul-one v in
    omega (arith, h, once)

pub at_least : (base : ℕ) (digits : List ℕ) (i v : ℕ) → 0 < base → v * base ^ (length digits - i) + value_in base (drop i digits) ≡ value_in base digits → v ≤ value_in base digits
at_least base digits i v some e = omega (arith, mul-le-mul_left v (one-le-pow (length digits - i) base some))

pub large_is_none : (most n : ℕ) → most < n → None ≡ up_to most n
large_is_none most n lt = rw (lt-leb n most lt) refl

pub small_is_some : (most v n : ℕ) → v ≡ n → v ≤ most → Some v ≡ up_to most n
small_is_some most v n e le = rw (le-leb n most (omega arith)) (ap (λ (i : ℕ). Some i) e)
