-- Integer constants of conditions begin with a digit and are letters and digits.
use Rattle.std.proofs.Common.{◌≡◌, ℕ, zero, suc, ◌-◌, ◌^◌, ◌<◌, ◌≤◌, inl, inr, nat_eq, nat_lt, Bool, true, false, ◌||◌, cond, List, [], ◌∷◌, length, take, drop, slice_index_or, refl, sym, ap, subst, ◌∙◌, arith}
use Rattle.std.proofs.lemmas.Bool.{false≢true, eqb-true, ltb-true, and_parts, or_cases, le-leb}
use Rattle.std.proofs.lemmas.Str.Parse.{digit_from_value}
use Rattle.std.specs.List.{list_all, prefix_len}
use Rattle.std.specs.Char.{digit_value}
use Rattle.std.specs.Fmt.{decimal}
use Rattle.std.proofs.Math.ListN.{drop_of_length-le}
use Rattle.std.proofs.Math.Seq.{take-length}
use Rattle.c_words.proofs.Decimals.{decimal_digits, decimal_constant, decimal_value}
use Rattle.c_words.specs.Numbers.{is_digit_in, is_numeral, is_prefixed, begins_with_zero, base_of, digits_of, is_constant, constant_value, is_exponent}
use Rattle.cpp_conditions.specs.Integers.{is_long, is_short, is_suffix, unsuffixed, suffix_of, is_integer, integer_value, ends_in_exponent, goes_on_behind}
use Rattle.c_words.specs.Bytes.{is_digit, is_alphanumeric}

letter : (b : ℕ) → digit_value b < 36 → is_alphanumeric b ≡ true
letter b h = grind arith

in_base : (base b : ℕ) → base ≤ 36 → is_digit_in base b ≡ true → is_alphanumeric b ≡ true
in_base base b le h = let lt : digit_value b < base = ltb-true (digit_value b) base h in letter b (omega arith)

all_in_base : (base : ℕ) → base ≤ 36 → (bs : List ℕ) → list_all (is_digit_in base) bs ≡ true → list_all is_alphanumeric bs ≡ true
all_in_base base le [] h = refl
all_in_base base le (b ∷ bs) h = let p = and_parts (is_digit_in base b) (list_all (is_digit_in base) bs) h in rw (in_base base b le p.0) (all_in_base base le bs p.1)

long_letter : (b : ℕ) → is_long b ≡ true → is_alphanumeric b ≡ true
long_letter b h = elim (or_cases (nat_eq b 76) (nat_eq b 108) h) [
  | inl e ↦ subst (λ n. is_alphanumeric n ≡ true) (sym (eqb-true b 76 e)) refl
  | inr e ↦ subst (λ n. is_alphanumeric n ≡ true) (sym (eqb-true b 108 e)) refl
]

suffix_letters : (bs : List ℕ) → is_suffix bs ≡ true → list_all is_alphanumeric bs ≡ true
suffix_letters [] h = refl
suffix_letters (b ∷ []) h = rw (long_letter b h) refl
suffix_letters (b ∷ c ∷ []) h =
    let p = and_parts (is_long b) (nat_eq c b) h in
    rw (long_letter b p.0, subst (λ n. is_alphanumeric n ≡ true) (sym (eqb-true c b p.1)) (long_letter b p.0)) refl
suffix_letters (b ∷ c ∷ d ∷ bs) h = absurd (false≢true h)

all_parts : (test : ℕ → Bool) (n : ℕ) (bs : List ℕ) → list_all test (take n bs) ≡ true → list_all test (drop n bs) ≡ true → list_all test bs ≡ true
all_parts test zero bs h k = k
all_parts test (suc n) [] h k = refl
all_parts test (suc n) (b ∷ bs) h k = let p = and_parts (test b) (list_all test (take n bs)) h in rw p.0 (all_parts test n bs p.1 k)

-- ---- a constant without a suffix

base_few : (word : List ℕ) → base_of word ≤ 36
base_few word = by_test (is_prefixed word) (begins_with_zero word)
  where
    by_test : (v w : Bool) → cond v 16 (cond w 8 10) ≤ 36
    by_test true w = omega arith
    by_test false true = omega arith
    by_test false false = omega arith

prefix_letters : (word : List ℕ) → is_prefixed word ≡ true → list_all is_alphanumeric (drop 2 word) ≡ true → list_all is_alphanumeric word ≡ true
prefix_letters [] h k = absurd (false≢true h)
prefix_letters (a ∷ []) h k = absurd (false≢true h)
prefix_letters (a ∷ b ∷ bs) h k =
    let p = and_parts (nat_eq a 48) (nat_eq b 120 || nat_eq b 88) h in
    let first : is_alphanumeric a ≡ true = subst (λ n. is_alphanumeric n ≡ true) (sym (eqb-true a 48 p.0)) refl in
    let second : is_alphanumeric b ≡ true = elim (or_cases (nat_eq b 120) (nat_eq b 88) p.1) [
      | inl e ↦ subst (λ n. is_alphanumeric n ≡ true) (sym (eqb-true b 120 e)) refl
      | inr e ↦ subst (λ n. is_alphanumeric n ≡ true) (sym (eqb-true b 88 e)) refl
    ] in
    rw (first, second) k

constant_letters : (word : List ℕ) → is_constant word ≡ true → list_all is_alphanumeric word ≡ true
constant_letters word h = by_test (is_prefixed word) refl
  where
    all : list_all is_alphanumeric (digits_of word) ≡ true
    all = all_in_base (base_of word) (base_few word) (digits_of word) (and_parts (nat_lt 0 (length (digits_of word))) (list_all (is_digit_in (base_of word)) (digits_of word)) h).1

    by_test : (v : Bool) → is_prefixed word ≡ v → list_all is_alphanumeric word ≡ true
    by_test true e = prefix_letters word e (subst (λ (v : Bool). list_all is_alphanumeric (cond v (drop 2 word) word) ≡ true) e all)
    by_test false e = subst (λ (v : Bool). list_all is_alphanumeric (cond v (drop 2 word) word) ≡ true) e all

decimal_digit : (b : ℕ) → is_digit_in 10 b ≡ true → is_digit b ≡ true
decimal_digit b h = let r = digit_from_value b (ltb-true (digit_value b) 10 h) in rw (le-leb 48 b r.0, le-leb b 57 r.1) refl

zero_digit : (b : ℕ) → nat_eq b 48 ≡ true → is_digit b ≡ true
zero_digit b e = subst (λ n. is_digit n ≡ true) (sym (eqb-true b 48 e)) refl

constant_digit : (d : ℕ) (ds : List ℕ) → is_constant (d ∷ ds) ≡ true → is_digit d ≡ true
constant_digit d ds h = by_test (is_prefixed (d ∷ ds)) (nat_eq d 48) refl refl
  where
    prefixed : (ds : List ℕ) → is_prefixed (d ∷ ds) ≡ true → is_digit d ≡ true
    prefixed [] e = absurd (false≢true e)
    prefixed (b ∷ bs) e = zero_digit d (and_parts (nat_eq d 48) (nat_eq b 120 || nat_eq b 88) e).0

    plain : is_numeral (cond false 16 (cond false 8 10)) (cond false (drop 2 (d ∷ ds)) (d ∷ ds)) ≡ true → is_digit d ≡ true
    plain n = decimal_digit d (and_parts (is_digit_in 10 d) (list_all (is_digit_in 10) ds) (and_parts (nat_lt 0 (length (d ∷ ds))) (list_all (is_digit_in 10) (d ∷ ds)) n).1).0

    by_test : (v w : Bool) → is_prefixed (d ∷ ds) ≡ v → nat_eq d 48 ≡ w → is_digit d ≡ true
    by_test true w e f = prefixed ds e
    by_test false true e f = zero_digit d f
    by_test false false e f =
        plain (subst (λ (w : Bool). is_numeral (cond false 16 (cond w 8 10)) (cond false (drop 2 (d ∷ ds)) (d ∷ ds)) ≡ true) f
        (subst (λ (v : Bool). is_numeral (cond v 16 (cond (nat_eq d 48) 8 10)) (cond v (drop 2 (d ∷ ds)) (d ∷ ds)) ≡ true) e h))

-- ---- with its suffix

pub integer_letters : (word : List ℕ) → is_integer word ≡ true → list_all is_alphanumeric word ≡ true
integer_letters word h =
    let p = and_parts (is_constant (unsuffixed word)) (is_suffix (suffix_of word)) h in
    all_parts is_alphanumeric (prefix_len is_short word) word (constant_letters (unsuffixed word) p.0) (suffix_letters (suffix_of word) p.1)

first_taken : (d n : ℕ) (ds : List ℕ) → is_constant (take n (d ∷ ds)) ≡ true → is_digit d ≡ true
first_taken d zero ds h = absurd (false≢true h)
first_taken d (suc n) ds h = constant_digit d (take n ds) h

pub integer_digit : (d : ℕ) (ds : List ℕ) → is_integer (d ∷ ds) ≡ true → is_digit d ≡ true
integer_digit d ds h = first_taken d (prefix_len is_short (d ∷ ds)) ds (and_parts (is_constant (unsuffixed (d ∷ ds))) (is_suffix (suffix_of (d ∷ ds))) h).0

-- ---- what `decimal` writes is such a constant, and no sign goes on with it

digit_short : (b : ℕ) → is_digit b ≡ true → is_short b ≡ true
digit_short b h = grind arith

all_short : (bs : List ℕ) → list_all is_digit bs ≡ true → prefix_len is_short bs ≡ length bs
all_short [] h = refl
all_short (b ∷ bs) h = let p = and_parts (is_digit b) (list_all is_digit bs) h in rw (digit_short b p.0) (omega (arith, all_short bs p.1))

digit_no_exponent : (b : ℕ) → is_digit b ≡ true → is_exponent b ≡ false
digit_no_exponent b h = grind arith

digit_at : (bs : List ℕ) (i : ℕ) → list_all is_digit bs ≡ true → is_exponent (slice_index_or bs i 0) ≡ false
digit_at [] i h = refl
digit_at (b ∷ bs) zero h = digit_no_exponent b (and_parts (is_digit b) (list_all is_digit bs) h).0
digit_at (b ∷ bs) (suc i) h = digit_at bs i (and_parts (is_digit b) (list_all is_digit bs) h).1

digits_end : (bs : List ℕ) → list_all is_digit bs ≡ true → ends_in_exponent bs ≡ false
digits_end bs h = digit_at bs (length bs - 1) h

unsuffixed_is : (bs : List ℕ) → list_all is_digit bs ≡ true → unsuffixed bs ≡ bs
unsuffixed_is bs h = ap (λ n. take n bs) (all_short bs h) ∙ take-length bs

suffix_is : (bs : List ℕ) → list_all is_digit bs ≡ true → suffix_of bs ≡ []
suffix_is bs h = ap (λ n. drop n bs) (all_short bs h) ∙ drop_of_length-le bs (omega arith)

pub decimal_integer : (n : ℕ) → n < 2 ^ 64 → is_integer (decimal n) ≡ true
decimal_integer n lt = rw (unsuffixed_is (decimal n) (decimal_digits n lt), suffix_is (decimal n) (decimal_digits n lt), decimal_constant n lt) refl

pub decimal_integer_value : (n : ℕ) → n < 2 ^ 64 → integer_value (decimal n) ≡ n
decimal_integer_value n lt = ap constant_value (unsuffixed_is (decimal n) (decimal_digits n lt)) ∙ decimal_value n lt

pub decimal_alone : (n : ℕ) (rest : List ℕ) → n < 2 ^ 64 → goes_on_behind (decimal n) rest ≡ false
decimal_alone n rest lt = rw (digits_end (decimal n) (decimal_digits n lt)) refl
