-- Numbers before separators.
use Rattle.std.proofs.Common.{◌≡◌, ◌≢◌, ℕ, zero, suc, ℤ, pos, negsuc, ◌<◌, ◌≤◌, ◌^◌, List, [], ◌∷◌, ◌++◌, length, drop, get_or, ◌⊎◌, Result, Ok, Err, Bool, true, false, not, ◌&&◌, eqb, true≢false, to_z, of_z, w64, refl, sym, ap, subst, ◌∙◌, arith, inl, inr}
use Rattle.std.specs.Int.{IsInRange}
use Rattle.std.specs.Fmt.{decimal, signed_decimal}
use Rattle.std.specs.Str.{IsUtf8, IsAscii}
use Rattle.std.specs.Str.Parse.{AllDigits, digits_value, ParsesUnsigned}
use Rattle.std.proofs.lemmas.Str.Parse.{IsNumeralModel, numerals_by_value, tells_digits, digit_at, parse_plain}
use Rattle.std.proofs.lemmas.Str.{IsUtf8-from_ascii}
use Rattle.std.proofs.lemmas.Fmt.{digits_decimal, decimal_injective, signed_decimal_injective, decimal_nonempty, decimal_digit, first_decimal, decimal-digits_value, parse-decimal, IsAscii-decimal}
use lib.Signed.{mag}
use Rattle.std.proofs.lemmas.Int.{ints, to_z-of_z}
use Rattle.std.proofs.lemmas.Bool.Decides.{Decides-eqb}
use Rattle.c_tree.specs.Value.{IsInt}
use Rattle.certificate_format.specs.Cuts.{Lacks, IsCut}
use Rattle.certificate_format.specs.Forms.{is_plain, EndsDigits, EndsNumber}
use Rattle.certificate_format.proofs.Splitting.{Avoids, avoiding_cut, one_cut, occurs}

own : IsNumeralModel (AllDigits 10) (digits_value 10)
own = numerals_by_value (AllDigits 10) tells_digits

-- ---- what is parsed

pub number_is : (E : Type 0) (bs : List ℕ) (n : ℕ) → ParsesUnsigned {E = E} 32 10 bs (Ok n) → get_or bs 0 0 ≢ 43 → (get_or bs 0 0 ≡ 48 → length bs ≡ 1) → (bs ≡ decimal n) × (n < 2 ^ 32)
number_is E bs n h plus zeros =
    let p = parse_plain own {E = E} 32 bs (Ok n) h plus in
    let is = decimal-digits_value own bs p.0.0 p.0.1 zeros (omega (arith, p.0.2)) in
    (sym (ap decimal p.1 ∙ is), subst (λ m. m < 2 ^ 32) (sym p.1) p.0.2)

abbrev is_error : {T E : Type 0} → Result T E → Type 0
is_error (Ok x) = ⊥
is_error (Err e) = Unit {0}

pub no_number : (E : Type 0) (bs : List ℕ) (e : E) (n : ℕ) → ParsesUnsigned {E = E} 32 10 bs (Err e) → n < 2 ^ 32 → bs ≡ decimal n → ⊥
no_number E bs e n h small is = subst is_error (parse-decimal {E = E} 32 n bs (Err e) small (omega (arith, small)) is h) tt

pub no_text : (bs : List ℕ) (n : ℕ) → ¬ (IsUtf8 bs) → n < 2 ^ 32 → bs ≡ decimal n → ⊥
no_text bs n h small is = h (IsUtf8-from_ascii bs (subst IsAscii (sym is) (IsAscii-decimal n (omega (arith, small)))))

pub no_digits : (n : ℕ) → n < 2 ^ 32 → [] ≡ decimal n → ⊥
no_digits n small is = let h = decimal_nonempty n (omega (arith, small)) in let l : 0 ≡ length (decimal n) = ap length is in omega (arith, h, l)

first_is : (b : ℕ) (bs : List ℕ) (n : ℕ) → n < 2 ^ 32 → b ∷ bs ≡ decimal n → IsInRange 48 57 b
first_is b bs n small is =
    subst (λ ds. IsInRange 48 57 (get_or ds 0 0)) (sym is) (digit_at (decimal n) 0 (digits_decimal own n (omega (arith, small))) (decimal_nonempty n (omega (arith, small))))

pub no_plus : (bs : List ℕ) (n : ℕ) → n < 2 ^ 32 → 43 ∷ bs ≡ decimal n → ⊥
no_plus bs n small is = let h = first_is 43 bs n small is in omega (arith, h)

pub no_minus : (bs : List ℕ) (n : ℕ) → n < 2 ^ 32 → 45 ∷ bs ≡ decimal n → ⊥
no_minus bs n small is = let h = first_is 45 bs n small is in omega (arith, h)

pub no_zeros : (b : ℕ) (bs : List ℕ) (n : ℕ) → n < 2 ^ 32 → 48 ∷ b ∷ bs ≡ decimal n → ⊥
no_zeros b bs zero small is =
    let l : length (48 ∷ b ∷ bs) ≡ 1 = ap length (is ∙ decimal_digit 0 (omega arith)) in omega (arith, l)
no_zeros b bs (suc n) small is =
    let h = first_decimal (suc n) (omega arith) (omega (arith, small)) in
    let f : 48 ≡ get_or (decimal (suc n)) 0 0 = ap (λ ds. get_or ds 0 0) is in omega (arith, h, f)

-- ---- plain beginnings

pub plain_first : (bs : List ℕ) → is_plain bs ≡ true → get_or bs 0 0 ≢ 43
plain_first [] h e = true≢false (sym h)
plain_first (b ∷ []) h e = true≢false (sym h ∙ ap (λ n. not (eqb n 43)) e)
plain_first (b ∷ c ∷ bs) h e = true≢false (sym h ∙ ap (λ n. not (eqb n 43) && not (eqb n 48)) e)

pub plain_zero : (bs : List ℕ) → is_plain bs ≡ true → get_or bs 0 0 ≡ 48 → length bs ≡ 1
plain_zero [] h e = absurd (true≢false (sym h))
plain_zero (b ∷ []) h e = refl
plain_zero (b ∷ c ∷ bs) h e = absurd (true≢false (sym h ∙ ap (λ n. not (eqb n 43) && not (eqb n 48)) e))

pub not_plain : (bs : List ℕ) (n : ℕ) → is_plain bs ≡ false → n < 2 ^ 32 → bs ≡ decimal n → ⊥
not_plain [] n h small e = no_digits n small e
not_plain (b ∷ []) n h small e = no_plus [] n small (ap (λ a. a ∷ []) (sym (plus_of (eqb b 43) refl h)) ∙ e)
  where
    plus_of : (t : Bool) → eqb b 43 ≡ t → not t ≡ false → b ≡ 43
    plus_of true is f = (Decides-eqb b 43).0 is
    plus_of false is f = absurd (true≢false f)
not_plain (b ∷ c ∷ bs) n h small e = both (eqb b 43) (eqb b 48) refl refl h
  where
    both : (t u : Bool) → eqb b 43 ≡ t → eqb b 48 ≡ u → not t && not u ≡ false → ⊥
    both true u is other f = no_plus (c ∷ bs) n small (ap (λ a. a ∷ c ∷ bs) (sym ((Decides-eqb b 43).0 is)) ∙ e)
    both false true is other f = no_zeros c bs n small (ap (λ a. a ∷ c ∷ bs) (sym ((Decides-eqb b 48).0 other)) ∙ e)
    both false false is other f = true≢false f

-- ---- numbers before separators

pub decimal_avoids : (s : List ℕ) (n : ℕ) → n < 2 ^ 32 → EndsDigits s → Avoids s (decimal n)
decimal_avoids [] n h e = absurd e
decimal_avoids (b ∷ bs) n h e =
    (omega arith, λ k l same. e (subst (IsInRange 48 57) same (digit_at (decimal n) k (digits_decimal own n (omega (arith, h))) l)))

pub decimal_cut : (s t : List ℕ) (n : ℕ) (r : List ℕ) → n < 2 ^ 32 → EndsDigits s → t ≡ decimal n ++ (s ++ r) → IsCut s t (decimal n) r
decimal_cut s t n r h e is = avoiding_cut s t (decimal n) r (decimal_avoids s n h e) is

pub one_decimal : (s t : List ℕ) (m n : ℕ) (r q : List ℕ) → m < 2 ^ 32 → n < 2 ^ 32 → EndsDigits s
    → t ≡ decimal m ++ (s ++ r) → t ≡ decimal n ++ (s ++ q) → (m ≡ n) × (r ≡ q)
one_decimal s t m n r q h k e f g =
    let one = one_cut s t (decimal m) r (decimal n) q (decimal_cut s t m r h e f) (decimal_cut s t n q k e g) in
    (decimal_injective m n (omega (arith, h)) (omega (arith, k)) one.0, one.1)

-- ---- numbers of `int`

pub small_pos : (n : ℕ) → IsInt (pos n) → n < 2 ^ 32
small_pos n h = omega (arith, ints, h.high)

pub small_negsuc : (n : ℕ) → IsInt (negsuc n) → suc n < 2 ^ 32
small_negsuc n h = omega (arith, ints, h.low)

small_size : (z : ℤ) → IsInt z → mag z < 2 ^ 63
small_size (pos n) h = omega (arith, ints, h.high)
small_size (negsuc n) h = omega (arith, ints, h.low)

pub int_fits : (z : ℤ) → IsInt z → to_z w64 (of_z w64 z) ≡ z
int_fits (pos n) h = to_z-of_z w64 (pos n) (omega (arith, ints, h.high))
int_fits (negsuc n) h = to_z-of_z w64 (negsuc n) (omega (arith, ints, h.low))

pub signed_avoids : (s : List ℕ) (z : ℤ) → IsInt z → EndsNumber s → Avoids s (signed_decimal z)
signed_avoids [] z h e = absurd e
signed_avoids (b ∷ bs) (pos n) h e = decimal_avoids (b ∷ bs) n (small_pos n h) e.0
signed_avoids (b ∷ bs) (negsuc n) h e = (omega arith, each)
  where
    digits : Avoids (b ∷ bs) (decimal (suc n))
    digits = decimal_avoids (b ∷ bs) (suc n) (small_negsuc n h) e.0

    each : (k : ℕ) → k < length (45 ∷ decimal (suc n)) → get_or (45 ∷ decimal (suc n)) k 0 ≢ b
    each zero l same = e.1 (subst (IsInRange 45 45) same (omega arith, omega arith))
    each (suc k) l same = digits.1 k (omega (arith, l)) same

pub signed_cut : (s t : List ℕ) (z : ℤ) (r : List ℕ) → IsInt z → EndsNumber s → t ≡ signed_decimal z ++ (s ++ r) → IsCut s t (signed_decimal z) r
signed_cut s t z r h e is = avoiding_cut s t (signed_decimal z) r (signed_avoids s z h e) is

pub one_signed : (s t : List ℕ) (y z : ℤ) (r q : List ℕ) → IsInt y → IsInt z → EndsNumber s
    → t ≡ signed_decimal y ++ (s ++ r) → t ≡ signed_decimal z ++ (s ++ q) → (y ≡ z) × (r ≡ q)
one_signed s t y z r q h k e f g =
    let one = one_cut s t (signed_decimal y) r (signed_decimal z) q (signed_cut s t y r h e f) (signed_cut s t z q k e g) in
    (signed_decimal_injective y z (small_size y h) (small_size z k) one.0, one.1)

-- ---- what is no number of `int`

pub no_negative : (digits : List ℕ) → ((n : ℕ) → n < 2 ^ 32 → digits ≡ decimal n → ⊥) → (z : ℤ) → IsInt z → 45 ∷ digits ≡ signed_decimal z → ⊥
no_negative digits none (pos n) h e = no_minus digits n (small_pos n h) e
no_negative digits none (negsuc n) h e = none (suc n) (small_negsuc n h) (ap (drop 1) e)

pub other_negative : (digits : List ℕ) (m : ℕ) → m < 2 ^ 32 → digits ≡ decimal m → (m ≡ 0) ⊎ (2147483648 < m) → (z : ℤ) → IsInt z → 45 ∷ digits ≡ signed_decimal z → ⊥
other_negative digits m small is other (pos n) h e = no_minus digits n (small_pos n h) e
other_negative digits m small is other (negsuc n) h e =
    let same : m ≡ suc n = decimal_injective m (suc n) (omega (arith, small)) (omega (arith, small_negsuc n h)) (sym is ∙ ap (drop 1) e) in
    elim other [ inl none ↦ omega (arith, same, none) | inr large ↦ omega (arith, ints, same, large, h.low) ]

pub other_positive : (digits : List ℕ) (m : ℕ) → m < 2 ^ 32 → digits ≡ decimal m → 2147483648 ≤ m → (n : ℕ) → IsInt (pos n) → digits ≡ decimal n → ⊥
other_positive digits m small is large n h e =
    let same : m ≡ n = decimal_injective m n (omega (arith, small)) (omega (arith, small_pos n h)) (sym is ∙ e) in
    omega (arith, ints, same, large, h.high)

pub no_integer : (z : ℤ) → IsInt z → [] ≡ signed_decimal z → ⊥
no_integer (pos n) h e = no_digits n (small_pos n h) e
no_integer (negsuc n) h e = let l : 0 ≡ length (45 ∷ decimal (suc n)) = ap length e in omega (arith, l)

-- ---- nothing before a separator

pub no_cut_before : (s t d r : List ℕ) → Lacks s t → t ≡ d ++ (s ++ r) → ⊥
no_cut_before s t d r h e = h (length d) (occurs s t d r e)

pub no_decimal_before : (s t a b : List ℕ) → IsCut s t a b → EndsDigits s → ((n : ℕ) → n < 2 ^ 32 → a ≡ decimal n → ⊥) → (n : ℕ) (r : List ℕ) → n < 2 ^ 32 → t ≡ decimal n ++ (s ++ r) → ⊥
no_decimal_before s t a b c ends none n r h e = none n h (one_cut s t a b (decimal n) r c (decimal_cut s t n r h ends e)).0

pub no_signed_before : (s t a b : List ℕ) → IsCut s t a b → EndsNumber s → ((z : ℤ) → IsInt z → a ≡ signed_decimal z → ⊥) → (z : ℤ) (r : List ℕ) → IsInt z → t ≡ signed_decimal z ++ (s ++ r) → ⊥
no_signed_before s t a b c ends none z r h e = none z h (one_cut s t a b (signed_decimal z) r c (signed_cut s t z r h ends e)).0
