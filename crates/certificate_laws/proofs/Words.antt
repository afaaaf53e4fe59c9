-- Runs of word bytes.
use Rattle.std.proofs.Common.{◌≡◌, ◌≢◌, ℕ, ◌<◌, ◌^◌, List, [], ◌∷◌, ◌++◌, ◌⊎◌, inl, inr, length, refl, ap, subst, arith}
use Rattle.std.specs.Prelude.{⊤}
use Rattle.std.specs.Int.{IsInRange}
use Rattle.std.specs.List.{AllByRecursion}
use Rattle.std.specs.Fmt.{decimal}
use Rattle.std.specs.Str.Parse.{digits_value}
use Rattle.std.proofs.lemmas.Str.Parse.{IsNumeralModel, numerals_by_value}
use Rattle.std.proofs.lemmas.Fmt.{digits_decimal}
use Rattle.certificate_laws.proofs.Naming.{IsWordByte, AreWordBytes, IsName}

abbrev pub AreDigits : List ℕ → Type 0
AreDigits = AllByRecursion (IsInRange 48 57)

pub own : IsNumeralModel AreDigits (digits_value 10)
own = numerals_by_value AreDigits (record { empty = tt; parts = λ c cs p. p; more = λ c cs h k. (h, k) })

pub are_digits : (n : ℕ) → n < 2 ^ 64 → AreDigits (decimal n)
are_digits n h = digits_decimal own n h

-- ---- runs

pub digits_words : (ds : List ℕ) → AreDigits ds → AreWordBytes ds
digits_words [] h = tt
digits_words (d ∷ ds) h = ((omega (arith, h.0), omega (arith, h.0), λ e. omega (arith, h.0, e)), digits_words ds h.1)

pub name_words : (name : List ℕ) → IsName name → AreWordBytes name
name_words [] h = absurd h
name_words (b ∷ bs) h = h.1

-- the text ends, or goes on with another byte
abbrev pub Stops : List ℕ → Type 0
Stops [] = ⊤
Stops (b ∷ bs) = ¬ (IsWordByte b)

-- a run of word bytes ends in one place
pub one_run : (xs ys r s : List ℕ) → AreWordBytes xs → AreWordBytes ys → Stops r → Stops s → xs ++ r ≡ ys ++ s → (xs ≡ ys) × (r ≡ s)
one_run [] [] r s p q h k e = (refl, e)
one_run [] (y ∷ ys) [] s p q h k e = let l : 0 ≡ length (y ∷ ys ++ s) = ap length e in absurd (omega (arith, l))
one_run [] (y ∷ ys) (b ∷ r) s p q h k e = let same : y ≡ b = cc in absurd (h (subst IsWordByte same q.0))
one_run (x ∷ xs) [] r [] p q h k e = let l : length (x ∷ xs ++ r) ≡ 0 = ap length e in absurd (omega (arith, l))
one_run (x ∷ xs) [] r (b ∷ s) p q h k e = let same : x ≡ b = cc in absurd (k (subst IsWordByte same p.0))
one_run (x ∷ xs) (y ∷ ys) r s p q h k e =
    let first : x ≡ y = cc in
    let behind : xs ++ r ≡ ys ++ s = cc in
    let rest = one_run xs ys r s p.1 q.1 h k behind in (λ i. first i ∷ rest.0 i, rest.1)

-- ---- all bytes

pub both_all : (P : ℕ → Type 0) (xs ys : List ℕ) → AllByRecursion P xs → AllByRecursion P ys → AllByRecursion P (xs ++ ys)
both_all P [] ys h k = k
both_all P (x ∷ xs) ys h k = (h.0, both_all P xs ys h.1 k)

-- a byte of a line without a separator of regions: no newline, no `&` and no colon
abbrev pub IsClean : ℕ → Type 0
IsClean b = (31 < b) × (b ≢ 38) × (b ≢ 58)

abbrev pub AreClean : List ℕ → Type 0
AreClean bytes = AllByRecursion IsClean bytes

pub words_clean : (xs : List ℕ) → AreWordBytes xs → AreClean xs
words_clean [] h = tt
words_clean (x ∷ xs) h = ((omega (arith, h.0.0), λ e. omega (arith, h.0.0, e), h.0.2), words_clean xs h.1)

-- ---- letters

-- some byte stands behind the digits and the colon
abbrev pub HasLetter : List ℕ → Type 0
HasLetter [] = ⊥
HasLetter (b ∷ bs) = (58 < b) ⊎ HasLetter bs

pub letter_left : (xs ys : List ℕ) → HasLetter xs → HasLetter (xs ++ ys)
letter_left [] ys h = absurd h
letter_left (x ∷ xs) ys (inl h) = inl h
letter_left (x ∷ xs) ys (inr h) = inr (letter_left xs ys h)

pub letter_right : (xs ys : List ℕ) → HasLetter ys → HasLetter (xs ++ ys)
letter_right [] ys h = h
letter_right (x ∷ xs) ys h = inr (letter_right xs ys h)

pub name_letter : (name : List ℕ) → IsName name → HasLetter name
name_letter [] h = absurd h
name_letter (b ∷ bs) h = inl h.0
