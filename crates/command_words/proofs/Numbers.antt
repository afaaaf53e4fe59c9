-- What numbers and inputs spell.
use Rattle.std.proofs.Common.{◌≡◌, ◌≤◌, ◌≤ℤ◌, ◌<◌, ◌^◌, ◌++◌, ℕ, ℤ, pos, negsuc, List, [], ◌∷◌, Bool, true, false, not, refl, sym, ap, subst, codes, length, eqb, string_bytes, arith, rules}
use Rattle.std.specs.Prelude.{Option, Some, None, Result, Ok, Err, FitsSigned, nat_le, int_le}
use Rattle.std.specs.Result.{result_ok}
use Rattle.std.specs.declared.string.String.{String}
use lib.Signed.{le_z_yes}
use lib.Dec.{T}
use Rattle.std.specs.List.{list_all}
use Rattle.std.specs.Int.{w32, IsInRange}
use Rattle.std.specs.Str.{bytes_eq}
use Rattle.std.specs.Str.Parse.{IsNumeral, ParsesUnsigned, ParsesSigned, digits_value, without_leading_plus, without_leading_sign, signed_digits_value}
use Rattle.std.proofs.lemmas.Bool.{and_parts, leb-true, leb-false, le-leb}
use Rattle.std.proofs.lemmas.List.{map-append}
use Rattle.std.proofs.lemmas.Slice.Eq.{bytes_eq-Decides}
use Rattle.std.proofs.lemmas.Str.Parse.{IsNumeralModel, numerals_by_value, not_in_digits, without_leading_plus_none}
use Rattle.clap.specs.ValueTests.{accepts}
use Rattle.clap.specs.Values.{Accepts}
use Rattle.clap.specs.Words.{ReadsOne}
use Rattle.clap.proofs.ValueTestLemmas.{accepts-Accepts, Accepts-accepts}
use Rattle.clap.specs.declared.builder.value_parser.ValueParser.TheVariants as vp
use Rattle.c_words.specs.Bytes.{is_digit}
use Rattle.command_words.specs.Arguments.{texts_of}
use Rattle.command_words.specs.Options.{IsNumberBelow}
use Rattle.command_words.specs.Spelling.{is_positive, is_number, is_input, is_in_int, number_up_to, input_of, without_minus}

pub texts_after : {Z : Type 0} (words : List (String Z)) (word : String Z) → texts_of (words ++ word ∷ []) ≡ texts_of words ++ string_bytes word ∷ []
texts_after words word = map-append string_bytes words (word ∷ [])

own : IsNumeralModel (λ ds. list_all is_digit ds ≡ true) (digits_value 10)
own = numerals_by_value _ (search rules)

-- ---- numbers

-- the text has digits alone, and one of them
pub record IsDigits (text : List ℕ) : Type 0 where
  pub digits : list_all is_digit text ≡ true
  pub some : 0 < length text

pub positive_digits : (text : List ℕ) → is_positive text ≡ true → IsDigits text
positive_digits [] e = absurd cc
positive_digits (c ∷ cs) e = record { digits = (and_parts (not (eqb c 48)) (list_all is_digit (c ∷ cs)) e).1; some = omega arith }

pub number_digits : (text : List ℕ) → is_number text ≡ true → IsDigits text
number_digits text e = go (bytes_eq text (codes "0")) refl
  where
    go : (b : Bool) → bytes_eq text (codes "0") ≡ b → IsDigits text
    go true h = let same : text ≡ codes "0" = (bytes_eq-Decides text (codes "0")).0 h in subst IsDigits (sym same) (record { digits = refl; some = omega arith })
    go false h = positive_digits text (rw h at e)

pub no_plus : (text : List ℕ) → IsDigits text → without_leading_plus text ≡ text
no_plus text d = without_leading_plus_none text (not_in_digits own text 43 d.digits (λ (r : IsInRange 48 57 43). omega (arith, r.0, r.1)) 0 d.some)

numeral_of : (text : List ℕ) → IsDigits text → IsNumeral 10 text
numeral_of text d = (d.some, own.to text d.digits)

-- clap takes a number just where it is in the range
pub accepted : (most : ℕ) (text : List ℕ) → most < 2 ^ 64 → is_number text ≡ true → accepts false (vp.Unsigned 0 most) text ≡ nat_le (digits_value 10 text) most
accepted most text lt e = go (nat_le (digits_value 10 text) most) refl
  where
    d : IsDigits text
    d = number_digits text e

    accepts_of : digits_value 10 text ≤ most → Accepts false (vp.Unsigned 0 most) text
    accepts_of le = rw (no_plus text d) (numeral_of text d, omega arith, omega arith, le)

    within : Accepts false (vp.Unsigned 0 most) text → digits_value 10 text ≤ most
    within h = let low : digits_value 10 (without_leading_plus text) ≤ most = h.3 in rw (no_plus text d) at low

    refused : (b : Bool) → accepts false (vp.Unsigned 0 most) text ≡ b → most < digits_value 10 text → b ≡ false
    refused false h more = refl
    refused true h more = let le = within (accepts-Accepts false (vp.Unsigned 0 most) text h) in absurd (omega arith)

    go : (b : Bool) → nat_le (digits_value 10 text) most ≡ b → accepts false (vp.Unsigned 0 most) text ≡ b
    go true h = Accepts-accepts false (vp.Unsigned 0 most) text (accepts_of (leb-true (digits_value 10 text) most h))
    go false h = refused (accepts false (vp.Unsigned 0 most) text) refl (leb-false (digits_value 10 text) most h)

-- a text that is a number reads as it
pub number_read : {E : Type 0} (G : List ℕ → Result ℕ E → Type 0) (text : List ℕ) (r : Option ℕ) → ReadsOne G text r
    → ((x : Result ℕ E) → G text x → ParsesUnsigned 64 10 text x) → IsNumberBelow (2 ^ 64) text → r ≡ Some (digits_value 10 text)
number_read G text (Some n) read only below =
    let same : n ≡ digits_value 10 (without_leading_plus text) = (only (Ok n) read).1 in
    ap (λ (m : ℕ). Some m) (rw (no_plus text (number_digits text below.0)) at same)
number_read G text None read only below =
    let d : IsDigits text = number_digits text below.0 in
    absurd (only (Err read.0) read.1 (rw (no_plus text d) (numeral_of text d, below.1)))

-- a text that is read as no word spells no number up to a word
pub number_unread : {E : Type 0} (most : ℕ) (text : List ℕ) (error : E) → ParsesUnsigned 32 10 text (Err error) → is_number text ≡ true → most < 2 ^ 32
    → None ≡ number_up_to most text
number_unread most text error h e small = go (nat_le (digits_value 10 text) most) refl
  where
    d : IsDigits text
    d = number_digits text e

    go : (b : Bool) → nat_le (digits_value 10 text) most ≡ b → None ≡ number_up_to most text
    go true f = absurd (h (rw (no_plus text d) (numeral_of text d, omega (arith, leb-true (digits_value 10 text) most f))))
    go false f = rw (e, f) refl

-- ---- inputs

pub in_order : (a b : ℤ) → int_le a b ≡ true → a ≤ℤ b
in_order a b e = le_z_yes (subst T (sym e) tt)

in_int : (z : ℤ) → FitsSigned w32 z → is_in_int z ≡ true
in_int (pos n) h = le-leb n 2147483647 (omega (arith, h.sfits))
in_int (negsuc n) h = rw (le-leb n 2147483647 (omega (arith, h.sfits))) refl

fits_int : (z : ℤ) → is_in_int z ≡ true → FitsSigned w32 z
fits_int (pos n) e = record { sfits = omega (arith, leb-true n 2147483647 e) }
fits_int (negsuc n) e = record { sfits = omega (arith, leb-true n 2147483647 (and_parts (nat_le n 2147483647) true e).0) }

input_numeral : (text : List ℕ) → is_input text ≡ true → IsNumeral 10 (without_leading_sign text)
input_numeral text e = go (bytes_eq text (codes "0")) refl
  where
    after_sign : (bs : List ℕ) → is_positive (without_minus bs) ≡ true → IsNumeral 10 (without_leading_sign bs)
    after_sign [] h = absurd cc
    after_sign (c ∷ cs) h = by_minus (eqb c 45) refl
      where
        by_minus : (b : Bool) → eqb c 45 ≡ b → IsNumeral 10 (without_leading_sign (c ∷ cs))
        by_minus true m = let p : is_positive cs ≡ true = rw m at h in rw m (numeral_of cs (positive_digits cs p))
        by_minus false m =
            let p : is_positive (c ∷ cs) ≡ true = rw m at h in
            let d : IsDigits (c ∷ cs) = positive_digits (c ∷ cs) p in
            rw (m, no_plus (c ∷ cs) d) (numeral_of (c ∷ cs) d)

    go : (b : Bool) → bytes_eq text (codes "0") ≡ b → IsNumeral 10 (without_leading_sign text)
    go true h = let same : text ≡ codes "0" = (bytes_eq-Decides text (codes "0")).0 h in
        subst (λ (bs : List ℕ). IsNumeral 10 (without_leading_sign bs)) (sym same) (numeral_of (codes "0") (record { digits = refl; some = omega arith }))
    go false h = after_sign text (rw h at e)

-- a text that is spelled as an input is read as it
pub input_read : {E : Type 0} (text : List ℕ) (r : Result ℤ E) → ParsesSigned w32 10 text r → is_input text ≡ true → result_ok r ≡ input_of text
input_read text (Ok n) h e = rw (e, in_int (signed_digits_value 10 text) h.0.1, h.1) refl
input_read text (Err error) h e = go (is_in_int (signed_digits_value 10 text)) refl
  where
    go : (b : Bool) → is_in_int (signed_digits_value 10 text) ≡ b → None ≡ input_of text
    go true f = absurd (h (input_numeral text e, fits_int (signed_digits_value 10 text) f))
    go false f = rw (e, f) refl
