-- What `decimal` writes is read as the same number, and a number without a leading `0` or a quote is so written.
use Rattle.std.proofs.Common.{◌≡◌, ℕ, ℤ, pos, zero, suc, ◌^◌, ◌<◌, ◌≤◌, Bool, true, false, not, cond, eqb, leb, ltb, IfSome, List, [], ◌∷◌, length, get_or, Option, Some, None, refl, sym, ap, subst, ◌∙◌, arith}
use Rattle.std.specs.Prelude.{◌&&◌, option_map}
use Rattle.std.specs.List.{list_all}
use Rattle.std.specs.Fmt.{decimal}
use Rattle.std.specs.Char.{digit_value}
use Rattle.std.proofs.lemmas.Bool.{and_parts, and_left, and_from, leb-true, le-leb, lt-ltb, ltb-true, ne_eqb}
use Rattle.std.proofs.lemmas.Fmt.{decimal-digits_value, decimal_nonempty}
use Rattle.c_tokens.specs.declared.token.TokenKind.{TokenKind}
use Rattle.c_tokens.specs.declared.token.TokenKind.TheVariants.{Word, Number, Mark}
use Rattle.c_words.specs.Bytes.{is_digit, is_word_byte}
use Rattle.c_words.specs.Numbers.{is_digit_in, value_in, is_numeral, is_constant, constant_value, base_of, digits_of, is_prefixed, up_to, numeral_up_to}
use Rattle.c_words.proofs.Decimals.{own, constant_is, value_is, decimal_digits, decimal_constant, decimal_value}
use Rattle.c_tokens.specs.Lexemes.{literal_of, number_kind, kind_of}
use Rattle.c_tokens.specs.Characters.{is_plain, simple_escape, octal_escape, escape_of, character_of, inner}

kind_is : (w : List ℕ) (n : ℕ) → 0 < length w → list_all is_digit w ≡ true → is_constant w ≡ true → constant_value w ≡ n → n ≤ 2147483647 → kind_of w ≡ Some (Number (pos n))
kind_is [] n some a c e small = absurd (omega arith)
kind_is (d ∷ ds) n some a c e small = rw ((and_parts (is_digit d) (list_all is_digit ds) a).0, c, e, le-leb n 2147483647 small) refl

pub read : (n : ℕ) → n ≤ 2147483647 → kind_of (decimal n) ≡ Some (Number (pos n))
read n small =
    let lt : n < 2 ^ 64 = omega arith in
    kind_is (decimal n) n (decimal_nonempty n lt) (decimal_digits n lt) (decimal_constant n lt) (decimal_value n lt) small

-- ---- and back

abbrev IsUpTo : ℕ → Option ℕ → Type 0
IsUpTo most o = IfSome o (λ n. n ≤ most)

up_to_most : (most n : ℕ) → IsUpTo most (up_to most n)
up_to_most most n = elim (leb n most) as (λ v. leb n most ≡ v → IsUpTo most (cond v (Some n) None)) [ true ↦ leb-true n most | false ↦ λ e. tt ] refl

numeral_most : (most base : ℕ) (ds : List ℕ) → IsUpTo most (numeral_up_to most base ds)
numeral_most most base ds = elim (is_numeral base ds) as (λ v. IsUpTo most (cond v (up_to most (value_in base ds)) None)) [ true ↦ up_to_most most (value_in base ds) | false ↦ tt ]

one_of : (v : Bool) (most k : ℕ) (o : Option ℕ) → k ≤ most → IsUpTo most o → IsUpTo most (cond v (Some k) o)
one_of true most k o le h = le
one_of false most k o le h = h

simple_most : (b : ℕ) → IsUpTo 127 (simple_escape b)
simple_most b =
    one_of (eqb b 39) 127 39 _ (omega arith) (one_of (eqb b 34) 127 34 _ (omega arith) (one_of (eqb b 63) 127 63 _ (omega arith) (one_of (eqb b 92) 127 92 _ (omega arith)
    (one_of (eqb b 97) 127 7 _ (omega arith) (one_of (eqb b 98) 127 8 _ (omega arith) (one_of (eqb b 102) 127 12 _ (omega arith) (one_of (eqb b 110) 127 10 _ (omega arith)
    (one_of (eqb b 114) 127 13 _ (omega arith) (one_of (eqb b 116) 127 9 _ (omega arith) (one_of (eqb b 118) 127 11 None (omega arith) tt))))))))))

either : (v : Bool) (most : ℕ) (o p : Option ℕ) → IsUpTo most o → IsUpTo most p → IsUpTo most (cond v o p)
either true most o p h k = h
either false most o p h k = k

escape_most : (bs : List ℕ) → IsUpTo 127 (escape_of bs)
escape_most [] = tt
escape_most (b ∷ bs) =
    either (eqb b 120) 127 (numeral_up_to 127 16 bs) _ (numeral_most 127 16 bs)
    (either (is_digit_in 8 b) 127 (octal_escape (b ∷ bs)) _ (either (leb (length (b ∷ bs)) 3) 127 (numeral_up_to 127 8 (b ∷ bs)) None (numeral_most 127 8 (b ∷ bs)) tt)
    (either (leb (length bs) 0) 127 (simple_escape b) None (simple_most b) tt))

plain_most : (b : ℕ) → is_plain b ≡ true → b ≤ 127
plain_most b p =
    let h = (and_parts (leb 32 b && leb b 126 && not (eqb b 39)) (not (eqb b 92)) p).0 in
    let k = (and_parts (leb 32 b && leb b 126) (not (eqb b 39)) h).0 in
    omega (arith, leb-true b 126 (and_parts (leb 32 b) (leb b 126) k).1)

character_most : (bs : List ℕ) → IsUpTo 127 (character_of bs)
character_most [] = tt
character_most (b ∷ bs) =
    either (eqb b 92) 127 (escape_of bs) _ (escape_most bs)
    (elim (is_plain b && leb (length bs) 0) as (λ v. (is_plain b && leb (length bs) 0) ≡ v → IsUpTo 127 (cond v (Some b) None)) [
      | true ↦ λ e. plain_most b (and_parts (is_plain b) (leb (length bs) 0) e).0
      | false ↦ λ e. tt
    ] refl)

literal_most : (w : List ℕ) → IsUpTo 2147483647 (literal_of w)
literal_most w = either (is_constant w) 2147483647 (up_to 2147483647 (constant_value w)) None (up_to_most 2147483647 (constant_value w)) tt

abbrev number_in : Option TokenKind → ℤ
number_in (Some (Number v)) = v
number_in _ = pos 0

abbrev IsSmall : ℤ → Type 0
IsSmall v = (n : ℕ) × (v ≡ pos n) × (n ≤ 2147483647)

from_number : (most : ℕ) (o : Option ℕ) (v : ℤ) → most ≤ 2147483647 → IsUpTo most o → number_kind o ≡ Some (Number v) → IsSmall v
from_number most None v le h e = absurd cc
from_number most (Some n) v le h e = (n, sym (ap number_in e), omega arith)

no_word : (t : Bool) (v : ℤ) (X : Type 0) → cond t (Some Word) (Some Mark) ≡ Some (Number v) → X
no_word true v X e = absurd cc
no_word false v X e = absurd cc

pub small : (w : List ℕ) (v : ℤ) → kind_of w ≡ Some (Number v) → (n : ℕ) × (v ≡ pos n) × (n ≤ 2147483647)
small [] v e = absurd cc
small (b ∷ bs) v e = elim (is_digit b) as (λ t. cond t (number_kind (literal_of (b ∷ bs))) (cond (eqb b 39) (number_kind (character_of (inner (b ∷ bs)))) (cond (is_word_byte b) (Some Word) (Some Mark))) ≡ Some (Number v) → IsSmall v) [
  | true ↦ from_number 2147483647 (literal_of (b ∷ bs)) v (omega arith) (literal_most (b ∷ bs))
  | false ↦ elim (eqb b 39) as (λ t. cond t (number_kind (character_of (inner (b ∷ bs)))) (cond (is_word_byte b) (Some Word) (Some Mark)) ≡ Some (Number v) → IsSmall v) [
    | true ↦ from_number 127 (character_of (inner (b ∷ bs))) v (omega arith) (character_most (inner (b ∷ bs)))
    | false ↦ no_word (is_word_byte b) v (IsSmall v)
  ]
] e

abbrev Written : List ℕ → ℤ → Type 0
Written w v = (n : ℕ) × (v ≡ pos n) × (w ≡ decimal n)

from_decimal : (d : ℕ) (ds : List ℕ) (v : ℤ) → 48 < d → number_kind (literal_of (d ∷ ds)) ≡ Some (Number v) → Written (d ∷ ds) v
from_decimal d ds v lt e = by_test (is_constant (d ∷ ds)) (leb (constant_value (d ∷ ds)) 2147483647) refl refl e
  where
    by_test : (t u : Bool) → is_constant (d ∷ ds) ≡ t → leb (constant_value (d ∷ ds)) 2147483647 ≡ u → number_kind (cond t (cond u (Some (constant_value (d ∷ ds))) None) None) ≡ Some (Number v) → Written (d ∷ ds) v
    by_test true true c l h =
        let all = sym (constant_is d ds lt) ∙ c in
        let le : constant_value (d ∷ ds) ≤ 2147483647 = leb-true (constant_value (d ∷ ds)) 2147483647 l in
        let is = value_is d ds lt in
        (constant_value (d ∷ ds), sym (ap number_in h), sym (ap decimal is ∙ decimal-digits_value own (d ∷ ds) all (omega arith) (λ z. absurd (omega arith)) (omega (arith, le, is))))
    by_test true false c l h = absurd cc
    by_test false u c l h = absurd cc

pub written : (d : ℕ) (ds : List ℕ) (v : ℤ) → 48 < d → kind_of (d ∷ ds) ≡ Some (Number v) → (n : ℕ) × (v ≡ pos n) × (d ∷ ds ≡ decimal n)
written d ds v lt e = elim (is_digit d) as (λ t. cond t (number_kind (literal_of (d ∷ ds))) (cond (eqb d 39) (number_kind (character_of (inner (d ∷ ds)))) (cond (is_word_byte d) (Some Word) (Some Mark))) ≡ Some (Number v) → Written (d ∷ ds) v) [
  | true ↦ from_decimal d ds v lt
  | false ↦ λ h. no_word (is_word_byte d) v (Written (d ∷ ds) v) (subst (λ (t : Bool). cond t (number_kind (character_of (inner (d ∷ ds)))) (cond (is_word_byte d) (Some Word) (Some Mark)) ≡ Some (Number v)) (ne_eqb d 39 (λ k. absurd (omega arith))) h)
] e
