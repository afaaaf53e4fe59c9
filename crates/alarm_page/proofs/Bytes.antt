-- What a single byte is written as.
use Rattle.std.proofs.Common.{◌≡◌, ℕ, zero, suc, ◌+◌, ◌*◌, ◌/◌, ◌%◌, ◌<◌, ◌^◌, Bool, true, false, ◌&&◌, ◌||◌, inl, inr, List, [], ◌∷◌, ◌++◌, refl, ap, sym, subst, ◌∙◌, arith, true≢false}
use Rattle.std.specs.Prelude.{◌==◌, if◌then◌else◌}
use Rattle.std.specs.List.{AllPass, AllByRecursion}
use Rattle.std.proofs.lemmas.Bool.{eqb-true, ne_eqb, and_parts, cases_eq}
use Rattle.std.proofs.lemmas.List.Elements.{All-from_recursion}
use Rattle.alarm_page.specs.Escapes.{is_plain, hex_digit, digit_value, escape, reference, read_past}

-- a test passes at each number below this
abbrev all_below : ℕ → (ℕ → Bool) → Bool
all_below zero test = true
all_below (suc count) test = test count && all_below count test

passes : (count : ℕ) (test : ℕ → Bool) → all_below count test ≡ true → (n : ℕ) → n < count → test n ≡ true
passes zero test h n below = absurd (omega (arith, below))
passes (suc count) test h n below =
    let parts = and_parts (test count) (all_below count test) h in
    elim (cases_eq n count) [
      | inl same ↦ subst (λ m. test m ≡ true) (sym same) parts.0
      | inr other ↦ passes count test parts.1 n (omega (arith, below, other))
    ]

-- each digit is a byte that stands for itself
digit_plain : (n : ℕ) → n < 16 → is_plain (hex_digit n) ≡ true
digit_plain n below = passes 16 (λ m. is_plain (hex_digit m)) refl n below

-- each digit has its value
digit_back : (n : ℕ) → n < 16 → digit_value (hex_digit n) ≡ n
digit_back n below = eqb-true _ _ (passes 16 (λ m. digit_value (hex_digit m) == m) refl n below)

-- a byte that stands for itself is none that does not
plain_apart : (byte other : ℕ) → is_plain byte ≡ true → is_plain other ≡ false → (byte == other) ≡ false
plain_apart byte other h o = ne_eqb byte other (λ same. true≢false (sym h ∙ (ap is_plain same ∙ o)))

-- both digits of a byte
digits_back : (byte : ℕ) → byte < 2 ^ 8 → 16 * digit_value (hex_digit (byte / 16)) + digit_value (hex_digit (byte % 16)) ≡ byte
digits_back byte below =
    let high : byte / 16 < 16 = omega arith in
    let low : byte % 16 < 16 = omega arith in
    rw (digit_back (byte / 16) high, digit_back (byte % 16) low) (omega arith)

read_at : (v : Bool) (byte : ℕ) (rest : List ℕ) → is_plain byte ≡ v → byte < 2 ^ 8
    → read_past 0 ((if v then byte ∷ [] else reference byte) ++ rest) ≡ byte ∷ read_past 0 rest
read_at true byte rest h below = rw (plain_apart byte 38 h refl) refl
read_at false byte rest h below = ap (λ b. b ∷ read_past 0 rest) (digits_back byte below)

-- what a byte is written as is read as the byte
pub byte_read : (byte : ℕ) (rest : List ℕ) → byte < 2 ^ 8 → read_past 0 (escape byte ++ rest) ≡ byte ∷ read_past 0 rest
byte_read byte rest below = read_at (is_plain byte) byte rest refl below

-- a byte of a page that belongs to a text
abbrev pub is_written : ℕ → Bool
is_written byte = is_plain byte || byte == 38

plain_written : (byte : ℕ) → is_plain byte ≡ true → is_written byte ≡ true
plain_written byte h = rw h refl

written_at : (v : Bool) (byte : ℕ) → is_plain byte ≡ v → byte < 2 ^ 8 → AllByRecursion (λ b. is_written b ≡ true) (if v then byte ∷ [] else reference byte)
written_at true byte h below = (plain_written byte h, tt)
written_at false byte h below =
    let high : byte / 16 < 16 = omega arith in
    let low : byte % 16 < 16 = omega arith in
    let first : is_written (hex_digit (byte / 16)) ≡ true = plain_written (hex_digit (byte / 16)) (digit_plain (byte / 16) high) in
    let second : is_written (hex_digit (byte % 16)) ≡ true = plain_written (hex_digit (byte % 16)) (digit_plain (byte % 16) low) in
    (refl, (refl, (refl, (first, (second, (refl, tt))))))

-- what a byte is written as is no markup
pub byte_written : (byte : ℕ) → byte < 2 ^ 8 → AllPass is_written (escape byte)
byte_written byte below = All-from_recursion (λ b. is_written b ≡ true) (escape byte) (written_at (is_plain byte) byte refl below)

-- and no `<`
pub written_apart : (byte : ℕ) → is_written byte ≡ true → (byte == 60) ≡ false
written_apart byte h = ne_eqb byte 60 (λ same. true≢false (sym h ∙ (ap is_written same ∙ refl)))
