-- Configurations that have one text are one.
use Rattle.std.proofs.Common.{◌≡◌, ◌≢◌, ℕ, suc, ◌<◌, ◌≤◌, ◌^◌, ℤ, pos, negsuc, ◌≤ℤ◌, unsigned_abs, Bool, true, false, not, ◌||◌, true≢false, List, [], ◌∷◌, ◌++◌, length, drop, map, refl, sym, ap, subst, ◌∙◌, arith, append_assoc}
use Rattle.std.specs.List.{AllByRecursion, list_all}
use Rattle.std.specs.Fmt.{decimal, signed_decimal}
use Rattle.std.proofs.lemmas.Bool.{and_parts}
use Rattle.std.proofs.lemmas.Bool.Decides.{nat_tests}
use Rattle.std.proofs.lemmas.Fmt.{decimal_injective, decimal_nonempty}
use Rattle.std.proofs.lemmas.Int.{ints}
use Rattle.std.proofs.lemmas.List.{append_cancel_left}
use Rattle.linear_atoms.specs.declared.atoms.Feature.{Feature}
use Rattle.linear_atoms.specs.Atoms.{AreRanges, IsWithin}
use Rattle.linear_atoms.specs.SettingTexts.{setting_text, spaced_settings, config_text}
use Rattle.c_words.specs.Bytes.{is_nondigit, is_word_byte}
use Rattle.c_words.specs.Identifiers.{is_identifier}
use Rattle.fam_outer.specs.Limits.{most_value}
use Rattle.feature_model.specs.Features.{AreNamed}
use Rattle.certificate_laws.proofs.Words.{AreDigits, are_digits, digits_words, Stops, one_run, both_all}
use Rattle.certificate_laws.proofs.Naming.{IsWordByte}

-- ---- bytes

-- no control byte, no colon and no semicolon
abbrev pub IsSettingByte : ℕ → Type 0
IsSettingByte b = (31 < b) × (b ≢ 58) × (b ≢ 59)

abbrev pub AreSettingBytes : List ℕ → Type 0
AreSettingBytes bytes = AllByRecursion IsSettingByte bytes

word_above : (b : ℕ) → is_word_byte b ≡ true → 31 < b
word_above b e = grind (arith, nat_tests)

setting_byte : (b : ℕ) → is_word_byte b ≡ true → IsSettingByte b
setting_byte b e = (word_above b e, λ f. colon (subst (λ n. is_word_byte n ≡ true) f e), λ f. semicolon (subst (λ n. is_word_byte n ≡ true) f e))
  where
    colon : is_word_byte 58 ≡ true → ⊥
    colon h = true≢false (sym h)

    semicolon : is_word_byte 59 ≡ true → ⊥
    semicolon h = true≢false (sym h)

or_first : (a b : Bool) → a ≡ true → (a || b) ≡ true
or_first a b e = ap (λ x. x || b) e

not_or : (a b : Bool) → (not a || b) ≡ false → a ≡ true
not_or true b e = refl
not_or false b e = absurd (true≢false e)

word_bytes : (bs : List ℕ) → list_all is_word_byte bs ≡ true → AreSettingBytes bs
word_bytes [] e = tt
word_bytes (b ∷ bs) e = let parts = and_parts (is_word_byte b) (list_all is_word_byte bs) e in (setting_byte b parts.0, word_bytes bs parts.1)

name_bytes : (name : List ℕ) → is_identifier name ≡ true → AreSettingBytes name
name_bytes [] e = tt
name_bytes (b ∷ bs) e =
    let parts = and_parts (is_nondigit b) (list_all is_word_byte bs) e in
    (setting_byte b (or_first (is_nondigit b) _ parts.0), word_bytes bs parts.1)

digit_bytes : (ds : List ℕ) → AreDigits ds → AreSettingBytes ds
digit_bytes [] h = tt
digit_bytes (d ∷ ds) h = ((omega (arith, h.0), λ e. omega (arith, h.0, e), λ e. omega (arith, h.0, e)), digit_bytes ds h.1)

-- ---- values

-- a value within a range of small ends
abbrev IsValue : ℤ → Type 0
IsValue v = unsigned_abs v ≤ most_value

within_small : (low high v : ℤ) → low ≤ℤ v → v ≤ℤ high → unsigned_abs low ≤ most_value → unsigned_abs high ≤ most_value → IsValue v
within_small low high v h k l m = grind (arith, ints)

value_bytes : (v : ℤ) → IsValue v → AreSettingBytes (signed_decimal v)
value_bytes (pos n) h = digit_bytes (decimal n) (are_digits n (omega (arith, h)))
value_bytes (negsuc n) h = ((omega arith, λ e. omega (arith, e), λ e. omega (arith, e)), digit_bytes (decimal (suc n)) (are_digits (suc n) (omega (arith, h))))

-- a number does not begin with `-`
no_minus : (n : ℕ) (r s : List ℕ) → n < 2 ^ 64 → decimal n ++ r ≡ 45 ∷ s → ⊥
no_minus n r s h e = by (decimal n) (decimal_nonempty n h) (are_digits n h) e
  where
    by : (ds : List ℕ) → 0 < length ds → AreDigits ds → ds ++ r ≡ 45 ∷ s → ⊥
    by [] some digits f = omega (arith, some)
    by (d ∷ ds) some digits f = let same : d ≡ 45 = cc in omega (arith, same, digits.0)

one_number : (n m : ℕ) (r s : List ℕ) → n < 2 ^ 64 → m < 2 ^ 64 → Stops r → Stops s → decimal n ++ r ≡ decimal m ++ s → (n ≡ m) × (r ≡ s)
one_number n m r s h k p q e =
    let run = one_run (decimal n) (decimal m) r s (digits_words (decimal n) (are_digits n h)) (digits_words (decimal m) (are_digits m k)) p q e in
    (decimal_injective n m h k run.0, run.1)

one_value : (v w : ℤ) (r s : List ℕ) → IsValue v → IsValue w → Stops r → Stops s → signed_decimal v ++ r ≡ signed_decimal w ++ s → (v ≡ w) × (r ≡ s)
one_value (pos n) (pos m) r s h k p q e = let both = one_number n m r s (omega (arith, h)) (omega (arith, k)) p q e in (ap pos both.0, both.1)
one_value (pos n) (negsuc m) r s h k p q e = absurd (no_minus n r (decimal (suc m) ++ s) (omega (arith, h)) e)
one_value (negsuc n) (pos m) r s h k p q e = absurd (no_minus m s (decimal (suc n) ++ r) (omega (arith, k)) (sym e))
one_value (negsuc n) (negsuc m) r s h k p q e =
    let both = one_number (suc n) (suc m) r s (omega (arith, h)) (omega (arith, k)) p q (ap (drop 1) e) in
    let same : n ≡ m = omega (arith, both.0) in
    (ap negsuc same, both.1)

-- ---- settings

setting_is : (name : List ℕ) (v : ℤ) (rest : List ℕ) → setting_text name v ++ rest ≡ name ++ (61 ∷ (signed_decimal v ++ rest))
setting_is name v rest = append_assoc (name ++ 61 ∷ []) (signed_decimal v) rest ∙ append_assoc name (61 ∷ []) (signed_decimal v ++ rest)

one_setting : (name : List ℕ) (v w : ℤ) (r s : List ℕ) → IsValue v → IsValue w → Stops r → Stops s → setting_text name v ++ r ≡ setting_text name w ++ s → (v ≡ w) × (r ≡ s)
one_setting name v w r s h k p q e =
    one_value v w r s h k p q (ap (drop 1) (append_cancel_left name (61 ∷ (signed_decimal v ++ r)) (61 ∷ (signed_decimal w ++ s)) (sym (setting_is name v r) ∙ e ∙ setting_is name w s)))

abbrev names_of : List Feature → List (List ℕ)
names_of fs = map (λ (f : Feature). f.name) fs

space_stops : ¬ (IsWordByte 32)
space_stops h = omega (arith, h.0)

settings_stop : (fs : List Feature) (vs : List ℤ) → Stops (spaced_settings (names_of fs) vs)
settings_stop [] vs = tt
settings_stop (f ∷ fs) [] = tt
settings_stop (f ∷ fs) (v ∷ vs) = space_stops

one_settings : (fs : List Feature) (vs ws : List ℤ) → AreRanges fs → IsWithin fs vs → IsWithin fs ws → spaced_settings (names_of fs) vs ≡ spaced_settings (names_of fs) ws → vs ≡ ws
one_settings [] [] [] r h k e = refl
one_settings [] [] (w ∷ ws) r h k e = absurd k
one_settings [] (v ∷ vs) ws r h k e = absurd h
one_settings (f ∷ fs) [] ws r h k e = absurd h
one_settings (f ∷ fs) (v ∷ vs) [] r h k e = absurd k
one_settings (f ∷ fs) (v ∷ vs) (w ∷ ws) r h k e =
    let both = one_setting f.name v w (spaced_settings (names_of fs) vs) (spaced_settings (names_of fs) ws) (within_small f.low f.high v h.0 h.1 r.1 r.2) (within_small f.low f.high w k.0 k.1 r.1 r.2)
    (settings_stop fs vs) (settings_stop fs ws) (ap (drop 1) e) in
    let rest : vs ≡ ws = one_settings fs vs ws r.3 h.2 k.2 both.1 in
    λ i. both.0 i ∷ rest i

-- ---- configurations

pub one_config : (fs : List Feature) (vs ws : List ℤ) → AreRanges fs → IsWithin fs vs → IsWithin fs ws → config_text fs vs ≡ config_text fs ws → vs ≡ ws
one_config [] [] [] r h k e = refl
one_config [] [] (w ∷ ws) r h k e = absurd k
one_config [] (v ∷ vs) ws r h k e = absurd h
one_config (f ∷ fs) [] ws r h k e = absurd h
one_config (f ∷ fs) (v ∷ vs) [] r h k e = absurd k
one_config (f ∷ fs) (v ∷ vs) (w ∷ ws) r h k e =
    let both = one_setting f.name v w (spaced_settings (names_of fs) vs) (spaced_settings (names_of fs) ws) (within_small f.low f.high v h.0 h.1 r.1 r.2) (within_small f.low f.high w k.0 k.1 r.1 r.2)
    (settings_stop fs vs) (settings_stop fs ws) e in
    let rest : vs ≡ ws = one_settings fs vs ws r.3 h.2 k.2 both.1 in
    λ i. both.0 i ∷ rest i

-- ---- their bytes

both_bytes : (xs ys : List ℕ) → AreSettingBytes xs → AreSettingBytes ys → AreSettingBytes (xs ++ ys)
both_bytes = both_all IsSettingByte

feature_bytes : (f : Feature) (fs : List Feature) → AreNamed (f ∷ fs) → AreSettingBytes f.name
feature_bytes f fs h = name_bytes f.name (not_or (is_identifier f.name) _ h.0)

setting_bytes : (f : Feature) (fs : List Feature) (v : ℤ) → AreNamed (f ∷ fs) → IsValue v → AreSettingBytes (setting_text f.name v)
setting_bytes f fs v h k =
    both_bytes (f.name ++ 61 ∷ []) (signed_decimal v) (both_bytes f.name (61 ∷ []) (feature_bytes f fs h) ((omega arith, λ e. omega (arith, e), λ e. omega (arith, e)), tt)) (value_bytes v k)

settings_bytes : (fs : List Feature) (vs : List ℤ) → AreNamed fs → AreRanges fs → IsWithin fs vs → AreSettingBytes (spaced_settings (names_of fs) vs)
settings_bytes [] vs n r h = tt
settings_bytes (f ∷ fs) [] n r h = tt
settings_bytes (f ∷ fs) (v ∷ vs) n r h = (
  (omega arith, λ e. omega (arith, e), λ e. omega (arith, e)),
  both_bytes (setting_text f.name v) (spaced_settings (names_of fs) vs) (setting_bytes f fs v n (within_small f.low f.high v h.0 h.1 r.1 r.2)) (settings_bytes fs vs n.1 r.3 h.2),
)

pub config_bytes : (fs : List Feature) (vs : List ℤ) → AreNamed fs → AreRanges fs → IsWithin fs vs → AreSettingBytes (config_text fs vs)
config_bytes [] vs n r h = ((omega arith, λ e. omega (arith, e), λ e. omega (arith, e)), tt)
config_bytes (f ∷ fs) [] n r h = ((omega arith, λ e. omega (arith, e), λ e. omega (arith, e)), tt)
config_bytes (f ∷ fs) (v ∷ vs) n r h =
    both_bytes (setting_text f.name v) (spaced_settings (names_of fs) vs) (setting_bytes f fs v n (within_small f.low f.high v h.0 h.1 r.1 r.2)) (settings_bytes fs vs n.1 r.3 h.2)
