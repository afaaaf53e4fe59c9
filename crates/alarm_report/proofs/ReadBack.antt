-- The lines of a report on one program are read back: reports with one text have the same alarms.
use Rattle.std.proofs.Common.{◌≡◌, ℕ, ◌^◌, ◌+◌, ◌<◌, List, [], ◌∷◌, ◌++◌, length, take, drop, get_or, refl, sym, ap, subst, ◌∙◌, arith, append_assoc, append-nil}
use Rattle.std.specs.Prelude.{flat_map}
use Rattle.std.specs.Int.{IsInRange}
use Rattle.std.specs.List.{AllByRecursion}
use Rattle.std.specs.Fmt.{decimal}
use Rattle.std.proofs.lemmas.List.Elements.{recursion_from_All, All-append, All-cons, All-nil}
use Rattle.std.proofs.lemmas.Grind.{flat_map-append}
use Rattle.std.proofs.lemmas.List.{take_more}
use Rattle.std.proofs.lemmas.Str.Parse.{IsNumeralModel, numerals_by_value}
use Rattle.std.specs.Str.Parse.{digits_value}
use Rattle.std.proofs.lemmas.Fmt.{digits_decimal, decimal_injective, decimal_nonempty}
use Rattle.c_tree.specs.declared.tree.Kind.{Kind}
use Rattle.c_tree.specs.declared.tree.Kind.TheVariants.{Overflow, ZeroDivisor, Assertion}
use Rattle.plain_analysis.specs.declared.alarm.Alarm.{Alarm}
use Rattle.alarm_report.specs.Texts.{kind_text, alarm_line, variant_text, IsWordPlace, HaveWordPlaces}

abbrev AreDigits : List ℕ → Type 0
AreDigits = AllByRecursion (IsInRange 48 57)

own : IsNumeralModel AreDigits (digits_value 10)
own = numerals_by_value AreDigits (record { empty = tt; parts = λ c cs p. p; more = λ c cs h k. (h, k) })

colon_is_none : IsInRange 48 57 58 → ⊥
colon_is_none h = omega (arith, h)

-- digits end at the first byte that is none
split : (xs ys r s : List ℕ) → AreDigits xs → AreDigits ys → xs ++ 58 ∷ r ≡ ys ++ 58 ∷ s → (xs ≡ ys) × (r ≡ s)
split [] [] r s p q e = (refl, cc)
split [] (y ∷ ys) r s p q e = let same : y ≡ 58 = cc in absurd (colon_is_none (subst (IsInRange 48 57) same q.0))
split (x ∷ xs) [] r s p q e = let same : x ≡ 58 = cc in absurd (colon_is_none (subst (IsInRange 48 57) same p.0))
split (x ∷ xs) (y ∷ ys) r s p q e =
    let first : x ≡ y = cc in
    let behind : xs ++ 58 ∷ r ≡ ys ++ 58 ∷ s = cc in
    let h = split xs ys r s p.1 q.1 behind in (cc, h.1)

split_kinds : (k j : Kind) (r s : List ℕ) → kind_text k ++ 10 ∷ r ≡ kind_text j ++ 10 ∷ s → (k ≡ j) × (r ≡ s)
split_kinds Overflow Overflow r s e = (refl, ap (drop 9) e)
split_kinds ZeroDivisor ZeroDivisor r s e = (refl, ap (drop 13) e)
split_kinds Assertion Assertion r s e = (refl, ap (drop 10) e)
split_kinds Overflow ZeroDivisor r s e = absurd (omega (arith, ap (λ t. get_or t 0 0) e))
split_kinds Overflow Assertion r s e = absurd (omega (arith, ap (λ t. get_or t 0 0) e))
split_kinds ZeroDivisor Overflow r s e = absurd (omega (arith, ap (λ t. get_or t 0 0) e))
split_kinds ZeroDivisor Assertion r s e = absurd (omega (arith, ap (λ t. get_or t 0 0) e))
split_kinds Assertion Overflow r s e = absurd (omega (arith, ap (λ t. get_or t 0 0) e))
split_kinds Assertion ZeroDivisor r s e = absurd (omega (arith, ap (λ t. get_or t 0 0) e))

-- a line and what follows it, from its first digit on
line_is : (a : Alarm) (rest : List ℕ) → alarm_line a ++ rest ≡ decimal a.place.line ++ 58 ∷ (decimal a.place.column ++ 58 ∷ (32 ∷ (kind_text a.kind ++ 10 ∷ rest)))
line_is a rest = simp append_assoc

-- two lines with the same text are those of one alarm
split_lines : (a b : Alarm) (r s : List ℕ) → IsWordPlace a.place → IsWordPlace b.place → alarm_line a ++ r ≡ alarm_line b ++ s → (a ≡ b) × (r ≡ s)
split_lines a b r s p q e =
    let digits = λ (n : ℕ) (h : n < 2 ^ 64). digits_decimal own n h in
    let f = sym (line_is a r) ∙ e ∙ line_is b s in
    let lines = split (decimal a.place.line) (decimal b.place.line) _ _ (digits a.place.line (omega (arith, p.0))) (digits b.place.line (omega (arith, q.0))) f in
    let columns = split (decimal a.place.column) (decimal b.place.column) _ _ (digits a.place.column (omega (arith, p.1))) (digits b.place.column (omega (arith, q.1))) lines.1 in
    let behind : kind_text a.kind ++ 10 ∷ r ≡ kind_text b.kind ++ 10 ∷ s = cc in
    let kinds = split_kinds a.kind b.kind r s behind in
    let line : a.place.line ≡ b.place.line = decimal_injective a.place.line b.place.line (omega (arith, p.0)) (omega (arith, q.0)) lines.0 in
    let column : a.place.column ≡ b.place.column = decimal_injective a.place.column b.place.column (omega (arith, p.1)) (omega (arith, q.1)) columns.0 in
    (λ i. record { place = record { line = line i; column = column i }; kind = kinds.0 i }, kinds.1)

-- a line begins with a digit, and the last with none
begins : (a : Alarm) (r s : List ℕ) → IsWordPlace a.place → alarm_line a ++ r ≡ 97 ∷ s → ⊥
begins a r s p e =
    let h : a.place.line < 2 ^ 64 = omega (arith, p.0) in
    by_first (decimal a.place.line) (decimal_nonempty a.place.line h) (digits_decimal own a.place.line h) (sym (line_is a r) ∙ e)
  where
    by_first : (ds : List ℕ) → 0 < length ds → AreDigits ds → ds ++ 58 ∷ (decimal a.place.column ++ 58 ∷ (32 ∷ (kind_text a.kind ++ 10 ∷ r))) ≡ 97 ∷ s → ⊥
    by_first [] some digits f = omega (arith, some)
    by_first (d ∷ ds) some digits f = let same : d ≡ 97 = cc in omega (arith, digits.0)

lines_back : (xs ys : List Alarm) (r s : List ℕ) → AllByRecursion (λ (a : Alarm). IsWordPlace a.place) xs → AllByRecursion (λ (a : Alarm). IsWordPlace a.place) ys
    → flat_map alarm_line xs ++ 97 ∷ r ≡ flat_map alarm_line ys ++ 97 ∷ s → xs ≡ ys
lines_back [] [] r s p q e = refl
lines_back [] (b ∷ ys) r s p q e = absurd (begins b (flat_map alarm_line ys ++ 97 ∷ s) r q.0 (sym (append_assoc (alarm_line b) (flat_map alarm_line ys) (97 ∷ s)) ∙ sym e))
lines_back (a ∷ xs) [] r s p q e = absurd (begins a (flat_map alarm_line xs ++ 97 ∷ r) s p.0 (sym (append_assoc (alarm_line a) (flat_map alarm_line xs) (97 ∷ r)) ∙ e))
lines_back (a ∷ xs) (b ∷ ys) r s p q e =
    let f = sym (append_assoc (alarm_line a) (flat_map alarm_line xs) (97 ∷ r)) ∙ e ∙ append_assoc (alarm_line b) (flat_map alarm_line ys) (97 ∷ s) in
    let h = split_lines a b _ _ p.0 q.0 f in
    λ i. h.0 i ∷ lines_back xs ys r s p.1 q.1 h.1 i

pub read_back : (alarms others : List Alarm) → HaveWordPlaces alarms → HaveWordPlaces others → variant_text alarms ≡ variant_text others → alarms ≡ others
read_back alarms others p q e = lines_back alarms others _ _ (recursion_from_All (λ (a : Alarm). IsWordPlace a.place) alarms p) (recursion_from_All (λ (a : Alarm). IsWordPlace a.place) others q) e

-- one alarm more
pub words_more : (alarms : List Alarm) (i : ℕ) (d : Alarm) → i < length alarms → HaveWordPlaces (take i alarms) → IsWordPlace (get_or alarms i d).place → HaveWordPlaces (take (i + 1) alarms)
words_more alarms i d within front word =
    let P = λ (a : Alarm). IsWordPlace a.place in
    let last = get_or alarms i d in
    subst HaveWordPlaces (sym (take_more alarms i d within)) (All-append P (take i alarms) (last ∷ []) front (All-cons P last [] word (All-nil P)))

pub lines_more : (alarms : List Alarm) (i : ℕ) (d : Alarm) → i < length alarms → flat_map alarm_line (take i alarms) ++ alarm_line (get_or alarms i d) ≡ flat_map alarm_line (take (i + 1) alarms)
lines_more alarms i d within =
    let last = get_or alarms i d in
    sym (ap (flat_map alarm_line) (take_more alarms i d within) ∙ flat_map-append alarm_line (take i alarms) (last ∷ []) ∙ ap (λ l. flat_map alarm_line (take i alarms) ++ l) (append-nil (alarm_line last)))
