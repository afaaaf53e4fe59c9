-- The lines of a certificate, without their newlines.
use Rattle.std.proofs.Common.{◌≡◌, ◌≢◌, ℕ, zero, suc, ◌<◌, ◌^◌, ℤ, pos, negsuc, Bool, true, false, ◌||◌, true≢false, List, [], ◌∷◌, ◌++◌, codes, length, drop, get_or, refl, sym, ap, ◌∙◌, arith}
use Rattle.std.specs.Prelude.{nat_eq, Option, Some, None}
use Rattle.std.specs.List.{AllByRecursion, list_any}
use Rattle.std.specs.Fmt.{decimal, signed_decimal}
use Rattle.fam_outer.specs.declared.faults.Place.{Place}
use Rattle.c_tree.specs.declared.tree.Kind.{Kind}
use Rattle.c_tree.specs.declared.tree.Kind.TheVariants.{Overflow, ZeroDivisor, Assertion}
use Rattle.c_tree.specs.Value.{IsInt}
use Rattle.leaf_domain.specs.declared.range.Range.{Range}
use Rattle.alarm_report.specs.Texts.{place_text, kind_text}
use Rattle.alarm_report.specs.LeafTexts.{within_text}
use Rattle.certificate_format.specs.Bounds.{bounds_text, IsIntRange, AreIntBounds}
use Rattle.certificate_format.specs.Forms.{further, EndsDigits}
use Rattle.certificate_format.specs.Lines.{IsPlace, IsLoopText, IsAlarmLine}
use Rattle.certificate_format.proofs.Digits.{small_pos, small_negsuc}
use Rattle.certificate_format.proofs.Placing.{one_place}
use Rattle.certificate_format.proofs.Ranging.{bounds_cons}
use Rattle.certificate_format.proofs.Shapes.{behind_alarm}
use Rattle.certificate_format.proofs.Splitting.{avoiding_cut}
use Rattle.certificate_laws.specs.Written.{IsOneLine}
use Rattle.certificate_laws.proofs.Words.{AreDigits, are_digits, both_all}
use Rattle.certificate_laws.proofs.Texts.{IsInLine}

-- ---- bytes of lines

abbrev IsNoEnd : ℕ → Type 0
IsNoEnd b = b ≢ 10

pub join_lines : (xs ys : List ℕ) → IsOneLine xs → IsOneLine ys → IsOneLine (xs ++ ys)
join_lines = both_all IsNoEnd

digits_line : (ds : List ℕ) → AreDigits ds → IsOneLine ds
digits_line [] h = tt
digits_line (d ∷ ds) h = (λ e. omega (arith, h.0, e), digits_line ds h.1)

decimal_line : (n : ℕ) → n < 2 ^ 64 → IsOneLine (decimal n)
decimal_line n h = digits_line (decimal n) (are_digits n h)

signed_line : (z : ℤ) → IsInt z → IsOneLine (signed_decimal z)
signed_line (pos n) h = let small = small_pos n h in decimal_line n (omega (arith, small))
signed_line (negsuc n) h = let small = small_negsuc n h in (λ e. omega (arith, e), decimal_line (suc n) (omega (arith, small)))

in_line : (xs : List ℕ) → AllByRecursion IsInLine xs → IsOneLine xs
in_line [] h = tt
in_line (x ∷ xs) h = (λ e. omega (arith, h.0.0, e), in_line xs h.1)

-- the text of constants has no newline
abbrev is_end : ℕ → Bool
is_end b = nat_eq 10 b

or_left : (a b : Bool) → (a || b) ≡ false → a ≡ false
or_left true b e = e
or_left false b e = refl

or_right : (a b : Bool) → (a || b) ≡ false → b ≡ false
or_right true b e = absurd (true≢false e)
or_right false b e = e

constant : (xs : List ℕ) → list_any is_end xs ≡ false → IsOneLine xs
constant [] h = tt
constant (x ∷ xs) h = (λ e. true≢false (sym (ap is_end e) ∙ or_left (is_end x) (list_any is_end xs) h), constant xs (or_right (is_end x) (list_any is_end xs) h))

colon : IsOneLine (codes ":")
colon = constant (codes ":") refl

pub place_line : (p : Place) → IsPlace p → IsOneLine (place_text p)
place_line p h =
    let line = decimal_line p.line (omega (arith, h.word.0)) in
    let column = decimal_line p.column (omega (arith, h.word.1)) in
    join_lines (decimal p.line ++ codes ":") (decimal p.column) (join_lines (decimal p.line) (codes ":") line colon) column

pub kind_line : (k : Kind) → IsOneLine (kind_text k)
kind_line Overflow = constant (codes "overflow") refl
kind_line ZeroDivisor = constant (codes "zero-divisor") refl
kind_line Assertion = constant (codes "assertion") refl

within_line : (r : Range) → IsIntRange r → IsOneLine (within_text r)
within_line r h =
    join_lines (((codes " in [" ++ signed_decimal r.low) ++ codes ",") ++ signed_decimal r.high) (codes "]")
    (join_lines ((codes " in [" ++ signed_decimal r.low) ++ codes ",") (signed_decimal r.high)
    (join_lines (codes " in [" ++ signed_decimal r.low) (codes ",") (join_lines (codes " in [") (signed_decimal r.low) (constant (codes " in [") refl) (signed_line r.low h.int.low)) (constant (codes ",") refl))
    (signed_line r.high h.int.high)) (constant (codes "]") refl)

further_line : (names : List (List ℕ)) (ranges : List Range) → AllByRecursion IsOneLine names → AreIntBounds names (Some ranges) → IsOneLine (further names ranges)
further_line [] ranges h k = tt
further_line (name ∷ names) [] h k = tt
further_line (name ∷ names) (r ∷ ranges) h k =
    let parts = bounds_cons name names r ranges k in
    join_lines (codes ", " ++ (name ++ within_text r)) (further names ranges)
    (join_lines (codes ", ") (name ++ within_text r) (constant (codes ", ") refl) (join_lines name (within_text r) h.0 (within_line r parts.0))) (further_line names ranges h.1 parts.1)

pub bounds_line : (names : List (List ℕ)) (bounds : Option (List Range)) → AllByRecursion IsOneLine names → AreIntBounds names bounds → IsOneLine (bounds_text names bounds)
bounds_line names None h k = constant (codes "unreachable") refl
bounds_line [] (Some ranges) h k = constant (codes "reachable") refl
bounds_line (name ∷ names) (Some []) h k = tt
bounds_line (name ∷ names) (Some (r ∷ ranges)) h k =
    let parts = bounds_cons name names r ranges k in
    join_lines (name ++ within_text r) (further names ranges) (join_lines name (within_text r) h.0 (within_line r parts.0)) (further_line names ranges h.1 parts.1)

-- ---- loops

abbrev pub loop_text : Place → List ℕ → List ℕ → List ℕ
loop_text place region leaf = codes "loop " ++ (place_text place ++ (codes " if " ++ (region ++ (codes ": " ++ leaf))))

no_colon : (xs : List ℕ) (k : ℕ) → AllByRecursion IsInLine xs → k < length xs → get_or xs k 0 ≢ 58
no_colon [] k h l = absurd (omega (arith, l))
no_colon (x ∷ xs) zero h l = h.0.1
no_colon (x ∷ xs) (suc k) h l = no_colon xs k h.1 (omega (arith, l))

pub loop_is : (place : Place) (region leaf : List ℕ) → IsPlace place → AllByRecursion IsInLine region → IsLoopText (loop_text place region leaf) place region leaf
loop_is place region leaf h k = record {
  behind = region ++ (codes ": " ++ leaf);
  text = refl;
  region_ends = avoiding_cut (codes ": ") (region ++ (codes ": " ++ leaf)) region leaf (omega arith, λ n l. no_colon region n k l) refl;
  place_is = h;
}

pub loop_line : (place : Place) (region leaf : List ℕ) → IsPlace place → AllByRecursion IsInLine region → IsOneLine leaf → IsOneLine (loop_text place region leaf)
loop_line place region leaf h k l =
    join_lines (codes "loop ") _ (constant (codes "loop ") refl)
    (join_lines (place_text place) _ (place_line place h) (join_lines (codes " if ") _ (constant (codes " if ") refl) (join_lines region _ (in_line region k) (join_lines (codes ": ") leaf (constant (codes ": ") refl) l))))

-- ---- alarms

abbrev pub alarm_text : Place → Kind → List ℕ → List ℕ
alarm_text place kind region = codes "alarm " ++ (place_text place ++ (codes ": " ++ (kind_text kind ++ (codes " if " ++ region))))

pub alarm_is : (place : Place) (kind : Kind) (region : List ℕ) → IsPlace place → IsAlarmLine (alarm_text place kind region) place kind region
alarm_is place kind region h = record { text = refl; place_is = h }

pub alarm_line : (place : Place) (kind : Kind) (region : List ℕ) → IsPlace place → AllByRecursion IsInLine region → IsOneLine (alarm_text place kind region)
alarm_line place kind region h k =
    join_lines (codes "alarm ") _ (constant (codes "alarm ") refl)
    (join_lines (place_text place) _ (place_line place h) (join_lines (codes ": ") _ (constant (codes ": ") refl) (join_lines (kind_text kind) _ (kind_line kind) (join_lines (codes " if ") region (constant (codes " if ") refl) (in_line region k)))))

colon_ends : EndsDigits (codes ": ")
colon_ends h = omega (arith, h)

one_kind : (k j : Kind) (r s : List ℕ) → kind_text k ++ (codes " if " ++ r) ≡ kind_text j ++ (codes " if " ++ s) → (k ≡ j) × (r ≡ s)
one_kind Overflow Overflow r s e = (refl, ap (drop 12) e)
one_kind ZeroDivisor ZeroDivisor r s e = (refl, ap (drop 16) e)
one_kind Assertion Assertion r s e = (refl, ap (drop 13) e)
one_kind Overflow ZeroDivisor r s e = absurd (omega (arith, ap (λ t. get_or t 0 0) e))
one_kind Overflow Assertion r s e = absurd (omega (arith, ap (λ t. get_or t 0 0) e))
one_kind ZeroDivisor Overflow r s e = absurd (omega (arith, ap (λ t. get_or t 0 0) e))
one_kind ZeroDivisor Assertion r s e = absurd (omega (arith, ap (λ t. get_or t 0 0) e))
one_kind Assertion Overflow r s e = absurd (omega (arith, ap (λ t. get_or t 0 0) e))
one_kind Assertion ZeroDivisor r s e = absurd (omega (arith, ap (λ t. get_or t 0 0) e))

-- a line is an alarm's in one way
pub one_alarm : (line : List ℕ) (p q : Place) (k j : Kind) (r s : List ℕ) → IsAlarmLine line p k r → IsAlarmLine line q j s → (p ≡ q) × (k ≡ j) × (r ≡ s)
one_alarm line p q k j r s a b =
    let places = one_place (codes ": ") _ p q _ _ colon_ends a.place_is b.place_is refl (behind_alarm line _ a.text q j s b) in
    let kinds = one_kind k j r s places.1 in
    (places.0, kinds.0, kinds.1)
