-- Places before separators.
use Rattle.std.proofs.Common.{◌≡◌, ℕ, ◌<◌, ◌^◌, List, ◌++◌, codes, refl, sym, ap, ◌∙◌, arith, append_assoc}
use Rattle.std.specs.Fmt.{decimal}
use Rattle.fam_outer.specs.declared.faults.Place.{Place}
use Rattle.alarm_report.specs.Texts.{place_text}
use Rattle.certificate_format.specs.Forms.{EndsDigits}
use Rattle.certificate_format.specs.Lines.{IsPlace}
use Rattle.certificate_format.proofs.Digits.{one_decimal}

colon_ends : EndsDigits (codes ":")
colon_ends h = omega (arith, h)

pub parts : (s t : List ℕ) (p : Place) (r : List ℕ) → t ≡ place_text p ++ (s ++ r) → t ≡ decimal p.line ++ (codes ":" ++ (decimal p.column ++ (s ++ r)))
parts s t p r e = e ∙ append_assoc (decimal p.line ++ codes ":") (decimal p.column) (s ++ r) ∙ append_assoc (decimal p.line) (codes ":") (decimal p.column ++ (s ++ r))

pub no_line : (s t : List ℕ) → ((n : ℕ) (r : List ℕ) → n < 2 ^ 32 → t ≡ decimal n ++ (codes ":" ++ r) → ⊥) → (p : Place) (r : List ℕ) → IsPlace p → t ≡ place_text p ++ (s ++ r) → ⊥
no_line s t none p r h e = none p.line (decimal p.column ++ (s ++ r)) h.word.0 (parts s t p r e)

pub behind_line : (s t : List ℕ) (n : ℕ) (later : List ℕ) → n < 2 ^ 32 → t ≡ decimal n ++ (codes ":" ++ later) → (p : Place) (r : List ℕ) → IsPlace p → t ≡ place_text p ++ (s ++ r) → (n ≡ p.line) × (later ≡ decimal p.column ++ (s ++ r))
behind_line s t n later small is p r h e = one_decimal (codes ":") t n p.line later (decimal p.column ++ (s ++ r)) small h.word.0 colon_ends is (parts s t p r e)

pub no_column : (s t : List ℕ) (n : ℕ) (later : List ℕ) → n < 2 ^ 32 → t ≡ decimal n ++ (codes ":" ++ later) → ((m : ℕ) (r : List ℕ) → m < 2 ^ 32 → later ≡ decimal m ++ (s ++ r) → ⊥)
    → (p : Place) (r : List ℕ) → IsPlace p → t ≡ place_text p ++ (s ++ r) → ⊥
no_column s t n later small is none p r h e = none p.column r h.word.1 (behind_line s t n later small is p r h e).1

pub no_zero_line : (s t : List ℕ) (n : ℕ) (later : List ℕ) → n < 2 ^ 32 → t ≡ decimal n ++ (codes ":" ++ later) → n ≡ 0 → (p : Place) (r : List ℕ) → IsPlace p → t ≡ place_text p ++ (s ++ r) → ⊥
no_zero_line s t n later small is none p r h e = let same = (behind_line s t n later small is p r h e).0 in omega (arith, same, none, h.line)

pub behind_column : (s t : List ℕ) (n : ℕ) (later : List ℕ) (m : ℕ) (rest : List ℕ) → EndsDigits s → n < 2 ^ 32 → m < 2 ^ 32 → t ≡ decimal n ++ (codes ":" ++ later) → later ≡ decimal m ++ (s ++ rest)
    → (p : Place) (r : List ℕ) → IsPlace p → t ≡ place_text p ++ (s ++ r) → (n ≡ p.line) × (m ≡ p.column) × (rest ≡ r)
behind_column s t n later m rest ends small few is at p r h e =
    let lines = behind_line s t n later small is p r h e in
    let columns = one_decimal s later m p.column rest r few h.word.1 ends at lines.1 in
    (lines.0, columns.0, columns.1)

pub no_zero_column : (s t : List ℕ) (n : ℕ) (later : List ℕ) (m : ℕ) (rest : List ℕ) → EndsDigits s → n < 2 ^ 32 → m < 2 ^ 32 → t ≡ decimal n ++ (codes ":" ++ later) → later ≡ decimal m ++ (s ++ rest) → m ≡ 0
    → (p : Place) (r : List ℕ) → IsPlace p → t ≡ place_text p ++ (s ++ r) → ⊥
no_zero_column s t n later m rest ends small few is at none p r h e =
    let same = (behind_column s t n later m rest ends small few is at p r h e).1 in omega (arith, same, none, h.column)

-- a place stands in one way before a separator
pub one_place : (s t : List ℕ) (p q : Place) (r u : List ℕ) → EndsDigits s → IsPlace p → IsPlace q → t ≡ place_text p ++ (s ++ r) → t ≡ place_text q ++ (s ++ u) → (p ≡ q) × (r ≡ u)
one_place s t p q r u ends h k e f =
    let same = behind_column s t p.line (decimal p.column ++ (s ++ r)) p.column r ends h.word.0 h.word.1 (parts s t p r e) refl q u k f in
    (λ i. record { line = same.0 i; column = same.1 i }, same.2)

pub place_is : (s t : List ℕ) (p : Place) (later r : List ℕ) → t ≡ decimal p.line ++ (codes ":" ++ later) → later ≡ decimal p.column ++ (s ++ r) → t ≡ place_text p ++ (s ++ r)
place_is s t p later r e f =
    e ∙ ap (λ u. decimal p.line ++ (codes ":" ++ u)) f ∙ sym (append_assoc (decimal p.line) (codes ":") (decimal p.column ++ (s ++ r)))
    ∙ sym (append_assoc (decimal p.line ++ codes ":") (decimal p.column) (s ++ r))
