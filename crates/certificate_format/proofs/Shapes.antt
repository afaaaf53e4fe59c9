-- The two forms of lines.
use Rattle.std.proofs.Common.{◌≡◌, ◌≢◌, ℕ, List, ◌++◌, codes, get_or, refl, sym, ap, subst, ◌∙◌, arith}
use Rattle.std.specs.Prelude.{Option}
use Rattle.std.proofs.lemmas.List.{append_cancel_left}
use Rattle.fam_outer.specs.declared.faults.Place.{Place}
use Rattle.c_tree.specs.declared.tree.Kind.{Kind}
use Rattle.c_tree.specs.declared.tree.Kind.TheVariants.{Overflow, ZeroDivisor, Assertion}
use Rattle.leaf_domain.specs.declared.range.Range.{Range}
use Rattle.alarm_report.specs.Texts.{place_text, kind_text}
use Rattle.certificate_format.specs.Bounds.{bounds_text, AreIntBounds}
use Rattle.certificate_format.specs.Cuts.{Lacks, IsCut}
use Rattle.certificate_format.specs.Forms.{EndsDigits}
use Rattle.certificate_format.specs.Lines.{Saying, Loop, Alarm, Says, IsPlace, IsLoopText, IsAlarmLine}
use Rattle.certificate_format.proofs.Splitting.{none_cut, one_cut}
use Rattle.certificate_format.proofs.Placing.{one_place}

colon_ends : EndsDigits (codes ": ")
colon_ends h = omega (arith, h)

space_ends : EndsDigits (codes " if ")
space_ends h = omega (arith, h)

-- ---- kinds

pub no_kind : (t : List ℕ) → ((rest : List ℕ) → t ≢ codes "overflow if " ++ rest) → ((rest : List ℕ) → t ≢ codes "zero-divisor if " ++ rest) → ((rest : List ℕ) → t ≢ codes "assertion if " ++ rest)
    → (kind : Kind) (rest : List ℕ) → t ≢ kind_text kind ++ (codes " if " ++ rest)
no_kind t a b c Overflow rest e = a rest e
no_kind t a b c ZeroDivisor rest e = b rest e
no_kind t a b c Assertion rest e = c rest e

-- ---- alarms

pub behind_alarm : (line t : List ℕ) → line ≡ codes "alarm " ++ t → (p : Place) (k : Kind) (r : List ℕ) → IsAlarmLine line p k r → t ≡ place_text p ++ (codes ": " ++ (kind_text k ++ (codes " if " ++ r)))
behind_alarm line t is p k r a = append_cancel_left (codes "alarm ") t _ (sym is ∙ a.text)

pub no_alarm_kind : (line t : List ℕ) (q : Place) (u : List ℕ) → line ≡ codes "alarm " ++ t → t ≡ place_text q ++ (codes ": " ++ u) → IsPlace q → ((k : Kind) (rest : List ℕ) → u ≢ kind_text k ++ (codes " if " ++ rest))
    → (p : Place) (k : Kind) (r : List ℕ) → ¬ (IsAlarmLine line p k r)
no_alarm_kind line t q u is at place none p k r a =
    none k r (one_place (codes ": ") t q p u (kind_text k ++ (codes " if " ++ r)) colon_ends place a.place_is at (behind_alarm line t is p k r a)).1

-- ---- loops

pub behind_if : (line t : List ℕ) (q : Place) (u : List ℕ) → line ≡ codes "loop " ++ t → t ≡ place_text q ++ (codes " if " ++ u) → IsPlace q → (p : Place) (r l : List ℕ) → IsLoopText line p r l → (q ≡ p) × IsCut (codes ": ") u r l
behind_if line t q u is at place p r l a =
    let same = one_place (codes " if ") t q p u a.behind space_ends place a.place_is at (append_cancel_left (codes "loop ") t _ (sym is ∙ a.text)) in
    (same.0, subst (λ v. IsCut (codes ": ") v r l) (sym same.1) a.region_ends)

pub no_loop_cut : (line t : List ℕ) (q : Place) (u : List ℕ) → line ≡ codes "loop " ++ t → t ≡ place_text q ++ (codes " if " ++ u) → IsPlace q → Lacks (codes ": ") u → (p : Place) (r l : List ℕ) → ¬ (IsLoopText line p r l)
no_loop_cut line t q u is at place none p r l a = none_cut (codes ": ") u r l none (behind_if line t q u is at place p r l a).1

-- a line is a loop's in one way
pub one_loop : (line : List ℕ) (p q : Place) (r s l m : List ℕ) → IsLoopText line p r l → IsLoopText line q s m → (p ≡ q) × (r ≡ s) × (l ≡ m)
one_loop line p q r s l m a b =
    let cut = behind_if line _ p a.behind a.text refl a.place_is q s m b in
    let same = one_cut (codes ": ") a.behind r l s m a.region_ends cut.1 in
    (cut.0, same.0, same.1)

-- no line is a loop's and an alarm's
pub not_both : (line : List ℕ) (p q : Place) (r l s : List ℕ) (k : Kind) → IsLoopText line p r l → IsAlarmLine line q k s → ⊥
not_both line p q r l s k a b = let first : 108 ≡ 97 = ap (λ t. get_or t 0 0) (sym a.text ∙ b.text) in omega (arith, first)

-- ---- what lines say

pub no_saying : (names : List (List ℕ)) (line : List ℕ) → ((p : Place) (r l : List ℕ) → ¬ (IsLoopText line p r l)) → ((p : Place) (k : Kind) (r : List ℕ) → ¬ (IsAlarmLine line p k r)) → (s : Saying) → ¬ (Says names line s)
no_saying names line loops alarms (Loop p r b) h = loops p r (bounds_text names b) h.0
no_saying names line loops alarms (Alarm p k r) h = alarms p k r h

pub no_leaf : (names : List (List ℕ)) (line : List ℕ) (p : Place) (r l : List ℕ) → IsLoopText line p r l → ((b : Option (List Range)) → AreIntBounds names b → l ≢ bounds_text names b) → (s : Saying) → ¬ (Says names line s)
no_leaf names line p r l a none (Loop q s b) h = none b h.1 (one_loop line p q r s l (bounds_text names b) a h.0).2
no_leaf names line p r l a none (Alarm q k s) h = not_both line p q r l s k a h
