-- No alarm of one program is listed twice.
use Rattle.std.proofs.Common.{◌≡◌, ℕ, Bool, true, false, List, [], ◌∷◌, ◌++◌, subst, ap, append_assoc}
use Rattle.fam_outer.specs.declared.faults.Place.{Place}
use Rattle.c_tree.specs.declared.tree.Kind.{Kind}
use Rattle.c_tree.specs.declared.tree.Kind.TheVariants.{Overflow, ZeroDivisor, Assertion}
use Rattle.c_tree.specs.Whole.{IsBeforeAll, IsRising}
use Rattle.plain_analysis.specs.declared.alarm.Alarm.{Alarm}
use Rattle.plain_analysis.specs.Places.{alarm_where, alarms_at, alarms_over}
use Rattle.famlint_programs.specs.Report.{HasNoneTwice}
use Rattle.famlint_programs.proofs.Keys.{IsAway, AreApart, one_place, other_place, is_overflow, is_assertion, zero_one, one_zero}

abbrev alarm : Place → Kind → Alarm
alarm place kind = record { place = place; kind = kind }

away_where : (k : Alarm) (b : Bool) (place : Place) (kind : Kind) (rest : List Alarm) → (alarm place kind ≡ k → ⊥) → IsAway k rest → IsAway k (alarm_where b place kind ++ rest)
away_where k true place kind rest other h = (other, h)
away_where k false place kind rest other h = h

apart_where : (b : Bool) (place : Place) (kind : Kind) (rest : List Alarm) → IsAway (alarm place kind) rest → AreApart rest → AreApart (alarm_where b place kind ++ rest)
apart_where true place kind rest away h = (away, h)
apart_where false place kind rest away h = h

-- the alarms of a place, one after another
in_turn : (f : Kind → Bool) (place : Place) (rest : List Alarm) → List Alarm
in_turn f place rest = alarm_where (f Overflow) place Overflow ++ (alarm_where (f ZeroDivisor) place ZeroDivisor ++ (alarm_where (f Assertion) place Assertion ++ rest))

are_in_turn : (f : Kind → Bool) (place : Place) (rest : List Alarm) → in_turn f place rest ≡ alarms_at f place ++ rest
unfolding in_turn
are_in_turn f place rest = simp append_assoc

away_over : (f : Place → Kind → Bool) (place : Place) (kind : Kind) (ps : List Place) → IsBeforeAll place ps → IsAway (alarm place kind) (alarms_over f ps)
unfolding in_turn
away_over f place kind [] h = tt
away_over f place kind (q ∷ qs) h =
    let other = λ (k : Kind) (e : alarm q k ≡ alarm place kind). other_place place q h.0 (ap (λ (a : Alarm). a.place) e) in
    let k = alarm place kind in
    subst (IsAway k) (are_in_turn (f q) q (alarms_over f qs))
    (away_where k (f q Overflow) q Overflow _ (other Overflow)
    (away_where k (f q ZeroDivisor) q ZeroDivisor _ (other ZeroDivisor)
    (away_where k (f q Assertion) q Assertion _ (other Assertion) (away_over f place kind qs h.1))))

unlike : (p : Place) (a b : Kind) (f : Kind → ℕ) → (f a ≡ f b → ⊥) → alarm p a ≡ alarm p b → ⊥
unlike p a b f apart e = apart (ap (λ (x : Alarm). f x.kind) e)

apart_over : (f : Place → Kind → Bool) (ps : List Place) → IsRising ps → AreApart (alarms_over f ps)
unfolding in_turn
apart_over f [] h = tt
apart_over f (p ∷ ps) h =
    let behind = λ (kind : Kind). away_over f p kind ps h.0 in
    let assertions = alarm_where (f p Assertion) p Assertion ++ alarms_over f ps in
    subst AreApart (are_in_turn (f p) p (alarms_over f ps))
    (apart_where (f p Overflow) p Overflow _
    (away_where (alarm p Overflow) (f p ZeroDivisor) p ZeroDivisor _ (unlike p ZeroDivisor Overflow is_overflow zero_one)
    (away_where (alarm p Overflow) (f p Assertion) p Assertion _ (unlike p Assertion Overflow is_overflow zero_one) (behind Overflow)))
    (apart_where (f p ZeroDivisor) p ZeroDivisor assertions
    (away_where (alarm p ZeroDivisor) (f p Assertion) p Assertion _ (unlike p Assertion ZeroDivisor is_assertion one_zero) (behind ZeroDivisor))
    (apart_where (f p Assertion) p Assertion (alarms_over f ps) (behind Assertion) (apart_over f ps h.1))))

pub none_twice : (f : Place → Kind → Bool) (ps : List Place) → IsRising ps → HasNoneTwice (alarms_over f ps)
none_twice f ps h i j a = one_place (alarms_over f ps) i j a (apart_over f ps h)
