-- An alarm of a list is one, at a place of the list.
use Rattle.std.proofs.Common.{◌≡◌, ◌⊎◌, zero, suc, Bool, true, false, List, [], ◌∷◌, ◌++◌, refl, ap, subst, inl, inr, arith}
use Rattle.std.proofs.lemmas.List.Elements.{Contains-append_cases}
use Rattle.std.specs.List.{Contains}
use Rattle.fam_outer.specs.declared.faults.Place.{Place}
use Rattle.c_tree.specs.declared.tree.Kind.{Kind}
use Rattle.c_tree.specs.declared.tree.Kind.TheVariants.{Overflow, ZeroDivisor, Assertion}
use Rattle.lifted_analysis.specs.Promises.{by_kind}
use Rattle.plain_analysis.specs.declared.alarm.Alarm.{Alarm}
use Rattle.plain_analysis.specs.Places.{alarm_where, alarms_at, alarms_over}
use Rattle.invariant_certificate.proofs.Sublists.{IsIn}

alarm_is : (b : Bool) (place : Place) (kind : Kind) (x : Alarm) → Contains (alarm_where b place kind) x → (b ≡ true) × (place ≡ x.place) × (kind ≡ x.kind)
alarm_is true place kind x (zero, lt, e) = (refl, ap (λ (a : Alarm). a.place) e, ap (λ (a : Alarm). a.kind) e)
alarm_is true place kind x (suc k, lt, e) = absurd (omega (arith, lt))
alarm_is false place kind x (k, lt, e) = absurd (omega (arith, lt))

kind_is : (f : Kind → Bool) (place : Place) (kind : Kind) (x : Alarm) → Contains (alarm_where (f kind) place kind) x → (f x.kind ≡ true) × (place ≡ x.place)
kind_is f place kind x h = let found = alarm_is (f kind) place kind x h in (subst (λ k. f k ≡ true) found.2 found.0, found.1)

last_two : (f : Kind → Bool) (place : Place) (x : Alarm) → Contains (alarm_where (f ZeroDivisor) place ZeroDivisor) x ⊎ Contains (alarm_where (f Assertion) place Assertion) x
    → (f x.kind ≡ true) × (place ≡ x.place)
last_two f place x (inl h) = kind_is f place ZeroDivisor x h
last_two f place x (inr h) = kind_is f place Assertion x h

all_three : (f : Kind → Bool) (place : Place) (x : Alarm)
    → Contains (alarm_where (f Overflow) place Overflow) x ⊎ Contains (alarm_where (f ZeroDivisor) place ZeroDivisor ++ alarm_where (f Assertion) place Assertion) x
    → (f x.kind ≡ true) × (place ≡ x.place)
all_three f place x (inl h) = kind_is f place Overflow x h
all_three f place x (inr h) =
    last_two f place x (Contains-append_cases (alarm_where (f ZeroDivisor) place ZeroDivisor) (alarm_where (f Assertion) place Assertion) x h)

listed_by : (f : Place → Kind → Bool) (p : Place) (ps : List Place) (x : Alarm) → (Contains (alarms_over f ps) x → (f x.place x.kind ≡ true) × IsIn x.place ps)
    → Contains (alarms_at (f p) p) x ⊎ Contains (alarms_over f ps) x → (f x.place x.kind ≡ true) × IsIn x.place (p ∷ ps)
listed_by f p ps x rest (inl h) =
    let found = all_three (f p) p x (Contains-append_cases (alarm_where (f p Overflow) p Overflow) (alarm_where (f p ZeroDivisor) p ZeroDivisor ++ alarm_where (f p Assertion) p Assertion) x h) in
    (subst (λ q. f q x.kind ≡ true) found.1 found.0, inl found.1)
listed_by f p ps x rest (inr h) = let found = rest h in (found.0, inr found.1)

pub listed_is : (f : Place → Kind → Bool) (ps : List Place) (x : Alarm) → Contains (alarms_over f ps) x → (f x.place x.kind ≡ true) × IsIn x.place ps
listed_is f [] x h = absurd (omega (arith, h.1))
listed_is f (p ∷ ps) x h = listed_by f p ps x (listed_is f ps x) (Contains-append_cases (alarms_at (f p) p) (alarms_over f ps) x h)

kind_in : (p : Place) (ps : List Place) (kind : Kind) → (let k : Place × Kind = (p, kind) in IsIn k (by_kind (p ∷ ps)))
kind_in p ps Overflow = inl refl
kind_in p ps ZeroDivisor = inr (inl refl)
kind_in p ps Assertion = inr (inr (inl refl))

-- a place of the list stands there with each kind
pub in_by_kind : (x : Place) (kind : Kind) (ps : List Place) → IsIn x ps → (let k : Place × Kind = (x, kind) in IsIn k (by_kind ps))
in_by_kind x kind [] i = absurd i
in_by_kind x kind (p ∷ ps) (inl e) = subst (λ q. let k : Place × Kind = (q, kind) in IsIn k (by_kind (p ∷ ps))) e (kind_in p ps kind)
in_by_kind x kind (p ∷ ps) (inr i) = inr (inr (inr (in_by_kind x kind ps i)))
