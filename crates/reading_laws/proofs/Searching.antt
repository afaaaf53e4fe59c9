-- Whatever is asked of valid configurations, there is a first one at which it is so, or none.
use Rattle.std.proofs.Common.{◌≡◌, ℕ, zero, suc, ℤ, pos, negsuc, ◌+ℤ◌, ◌-ℤ◌, ◌≤ℤ◌, ◌<ℤ◌, int_lt, ◌⊎◌, inl, inr, Bool, true, false, ◌&&◌, List, [], ◌∷◌, Option, Some, None, refl, sym, ap, ◌∙◌, arith}
use Rattle.std.proofs.lemmas.Bool.{true≢false}
use Rattle.std.proofs.lemmas.Int.{ints}
use Rattle.linear_atoms.specs.declared.atoms.Config.{Config}
use Rattle.linear_atoms.specs.declared.atoms.Feature.{Feature}
use Rattle.linear_atoms.specs.Atoms.{IsWithin}
use Rattle.cpp_conditions.specs.declared.models.Model.{Model}
use Rattle.cpp_conditions.specs.Validity.{plain, all_true}
use Rattle.cpp_conditions.proofs.Within.{valid_parts, valid_from}
use Rattle.atom_solver.specs.Solutions.{IsBefore, Finds}
use Rattle.atom_solver.specs.Spans.{IsFirstIn, FindsIn}
use Rattle.reading_laws.specs.Answered.{FirstConfigurationsAreFound}

-- ---- within ranges

abbrev pub Search : List Feature → (List ℤ → Bool) → Type 0
Search fs t = (found : Option Config) × FindsIn fs t found

none_before : (vs : List ℤ) → IsBefore vs [] → ⊥
none_before [] b = b
none_before (v ∷ vs) b = b

only_empty : (t : List ℤ → Bool) (vs : List ℤ) → t [] ≡ false → IsWithin [] vs → t vs ≡ false
only_empty t [] e w = e
only_empty t (v ∷ vs) e w = absurd w

at_end : (t : List ℤ → Bool) (b : Bool) → t [] ≡ b → Search [] t
at_end t true e = (Some (record { values = [] }), record { within = tt; met = e; first = λ vs w m b. none_before vs b })
at_end t false e = (None, λ vs w. only_empty t vs e w)

-- no value from the low end of the range on, up to before this one, has one
abbrev IsPassed : Feature → List Feature → (List ℤ → Bool) → ℤ → Type 0
IsPassed f fs t v = (w : ℤ) (ws : List ℤ) → f.low ≤ℤ w → w <ℤ v → IsWithin fs ws → t (w ∷ ws) ≡ false

is_less : (a b : ℤ) → int_lt a b ≡ true → a <ℤ b
is_less a b e = grind (arith, ints)

not_less : (a b : ℤ) → int_lt a b ≡ false → b ≤ℤ a
not_less a b e = grind (arith, ints)

between : (v w : ℤ) → w <ℤ (v +ℤ pos 1) → v ≤ℤ w → w ≡ v
between v w h k = omega (arith, ints)

below_by : (v w : ℤ) (b : Bool) → int_lt w v ≡ b → w <ℤ (v +ℤ pos 1) → (w <ℤ v) ⊎ (w ≡ v)
below_by v w true e h = inl (is_less w v e)
below_by v w false e h = inr (between v w h (not_less w v e))

pass_one : (f : Feature) (fs : List Feature) (t : List ℤ → Bool) (v : ℤ) → IsPassed f fs t v → ((ws : List ℤ) → IsWithin fs ws → t (v ∷ ws) ≡ false) → IsPassed f fs t (v +ℤ pos 1)
pass_one f fs t v p h w ws l lt i = elim (below_by v w (int_lt w v) refl lt) [
  | inl k ↦ p w ws l k i
  | inr e ↦ ap (λ (x : ℤ). t (x ∷ ws)) e ∙ h ws i
]

past : (u v high : ℤ) → u ≤ℤ high → high <ℤ v → u <ℤ v
past u v high h k = omega (arith, ints)

none_left : (f : Feature) (fs : List Feature) (t : List ℤ → Bool) (v : ℤ) → f.high <ℤ v → IsPassed f fs t v → FindsIn (f ∷ fs) t None
none_left f fs t v lt p [] w = absurd w
none_left f fs t v lt p (u ∷ us) w = p u us w.0 (past u v f.high w.1 lt) w.2

not_before : (f : Feature) (fs : List Feature) (t : List ℤ → Bool) (v : ℤ) (vs : List ℤ) → IsPassed f fs t v → IsFirstIn fs (λ ws. t (v ∷ ws)) vs → (us : List ℤ) → IsWithin (f ∷ fs) us → t us ≡ true → IsBefore us (v ∷ vs) → ⊥
not_before f fs t v vs p h [] w e b = b
not_before f fs t v vs p h (u ∷ us) w e (inl lt) = true≢false (sym e ∙ p u us w.0 lt w.2)
not_before f fs t v vs p h (u ∷ us) w e (inr x) = h.first us w.2 (ap (λ (y : ℤ). t (y ∷ us)) (sym x.0) ∙ e) x.1

scan_at : (f : Feature) (fs : List Feature) (t : List ℤ → Bool) (v : ℤ) → f.low ≤ℤ v → v ≤ℤ f.high → IsPassed f fs t v → Search fs (λ ws. t (v ∷ ws)) → (IsPassed f fs t (v +ℤ pos 1) → Search (f ∷ fs) t) → Search (f ∷ fs) t
scan_at f fs t v l m p (None, h) go = go (pass_one f fs t v p h)
scan_at f fs t v l m p (Some k, h) go = (Some (record { values = v ∷ k.values }), record { within = (l, m, h.within); met = h.met; first = not_before f fs t v k.values p h })

end_past : (high v : ℤ) → (high +ℤ pos 1) ≡ (v +ℤ pos 0) → high <ℤ v
end_past high v e = omega (arith, ints)

not_past : (high v : ℤ) (n : ℕ) → (high +ℤ pos 1) ≡ (v +ℤ pos (suc n)) → v ≤ℤ high
not_past high v n e = omega (arith, ints)

one_on : (high v : ℤ) (n : ℕ) → (high +ℤ pos 1) ≡ (v +ℤ pos (suc n)) → (high +ℤ pos 1) ≡ ((v +ℤ pos 1) +ℤ pos n)
one_on high v n e = omega (arith, ints)

still_above : (low v : ℤ) → low ≤ℤ v → low ≤ℤ (v +ℤ pos 1)
still_above low v h = omega (arith, ints)

scan : (f : Feature) (fs : List Feature) (t : List ℤ → Bool) → ((v : ℤ) → Search fs (λ ws. t (v ∷ ws))) → (n : ℕ) (v : ℤ) → (f.high +ℤ pos 1) ≡ (v +ℤ pos n) → f.low ≤ℤ v → IsPassed f fs t v → Search (f ∷ fs) t
scan f fs t each zero v e l p = (None, none_left f fs t v (end_past f.high v e) p)
scan f fs t each (suc n) v e l p = scan_at f fs t v l (not_past f.high v n e) p (each v) (λ q. scan f fs t each n (v +ℤ pos 1) (one_on f.high v n e) (still_above f.low v l) q)

not_both : (low w : ℤ) → low ≤ℤ w → w <ℤ low → ⊥
not_both low w h k = omega (arith, ints)

nothing_passed : (f : Feature) (fs : List Feature) (t : List ℤ → Bool) → IsPassed f fs t f.low
nothing_passed f fs t w ws l lt i = absurd (not_both f.low w l lt)

counted : (low high : ℤ) (k : ℕ) → (high -ℤ low) ≡ pos k → (high +ℤ pos 1) ≡ (low +ℤ pos (suc k))
counted low high k e = omega (arith, ints)

empty_range : (low high : ℤ) (k : ℕ) → (high -ℤ low) ≡ negsuc k → high <ℤ low
empty_range low high k e = omega (arith, ints)

itself : (low : ℤ) → low ≤ℤ low
itself low = omega (arith, ints)

from_low : (f : Feature) (fs : List Feature) (t : List ℤ → Bool) → ((v : ℤ) → Search fs (λ ws. t (v ∷ ws))) → (d : ℤ) → (f.high -ℤ f.low) ≡ d → Search (f ∷ fs) t
from_low f fs t each (pos k) e = scan f fs t each (suc k) f.low (counted f.low f.high k e) (itself f.low) (nothing_passed f fs t)
from_low f fs t each (negsuc k) e = (None, none_left f fs t f.low (empty_range f.low f.high k e) (nothing_passed f fs t))

pub search : (fs : List Feature) (t : List ℤ → Bool) → Search fs t
search [] t = at_end t (t []) refl
search (f ∷ fs) t = from_low f fs t (λ v. search fs (λ ws. t (v ∷ ws))) (f.high -ℤ f.low) refl

-- ---- among the valid configurations

and_left : (a b : Bool) → (a && b) ≡ true → a ≡ true
and_left true b e = refl
and_left false b e = e

and_right : (a b : Bool) → (a && b) ≡ true → b ≡ true
and_right true b e = e
and_right false b e = cc

and_both : (a b : Bool) → a ≡ true → b ≡ true → (a && b) ≡ true
and_both a b e f = ap (λ x. x && b) e ∙ f

and_false : (a b : Bool) → a ≡ true → (a && b) ≡ false → b ≡ false
and_false a b e f = sym (ap (λ x. x && b) e) ∙ f

among_valid : (model : Model) (holds : List ℤ → Bool) (found : Option Config) → FindsIn model.features (λ vs. all_true vs (plain model).constraints && holds vs) found → Finds model holds found
among_valid model holds None f = λ vs v.
    let p = valid_parts (plain model) vs v in
    and_false (all_true vs (plain model).constraints) (holds vs) p.1 (f vs p.0)
among_valid model holds (Some k) f = record {
  valid = valid_from (plain model) k.values f.within (and_left (all_true k.values (plain model).constraints) (holds k.values) f.met);
  met = and_right (all_true k.values (plain model).constraints) (holds k.values) f.met;
  first = λ vs v m b.
      let p = valid_parts (plain model) vs v in
      f.first vs p.0 (and_both (all_true vs (plain model).constraints) (holds vs) p.1 m) b;
}

pub first_configurations : FirstConfigurationsAreFound
first_configurations model holds = let s = search model.features (λ vs. all_true vs (plain model).constraints && holds vs) in (s.0, among_valid model holds s.0 s.1)
