-- Forms of conditions.
use Rattle.std.proofs.Common.{◌≡◌, ℤ, pos, ◌≤ℤ◌, Bool, true, false, not, ◌&&◌, ◌||◌, List, [], ◌∷◌, map, ◌++◌, sym, subst, refl}
use Rattle.linear_atoms.specs.declared.forms.Linear.{Linear}
use Rattle.linear_atoms.specs.declared.atoms.Atom.{Atom}
use Rattle.linear_atoms.specs.Forms.{IsRising, form_at}
use Rattle.cpp_conditions.specs.Propositions.{Proposition, Test, Not, And, Or, true_at}
use Rattle.atom_solver.specs.Facts.{AreMet, AreRising, IsFact, Adds, AddsAll}
use Rattle.cpp_conditions.specs.declared.conditions.Condition.{Condition}
use Rattle.cpp_conditions.specs.View.{proposition}
use Rattle.cpp_conditions.specs.Validity.{all_true}

pub adds_none : (p : Proposition Atom) (truth : Bool) (fs : List Linear) → Adds p truth fs fs
adds_none p truth fs = record { rising = λ h. h; met = λ vs h e. h }

pub rising_more : (fs : List Linear) (f : Linear) → AreRising fs → IsRising f.terms → AreRising (fs ++ f ∷ [])
rising_more [] f h k = (k, tt)
rising_more (g ∷ gs) f h k = (h.0, rising_more gs f h.1 k)

pub met_more : (fs : List Linear) (f : Linear) (vs : List ℤ) → AreMet vs fs → pos 0 ≤ℤ form_at f vs → AreMet vs (fs ++ f ∷ [])
met_more [] f vs h k = (k, tt)
met_more (g ∷ gs) f vs h k = (h.0, met_more gs f vs h.1 k)

pub adds_fact : (a : Atom) (truth : Bool) (fs gs : List Linear) (f : Linear) → gs ≡ fs ++ f ∷ [] → IsFact a truth f → Adds (Test a) truth fs gs
adds_fact a truth fs gs f e h = subst (λ x. Adds (Test a) truth fs x) (sym e) (record {
  rising = λ k. rising_more fs f k h.rising;
  met = λ vs k t. met_more fs f vs k (h.met vs t);
})

not_not : (a b : Bool) → not a ≡ b → a ≡ not b
not_not true true e = sym e
not_not true false e = refl
not_not false true e = refl
not_not false false e = sym e

pub adds_not : (p : Proposition Atom) (truth : Bool) (fs gs : List Linear) → Adds p (not truth) fs gs → Adds (Not p) truth fs gs
adds_not p truth fs gs h = record { rising = h.rising; met = λ vs k t. h.met vs k (not_not (true_at vs p) truth t) }

left_true : (a b : Bool) → (a && b) ≡ true → a ≡ true
left_true true b e = refl
left_true false b e = e

right_true : (a b : Bool) → (a && b) ≡ true → b ≡ true
right_true true b e = e
right_true false true e = refl
right_true false false e = e

left_false : (a b : Bool) → (a || b) ≡ false → a ≡ false
left_false true b e = e
left_false false b e = refl

right_false : (a b : Bool) → (a || b) ≡ false → b ≡ false
right_false false b e = e
right_false true true e = e
right_false true false e = refl

pub adds_and : (p q : Proposition Atom) (fs gs hs : List Linear) → Adds p true fs gs → Adds q true gs hs → Adds (And p q) true fs hs
adds_and p q fs gs hs h k = record {
  rising = λ r. k.rising (h.rising r);
  met = λ vs m t. k.met vs (h.met vs m (left_true (true_at vs p) (true_at vs q) t)) (right_true (true_at vs p) (true_at vs q) t);
}

pub adds_or : (p q : Proposition Atom) (fs gs hs : List Linear) → Adds p false fs gs → Adds q false gs hs → Adds (Or p q) false fs hs
adds_or p q fs gs hs h k = record {
  rising = λ r. k.rising (h.rising r);
  met = λ vs m t. k.met vs (h.met vs m (left_false (true_at vs p) (true_at vs q) t)) (right_false (true_at vs p) (true_at vs q) t);
}

pub all_none : (cs : List Condition) (p : Proposition Atom) (fs gs : List Linear) → cs ≡ [] → Adds p true fs gs → AddsAll cs p fs gs
all_none cs p fs gs e h = subst (λ x. AddsAll x p fs gs) (sym e) (record { rising = h.rising; met = λ vs m t. h.met vs m t })

front : (a b w : Bool) → ((a && b) && w) ≡ true → a ≡ true
front true b w e = refl
front false b w e = e

back : (a b w : Bool) → ((a && b) && w) ≡ true → (b && w) ≡ true
back true b w e = e
back false true true e = refl
back false true false e = e
back false false w e = e

pub all_more : (cs behind : List Condition) (c : Condition) (p : Proposition Atom) (fs gs hs : List Linear) → cs ≡ c ∷ behind → Adds (proposition c) true fs gs → AddsAll behind p gs hs → AddsAll cs p fs hs
all_more cs behind c p fs gs hs e h k = subst (λ x. AddsAll x p fs hs) (sym e) (record {
  rising = λ r. k.rising (h.rising r);
  met = λ vs m t. k.met vs (h.met vs m (front (true_at vs (proposition c)) (all_true vs (map proposition behind)) (true_at vs p) t)) (back (true_at vs (proposition c)) (all_true vs (map proposition behind)) (true_at vs p) t);
})
