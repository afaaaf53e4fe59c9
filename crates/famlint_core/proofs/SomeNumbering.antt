-- Over atoms among which those of the constraints stand, a formula says what is plausible.
use Rattle.std.proofs.Common.{◌≡◌, ℕ, suc, ◌+◌, Box, Global, Bool, true, false, ◌&&◌, int_lt, inl, inr, List, [], ◌∷◌, map, slice_get, Some, refl, ap, ap₂, subst, sym}
use Rattle.std.specs.Ptr.{null_ptr}
use Rattle.linear_atoms.specs.declared.atoms.Atom.{Atom}
use Rattle.linear_atoms.specs.Order.{same_terms}
use Rattle.cpp_conditions.specs.declared.conditions.Condition.{Condition}
use Rattle.cpp_conditions.specs.declared.formulas.Formula.{Formula}
use Rattle.cpp_conditions.specs.declared.formulas.Formula.TheVariants as formulas
use Rattle.cpp_conditions.specs.Numbering.{IsAmong, AreAmong, AreAllAmong, IsNumbered}
use Rattle.cpp_conditions.specs.Propositions.{Proposition, Const, Test, Not, And, Or}
use Rattle.cpp_conditions.specs.View.{proposition, formula}
use Rattle.atom_solver.specs.Plausible.{IsAbove, AreAbove, Says, IsConjunction, IsPlausible}
use Rattle.atom_solver.proofs.Ordered.{above_none, above_more, above_skip, all_none, all_more, numbered_none, numbered_more, plausible_made}

-- ---- numbers of atoms

number : (atoms : List Atom) (a : Atom) → IsAmong a atoms → (n : ℕ) × (slice_get atoms n ≡ Some a)
number [] a h = absurd h
number (b ∷ bs) a (inl e) = (0, ap (λ (x : Atom). Some x) e)
number (b ∷ bs) a (inr m) = let n = number bs a m in (suc n.0, n.1)

numbered : (atoms : List Atom) (p : Proposition Atom) → AreAmong atoms p → (f : Proposition ℕ) × IsNumbered atoms p f
numbered atoms (Const b) h = (Const b, refl)
numbered atoms (Test a) h = let n = number atoms a h in (Test n.0, n.1)
numbered atoms (Not p) h = let f = numbered atoms p h in (Not f.0, f.1)
numbered atoms (And p q) h = let f = numbered atoms p h.0 in let g = numbered atoms q h.1 in (And f.0 g.0, (f.1, g.1))
numbered atoms (Or p q) h = let f = numbered atoms p h.0 in let g = numbered atoms q h.1 in (Or f.0 g.0, (f.1, g.1))

-- ---- the order of atoms

abbrev Above : ℕ → Atom → ℕ → List Atom → Type 0
Above m a n others = (p : Proposition ℕ) × Says (λ (v : List Bool). IsAbove v m a n others) p

above_by : (m : ℕ) (a : Atom) (n : ℕ) (b : Atom) (behind : List Atom) (t : Bool) → (same_terms b.terms a.terms && int_lt b.bound a.bound) ≡ t → Above m a (n + 1) behind → Above m a n (b ∷ behind)
above_by m a n b behind true e more =
    let rule : Proposition ℕ = Or (Not (Test m)) (Test n) in
    (And rule more.0, above_more (b ∷ behind) behind b m n a rule more.0 (And rule more.0) refl e refl more.1 refl)
above_by m a n b behind false e more = (more.0, above_skip (b ∷ behind) behind b m n a more.0 refl e more.1)

some_above : (m : ℕ) (a : Atom) (n : ℕ) (others : List Atom) → Above m a n others
some_above m a n [] = (Const true, above_none [] m n a refl)
some_above m a n (b ∷ behind) = above_by m a n b behind (same_terms b.terms a.terms && int_lt b.bound a.bound) refl (some_above m a (n + 1) behind)

some_order : (whole : List Atom) (m : ℕ) (rest : List Atom) → (p : Proposition ℕ) × Says (λ (v : List Bool). AreAbove v m rest whole) p
some_order whole m [] = (Const true, all_none [] whole m refl)
some_order whole m (a ∷ behind) =
    let one = some_above m a 0 whole in
    let more = some_order whole (m + 1) behind in
    (And one.0 more.0, all_more (a ∷ behind) behind whole a m one.0 more.0 (And one.0 more.0) refl one.1 more.1 refl)

-- ---- the constraints

some_conjunction : (atoms : List Atom) (base : Proposition ℕ) (cs : List Condition) → AreAllAmong atoms (map proposition cs) → (p : Proposition ℕ) × IsConjunction cs atoms base p
some_conjunction atoms base [] h = (base, numbered_none [] atoms base refl)
some_conjunction atoms base (c ∷ behind) h =
    let one = numbered atoms (proposition c) h.0 in
    let more = some_conjunction atoms base behind h.1 in
    (And one.0 more.0, numbered_more (c ∷ behind) behind c atoms base one.0 more.0 (And one.0 more.0) refl one.1 more.1 refl)

-- ---- formulas

-- a box without its value: a formula is made of them, and none is ever held
abbrev block : Box (Unit {0}) Global
block = record { ptr = null_ptr; alloc = record { memory = record { seal = tt } }; value = tt }

some_formula : (p : Proposition ℕ) → (f : Formula) × (formula f ≡ p)
some_formula (Const b) = (formulas.Const b, refl)
some_formula (Test n) = (formulas.Test n, refl)
some_formula (Not p) = let f = some_formula p in (formulas.Not' block f.0, ap (λ (x : Proposition ℕ). Not x) f.1)
some_formula (And p q) = let f = some_formula p in let g = some_formula q in (formulas.And' block f.0 block g.0, ap₂ (λ (x y : Proposition ℕ). And x y) f.1 g.1)
some_formula (Or p q) = let f = some_formula p in let g = some_formula q in (formulas.Or' block f.0 block g.0, ap₂ (λ (x y : Proposition ℕ). Or x y) f.1 g.1)

pub some_plausible : (cs : List Condition) (atoms : List Atom) → AreAllAmong atoms (map proposition cs) → (f : Formula) × IsPlausible cs atoms (formula f)
some_plausible cs atoms h =
    let order = some_order atoms 0 atoms in
    let made = some_conjunction atoms order.0 cs h in
    let f = some_formula made.0 in
    (f.0, subst (IsPlausible cs atoms) (sym f.1) (plausible_made cs atoms order.0 made.0 made.1 order.1))
