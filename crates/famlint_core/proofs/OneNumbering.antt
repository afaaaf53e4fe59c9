-- Over atoms that rise, conditions have one numbering, and what is plausible has one truth at each vector.
use Rattle.std.proofs.Common.{◌≡◌, ℕ, zero, suc, Bool, true, false, List, [], ◌∷◌, map, slice_get, Some, refl, sym, ap, ap₂, subst, ◌∙◌}
use Rattle.std.specs.declared.cmp.Ordering.TheVariants.{Less, Equal}
use Rattle.std.specs.Cmp.{IsTotalOrder, then_total, on_total, int_cmp_total}
use Rattle.std.proofs.lemmas.Cmp.{tied_itself}
use Rattle.linear_atoms.specs.declared.atoms.Atom.{Atom}
use Rattle.linear_atoms.specs.Order.{terms_total}
use Rattle.linear_atoms.specs.Rising.{atom_order, ComesBefore, AreRising}
use Rattle.cpp_conditions.specs.declared.conditions.Condition.{Condition}
use Rattle.cpp_conditions.specs.declared.formulas.Formula.{Formula}
use Rattle.cpp_conditions.specs.Numbering.{IsNumbered}
use Rattle.cpp_conditions.specs.Propositions.{Proposition, Const, Test, Not, And, Or, true_on}
use Rattle.cpp_conditions.specs.View.{proposition, formula}
use Rattle.cpp_lines.specs.Sections as sections
use Rattle.atom_solver.specs.Plausible as plausible
use Rattle.atom_solver.specs.Plausible.{IsPlausible, all_on}

-- ---- one place of an atom

not_itself : (a : Atom) → atom_order a a ≡ Less → ⊥
not_itself a e =
    let total : IsTotalOrder atom_order = then_total (on_total (λ (x : Atom). x.terms) terms_total) (on_total (λ (x : Atom). x.bound) int_cmp_total) in
    let f : atom_order a a ≡ Equal = tied_itself total a in
    cc

before_there : (a b : Atom) (bs : List Atom) (n : ℕ) → ComesBefore a bs → slice_get bs n ≡ Some b → atom_order a b ≡ Less
before_there a b [] n h e = cc
before_there a b (c ∷ bs) zero h e = let f : c ≡ b = cc in subst (λ x. atom_order a x ≡ Less) f h.0
before_there a b (c ∷ bs) (suc n) h e = before_there a b bs n h.1 e

not_behind : (a b : Atom) (bs : List Atom) (n : ℕ) → ComesBefore b bs → b ≡ a → slice_get bs n ≡ Some a → ⊥
not_behind a b bs n h e there = not_itself a (subst (λ x. atom_order x a ≡ Less) e (before_there b a bs n h there))

one_place : (atoms : List Atom) → AreRising atoms → (m n : ℕ) (a : Atom) → slice_get atoms m ≡ Some a → slice_get atoms n ≡ Some a → m ≡ n
one_place [] r m n a h k = cc
one_place (b ∷ bs) r zero zero a h k = refl
one_place (b ∷ bs) r zero (suc n) a h k = let e : b ≡ a = cc in absurd (not_behind a b bs n r.0 e k)
one_place (b ∷ bs) r (suc m) zero a h k = let e : b ≡ a = cc in absurd (not_behind a b bs m r.0 e h)
one_place (b ∷ bs) r (suc m) (suc n) a h k = ap suc (one_place bs r.1 m n a h k)

-- ---- one numbering

module _ (atoms : List Atom) (rising : AreRising atoms) where
  one_formula : (p : Proposition Atom) (f g : Proposition ℕ) → IsNumbered atoms p f → IsNumbered atoms p g → f ≡ g
  one_formula (Const b) (Const c) (Const d) h k = ap (λ (x : Bool). Const x) (sym h ∙ k)
  one_formula (Const b) (Const c) _ h k = absurd k
  one_formula (Test a) (Test m) (Test n) h k = ap (λ (x : ℕ). Test x) (one_place atoms rising m n a h k)
  one_formula (Test a) (Test m) _ h k = absurd k
  one_formula (Not p) (Not f) (Not g) h k = ap (λ (x : Proposition ℕ). Not x) (one_formula p f g h k)
  one_formula (Not p) (Not f) _ h k = absurd k
  one_formula (And p q) (And f x) (And g y) h k = ap₂ (λ (u v : Proposition ℕ). And u v) (one_formula p f g h.0 k.0) (one_formula q x y h.1 k.1)
  one_formula (And p q) (And f x) _ h k = absurd k
  one_formula (Or p q) (Or f x) (Or g y) h k = ap₂ (λ (u v : Proposition ℕ). Or u v) (one_formula p f g h.0 k.0) (one_formula q x y h.1 k.1)
  one_formula (Or p q) (Or f x) _ h k = absurd k
  one_formula _ _ _ h k = absurd h

  -- each is its condition with the numbers of its atoms
  abbrev AreNumbered : List (Proposition Atom) → List (Proposition ℕ) → Type 0
  AreNumbered [] [] = Unit {0}
  AreNumbered [] (f ∷ fs) = ⊥
  AreNumbered (p ∷ ps) [] = ⊥
  AreNumbered (p ∷ ps) (f ∷ fs) = IsNumbered atoms p f × AreNumbered ps fs

  one_list : (ps : List (Proposition Atom)) (fs gs : List (Proposition ℕ)) → AreNumbered ps fs → AreNumbered ps gs → fs ≡ gs
  one_list [] [] [] h k = refl
  one_list [] [] (g ∷ gs) h k = absurd k
  one_list [] (f ∷ fs) gs h k = absurd h
  one_list (p ∷ ps) [] gs h k = absurd h
  one_list (p ∷ ps) (f ∷ fs) [] h k = absurd k
  one_list (p ∷ ps) (f ∷ fs) (g ∷ gs) h k = ap₂ (λ (x : Proposition ℕ) (xs : List (Proposition ℕ)). x ∷ xs) (one_formula p f g h.0 k.0) (one_list ps fs gs h.1 k.1)

  of_formulas : (ps : List (Proposition Atom)) (fs : List Formula) → sections.AreNumbered atoms ps fs → AreNumbered ps (map formula fs)
  of_formulas [] [] h = tt
  of_formulas [] (f ∷ fs) h = absurd h
  of_formulas (p ∷ ps) [] h = absurd h
  of_formulas (p ∷ ps) (f ∷ fs) h = (h.0, of_formulas ps fs h.1)

  of_conditions : (cs : List Condition) (fs : List (Proposition ℕ)) → plausible.AreNumbered atoms cs fs → AreNumbered (map proposition cs) fs
  of_conditions [] [] h = tt
  of_conditions [] (f ∷ fs) h = absurd h
  of_conditions (c ∷ cs) [] h = absurd h
  of_conditions (c ∷ cs) (f ∷ fs) h = (h.0, of_conditions cs fs h.1)

  -- the formulas of the same conditions
  pub one_numbering : (ps : List (Proposition Atom)) (fs gs : List Formula) → sections.AreNumbered atoms ps fs → sections.AreNumbered atoms ps gs → map formula fs ≡ map formula gs
  one_numbering ps fs gs h k = one_list ps (map formula fs) (map formula gs) (of_formulas ps fs h) (of_formulas ps gs k)

  -- ---- what is plausible

  same_truth : (x y : Bool) → (x ≡ true → y ≡ true) → (y ≡ true → x ≡ true) → x ≡ y
  same_truth true y h k = sym (h refl)
  same_truth false true h k = k refl
  same_truth false false h k = refl

  -- over the same constraints it is true at the same vectors
  pub one_plausible : (cs ds : List Condition) → map proposition cs ≡ map proposition ds → (f g : Proposition ℕ) → IsPlausible cs atoms f → IsPlausible ds atoms g → (v : List Bool) → true_on v f ≡ true_on v g
  one_plausible cs ds e f g h k v =
      let same : h.numbered ≡ k.numbered =
      one_list (map proposition ds) h.numbered k.numbered (subst (λ (ps : List (Proposition Atom)). AreNumbered ps h.numbered) e (of_conditions cs h.numbered h.are_numbered)) (of_conditions ds k.numbered k.are_numbered) in
      same_truth (true_on v f) (true_on v g)
      (λ t. let so = h.only v t in k.all v (subst (λ (fs : List (Proposition ℕ)). all_on v fs ≡ true) same so.0) so.1)
      (λ t. let so = k.only v t in h.all v (subst (λ (fs : List (Proposition ℕ)). all_on v fs ≡ true) (sym same) so.0) so.1)
