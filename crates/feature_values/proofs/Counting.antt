-- How many atoms there are with those of tests, and that all are well formed.
use Rattle.std.proofs.Common.{◌≡◌, ℕ, zero, suc, ◌+◌, ◌≤◌, inl, inr, ℤ, pos, ◌+ℤ◌, List, [], ◌∷◌, ◌++◌, length, map, refl, ap, subst, sym, ◌∙◌, arith, ◌≢◌}
use Rattle.std.specs.declared.cmp.Ordering.TheVariants.{Less, Equal}
use Rattle.std.specs.Ordering.{int_cmp}
use Rattle.std.specs.Cmp.{IsTotalOrder, then_total, on_total, int_cmp_total}
use Rattle.std.specs.List.{All}
use Rattle.std.proofs.lemmas.Cmp.{tied_itself}
use Rattle.std.proofs.lemmas.List.{map-append, length-append}
use Rattle.std.proofs.lemmas.List.Elements.{All-head, All-tail}
use Rattle.linear_atoms.specs.declared.atoms.Atom.{Atom}
use Rattle.linear_atoms.specs.declared.atoms.Feature.{Feature}
use Rattle.linear_atoms.specs.Atoms.{IsAtom, AreAtoms, AreRanges}
use Rattle.linear_atoms.specs.Order.{terms_total}
use Rattle.linear_atoms.specs.Rising.{atom_order, ComesBefore, AreRising}
use Rattle.cpp_conditions.specs.Distinct.{OccursIn}
use Rattle.cpp_conditions.specs.Numbering.{IsAmong}
use Rattle.cpp_conditions.specs.Propositions.{Proposition, Test, IsFit}
use Rattle.feature_values.specs.declared.feature_uses.Use.{Use}
use Rattle.feature_values.specs.Moved.{AreAdded}
use Rattle.feature_values.specs.Values.{AreUses, low_at, width_at, value_test, tests_above, tests_of, test_count}
use Rattle.feature_values.proofs.Testing.{length-tests, tests_fit}

-- ---- atoms that rise are no more than a list that has them all

atoms_total : IsTotalOrder atom_order
atoms_total = then_total (on_total (λ (a : Atom). a.terms) terms_total) (on_total (λ (a : Atom). a.bound) int_cmp_total)

not_before : (x : Atom) (xs : List Atom) → ComesBefore x xs → IsAmong x xs → ⊥
not_before x [] h m = m
not_before x (y ∷ ys) h (inl e) =
    let less : atom_order x x ≡ Less = subst (λ (z : Atom). atom_order x z ≡ Less) e h.0 in
    let same : atom_order x x ≡ Equal = tied_itself atoms_total x in
    absurd cc
not_before x (y ∷ ys) h (inr m) = not_before x ys h.1 m

without : (x : Atom) (ys : List Atom) → IsAmong x ys → List Atom
without x [] m = []
without x (y ∷ ys) (inl e) = ys
without x (y ∷ ys) (inr m) = y ∷ without x ys m

length-without : (x : Atom) (ys : List Atom) (m : IsAmong x ys) → length ys ≡ suc (length (without x ys m))
unfolding without
length-without x [] m = absurd m
length-without x (y ∷ ys) (inl e) = refl
length-without x (y ∷ ys) (inr m) = ap suc (length-without x ys m)

others_kept : (x a : Atom) (ys : List Atom) (m : IsAmong x ys) → x ≢ a → IsAmong a ys → IsAmong a (without x ys m)
unfolding without
others_kept x a [] m d n = absurd m
others_kept x a (y ∷ ys) (inl e) d (inl f) = absurd (d (sym e ∙ f))
others_kept x a (y ∷ ys) (inl e) d (inr n) = n
others_kept x a (y ∷ ys) (inr m) d (inl f) = inl f
others_kept x a (y ∷ ys) (inr m) d (inr n) = inr (others_kept x a ys m d n)

no_more : (xs ys : List Atom) → AreRising xs → ((a : Atom) → IsAmong a xs → IsAmong a ys) → length xs ≤ length ys
no_more [] ys r h = omega arith
no_more (x ∷ xs) ys r h =
    let m : IsAmong x ys = h x (inl refl) in
    let e : length ys ≡ suc (length (without x ys (h x (inl refl)))) = length-without x ys (h x (inl refl)) in
    let l : length xs ≤ length (without x ys (h x (inl refl))) =
    no_more xs (without x ys (h x (inl refl))) r.1 (λ a n. others_kept x a ys (h x (inl refl)) (λ f. not_before x xs r.0 (subst (λ (z : Atom). IsAmong z xs) (sym f) n)) (h a (inr n))) in
    omega arith

-- ---- the atoms of tests

abbrev atoms_above : ℕ → ℤ → ℕ → List Atom
atoms_above n low zero = []
atoms_above n low (suc count) = value_test n (low +ℤ pos 1) ∷ atoms_above n (low +ℤ pos 1) count

abbrev atoms_of : List Feature → List Use → List Atom
atoms_of features [] = []
atoms_of features (u ∷ us) = atoms_above u.feature (low_at features u.feature) (width_at features u.feature) ++ atoms_of features us

above_are : (n : ℕ) (low : ℤ) (count : ℕ) → tests_above n low count ≡ map Test (atoms_above n low count)
above_are n low zero = refl
above_are n low (suc count) = ap (λ (ps : List (Proposition Atom)). Test (value_test n (low +ℤ pos 1)) ∷ ps) (above_are n (low +ℤ pos 1) count)

tests_are : (features : List Feature) (us : List Use) → tests_of features us ≡ map Test (atoms_of features us)
tests_are features [] = refl
tests_are features (u ∷ us) =
    ap (λ (ps : List (Proposition Atom)). ps ++ tests_of features us) (above_are u.feature (low_at features u.feature) (width_at features u.feature))
    ∙ ap (λ (ps : List (Proposition Atom)). map Test (atoms_above u.feature (low_at features u.feature) (width_at features u.feature)) ++ ps) (tests_are features us)
    ∙ sym (map-append Test (atoms_above u.feature (low_at features u.feature) (width_at features u.feature)) (atoms_of features us))

length_tested : (bs : List Atom) → length (map Test bs) ≡ length bs
length_tested [] = refl
length_tested (b ∷ bs) = ap suc (length_tested bs)

tested_among : (a : Atom) (bs : List Atom) → OccursIn a (map Test bs) → IsAmong a bs
tested_among a [] o = absurd o
tested_among a (b ∷ bs) (inl e) = inl e
tested_among a (b ∷ bs) (inr o) = inr (tested_among a bs o)

tested_fit : (count : ℕ) (bs : List Atom) → All (IsFit count) (map Test bs) → AreAtoms count bs
tested_fit count [] h = tt
tested_fit count (b ∷ bs) h = (All-head (IsFit count) (Test b) (map Test bs) h, tested_fit count bs (All-tail (IsFit count) (Test b) (map Test bs) h))

-- ---- old and new atoms

among_left : (a : Atom) (xs ys : List Atom) → IsAmong a xs → IsAmong a (xs ++ ys)
among_left a [] ys m = absurd m
among_left a (x ∷ xs) ys (inl e) = inl e
among_left a (x ∷ xs) ys (inr m) = inr (among_left a xs ys m)

among_right : (a : Atom) (xs ys : List Atom) → IsAmong a ys → IsAmong a (xs ++ ys)
among_right a [] ys m = m
among_right a (x ∷ xs) ys m = inr (among_right a xs ys m)

among_both : (features : List Feature) (us : List Use) (old new : List Atom) → AreAdded (tests_of features us) old new → (a : Atom) → IsAmong a new → IsAmong a (old ++ atoms_of features us)
among_both features us old new h a m = elim (h.grows.only a m) [
  | inl n ↦ among_left a old (atoms_of features us) n
  | inr o ↦ among_right a old (atoms_of features us) (tested_among a (atoms_of features us) (subst (OccursIn a) (tests_are features us) o))
]

pub few_added : (features : List Feature) (us : List Use) (old new : List Atom) → AreAdded (tests_of features us) old new → AreRising old → length new ≤ length old + test_count features us
few_added features us old new h r =
    let l : length new ≤ length (old ++ atoms_of features us) = no_more new (old ++ atoms_of features us) (h.grows.rising r) (among_both features us old new h) in
    let e : test_count features us ≡ length (atoms_of features us) = sym (length-tests features us) ∙ ap length (tests_are features us) ∙ length_tested (atoms_of features us) in
    omega (arith, length-append old (atoms_of features us))

atom_among : (count : ℕ) (a : Atom) (xs : List Atom) → AreAtoms count xs → IsAmong a xs → IsAtom count a
atom_among count a [] h m = absurd m
atom_among count a (x ∷ xs) h (inl e) = subst (IsAtom count) e h.0
atom_among count a (x ∷ xs) h (inr m) = atom_among count a xs h.1 m

each_fit : (count : ℕ) (xs : List Atom) → ((a : Atom) → IsAmong a xs → IsAtom count a) → AreAtoms count xs
each_fit count [] h = tt
each_fit count (x ∷ xs) h = (h x (inl refl), each_fit count xs (λ a m. h a (inr m)))

both_fit : (count : ℕ) (xs ys : List Atom) → AreAtoms count xs → AreAtoms count ys → AreAtoms count (xs ++ ys)
both_fit count [] ys h k = k
both_fit count (x ∷ xs) ys h k = (h.0, both_fit count xs ys h.1 k)

pub fit_added : (features : List Feature) (us : List Use) (old new : List Atom) → AreAdded (tests_of features us) old new → AreRanges features → AreUses features us → AreAtoms (length features) old → AreAtoms (length features) new
fit_added features us old new h r u f =
    let tests : AreAtoms (length features) (atoms_of features us) = tested_fit (length features) (atoms_of features us) (subst (All (IsFit (length features))) (tests_are features us) (tests_fit features us r u)) in
    each_fit (length features) new (λ a m. atom_among (length features) a (old ++ atoms_of features us) (both_fit (length features) old (atoms_of features us) f tests) (among_both features us old new h a m))
