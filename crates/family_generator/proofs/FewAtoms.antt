-- The conditions of generated families have few atoms.
use Rattle.std.proofs.Common.{◌≡◌, ◌⊎◌, inl, inr, ℕ, zero, suc, ◌+◌, ◌-◌, ◌<◌, ◌≤◌, nat_lt, Bool, true, false, ◌&&◌, List, [], ◌∷◌, ◌++◌, length, map, refl, subst, arith, pos}
use Rattle.std.specs.List.{insert}
use Rattle.std.proofs.lemmas.Bool.Decides.{nat_tests}
use Rattle.std.specs.declared.cmp.Ordering.{Ordering}
use Rattle.std.specs.declared.cmp.Ordering.TheVariants.{Less, Equal, Greater}
use Rattle.linear_atoms.specs.declared.atoms.Atom.{Atom}
use Rattle.linear_atoms.specs.Rising.{atom_order, ComesBefore, AreRising}
use Rattle.cpp_conditions.specs.Propositions.{Proposition}
use Rattle.cpp_conditions.specs.Numbering.{IsAmong, AreAmong, AreAllAmong}
use Rattle.cpp_conditions.specs.Distinct.{Occurs, OccursIn, AreAtomsOf, HaveFewAtoms, IsGap}
use Rattle.cpp_conditions.proofs.Collected.{among_more, few_not_more, grows_put, is_put, place_first, place_taken, place_later, taken_later}
use Rattle.family_generator.proofs.Cases.{first_numbers, each_below, last_or_below}
use Rattle.family_generator.proofs.Conditions.{switch_test, bound_test}

-- ---- conditions of one atom

pub record HasOneAtom (a : Atom) (p : Proposition Atom) : Type 0 where
  pub among : (xs : List Atom) → IsAmong a xs → AreAmong xs p
  pub occurs : Occurs a p
  pub only : (b : Atom) → Occurs b p → a ≡ b

abbrev pub switch_atom : ℕ → Atom
switch_atom f = record { terms = (f, pos 1) ∷ []; bound = pos 1 }

abbrev pub bound_atom : ℕ → Atom
bound_atom c = record { terms = (8, pos 1) ∷ []; bound = pos (c + 1) }

only_switch : (f : ℕ) (b : Atom) → Occurs b (switch_test f) → switch_atom f ≡ b
only_switch f b (inl o) = absurd o
only_switch f b (inr o) = o

switch_has : (f : ℕ) → HasOneAtom (switch_atom f) (switch_test f)
switch_has f = record { among = λ xs m. (tt, m); occurs = inr refl; only = only_switch f }

bound_has : (c : ℕ) → HasOneAtom (bound_atom c) (bound_test c)
bound_has c = record { among = λ xs m. m; occurs = refl; only = λ b o. o }

-- ---- all conditions of generated families, their atoms from the first on

abbrev atom_by : Bool → ℕ → Atom
atom_by true i = bound_atom (8 - i)
atom_by false i = switch_atom (16 - i)

abbrev test_by : Bool → ℕ → Proposition Atom
test_by true i = bound_test (8 - i)
test_by false i = switch_test (16 - i)

abbrev atom_at : ℕ → Atom
atom_at i = atom_by (nat_lt i 9) i

abbrev test_at : ℕ → Proposition Atom
test_at i = test_by (nat_lt i 9) i

has_by : (b : Bool) (i : ℕ) → HasOneAtom (atom_by b i) (test_by b i)
has_by true i = bound_has (8 - i)
has_by false i = switch_has (16 - i)

abbrev pub all_tests : List (Proposition Atom)
all_tests = map test_at (first_numbers 17)

abbrev all_atoms : List Atom
all_atoms = map atom_at (first_numbers 17)

occurs_below : (n k : ℕ) → k < n → OccursIn (atom_at k) (map test_at (first_numbers n))
occurs_below zero k lt = absurd (omega arith)
occurs_below (suc n) k lt = elim (last_or_below n k lt) [
  | inl is ↦ inl (subst (λ m. Occurs (atom_at k) (test_at m)) is (has_by (nat_lt k 9) k).occurs)
  | inr less ↦ inr (occurs_below n k less)
]

pub switch_occurs : (f : ℕ) → f < 8 → OccursIn (switch_atom f) all_tests
switch_occurs f lt = subst (λ (a : Atom). OccursIn a all_tests) (each_below (λ f. atom_at (16 - f)) switch_atom 8 refl f lt) (occurs_below 17 (16 - f) (omega arith))

pub bound_occurs : (c : ℕ) → c < 9 → OccursIn (bound_atom c) all_tests
bound_occurs c lt = subst (λ (a : Atom). OccursIn a all_tests) (each_below (λ c. atom_at (8 - c)) bound_atom 9 refl c lt) (occurs_below 17 (8 - c) (omega arith))

-- ---- they rise

abbrev is_less : Ordering → Bool
is_less Less = true
is_less Equal = false
is_less Greater = false

less : (o : Ordering) → is_less o ≡ true → o ≡ Less
less Less e = refl
less Equal e = absurd cc
less Greater e = absurd cc

abbrev comes_before : Atom → List Atom → Bool
comes_before a [] = true
comes_before a (b ∷ bs) = is_less (atom_order a b) && comes_before a bs

abbrev are_rising : List Atom → Bool
are_rising [] = true
are_rising (a ∷ bs) = comes_before a bs && are_rising bs

both_true : (a b : Bool) → (a && b) ≡ true → (a ≡ true) × (b ≡ true)
both_true true b e = (refl, e)
both_true false b e = absurd cc

before_all : (a : Atom) (bs : List Atom) → comes_before a bs ≡ true → ComesBefore a bs
before_all a [] e = tt
before_all a (b ∷ bs) e = let h = both_true (is_less (atom_order a b)) (comes_before a bs) e in (less (atom_order a b) h.0, before_all a bs h.1)

rises : (bs : List Atom) → are_rising bs ≡ true → AreRising bs
rises [] e = tt
rises (a ∷ bs) e = let h = both_true (comes_before a bs) (are_rising bs) e in (before_all a bs h.0, rises bs h.1)

-- ---- and are those of the conditions

among_each : (is : List ℕ) (xs : List Atom) → ((a : Atom) → IsAmong a (map atom_at is) → IsAmong a xs) → AreAllAmong xs (map test_at is)
among_each [] xs h = tt
among_each (i ∷ is) xs h = ((has_by (nat_lt i 9) i).among xs (h (atom_at i) (inl refl)), among_each is xs (λ a m. h a (inr m)))

occur_each : (is : List ℕ) (a : Atom) → IsAmong a (map atom_at is) → OccursIn a (map test_at is)
occur_each [] a m = absurd m
occur_each (i ∷ is) a (inl e) = inl (subst (λ b. Occurs b (test_at i)) e (has_by (nat_lt i 9) i).occurs)
occur_each (i ∷ is) a (inr m) = inr (occur_each is a m)

all_have_few : HaveFewAtoms 64 all_tests
all_have_few = record {
  atoms = all_atoms;
  are_atoms = record { rising = rises all_atoms refl; all = among_each (first_numbers 17) all_atoms (λ a m. m); only = λ a m. occur_each (first_numbers 17) a m };
  few = omega arith;
}

-- ---- the atoms of some of them

-- each of these conditions has one atom, which is one of all
abbrev pub AreTests : List (Proposition Atom) → Type 0
AreTests [] = Unit {0}
AreTests (p ∷ ps) = ((a : Atom) × HasOneAtom a p × OccursIn a all_tests) × AreTests ps

pub switch_is_test : (f : ℕ) → f < 8 → AreTests (switch_test f ∷ [])
switch_is_test f lt = ((switch_atom f, switch_has f, switch_occurs f lt), tt)

pub bound_is_test : (c : ℕ) → c < 9 → AreTests (bound_test c ∷ [])
bound_is_test c lt = ((bound_atom c, bound_has c, bound_occurs c lt), tt)

pub tests_joined : (ps qs : List (Proposition Atom)) → AreTests ps → AreTests qs → AreTests (ps ++ qs)
tests_joined [] qs h k = k
tests_joined (p ∷ ps) qs h k = (h.0, tests_joined ps qs h.1 k)

tests_occur : (ps : List (Proposition Atom)) (b : Atom) → AreTests ps → OccursIn b ps → OccursIn b all_tests
tests_occur [] b h o = absurd o
tests_occur (p ∷ ps) b h (inl o) = subst (λ a. OccursIn a all_tests) (h.0.1.only b o) h.0.2
tests_occur (p ∷ ps) b h (inr o) = tests_occur ps b h.1 o

-- where an atom stands in a list that rises, or would stand
place_by : (a b : Atom) (bs : List Atom) (o : Ordering) → atom_order b a ≡ o → IsAmong a bs ⊎ ((n : ℕ) × IsGap a bs n) → IsAmong a (b ∷ bs) ⊎ ((n : ℕ) × IsGap a (b ∷ bs) n)
place_by a b bs Less e (inl m) = inl (taken_later a b (b ∷ bs) bs refl m)
place_by a b bs Less e (inr g) = inr (g.0 + 1, place_later a b (b ∷ bs) bs g.0 refl e g.1)
place_by a b bs Equal e later = inl (place_taken a b (b ∷ bs) bs refl e)
place_by a b bs Greater e later = inr (0, place_first a b (b ∷ bs) bs refl e)

place : (a : Atom) (bs : List Atom) → IsAmong a bs ⊎ ((n : ℕ) × IsGap a bs n)
place a [] = inr (0, refl)
place a (b ∷ bs) = place_by a b bs (atom_order b a) refl (place a bs)

all_more : (xs ys : List Atom) (ps : List (Proposition Atom)) → ((a : Atom) → IsAmong a xs → IsAmong a ys) → AreAllAmong xs ps → AreAllAmong ys ps
all_more xs ys [] k h = tt
all_more xs ys (p ∷ ps) k h = (among_more xs ys p k h.0, all_more xs ys ps k h.1)

new_or_later : (a b : Atom) (xs : List Atom) (p : Proposition Atom) (ps : List (Proposition Atom)) → Occurs a p → ((c : Atom) → IsAmong c xs → OccursIn c ps) → IsAmong b xs ⊎ (a ≡ b) → Occurs b p ⊎ OccursIn b ps
new_or_later a b xs p ps o k (inl m) = inr (k b m)
new_or_later a b xs p ps o k (inr e) = inl (subst (λ c. Occurs c p) e o)

one_more : (a : Atom) (p : Proposition Atom) (ps : List (Proposition Atom)) (xs : List Atom) → HasOneAtom a p → AreAtomsOf ps xs → IsAmong a xs ⊎ ((n : ℕ) × IsGap a xs n) → (ys : List Atom) × AreAtomsOf (p ∷ ps) ys
one_more a p ps xs h k (inl m) = (xs, record { rising = k.rising; all = (h.among xs m, k.all); only = λ b n. inr (k.only b n) })
one_more a p ps xs h k (inr g) =
    let grows = grows_put a xs (insert xs g.0 a) g.0 g.1 refl in (
      insert xs g.0 a,
      record {
        rising = grows.rising k.rising;
        all = (h.among (insert xs g.0 a) (is_put a xs (insert xs g.0 a) g.0 refl), all_more xs (insert xs g.0 a) ps grows.kept k.all);
        only = λ b n. new_or_later a b xs p ps h.occurs k.only (grows.only b n);
      },
    )

atoms_of : (ps : List (Proposition Atom)) → AreTests ps → (xs : List Atom) × AreAtomsOf ps xs
atoms_of [] h = ([], record { rising = tt; all = tt; only = λ a m. absurd m })
atoms_of (p ∷ ps) h = let rest = atoms_of ps h.1 in one_more h.0.0 p ps rest.0 h.0.1 rest.1 (place h.0.0 rest.0)

above : (n : ℕ) → nat_lt 64 n ≡ true → 64 < n
above n e = grind (arith, nat_tests)

not_above : (n : ℕ) → nat_lt 64 n ≡ false → n ≤ 64
not_above n e = grind (arith, nat_tests)

few_by : (ps : List (Proposition Atom)) (xs : List Atom) → AreTests ps → AreAtomsOf ps xs → (b : Bool) → nat_lt 64 (length xs) ≡ b → length xs ≤ 64
few_by ps xs h k true e = absurd (few_not_more 64 all_tests all_have_few (record { atoms = xs; rising = k.rising; only = λ a m. tests_occur ps a h (k.only a m); more = above (length xs) e }))
few_by ps xs h k false e = not_above (length xs) e

-- conditions of generated families have at most 64 atoms
pub tests_have_few : (ps : List (Proposition Atom)) → AreTests ps → HaveFewAtoms 64 ps
tests_have_few ps h = let found = atoms_of ps h in record { atoms = found.0; are_atoms = found.1; few = few_by ps found.0 h found.1 (nat_lt 64 (length found.0)) refl }
