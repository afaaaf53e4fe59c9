-- The tests that tell the values of features bring few atoms more.
use Rattle.std.proofs.Common.{◌≡◌, ℕ, zero, suc, ◌+◌, ◌≤◌, inl, inr, ℤ, pos, ◌+ℤ◌, List, [], ◌∷◌, ◌++◌, length, subst, append_assoc, arith}
use Rattle.linear_atoms.specs.declared.atoms.Atom.{Atom}
use Rattle.linear_atoms.specs.declared.atoms.Feature.{Feature}
use Rattle.cpp_conditions.specs.Distinct.{OccursIn, HaveFewAtoms, Grows}
use Rattle.cpp_conditions.specs.Numbering.{IsAmong, AreAllAmong}
use Rattle.cpp_conditions.specs.Propositions.{Proposition, Const, Test, Not, And, Or}
use Rattle.cpp_conditions.proofs.Collected.{grows_none, grows_on, among_more}
use Rattle.feature_values.specs.declared.feature_uses.Use.{Use}
use Rattle.feature_values.specs.Values.{low_at, width_at, tests_above, tests_of}
use Rattle.reading_laws.proofs.Collecting.{WithOne, place, with_one}

-- ---- each is one test

abbrev IsTest : Proposition Atom → Type 0
IsTest (Test a) = Unit {0}
IsTest _ = ⊥

abbrev pub AreTests : List (Proposition Atom) → Type 0
AreTests [] = Unit {0}
AreTests (p ∷ ps) = IsTest p × AreTests ps

both_tests : (ps qs : List (Proposition Atom)) → AreTests ps → AreTests qs → AreTests (ps ++ qs)
both_tests [] qs h k = k
both_tests (p ∷ ps) qs h k = (h.0, both_tests ps qs h.1 k)

above_tests : (n : ℕ) (low : ℤ) (count : ℕ) → AreTests (tests_above n low count)
above_tests n low zero = tt
above_tests n low (suc count) = (tt, above_tests n (low +ℤ pos 1) count)

pub tests_are : (features : List Feature) (uses : List Use) → AreTests (tests_of features uses)
tests_are features [] = tt
tests_are features (u ∷ us) =
    both_tests (tests_above u.feature (low_at features u.feature) (width_at features u.feature)) (tests_of features us) (above_tests u.feature (low_at features u.feature) (width_at features u.feature)) (tests_are features us)

-- ---- so each brings one atom at most

record WithTests (tests : List (Proposition Atom)) (old : List Atom) : Type 0 where
  new : List Atom
  grows : Grows (λ (a : Atom). OccursIn a tests) old new
  all : AreAllAmong new tests
  few : length new ≤ length old + length tests

before_tests : (a : Atom) (tests : List (Proposition Atom)) (old : List Atom) (h : WithOne a old) → WithTests tests h.new → WithTests (Test a ∷ tests) old
before_tests a tests old h g = record {
  new = g.new;
  grows = grows_on (λ (b : Atom). a ≡ b) (λ (b : Atom). OccursIn b tests) (λ (b : Atom). OccursIn b (Test a ∷ tests)) old h.new g.new (λ b o. inl o) (λ b o. inr o) h.grows g.grows;
  all = (g.grows.kept a h.among, g.all);
  few = omega (arith, h.few, g.few);
}

with_tests : (tests : List (Proposition Atom)) → AreTests tests → (old : List Atom) → WithTests tests old
with_tests [] h old = record { new = old; grows = grows_none (λ (a : Atom). OccursIn a []) old; all = tt; few = omega arith }
with_tests (Const b ∷ ps) h old = absurd h.0
with_tests (Test a ∷ ps) h old = let n = place a old in let one = with_one a old n.0 n.1 in before_tests a ps old one (with_tests ps h.1 one.new)
with_tests (Not p ∷ ps) h old = absurd h.0
with_tests (And p q ∷ ps) h old = absurd h.0
with_tests (Or p q ∷ ps) h old = absurd h.0

-- ---- behind other conditions

all_more : (xs ys : List Atom) (ps : List (Proposition Atom)) → ((a : Atom) → IsAmong a xs → IsAmong a ys) → AreAllAmong xs ps → AreAllAmong ys ps
all_more xs ys [] k h = tt
all_more xs ys (p ∷ ps) k h = (among_more xs ys p k h.0, all_more xs ys ps k h.1)

all_both : (xs : List Atom) (ps qs : List (Proposition Atom)) → AreAllAmong xs ps → AreAllAmong xs qs → AreAllAmong xs (ps ++ qs)
all_both xs [] qs h k = k
all_both xs (p ∷ ps) qs h k = (h.0, all_both xs ps qs h.1 k)

occurs_front : (a : Atom) (ps qs : List (Proposition Atom)) → OccursIn a ps → OccursIn a (ps ++ qs)
occurs_front a [] qs h = absurd h
occurs_front a (p ∷ ps) qs (inl o) = inl o
occurs_front a (p ∷ ps) qs (inr o) = inr (occurs_front a ps qs o)

occurs_behind : (a : Atom) (ps qs : List (Proposition Atom)) → OccursIn a qs → OccursIn a (ps ++ qs)
occurs_behind a [] qs h = h
occurs_behind a (p ∷ ps) qs h = inr (occurs_behind a ps qs h)

pub few_with_tests : (most : ℕ) (cs ps tests : List (Proposition Atom)) → AreTests tests → HaveFewAtoms most (cs ++ ps) → HaveFewAtoms (most + length tests) (cs ++ (ps ++ tests))
few_with_tests most cs ps tests t h =
    let g = with_tests tests t h.atoms in
    subst (HaveFewAtoms (most + length tests)) (append_assoc cs ps tests) (record {
      atoms = g.new;
      are_atoms = record {
        rising = g.grows.rising h.are_atoms.rising;
        all = all_both g.new (cs ++ ps) tests (all_more h.atoms g.new (cs ++ ps) g.grows.kept h.are_atoms.all) g.all;
        only = λ a i. elim (g.grows.only a i) [
          | inl n ↦ occurs_front a (cs ++ ps) tests (h.are_atoms.only a n)
          | inr o ↦ occurs_behind a (cs ++ ps) tests o
        ];
      };
      few = omega (arith, g.few, h.few);
    })
