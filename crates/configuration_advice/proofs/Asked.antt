-- What a question on one feature's value says.
use Rattle.std.proofs.Common.{◌≡◌, ℕ, ◌<◌, ◌≤◌, ℤ, pos, ◌+ℤ◌, ◌-ℤ◌, ◌*ℤ◌, ◌≤ℤ◌, ◌<ℤ◌, unsigned_abs, Bool, true, false, List, [], ◌∷◌, Some, None, sym, subst, refl, arith}
use Rattle.std.specs.Prelude.{int_le, not, ◌&&◌}
use Rattle.std.proofs.lemmas.Int.{ints}
use Rattle.linear_atoms.specs.declared.atoms.Atom.{Atom}
use Rattle.linear_atoms.specs.declared.atoms.Config.{Config}
use Rattle.linear_atoms.specs.declared.atoms.Literal.{Literal}
use Rattle.linear_atoms.specs.Atoms.{IsAtom, holds}
use Rattle.linear_atoms.specs.Divisors.{common_divisor}
use Rattle.cpp_conditions.specs.declared.models.Model.{Model}
use Rattle.atom_solver.specs.Solutions.{Finds, all_hold}
use Rattle.configuration_advice.specs.Tests.{at_least}
use Rattle.configuration_advice.specs.Uses.{value_of, Has, AllFrom, AllTo}

alone_coprime : (n : ℕ) → common_divisor ((n, pos 1) ∷ []) ≡ 1
unfolding common_divisor
alone_coprime n = refl

pub at_least_fit : (count n : ℕ) (m : ℤ) → n < count → unsigned_abs m ≤ 2147483649 → IsAtom count (at_least n m)
at_least_fit count n m h k = record {
  rising = (omega arith, (λ e. omega (arith, ints)), tt);
  coprime = alone_coprime n;
  small = refl;
  positive = omega (arith, ints);
  below = (h, tt);
  bounded = k;
}

pub fit_of : (count n : ℕ) (m z : ℤ) (a : Atom) → a ≡ at_least n z → z ≡ m → n < count → unsigned_abs m ≤ 2147483649 → IsAtom count a
fit_of count n m z a e f h k = subst (IsAtom count) (sym e) (at_least_fit count n z h (subst (λ x. unsigned_abs x ≤ 2147483649) (sym f) k))

-- ---- the truth of the test

pub reached : (m v w : ℤ) → w ≡ (pos 1 *ℤ v) +ℤ pos 0 → int_le m w ≡ true → m ≤ℤ v
reached m v w e h = grind (arith, ints)

pub missed : (m v w : ℤ) → w ≡ (pos 1 *ℤ v) +ℤ pos 0 → int_le m w ≡ false → v <ℤ m
missed m v w e h = grind (arith, ints)

pub holds_so : (n : ℕ) (m : ℤ) (values : List ℤ) → holds (at_least n m) values ≡ true → m ≤ℤ value_of n values
holds_so n m values h = reached m (value_of n values) ((pos 1 *ℤ value_of n values) +ℤ pos 0) refl h

pub fails_so : (n : ℕ) (m : ℤ) (values : List ℤ) → holds (at_least n m) values ≡ false → value_of n values <ℤ m
fails_so n m values h = missed m (value_of n values) ((pos 1 *ℤ value_of n values) +ℤ pos 0) refl h

-- ---- a literal alone

abbrev pub only : ℕ → ℤ → Bool → List Literal
only n m positive = record { atom = at_least n m; positive = positive } ∷ []

yes_alone : (b : Bool) → (b && true) ≡ true → b ≡ true
yes_alone true h = refl
yes_alone false h = h

no_alone : (b : Bool) → (b && true) ≡ false → b ≡ false
no_alone true h = h
no_alone false h = refl

not_yes : (b : Bool) → (not b && true) ≡ true → b ≡ false
not_yes true h = sym h
not_yes false h = refl

not_no : (b : Bool) → (not b && true) ≡ false → b ≡ true
not_no true h = refl
not_no false h = sym h

under : (v m : ℤ) → v <ℤ m → v ≤ℤ (m -ℤ pos 1)
under v m h = omega (arith, ints)

pub none_from : (model : Model) (n : ℕ) (low : ℤ) → Finds model (λ values. all_hold (only n low true) values) None → AllTo model n (low -ℤ pos 1)
none_from model n low h values v = under (value_of n values) low (fails_so n low values (no_alone (holds (at_least n low) values) (h values v)))

pub some_from : (model : Model) (n : ℕ) (low : ℤ) (config : Config) → Finds model (λ values. all_hold (only n low true) values) (Some config) → (low ≤ℤ value_of n config.values) × Has model n (value_of n config.values)
some_from model n low config h = (holds_so n low config.values (yes_alone (holds (at_least n low) config.values) h.met), record { values = config.values; valid = h.valid; there = refl })

pub none_below : (model : Model) (n : ℕ) (high : ℤ) → Finds model (λ values. all_hold (only n high false) values) None → AllFrom model n high
none_below model n high h values v = holds_so n high values (not_no (holds (at_least n high) values) (h values v))

pub some_below : (model : Model) (n : ℕ) (high : ℤ) (config : Config) → Finds model (λ values. all_hold (only n high false) values) (Some config) → (value_of n config.values <ℤ high) × Has model n (value_of n config.values)
some_below model n high config h = (fails_so n high config.values (not_yes (holds (at_least n high) config.values) h.met), record { values = config.values; valid = h.valid; there = refl })
