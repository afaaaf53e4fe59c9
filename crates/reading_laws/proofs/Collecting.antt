-- Conditions have their atoms, which are few or more.
use Rattle.std.proofs.Common.{◌≡◌, ℕ, zero, suc, ◌+◌, ◌≤◌, ◌⊎◌, inl, inr, List, [], ◌∷◌, length, Option, Some, None, refl, arith}
use Rattle.std.proofs.lemmas.Bool.{cases_lt}
use Rattle.std.proofs.lemmas.List.Edits.{length-insert}
use Rattle.std.specs.List.{insert}
use Rattle.std.specs.declared.cmp.Ordering.{Ordering}
use Rattle.std.specs.declared.cmp.Ordering.TheVariants.{Less, Equal, Greater}
use Rattle.linear_atoms.specs.declared.atoms.Atom.{Atom}
use Rattle.linear_atoms.specs.Rising.{atom_order}
use Rattle.cpp_conditions.specs.Distinct.{Occurs, OccursIn, AreAtomsOf, HaveFewAtoms, HaveMoreAtoms, Grows, IsGap, IsPlace}
use Rattle.cpp_conditions.specs.Numbering.{IsAmong, AreAmong, AreAllAmong}
use Rattle.cpp_conditions.specs.Propositions.{Proposition, Const, Test, Not, And, Or}
use Rattle.cpp_conditions.proofs.Collected.{grows_put, is_put, place_first, place_taken, grows_none, grows_on, among_more, collected}

-- ---- the place of an atom

place_by : (a b : Atom) (bs : List Atom) (o : Ordering) → atom_order b a ≡ o → (n : Option ℕ) × IsPlace a bs n → (n : Option ℕ) × IsPlace a (b ∷ bs) n
place_by a b bs Less e (None, h) = (None, inr h)
place_by a b bs Less e (Some n, h) = (Some (suc n), (e, h))
place_by a b bs Equal e x = (None, place_taken a b (b ∷ bs) bs refl e)
place_by a b bs Greater e x = (Some 0, place_first a b (b ∷ bs) bs refl e)

pub place : (a : Atom) (bs : List Atom) → (n : Option ℕ) × IsPlace a bs n
place a [] = (Some 0, refl)
place a (b ∷ bs) = place_by a b bs (atom_order b a) refl (place a bs)

-- ---- one more atom

gap_within : (a : Atom) (bs : List Atom) (n : ℕ) → IsGap a bs n → n ≤ length bs
gap_within a [] n h = omega (arith, h)
gap_within a (b ∷ bs) zero h = omega arith
gap_within a (b ∷ bs) (suc n) h = omega (arith, gap_within a bs n h.1)

pub record WithOne (a : Atom) (old : List Atom) : Type 0 where
  pub new : List Atom
  pub grows : Grows (λ (b : Atom). a ≡ b) old new
  pub among : IsAmong a new
  pub few : length new ≤ length old + 1

pub with_one : (a : Atom) (old : List Atom) (n : Option ℕ) → IsPlace a old n → WithOne a old
with_one a old None h = record { new = old; grows = grows_none (λ (b : Atom). a ≡ b) old; among = h; few = omega arith }
with_one a old (Some n) h = record {
  new = insert old n a;
  grows = grows_put a old (insert old n a) n h refl;
  among = is_put a old (insert old n a) n refl;
  few = omega (arith, length-insert old n a (gap_within a old n h));
}

-- ---- those of a condition

record WithThose (p : Proposition Atom) (old : List Atom) : Type 0 where
  new : List Atom
  grows : Grows (λ (a : Atom). Occurs a p) old new
  among : AreAmong new p

tested : (a : Atom) (old : List Atom) → WithOne a old → WithThose (Test a) old
tested a old h = record { new = h.new; grows = h.grows; among = h.among }

negated : (p : Proposition Atom) (old : List Atom) → WithThose p old → WithThose (Not p) old
negated p old h = record { new = h.new; grows = h.grows; among = h.among }

both : (p q : Proposition Atom) (old : List Atom) (h : WithThose p old) → WithThose q h.new → WithThose (And p q) old
both p q old h g = record {
  new = g.new;
  grows = grows_on (λ (a : Atom). Occurs a p) (λ (a : Atom). Occurs a q) (λ (a : Atom). Occurs a (And p q)) old h.new g.new (λ a o. inl o) (λ a o. inr o) h.grows g.grows;
  among = (among_more h.new g.new p g.grows.kept h.among, g.among);
}

either : (p q : Proposition Atom) (old : List Atom) (h : WithThose p old) → WithThose q h.new → WithThose (Or p q) old
either p q old h g = record {
  new = g.new;
  grows = grows_on (λ (a : Atom). Occurs a p) (λ (a : Atom). Occurs a q) (λ (a : Atom). Occurs a (Or p q)) old h.new g.new (λ a o. inl o) (λ a o. inr o) h.grows g.grows;
  among = (among_more h.new g.new p g.grows.kept h.among, g.among);
}

with_those : (p : Proposition Atom) (old : List Atom) → WithThose p old
with_those (Const b) old = record { new = old; grows = grows_none (λ (a : Atom). Occurs a (Const b)) old; among = tt }
with_those (Test a) old = let n = place a old in tested a old (with_one a old n.0 n.1)
with_those (Not p) old = negated p old (with_those p old)
with_those (And p q) old = let h = with_those p old in both p q old h (with_those q h.new)
with_those (Or p q) old = let h = with_those p old in either p q old h (with_those q h.new)

-- ---- those of all conditions

record WithAll (ps : List (Proposition Atom)) (old : List Atom) : Type 0 where
  new : List Atom
  grows : Grows (λ (a : Atom). OccursIn a ps) old new
  all : AreAllAmong new ps

before_others : (p : Proposition Atom) (ps : List (Proposition Atom)) (old : List Atom) (h : WithThose p old) → WithAll ps h.new → WithAll (p ∷ ps) old
before_others p ps old h g = record {
  new = g.new;
  grows = grows_on (λ (a : Atom). Occurs a p) (λ (a : Atom). OccursIn a ps) (λ (a : Atom). OccursIn a (p ∷ ps)) old h.new g.new (λ a o. inl o) (λ a o. inr o) h.grows g.grows;
  all = (among_more h.new g.new p g.grows.kept h.among, g.all);
}

with_all : (ps : List (Proposition Atom)) (old : List Atom) → WithAll ps old
with_all [] old = record { new = old; grows = grows_none (λ (a : Atom). OccursIn a []) old; all = tt }
with_all (p ∷ ps) old = let h = with_those p old in before_others p ps old h (with_all ps h.new)

pub atoms_of : (ps : List (Proposition Atom)) → (atoms : List Atom) × AreAtomsOf ps atoms
atoms_of ps = let h = with_all ps [] in (h.new, collected ps [] h.new refl h.grows h.all)

pub few_or_more : (most : ℕ) (ps : List (Proposition Atom)) → HaveFewAtoms most ps ⊎ HaveMoreAtoms most ps
few_or_more most ps =
    let h = atoms_of ps in
    elim (cases_lt most (length h.0)) [
      | inl l ↦ inr (record { atoms = h.0; rising = h.1.rising; only = h.1.only; more = l })
      | inr l ↦ inl (record { atoms = h.0; are_atoms = h.1; few = l })
    ]
