-- One more condition, and the atoms of all.
use Rattle.std.proofs.Common.{◌≡◌, ◌⊎◌, inl, inr, ℕ, ◌≤◌, ◌<◌, List, [], ◌∷◌, ◌++◌, length, map, refl, ap, subst, append_assoc}
use Rattle.linear_atoms.specs.declared.atoms.Atom.{Atom}
use Rattle.linear_atoms.specs.Atoms.{IsAtom, AreAtoms}
use Rattle.cpp_conditions.specs.declared.conditions.Condition.{Condition}
use Rattle.cpp_conditions.specs.Distinct.{Occurs, OccursIn, AreAtomsOf, HaveFewAtoms, HaveMoreAtoms, Grows}
use Rattle.cpp_conditions.specs.Numbering.{IsAmong, AreAmong, AreAllAmong}
use Rattle.cpp_conditions.specs.Propositions.{Proposition, Const, Test, Not, And, Or, IsFit}
use Rattle.cpp_conditions.specs.Validity.{AreFit}
use Rattle.cpp_conditions.specs.View.{proposition}
use Rattle.cpp_conditions.proofs.Collected.{among_more}

all_more : (xs ys : List Atom) (ps : List (Proposition Atom)) (q : Proposition Atom) → ((a : Atom) → IsAmong a xs → IsAmong a ys) → AreAmong ys q → AreAllAmong xs ps → AreAllAmong ys (ps ++ q ∷ [])
all_more xs ys [] q k h t = (h, tt)
all_more xs ys (p ∷ ps) q k h t = (among_more xs ys p k t.0, all_more xs ys ps q k h t.1)

in_front : (a : Atom) (ps qs : List (Proposition Atom)) → OccursIn a ps → OccursIn a (ps ++ qs)
in_front a [] qs o = absurd o
in_front a (p ∷ ps) qs (inl o) = inl o
in_front a (p ∷ ps) qs (inr o) = inr (in_front a ps qs o)

at_end : (a : Atom) (ps : List (Proposition Atom)) (q : Proposition Atom) → Occurs a q → OccursIn a (ps ++ q ∷ [])
at_end a [] q o = inl o
at_end a (p ∷ ps) q o = inr (at_end a ps q o)

only_more : (a : Atom) (old : List Atom) (ps : List (Proposition Atom)) (q : Proposition Atom) → ((a : Atom) → IsAmong a old → OccursIn a ps) → IsAmong a old ⊎ Occurs a q → OccursIn a (ps ++ q ∷ [])
only_more a old ps q k (inl m) = in_front a ps (q ∷ []) (k a m)
only_more a old ps q k (inr o) = at_end a ps q o

-- the atoms of conditions and of one more
pub one_more : (ps : List (Proposition Atom)) (q : Proposition Atom) (old new : List Atom) → AreAtomsOf ps old → Grows (λ (a : Atom). Occurs a q) old new → AreAmong new q → AreAtomsOf (ps ++ q ∷ []) new
one_more ps q old new h g m = record {
  rising = g.rising h.rising;
  all = all_more old new ps q g.kept m h.all;
  only = λ a n. only_more a old ps q h.only (g.only a n);
}

-- the same of the conditions of a model and of a file, one more
pub one_more_behind : (cs ps : List (Proposition Atom)) (q : Proposition Atom) (old new : List Atom) → AreAtomsOf (cs ++ ps) old → Grows (λ (a : Atom). Occurs a q) old new → AreAmong new q
    → AreAtomsOf (cs ++ (ps ++ q ∷ [])) new
one_more_behind cs ps q old new h g m = subst (λ xs. AreAtomsOf xs new) (append_assoc cs ps (q ∷ [])) (one_more (cs ++ ps) q old new h g m)

pub few_of : (ps : List (Proposition Atom)) (atoms : List Atom) → AreAtomsOf ps atoms → length atoms ≤ 64 → HaveFewAtoms 64 ps
few_of ps atoms h k = record { atoms = atoms; are_atoms = h; few = k }

pub more_of : (ps : List (Proposition Atom)) (atoms : List Atom) → AreAtomsOf ps atoms → 64 < length atoms → HaveMoreAtoms 64 ps
more_of ps atoms h k = record { atoms = atoms; rising = h.rising; only = h.only; more = k }

pub meant_more : (cs : List Condition) (c : Condition) → map proposition (cs ++ c ∷ []) ≡ map proposition cs ++ proposition c ∷ []
meant_more [] c = refl
meant_more (d ∷ cs) c = ap (λ ps. proposition d ∷ ps) (meant_more cs c)

pub fit_more : (n : ℕ) (cs : List Condition) (c : Condition) → AreFit n cs → IsFit n (proposition c) → AreFit n (cs ++ c ∷ [])
fit_more n [] c h f = (f, tt)
fit_more n (d ∷ cs) c h f = (h.0, fit_more n cs c h.1 f)

-- ---- atoms of conditions that are fit are fit

fit_in : (n : ℕ) (a : Atom) (p : Proposition Atom) → IsFit n p → Occurs a p → IsAtom n a
fit_in n a (Const b) h o = absurd o
fit_in n a (Test b) h o = subst (IsAtom n) o h
fit_in n a (Not p) h o = fit_in n a p h o
fit_in n a (And p q) h (inl o) = fit_in n a p h.0 o
fit_in n a (And p q) h (inr o) = fit_in n a q h.1 o
fit_in n a (Or p q) h (inl o) = fit_in n a p h.0 o
fit_in n a (Or p q) h (inr o) = fit_in n a q h.1 o

fit_of : (n : ℕ) (a : Atom) (cs ds : List Condition) → AreFit n cs → AreFit n ds → OccursIn a (map proposition cs ++ map proposition ds) → IsAtom n a
fit_of n a [] [] h k o = absurd o
fit_of n a [] (d ∷ ds) h k (inl o) = fit_in n a (proposition d) k.0 o
fit_of n a [] (d ∷ ds) h k (inr o) = fit_of n a [] ds h k.1 o
fit_of n a (c ∷ cs) ds h k (inl o) = fit_in n a (proposition c) h.0 o
fit_of n a (c ∷ cs) ds h k (inr o) = fit_of n a cs ds h.1 k o

fit_each : (n : ℕ) (atoms : List Atom) → ((a : Atom) → IsAmong a atoms → IsAtom n a) → AreAtoms n atoms
fit_each n [] h = tt
fit_each n (a ∷ bs) h = (h a (inl refl), fit_each n bs (λ b m. h b (inr m)))

pub atoms_fit : (n : ℕ) (atoms : List Atom) (cs ds : List Condition) → AreFit n cs → AreFit n ds → AreAtomsOf (map proposition cs ++ map proposition ds) atoms → AreAtoms n atoms
atoms_fit n atoms cs ds h k m = fit_each n atoms (λ a i. fit_of n a cs ds h k (m.only a i))
