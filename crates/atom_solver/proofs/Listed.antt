-- The atoms of a question.
use Rattle.std.proofs.Common.{◌≡◌, ℕ, zero, suc, ◌<◌, ℤ, Bool, true, false, not, ◌&&◌, ◌||◌, inl, inr, List, [], ◌∷◌, ◌++◌, length, map, get_or, sym, ap, subst, refl, ◌∙◌, arith}
use Rattle.std.proofs.lemmas.List.{append-nil, append_assoc}
use Rattle.std.specs.Ordering.{int_eq}
use Rattle.linear_atoms.specs.Order.{same_terms}
use Rattle.linear_atoms.specs.declared.atoms.Atom.{Atom}
use Rattle.linear_atoms.specs.Atoms.{IsAtom, AreAtoms}
use Rattle.cpp_conditions.specs.declared.conditions.Condition.{Condition}
use Rattle.cpp_conditions.specs.Distinct.{Occurs, OccursIn, AreAtomsOf}
use Rattle.cpp_conditions.proofs.Numbers.{atom_decides}
use Rattle.cpp_conditions.specs.Numbering.{IsAmong, AreAmong, vector_at}
use Rattle.cpp_conditions.specs.Propositions.{Proposition, Const, Test, Not, And, Or, IsFit, IsBelow, true_at, true_on}
use Rattle.cpp_conditions.specs.Validity.{AreFit, all_true}
use Rattle.cpp_conditions.specs.View.{proposition}
use Rattle.atom_solver.specs.Plausible.{IsConjunction}
use Rattle.atom_solver.specs.Truths.{StandsFor, StandsForAll, Extends, AsksToo}
use Rattle.atom_solver.proofs.Ordered.{all_numbered_true}

fit_occurs : (n : ℕ) (p : Proposition Atom) (a : Atom) → IsFit n p → Occurs a p → IsAtom n a
fit_occurs n (Const b) a h o = absurd o
fit_occurs n (Test b) a h o = subst (IsAtom n) o h
fit_occurs n (Not p) a h o = fit_occurs n p a h o
fit_occurs n (And p q) a h (inl o) = fit_occurs n p a h.0 o
fit_occurs n (And p q) a h (inr o) = fit_occurs n q a h.1 o
fit_occurs n (Or p q) a h (inl o) = fit_occurs n p a h.0 o
fit_occurs n (Or p q) a h (inr o) = fit_occurs n q a h.1 o

fit_in : (n : ℕ) (cs : List Condition) (a : Atom) → AreFit n cs → OccursIn a (map proposition cs) → IsAtom n a
fit_in n [] a h o = absurd o
fit_in n (c ∷ cs) a h (inl o) = fit_occurs n (proposition c) a h.0 o
fit_in n (c ∷ cs) a h (inr o) = fit_in n cs a h.1 o

all_atoms : (n : ℕ) (atoms : List Atom) → ((a : Atom) → IsAmong a atoms → IsAtom n a) → AreAtoms n atoms
all_atoms n [] h = tt
all_atoms n (b ∷ bs) h = (h b (inl refl), all_atoms n bs (λ a m. h a (inr m)))

and_left : (a b : Bool) → (a && b) ≡ true → a ≡ true
and_left true b e = refl
and_left false b e = e

and_right : (a b : Bool) → (a && b) ≡ true → b ≡ true
and_right true b e = e
and_right false b e = cc

and_both : (a b : Bool) → a ≡ true → b ≡ true → (a && b) ≡ true
and_both a b e f = ap (λ x. x && b) e ∙ f

-- ---- the constraints' atoms

pub all_stand : (cs : List Condition) (atoms : List Atom) (f : Proposition ℕ) → AreAtomsOf (map proposition cs) atoms → IsConjunction cs atoms (Const true) f → IsBelow (length atoms) f → StandsForAll cs atoms f
all_stand cs atoms f h c b = record {
  met = λ vs m. c.truth (vector_at atoms vs) ∙ ap (λ x. x && true) (all_numbered_true atoms cs c.numbered vs c.are_numbered m);
  below = b;
  fit = λ n k. all_atoms n atoms (λ a i. fit_in n cs a k (h.only a i));
}

-- ---- atoms behind them

pub first_among : (atoms behind : List Atom) (b a : Atom) → atoms ≡ b ∷ behind → (same_terms b.terms a.terms && int_eq b.bound a.bound) ≡ true → IsAmong a atoms
first_among atoms behind b a e h = subst (IsAmong a) (sym e) (inl ((atom_decides b a).0 h))

pub later_among : (atoms behind : List Atom) (b a : Atom) → atoms ≡ b ∷ behind → IsAmong a behind → IsAmong a atoms
later_among atoms behind b a e h = subst (IsAmong a) (sym e) (inr h)

pub extends_none : (b : Bool) (atoms : List Atom) → Extends (Const b) atoms atoms
extends_none b atoms = record { more = []; new_is = sym (append-nil atoms); among = tt; fit = λ n h k. h }

pub extends_had : (a : Atom) (atoms : List Atom) → IsAmong a atoms → Extends (Test a) atoms atoms
extends_had a atoms m = record { more = []; new_is = sym (append-nil atoms); among = m; fit = λ n h k. h }

among_last : (a : Atom) (atoms : List Atom) → IsAmong a (atoms ++ a ∷ [])
among_last a [] = inl refl
among_last a (b ∷ bs) = inr (among_last a bs)

atoms_last : (n : ℕ) (a : Atom) (atoms : List Atom) → AreAtoms n atoms → IsAtom n a → AreAtoms n (atoms ++ a ∷ [])
atoms_last n a [] h k = (k, tt)
atoms_last n a (b ∷ bs) h k = (h.0, atoms_last n a bs h.1 k)

pub extends_new : (a : Atom) (old new : List Atom) → new ≡ old ++ a ∷ [] → Extends (Test a) old new
extends_new a old new e = record {
  more = a ∷ [];
  new_is = e;
  among = subst (IsAmong a) (sym e) (among_last a old);
  fit = λ n h k. subst (AreAtoms n) (sym e) (atoms_last n a old h k);
}

among_more : (a : Atom) (atoms more : List Atom) → IsAmong a atoms → IsAmong a (atoms ++ more)
among_more a [] more m = absurd m
among_more a (b ∷ bs) more (inl e) = inl e
among_more a (b ∷ bs) more (inr m) = inr (among_more a bs more m)

all_among : (atoms more : List Atom) (p : Proposition Atom) → AreAmong atoms p → AreAmong (atoms ++ more) p
all_among atoms more (Const b) h = tt
all_among atoms more (Test a) h = among_more a atoms more h
all_among atoms more (Not p) h = all_among atoms more p h
all_among atoms more (And p q) h = (all_among atoms more p h.0, all_among atoms more q h.1)
all_among atoms more (Or p q) h = (all_among atoms more p h.0, all_among atoms more q h.1)

twice_more : (p q : Proposition Atom) (old mid new : List Atom) (h : Extends p old mid) (k : Extends q mid new) → new ≡ old ++ (h.more ++ k.more)
twice_more p q old mid new h k = k.new_is ∙ ap (λ x. x ++ k.more) h.new_is ∙ append_assoc old h.more k.more

pub extends_and : (p q : Proposition Atom) (old mid new : List Atom) → Extends p old mid → Extends q mid new → Extends (And p q) old new
extends_and p q old mid new h k = record {
  more = h.more ++ k.more;
  new_is = twice_more p q old mid new h k;
  among = (subst (λ x. AreAmong x p) (sym k.new_is) (all_among mid k.more p h.among), k.among);
  fit = λ n a f. k.fit n (h.fit n a f.0) f.1;
}

pub extends_or : (p q : Proposition Atom) (old mid new : List Atom) → Extends p old mid → Extends q mid new → Extends (Or p q) old new
extends_or p q old mid new h k = record {
  more = h.more ++ k.more;
  new_is = twice_more p q old mid new h k;
  among = (subst (λ x. AreAmong x p) (sym k.new_is) (all_among mid k.more p h.among), k.among);
  fit = λ n a f. k.fit n (h.fit n a f.0) f.1;
}

pub extends_not : (p : Proposition Atom) (old new : List Atom) → Extends p old new → Extends (Not p) old new
extends_not p old new h = record { more = h.more; new_is = h.new_is; among = h.among; fit = h.fit }

-- ---- formulas over the longer list

kept_at : (atoms more : List Atom) (vs : List ℤ) (n : ℕ) → n < length atoms → get_or (vector_at (atoms ++ more) vs) n false ≡ get_or (vector_at atoms vs) n false
kept_at [] more vs n h = absurd (omega arith)
kept_at (b ∷ bs) more vs zero h = refl
kept_at (b ∷ bs) more vs (suc n) h = kept_at bs more vs n (omega arith)

kept_truth : (atoms more : List Atom) (vs : List ℤ) (f : Proposition ℕ) → IsBelow (length atoms) f → true_on (vector_at (atoms ++ more) vs) f ≡ true_on (vector_at atoms vs) f
kept_truth atoms more vs (Const b) h = refl
kept_truth atoms more vs (Test n) h = kept_at atoms more vs n h
kept_truth atoms more vs (Not f) h = ap not (kept_truth atoms more vs f h)
kept_truth atoms more vs (And f g) h =
    ap (λ b. b && true_on (vector_at (atoms ++ more) vs) g) (kept_truth atoms more vs f h.0) ∙ ap (λ b. true_on (vector_at atoms vs) f && b) (kept_truth atoms more vs g h.1)
kept_truth atoms more vs (Or f g) h =
    ap (λ b. b || true_on (vector_at (atoms ++ more) vs) g) (kept_truth atoms more vs f h.0) ∙ ap (λ b. true_on (vector_at atoms vs) f || b) (kept_truth atoms more vs g h.1)

pub asks_nothing : (p : Proposition Atom) (old new : List Atom) (f : Proposition ℕ) → Extends p old new → AsksToo p old f new (Const true)
asks_nothing p old new f h = record { met = λ vs m k. refl; fit = h.fit }

pub asks_both : (p : Proposition Atom) (old new : List Atom) (f g asked : Proposition ℕ) → IsBelow (length old) f → Extends p old new
    → ((values : List ℤ) → true_on (vector_at new values) g ≡ true_at values p) → asked ≡ And f g → AsksToo p old f new asked
asks_both p old new f g asked b h t e = record {
  met = λ vs m k.
      ap (true_on (vector_at new vs)) e
      ∙ and_both (true_on (vector_at new vs) f) (true_on (vector_at new vs) g)
      (ap (λ x. true_on (vector_at x vs) f) h.new_is ∙ kept_truth old h.more vs f b ∙ m)
      (t vs ∙ k);
  fit = h.fit;
}

pub stands_too : (cs : List Condition) (p : Proposition Atom) (old new : List Atom) (f g : Proposition ℕ) → StandsForAll cs old f → AsksToo p old f new g → StandsFor cs p new g
stands_too cs p old new f g s h = record {
  met = λ vs m. h.met vs (s.met vs (and_left (all_true vs (map proposition cs)) (true_at vs p) m)) (and_right (all_true vs (map proposition cs)) (true_at vs p) m);
  fit = λ n k w. h.fit n (s.fit n k) w;
}

pub stands_alone : (cs : List Condition) (atoms d : List Atom) (f : Proposition ℕ) → StandsForAll cs atoms f → d ≡ atoms → StandsFor cs (Const true) d f
stands_alone cs atoms d f s e = subst (λ x. StandsFor cs (Const true) x f) (sym e) (record { met = λ vs m. s.met vs (and_left (all_true vs (map proposition cs)) true m); fit = λ n k w. s.fit n k })
