-- Truths that are added to those known.
use Rattle.std.proofs.Common.{◌≡◌, ℕ, zero, suc, ◌<◌, ℤ, Bool, true, false, not, ◌&&◌, ◌||◌, List, [], ◌∷◌, length, get_or, set, Option, Some, None, sym, ap, subst, refl, ◌∙◌, arith}
use Rattle.linear_atoms.specs.declared.atoms.Atom.{Atom}
use Rattle.linear_atoms.specs.declared.atoms.Feature.{Feature}
use Rattle.linear_atoms.specs.declared.forms.Linear.{Linear}
use Rattle.linear_atoms.specs.Atoms.{holds, IsAtom, AreAtoms, IsDecided, IsWithin}
use Rattle.cpp_conditions.specs.Numbering.{vector_at}
use Rattle.atom_solver.specs.Spans.{Agrees, meets}
use Rattle.std.proofs.lemmas.Bool.{false≢true}
use Rattle.cpp_conditions.specs.declared.conditions.Condition.{Condition}
use Rattle.cpp_conditions.specs.Propositions.{Proposition, true_on}
use Rattle.atom_solver.specs.Facts.{IsFact}
use Rattle.atom_solver.specs.Truths.{Knows, Keeps, IsKnownFact, StandsFor}

at_set : (ks : List (Option Bool)) (n m : ℕ) (b q : Bool) → ((n ≡ m) → q ≡ b) → Agrees (get_or ks m None) q → Agrees (get_or (set ks n (Some b)) m None) q
at_set [] n m b q e h = h
at_set (k ∷ ks) zero zero b q e h = e refl
at_set (k ∷ ks) zero (suc m) b q e h = h
at_set (k ∷ ks) (suc n) zero b q e h = h
at_set (k ∷ ks) (suc n) (suc m) b q e h = at_set ks n m b q (λ d. e (ap suc d)) h

pub learned : (ks : List (Option Bool)) (n : ℕ) (b : Bool) (v : List Bool) → Knows ks v → get_or v n false ≡ b → Knows (set ks n (Some b)) v
learned ks n b v h e m = at_set ks n m b (get_or v m false) (λ d. ap (λ x. get_or v x false) (sym d) ∙ e) (h m)

pub and_left : (a b : Bool) → b ≡ true → a ≡ (a && b)
and_left true b e = sym e
and_left false b e = refl

pub and_right : (a b : Bool) → b ≡ false → false ≡ (a && b)
and_right true b e = sym e
and_right false b e = refl

pub or_left : (a b : Bool) → b ≡ false → a ≡ (a || b)
or_left true b e = refl
or_left false b e = sym e

pub or_right : (a b : Bool) → b ≡ true → true ≡ (a || b)
or_right true b e = refl
or_right false b e = sym e

pub and_first : (a b : Bool) → (a && b) ≡ false → b ≡ true → a ≡ false
and_first true b h e = absurd (false≢true (sym h ∙ e))
and_first false b h e = refl

pub and_second : (a b : Bool) → (a && b) ≡ false → a ≡ true → b ≡ false
and_second true b h e = h
and_second false b h e = absurd (false≢true e)

pub or_first : (a b : Bool) → (a || b) ≡ true → b ≡ false → a ≡ true
or_first true b h e = refl
or_first false b h e = absurd (false≢true (sym e ∙ h))

pub or_second : (a b : Bool) → (a || b) ≡ true → a ≡ false → b ≡ true
or_second true b h e = absurd (false≢true (sym e))
or_second false b h e = h

truth_at : (atoms : List Atom) (values : List ℤ) (n : ℕ) (a : Atom) → n < length atoms → a ≡ get_or atoms n a → get_or (vector_at atoms values) n false ≡ holds a values
truth_at [] values n a h e = absurd (omega arith)
truth_at (b ∷ bs) values zero a h e = ap (λ x. holds x values) (sym e)
truth_at (b ∷ bs) values (suc n) a h e = truth_at bs values n a (omega arith) e

told_at : (said : Option Bool) (b q : Bool) → said ≡ Some b → Agrees said q → q ≡ b
told_at said b q e h = subst (λ x. Agrees x q) e h

not_not : (b : Bool) → not (not b) ≡ b
not_not true = refl
not_not false = refl

-- the truth of an atom that another denies the opposite
pub denied : (atoms : List Atom) (ks : List (Option Bool)) (values : List ℤ) (n m : ℕ) (a c : Atom) (b : Bool) → n < length atoms → m < length atoms → a ≡ get_or atoms n a → c ≡ get_or atoms m c
    → get_or ks n None ≡ Some b → ((vs : List ℤ) → holds a vs ≡ b → holds c vs ≡ not (not b)) → Knows ks (vector_at atoms values) → get_or (vector_at atoms values) m false ≡ b
denied atoms ks values n m a c b h k e f s d w =
    let t : holds a values ≡ b = sym (truth_at atoms values n a h e) ∙ told_at (get_or ks n None) b (get_or (vector_at atoms values) n false) s (w n) in
    truth_at atoms values m c k f ∙ d values t ∙ not_not b

-- ---- rounds

pub kept_step : (atoms : List Atom) (old mid new : List (Option Bool)) (p : Proposition ℕ) → ((v : List Bool) → Knows old v → true_on v p ≡ true → Knows mid v)
    → ((values : List ℤ) → Knows mid (vector_at atoms values) → Knows new (vector_at atoms values)) → Keeps atoms old p new p
kept_step atoms old mid new p f o = record { knows = λ vs k t. o vs (f (vector_at atoms vs) k t); true_still = λ vs k t. t }

pub kept_left : (atoms : List Atom) (known : List (Option Bool)) (p q : Proposition ℕ) → ((v : List Bool) → Knows known v → true_on v q ≡ true_on v p) → Keeps atoms known p known q
kept_left atoms known p q r = record { knows = λ vs k t. k; true_still = λ vs k t. r (vector_at atoms vs) k ∙ t }

pub kept_more : (atoms : List Atom) (old mid new : List (Option Bool)) (p q r : Proposition ℕ) → Keeps atoms old p mid q → Keeps atoms mid q new r → Keeps atoms old p new r
kept_more atoms old mid new p q r h k = record {
  knows = λ vs w t. k.knows vs (h.knows vs w t) (h.true_still vs w t);
  true_still = λ vs w t. k.true_still vs (h.knows vs w t) (h.true_still vs w t);
}

-- ---- boxes

pub atom_fit : (count : ℕ) (atoms : List Atom) (n : ℕ) (a : Atom) → AreAtoms count atoms → n < length atoms → a ≡ get_or atoms n a → IsAtom count a
atom_fit count [] n a h k e = absurd (omega arith)
atom_fit count (b ∷ bs) zero a h k e = subst (IsAtom count) (sym e) h.0
atom_fit count (b ∷ bs) (suc n) a h k e = atom_fit count bs n a h.1 (omega arith) e

-- the truth of an atom that a box decides
pub decided_at : (fs : List Feature) (atoms : List Atom) (values : List ℤ) (n : ℕ) (a : Atom) (said : Option Bool) (b : Bool) → n < length atoms → a ≡ get_or atoms n a → said ≡ Some b → IsDecided fs a said → IsWithin fs values
    → get_or (vector_at atoms values) n false ≡ b
decided_at fs atoms values n a said b h e s d w = truth_at atoms values n a h e ∙ (subst (λ x. IsDecided fs a x) s d) values w

-- ---- the form of an atom whose truth is known

pub known_fact : (atoms : List Atom) (ks : List (Option Bool)) (n : ℕ) (a : Atom) (b : Bool) (f : Linear) → n < length atoms → a ≡ get_or atoms n a → get_or ks n None ≡ Some b → IsFact a b f → IsKnownFact atoms ks f
known_fact atoms ks n a b f h e s k = record {
  rising = k.rising;
  met = λ vs w. k.met vs (sym (truth_at atoms vs n a h e) ∙ told_at (get_or ks n None) b (get_or (vector_at atoms vs) n false) s (w n));
}

-- ---- what nothing in a box makes true

pub untrue_by : (fs : List Feature) (atoms : List Atom) (old new : List (Option Bool)) (p : Proposition ℕ) → Keeps atoms old p new p
    → ((v : List Bool) → Knows new v → true_on v p ≡ false) → (vs : List ℤ) → IsWithin fs vs → Knows old (vector_at atoms vs) → true_on (vector_at atoms vs) p ≡ true → ⊥
untrue_by fs atoms old new p h f vs w k t = false≢true (sym (f (vector_at atoms vs) (h.knows vs k t)) ∙ t)

false_by : (b : Bool) → (b ≡ true → ⊥) → b ≡ false
false_by true h = absurd (h refl)
false_by false h = refl

-- where nothing in a box makes the formula true, the constraints and what is wanted are never true there together
pub out_by : (cs : List Condition) (w : Proposition Atom) (atoms : List Atom) (f : Proposition ℕ) (fs : List Feature) → StandsFor cs w atoms f
    → ((vs : List ℤ) → IsWithin fs vs → true_on (vector_at atoms vs) f ≡ true → ⊥) → (vs : List ℤ) → IsWithin fs vs → meets cs w vs ≡ false
out_by cs w atoms f fs s h vs i = false_by (meets cs w vs) (λ t. h vs i (s.met vs t))
