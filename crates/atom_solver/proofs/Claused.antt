-- Formulas that must all be true.
use Rattle.std.proofs.Common.{◌≡◌, ℕ, zero, suc, ◌<◌, ℤ, Bool, true, false, not, ◌&&◌, List, [], ◌∷◌, ◌++◌, length, get_or, Option, sym, subst, refl, ◌∙◌, arith}
use Rattle.std.proofs.lemmas.Bool.{false≢true}
use Rattle.linear_atoms.specs.declared.atoms.Atom.{Atom}
use Rattle.linear_atoms.specs.declared.atoms.Feature.{Feature}
use Rattle.linear_atoms.specs.declared.forms.Linear.{Linear}
use Rattle.linear_atoms.specs.Atoms.{IsWithin}
use Rattle.cpp_conditions.specs.declared.formulas.Formula.{Formula}
use Rattle.cpp_conditions.specs.Numbering.{vector_at}
use Rattle.cpp_conditions.specs.Propositions.{Proposition, And, true_on}
use Rattle.cpp_conditions.specs.View.{formula}
use Rattle.atom_solver.specs.Clauses.{AddsClauses, AreTrue, IsDenied, IsDeniedWhere, IsVoid, KeepsAll}
use Rattle.atom_solver.specs.Facts.{AreMet, AreMetWithin}
use Rattle.atom_solver.specs.Truths.{Knows, Keeps}

-- ---- formulas that are added

pub adds_same : (ks : List (Option Bool)) (p : Proposition ℕ) (fs : List Formula) → AddsClauses ks p fs fs
adds_same ks p fs = record { met = λ v k t h. h }

true_more : (v : List Bool) (fs : List Formula) (f : Formula) → AreTrue v fs → true_on v (formula f) ≡ true → AreTrue v (fs ++ f ∷ [])
true_more v [] f h t = (t, tt)
true_more v (g ∷ gs) f h t = (h.0, true_more v gs f h.1 t)

pub adds_clause : (ks : List (Option Bool)) (p : Proposition ℕ) (fs gs : List Formula) (f : Formula) → gs ≡ fs ++ f ∷ [] → ((v : List Bool) → Knows ks v → true_on v (formula f) ≡ true_on v p) → AddsClauses ks p fs gs
adds_clause ks p fs gs f e h = record { met = λ v k t m. subst (λ x. AreTrue v x) (sym e) (true_more v fs f m (h v k ∙ t)) }

left_true : (a b : Bool) → (a && b) ≡ true → a ≡ true
left_true true b e = refl
left_true false b e = e

right_true : (a b : Bool) → (a && b) ≡ true → b ≡ true
right_true true b e = e
right_true false true e = refl
right_true false false e = e

pub adds_both : (ks : List (Option Bool)) (p q : Proposition ℕ) (fs gs hs : List Formula) → AddsClauses ks p fs gs → AddsClauses ks q gs hs → AddsClauses ks (And p q) fs hs
adds_both ks p q fs gs hs h j = record { met = λ v k t m. j.met v k (right_true (true_on v p) (true_on v q) t) (h.met v k (left_true (true_on v p) (true_on v q) t) m) }

-- ---- truths that follow

pub true_at_place : (v : List Bool) (fs : List Formula) (n : ℕ) (f : Formula) → n < length fs → f ≡ get_or fs n f → AreTrue v fs → true_on v (formula f) ≡ true
true_at_place v [] n f h e t = absurd (omega arith)
true_at_place v (g ∷ gs) zero f h e t = subst (λ x. true_on v (formula x) ≡ true) (sym e) t.0
true_at_place v (g ∷ gs) (suc n) f h e t = true_at_place v gs n f (omega arith) e t.1

pub denied_at : (ks : List (Option Bool)) (fs : List Formula) (n : ℕ) (f : Formula) → n < length fs → f ≡ get_or fs n f → ((v : List Bool) → Knows ks v → true_on v (formula f) ≡ false) → IsDenied ks fs
denied_at ks fs n f h e d v k t = false≢true (sym (d v k) ∙ true_at_place v fs n f h e t)

pub denied_where : (atoms : List Atom) (ks : List (Option Bool)) (fs : List Formula) → IsDenied ks fs → IsDeniedWhere atoms ks fs
denied_where atoms ks fs d vs k t = d (vector_at atoms vs) k t

pub kept_forced : (atoms : List Atom) (old new : List (Option Bool)) (fs : List Formula) → ((v : List Bool) → Knows old v → AreTrue v fs → Knows new v) → KeepsAll atoms old fs new
kept_forced atoms old new fs h = record { knows = λ vs k t. h (vector_at atoms vs) k t }

pub kept_followed : (atoms : List Atom) (old mid new : List (Option Bool)) (fs : List Formula) → ((v : List Bool) → Knows old v → AreTrue v fs → Knows mid v)
    → ((values : List ℤ) → Knows mid (vector_at atoms values) → Knows new (vector_at atoms values)) → KeepsAll atoms old fs new
kept_followed atoms old mid new fs h j = record { knows = λ vs k t. j vs (h (vector_at atoms vs) k t) }

pub kept_again : (atoms : List Atom) (old mid new : List (Option Bool)) (fs : List Formula) → KeepsAll atoms old fs mid → KeepsAll atoms mid fs new → KeepsAll atoms old fs new
kept_again atoms old mid new fs h j = record { knows = λ vs k t. j.knows vs (h.knows vs k t) t }

pub denied_again : (atoms : List Atom) (old mid : List (Option Bool)) (fs : List Formula) → KeepsAll atoms old fs mid → IsDeniedWhere atoms mid fs → IsDeniedWhere atoms old fs
denied_again atoms old mid fs h d vs k t = d vs (h.knows vs k t) t

-- ---- what no truths make true

pub void_denied : (ends : List Linear) (atoms : List Atom) (ks : List (Option Bool)) (fs : List Formula) → IsDeniedWhere atoms ks fs → IsVoid ends atoms ks fs
void_denied ends atoms ks fs d vs m k t = d vs k t

pub void_clash : (ends : List Linear) (atoms : List Atom) (old new : List (Option Bool)) (fs : List Formula) → KeepsAll atoms old fs new → ((vs : List ℤ) → AreMet vs ends → Knows new (vector_at atoms vs) → ⊥) → IsVoid ends atoms old fs
void_clash ends atoms old new fs h c vs m k t = c vs m (h.knows vs k t)

one_or_other : (b q : Bool) → (b ≡ q → ⊥) → (b ≡ not q → ⊥) → ⊥
one_or_other true true f g = f refl
one_or_other true false f g = g refl
one_or_other false true f g = g refl
one_or_other false false f g = f refl

-- a test tried with one truth, and then with the other
pub void_both : (ends : List Linear) (atoms : List Atom) (old new one other : List (Option Bool)) (fs : List Formula) (n : ℕ) (truth : Bool) → KeepsAll atoms old fs new
    → ((v : List Bool) → Knows new v → get_or v n false ≡ truth → Knows one v) → ((v : List Bool) → Knows new v → get_or v n false ≡ not truth → Knows other v)
    → IsVoid ends atoms one fs → IsVoid ends atoms other fs → IsVoid ends atoms old fs
void_both ends atoms old new one other fs n truth h f g a b vs m k t =
    let v = vector_at atoms vs in
    let w : Knows new v = h.knows vs k t in
    one_or_other (get_or v n false) truth (λ e. a vs m (f v w e) t) (λ e. b vs m (g v w e) t)

-- ---- what nothing in a box makes true

pub untrue_clauses : (fs : List Feature) (ends : List Linear) (atoms : List Atom) (old new : List (Option Bool)) (p : Proposition ℕ) (cs : List Formula) → Keeps atoms old p new p
    → AddsClauses new p [] cs → AreMetWithin fs ends → IsVoid ends atoms new cs → (vs : List ℤ) → IsWithin fs vs → Knows old (vector_at atoms vs) → true_on (vector_at atoms vs) p ≡ true → ⊥
untrue_clauses fs ends atoms old new p cs h a e d vs w k t =
    let n : Knows new (vector_at atoms vs) = h.knows vs k t in
    d vs (e.met vs w) n (a.met (vector_at atoms vs) n t tt)
