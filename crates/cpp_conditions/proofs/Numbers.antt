-- A condition and the same with numbers have one truth.
use Rattle.std.proofs.Common.{◌≡◌, ℕ, zero, suc, ◌<◌, ltb, ◌+◌, ℤ, true, false, not, ◌&&◌, ◌||◌, List, [], ◌∷◌, length, get_or, slice_get, Option, None, Some, IfSome, refl, sym, ap, subst, ◌∙◌, arith, nat_eq, inl, inr}
use Rattle.std.proofs.lemmas.Bool.{false≢true, ltb-true}
use Rattle.std.specs.Bool.{Decides}
use Rattle.std.specs.Option.{is_some}
use Rattle.std.specs.Ordering.{int_eq}
use Rattle.std.specs.Cmp.Lexicographic.{pointwise_decides}
use Rattle.std.proofs.lemmas.Bool.Decides.{Decides-like, Decides-and, Decides-eqb, Decides-int_eq}
use Rattle.linear_atoms.specs.Order.{same_term, same_terms}
use Rattle.linear_atoms.specs.declared.atoms.Atom.{Atom}
use Rattle.linear_atoms.specs.Atoms.{holds}
use Rattle.cpp_conditions.specs.Propositions.{Proposition, Const, Test, Not, And, Or, true_at, true_on, IsBelow}
use Rattle.cpp_conditions.specs.Numbering.{IsAmong, IsNumbered, vector_at}

place_below : (atoms : List Atom) (n : ℕ) (a : Atom) → slice_get atoms n ≡ Some a → n < length atoms
place_below [] n a e = cc
place_below (b ∷ bs) zero a e = omega arith
place_below (b ∷ bs) (suc n) a e = let h : n < length bs = place_below bs n a e in omega arith

pub place_truth : (atoms : List Atom) (values : List ℤ) (n : ℕ) (a : Atom) → slice_get atoms n ≡ Some a → get_or (vector_at atoms values) n false ≡ holds a values
place_truth [] values n a e = cc
place_truth (b ∷ bs) values zero a e = let f : b ≡ a = cc in ap (λ x. holds x values) f
place_truth (b ∷ bs) values (suc n) a e = place_truth bs values n a e

pub numbered_below : (atoms : List Atom) (p : Proposition Atom) (f : Proposition ℕ) → IsNumbered atoms p f → IsBelow (length atoms) f
numbered_below atoms (Const b) (Const c) h = tt
numbered_below atoms (Test a) (Test n) h = place_below atoms n a h
numbered_below atoms (Not p) (Not f) h = numbered_below atoms p f h
numbered_below atoms (And p q) (And f g) h = (numbered_below atoms p f h.0, numbered_below atoms q g h.1)
numbered_below atoms (Or p q) (Or f g) h = (numbered_below atoms p f h.0, numbered_below atoms q g h.1)
numbered_below atoms _ _ h = absurd h

pub numbered_truth : (atoms : List Atom) (p : Proposition Atom) (f : Proposition ℕ) (values : List ℤ) → IsNumbered atoms p f → true_on (vector_at atoms values) f ≡ true_at values p
numbered_truth atoms (Const b) (Const c) values h = sym h
numbered_truth atoms (Test a) (Test n) values h = place_truth atoms values n a h
numbered_truth atoms (Not p) (Not f) values h = ap not (numbered_truth atoms p f values h)
numbered_truth atoms (And p q) (And f g) values h =
    ap (λ b. b && true_on (vector_at atoms values) g) (numbered_truth atoms p f values h.0) ∙ ap (λ b. true_at values p && b) (numbered_truth atoms q g values h.1)
numbered_truth atoms (Or p q) (Or f g) values h =
    ap (λ b. b || true_on (vector_at atoms values) g) (numbered_truth atoms p f values h.0) ∙ ap (λ b. true_at values p || b) (numbered_truth atoms q g values h.1)
numbered_truth atoms _ _ values h = absurd h

-- ---- the place of an atom

pub term_decides : (s t : ℕ × ℤ) → Decides (same_term s t) (s ≡ t)
term_decides s t =
    Decides-like (same_term s t) (λ p i. (p.0 i, p.1 i)) (λ e. (ap (λ x. x.0) e, ap (λ x. x.1) e))
    (Decides-and (nat_eq s.0 t.0) (int_eq s.1 t.1) (Decides-eqb s.0 t.0) (Decides-int_eq s.1 t.1))

pub atom_decides : (a b : Atom) → Decides (same_terms a.terms b.terms && int_eq a.bound b.bound) (a ≡ b)
atom_decides a b =
    Decides-like (same_terms a.terms b.terms && int_eq a.bound b.bound) (λ p i. record { terms = p.0 i; bound = p.1 i }) (λ e. (ap (λ (x : Atom). x.terms) e, ap (λ (x : Atom). x.bound) e))
    (Decides-and (same_terms a.terms b.terms) (int_eq a.bound b.bound) (pointwise_decides term_decides a.terms b.terms) (Decides-int_eq a.bound b.bound))

pub first_place : (atoms behind : List Atom) (b a : Atom) → atoms ≡ b ∷ behind → (same_terms b.terms a.terms && int_eq b.bound a.bound) ≡ true → slice_get atoms 0 ≡ Some a
first_place atoms behind b a e h = ap (λ x. slice_get x 0) e ∙ ap Some ((atom_decides b a).0 h)

later_by : (behind : List Atom) (b a : Atom) (r : ℕ) → (same_terms b.terms a.terms && int_eq b.bound a.bound) ≡ false → IsAmong a (b ∷ behind) → (IsAmong a behind → slice_get behind r ≡ Some a) → slice_get behind r ≡ Some a
later_by behind b a r h (inl e) k = absurd (false≢true (sym h ∙ (atom_decides b a).1 e))
later_by behind b a r h (inr m) k = k m

pub later_place : (atoms behind : List Atom) (b a : Atom) (r : ℕ) → atoms ≡ b ∷ behind → (same_terms b.terms a.terms && int_eq b.bound a.bound) ≡ false → IsAmong a atoms → (IsAmong a behind → slice_get behind r ≡ Some a) → slice_get atoms (1 + r) ≡ Some a
later_place atoms behind b a r e h m k =
    let n : IsAmong a (b ∷ behind) = subst (IsAmong a) e m in
    let s : 1 + r ≡ suc r = omega arith in
    ap (λ x. slice_get x (1 + r)) e ∙ ap (slice_get (b ∷ behind)) s ∙ later_by behind b a r h n k

got_there : (atoms : List Atom) (n : ℕ) (b : Atom) → n < length atoms → slice_get atoms n ≡ Some (get_or atoms n b)
got_there [] n b l = absurd (omega arith)
got_there (c ∷ cs) zero b l = refl
got_there (c ∷ cs) (suc n) b l = got_there cs n b (omega arith)

pub stood_there : (atoms : List Atom) (n : ℕ) (b a : Atom) → true ≡ ltb n (length atoms) → b ≡ get_or atoms n b → (same_terms b.terms a.terms && int_eq b.bound a.bound) ≡ true → slice_get atoms n ≡ Some a
stood_there atoms n b a l e h = got_there atoms n b (ltb-true n (length atoms) (sym l)) ∙ ap Some (sym e) ∙ ap Some ((atom_decides b a).0 h)

pub among_at : (atoms : List Atom) (n : ℕ) (a : Atom) → slice_get atoms n ≡ Some a → IsAmong a atoms
among_at [] n a e = cc
among_at (b ∷ bs) zero a e = let f : b ≡ a = cc in inl f
among_at (b ∷ bs) (suc n) a e = inr (among_at bs n a e)

pub stood_among : (atoms : List Atom) (a : Atom) (place : Option ℕ) → is_some place ≡ true → IfSome place (λ n. slice_get atoms n ≡ Some a) → IsAmong a atoms
stood_among atoms a None e h = absurd (false≢true e)
stood_among atoms a (Some n) e h = among_at atoms n a h
