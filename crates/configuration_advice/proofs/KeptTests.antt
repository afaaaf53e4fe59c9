-- Formulas that features keep their given values, over tests to which more are put.
use Rattle.std.proofs.Common.{◌≡◌, ℕ, zero, suc, ◌+◌, ◌≤◌, ◌<◌, ℤ, pos, ◌+ℤ◌, ◌*ℤ◌, ◌≤ℤ◌, ◌<ℤ◌, unsigned_abs, Bool, true, false, not, ◌&&◌, ◌||◌, List, [], ◌∷◌, ◌++◌, length, map, drop, Some, if◌then◌else◌, sym, ap, subst, refl, ◌∙◌, append_assoc, length-append, arith}
use Rattle.std.specs.Prelude.{int_le, slice_get, slice_index_or}
use Rattle.std.specs.List.{All}
use Rattle.std.specs.Ordering.{int_eq}
use Rattle.std.proofs.lemmas.Int.{ints}
use Rattle.std.proofs.lemmas.List.{append-nil}
use native.Mathlib.Numerals.{unary_clauses}
use Rattle.std.proofs.lemmas.List.Elements.{All-cons, All-head, All-nil, All-tail}
use Rattle.linear_atoms.specs.declared.atoms.Atom.{Atom}
use Rattle.linear_atoms.specs.declared.atoms.Feature.{Feature}
use Rattle.linear_atoms.specs.Atoms.{AreAtoms, IsAtom, IsWithin, holds}
use Rattle.cpp_conditions.specs.declared.formulas.Formula.{Formula}
use Rattle.cpp_conditions.specs.Numbering.{vector_at}
use Rattle.cpp_conditions.specs.Propositions.{Proposition, Const, Test, Not, And, Or, IsBelow, true_on}
use Rattle.cpp_conditions.specs.View.{formula}
use Rattle.cpp_conditions.proofs.Numbers.{place_truth}
use Rattle.configuration_advice.specs.Changes.{Extends, SaysKept, unkept}
use Rattle.configuration_advice.specs.Nearest.{differing}
use Rattle.configuration_advice.specs.Tests.{at_least}
use Rattle.configuration_advice.specs.Uses.{value_of}
use Rattle.configuration_advice.proofs.Advised.{same_truth, below_more, get_there, get_next, small_more}
use Rattle.configuration_advice.proofs.Asked.{reached, missed, at_least_fit}
use Rattle.configuration_advice.proofs.Chosen.{is_same, is_other}
use Rattle.configuration_advice.proofs.Formed.{kept_on}

-- ---- one feature

low_by : (g v w low : ℤ) (b : Bool) → low ≡ g → low ≤ℤ v → w ≡ (pos 1 *ℤ v) +ℤ pos 0 → int_le (g +ℤ pos 1) w ≡ b → not b ≡ int_eq g v
low_by g v w low true e h f k = let m : (g +ℤ pos 1) ≤ℤ v = reached (g +ℤ pos 1) v w f k in sym (is_other g v (λ f. omega (arith, ints)))
low_by g v w low false e h f k = let m : v <ℤ (g +ℤ pos 1) = missed (g +ℤ pos 1) v w f k in sym (is_same g v (omega (arith, ints)))

high_by : (g v w high : ℤ) (b : Bool) → high ≡ g → v ≤ℤ high → w ≡ (pos 1 *ℤ v) +ℤ pos 0 → int_le g w ≡ b → b ≡ int_eq g v
high_by g v w high true e h f k = let m : g ≤ℤ v = reached g v w f k in sym (is_same g v (omega (arith, ints)))
high_by g v w high false e h f k = let m : v <ℤ g = missed g v w f k in sym (is_other g v (λ f. omega (arith, ints)))

pub low_says : (atoms : List Atom) (feature : Feature) (n : ℕ) (g : ℤ) (k : ℕ) → slice_get atoms k ≡ Some (at_least n (g +ℤ pos 1)) → feature.low ≡ g → SaysKept atoms feature n g (Not (Test k))
low_says atoms feature n g k there e values low high =
    ap not (place_truth atoms values k (at_least n (g +ℤ pos 1)) there)
    ∙ low_by g (value_of n values) ((pos 1 *ℤ value_of n values) +ℤ pos 0) feature.low _ e low refl refl

pub high_says : (atoms : List Atom) (feature : Feature) (n : ℕ) (g : ℤ) (k : ℕ) → slice_get atoms k ≡ Some (at_least n g) → feature.high ≡ g → SaysKept atoms feature n g (Test k)
high_says atoms feature n g k there e values low high =
    place_truth atoms values k (at_least n g) there
    ∙ high_by g (value_of n values) ((pos 1 *ℤ value_of n values) +ℤ pos 0) feature.high _ e high refl refl

pub between_says : (atoms : List Atom) (feature : Feature) (n : ℕ) (g : ℤ) (k : ℕ) → slice_get atoms k ≡ Some (at_least n g) → slice_get atoms (k + 1) ≡ Some (at_least n (g +ℤ pos 1)) → SaysKept atoms feature n g (And (Test k) (Not (Test (k + 1))))
between_says atoms feature n g k first second values low high = kept_on atoms values k n g first second

-- ---- more tests

pub same_on : (atoms more : List Atom) (values : List ℤ) (p : Proposition ℕ) → IsBelow (length atoms) p → true_on (vector_at (atoms ++ more) values) p ≡ true_on (vector_at atoms values) p
same_on atoms more values (Const b) h = refl
same_on atoms more values (Test n) h = same_truth atoms more values n h
same_on atoms more values (Not p) h = ap not (same_on atoms more values p h)
same_on atoms more values (And p q) h =
    ap (λ b. b && true_on (vector_at (atoms ++ more) values) q) (same_on atoms more values p h.0) ∙ ap (λ b. true_on (vector_at atoms values) p && b) (same_on atoms more values q h.1)
same_on atoms more values (Or p q) h =
    ap (λ b. b || true_on (vector_at (atoms ++ more) values) q) (same_on atoms more values p h.0) ∙ ap (λ b. true_on (vector_at atoms values) p || b) (same_on atoms more values q h.1)

pub extends_self : (atoms : List Atom) → Extends atoms atoms
extends_self atoms = record { more = []; is = sym (append-nil atoms) }

pub extends_by : (atoms after more : List Atom) → after ≡ atoms ++ more → Extends atoms after
extends_by atoms after more e = record { more = more; is = e }

pub extends_on : (first second third : List Atom) → Extends first second → Extends second third → Extends first third
extends_on first second third a b = record { more = a.more ++ b.more; is = b.is ∙ ap (λ xs. xs ++ b.more) a.is ∙ append_assoc first a.more b.more }

length_more : (before after : List Atom) → Extends before after → length before ≤ length after
length_more before after e = let f : length after ≡ length before + length e.more = ap length e.is ∙ length-append before e.more in omega arith

pub below_after : (before after : List Atom) (p : Proposition ℕ) → Extends before after → IsBelow (length before) p → IsBelow (length after) p
below_after before after p e h = below_more (length before) (length after) p (length_more before after e) h

pub one_more_fits : (count : ℕ) (atoms : List Atom) (a : Atom) → AreAtoms count atoms → IsAtom count a → AreAtoms count (atoms ++ a ∷ [])
one_more_fits count [] a h k = (k, tt)
one_more_fits count (b ∷ atoms) a h k = (h.0, one_more_fits count atoms a h.1 k)

two_more_fit : (count : ℕ) (atoms : List Atom) (a b : Atom) → AreAtoms count atoms → IsAtom count a → IsAtom count b → AreAtoms count (atoms ++ a ∷ b ∷ [])
two_more_fit count [] a b h k l = (k, (l, tt))
two_more_fit count (x ∷ atoms) a b h k l = (h.0, two_more_fit count atoms a b h.1 k l)

pub stands_below : (atoms : List Atom) (k : ℕ) (a : Atom) → slice_get atoms k ≡ Some a → k < length atoms
stands_below [] k a e = absurd cc
stands_below (x ∷ atoms) zero a e = omega arith
stands_below (x ∷ atoms) (suc k) a e = let h = stands_below atoms k a e in omega (arith, h)

pub stands_last : (atoms : List Atom) (a : Atom) → slice_get (atoms ++ a ∷ []) (length atoms) ≡ Some a
stands_last [] a = refl
stands_last (b ∷ atoms) a = stands_last atoms a

-- ---- all features

-- the value of the feature with a number, and the values behind it
first_there : (n : ℕ) (values : List ℤ) → value_of n values ≡ value_of 0 (drop n values)
first_there zero values = refl
first_there (suc n) [] = refl
first_there (suc n) (w ∷ ws) = first_there n ws

behind_there : (n : ℕ) (values : List ℤ) → drop (n + 1) values ≡ drop 1 (drop n values)
behind_there zero [] = refl
behind_there zero (w ∷ ws) = refl
behind_there (suc n) [] = simp unary_clauses refl
behind_there (suc n) (w ∷ ws) = let e : suc n + 1 ≡ suc (n + 1) = omega arith in ap (λ k. drop k (w ∷ ws)) e ∙ behind_there n ws

by_truths : (a b : Bool) (k m n : ℕ) → k ≡ n → m ≡ (if b then k else suc k) → (if a then m else suc m) ≡ (if b then (if a then n else suc n) else suc (if a then n else suc n))
by_truths true true k m n f e = e ∙ f
by_truths true false k m n f e = e ∙ ap suc f
by_truths false true k m n f e = ap suc (e ∙ f)
by_truths false false k m n f e = ap suc (e ∙ ap suc f)

unkept_last : (ps : List (Proposition ℕ)) (p : Proposition ℕ) (v : List Bool) → unkept (ps ++ p ∷ []) v ≡ (if true_on v p then unkept ps v else suc (unkept ps v))
unkept_last [] p v = refl
unkept_last (q ∷ ps) p v = by_truths (true_on v q) (true_on v p) (unkept ps v) _ (unkept ps v) refl (unkept_last ps p v)

module _ (feature : Feature) (behind : List Feature) (g : ℤ) (gs : List ℤ) (n : ℕ) (atoms : List Atom) (p : Proposition ℕ) (ps : List (Proposition ℕ))
    (says : SaysKept atoms feature n g p)
    (others : (values : List ℤ) → IsWithin behind (drop (n + 1) values) → unkept ps (vector_at atoms values) ≡ differing gs (drop (n + 1) values)) where
  counted : (values rest : List ℤ) → drop n values ≡ rest → IsWithin (feature ∷ behind) rest → unkept (ps ++ p ∷ []) (vector_at atoms values) ≡ differing (g ∷ gs) rest
  counted values [] e within = absurd within
  counted values (v ∷ vs) e within =
      let is : value_of n values ≡ v = first_there n values ∙ ap (value_of 0) e in
      let more : drop (n + 1) values ≡ vs = behind_there n values ∙ ap (drop 1) e in
      unkept_last ps p (vector_at atoms values)
      ∙ ap (λ b. if b then unkept ps (vector_at atoms values) else suc (unkept ps (vector_at atoms values)))
      (says values (subst (λ x. feature.low ≤ℤ x) (sym is) within.0) (subst (λ x. x ≤ℤ feature.high) (sym is) within.1) ∙ ap (int_eq g) is)
      ∙ ap (λ m. if int_eq g v then m else suc m) (others values (subst (IsWithin behind) (sym more) within.2) ∙ ap (differing gs) more)

  pub all_counted : (values : List ℤ) → IsWithin (feature ∷ behind) (drop n values) → unkept (ps ++ p ∷ []) (vector_at atoms values) ≡ differing (g ∷ gs) (drop n values)
  all_counted values = counted values (drop n values) refl

-- what a formula says over some tests, it says over more
pub says_after : (before after : List Atom) (feature : Feature) (n : ℕ) (g : ℤ) (p : Proposition ℕ) → Extends before after → IsBelow (length before) p → SaysKept before feature n g p → SaysKept after feature n g p
says_after before after feature n g p e below says values low high =
    ap (λ xs. true_on (vector_at xs values) p) e.is ∙ same_on before e.more values p below ∙ says values low high

-- ---- the tests that are put

pub pair_says : (old after : List Atom) (feature : Feature) (n : ℕ) (g : ℤ) (k : ℕ) → after ≡ old ++ at_least n g ∷ at_least n (g +ℤ pos 1) ∷ [] → k ≡ length old → SaysKept after feature n g (And (Test k) (Not (Test (k + 1))))
pair_says old after feature n g k e f =
    let first = at_least n g in
    let second = at_least n (g +ℤ pos 1) in
    between_says after feature n g k
    (ap (λ xs. slice_get xs k) e ∙ ap (slice_get (old ++ first ∷ second ∷ [])) f ∙ get_there old (second ∷ []) first)
    (ap (λ xs. slice_get xs (k + 1)) e ∙ ap (λ j. slice_get (old ++ first ∷ second ∷ []) (j + 1)) f ∙ get_next old [] first second)

pub pair_fits : (count : ℕ) (old after : List Atom) (n : ℕ) (g : ℤ) → after ≡ old ++ at_least n g ∷ at_least n (g +ℤ pos 1) ∷ [] → unsigned_abs g ≤ 1048576 → AreAtoms count old → n < count → AreAtoms count after
pair_fits count old after n g e small fit below =
    subst (AreAtoms count) (sym e) (two_more_fit count old (at_least n g) (at_least n (g +ℤ pos 1)) fit (at_least_fit count n g below (omega (arith, small))) (at_least_fit count n (g +ℤ pos 1) below (small_more g small)))

pub next_fits : (count n : ℕ) (g : ℤ) → unsigned_abs g ≤ 1048576 → n < count → IsAtom count (at_least n (g +ℤ pos 1))
next_fits count n g small below = at_least_fit count n (g +ℤ pos 1) below (small_more g small)

pub own_fits : (count n : ℕ) (g : ℤ) → unsigned_abs g ≤ 1048576 → n < count → IsAtom count (at_least n g)
own_fits count n g small below = at_least_fit count n g below (omega (arith, small))

-- ---- the formulas of all features

last_mapped : (xs : List Formula) (one : Formula) → map formula (xs ++ one ∷ []) ≡ map formula xs ++ formula one ∷ []
last_mapped [] one = refl
last_mapped (x ∷ xs) one = ap (λ ps. formula x ∷ ps) (last_mapped xs one)

pub told_all : (features : List Feature) (given : List ℤ) (feature : Feature) (behind : List Feature) (g : ℤ) (gs : List ℤ) (n : ℕ) (mid after : List Atom) (one : Formula) (xs made : List Formula)
    → features ≡ feature ∷ behind → given ≡ g ∷ gs → made ≡ xs ++ one ∷ [] → Extends mid after → IsBelow (length mid) (formula one) → SaysKept mid feature n g (formula one)
    → ((values : List ℤ) → IsWithin behind (drop (n + 1) values) → unkept (map formula xs) (vector_at after values) ≡ differing gs (drop (n + 1) values))
    → (values : List ℤ) → IsWithin features (drop n values) → unkept (map formula made) (vector_at after values) ≡ differing given (drop n values)
told_all features given feature behind g gs n mid after one xs made e f h more below says others values within =
    ap (λ fs. unkept (map formula fs) (vector_at after values)) h
    ∙ ap (λ ps. unkept ps (vector_at after values)) (last_mapped xs one)
    ∙ all_counted feature behind g gs n after (formula one) (map formula xs) (says_after mid after feature n g (formula one) more below says) others values (subst (λ fs. IsWithin fs (drop n values)) e within)
    ∙ ap (λ gs. differing gs (drop n values)) (sym f)

all_last : (P : Formula → Type 0) (xs : List Formula) (x : Formula) → All P xs → P x → All P (xs ++ x ∷ [])
all_last P [] x h k = All-cons P x [] k (All-nil P)
all_last P (y ∷ xs) x h k = All-cons P y (xs ++ x ∷ []) (All-head P y xs h) (all_last P xs x (All-tail P y xs h) k)

pub all_below : (mid after : List Atom) (one : Formula) (xs made : List Formula) → made ≡ xs ++ one ∷ [] → Extends mid after → IsBelow (length mid) (formula one)
    → All (λ (f : Formula). IsBelow (length after) (formula f)) xs → All (λ (f : Formula). IsBelow (length after) (formula f)) made
all_below mid after one xs made e more below all =
    let P : Formula → Type 0 = λ f. IsBelow (length after) (formula f) in
    subst (All P) (sym e) (all_last P xs one all (below_after mid after (formula one) more below))
