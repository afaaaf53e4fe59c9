-- Atoms and formulas with those of tests beside them.
use Rattle.std.proofs.Common.{◌≡◌, ℕ, zero, suc, ◌+◌, ◌<◌, ◌≤◌, ◌⊎◌, inl, inr, ℤ, Bool, List, [], ◌∷◌, ◌++◌, length, map, take, drop, get_or, slice_get, Some, refl, ap, subst, sym, ◌∙◌, arith, append_assoc, add-one}
use Rattle.std.specs.List.{All}
use Rattle.std.proofs.Math.Seq.{drop-cons}
use Rattle.std.proofs.lemmas.List.{take_more, take_all, map-append, length-append, length-take-le}
use Rattle.std.proofs.lemmas.List.Elements.{All-nil, All-cons, All-head, All-tail, All-append}
use Rattle.linear_atoms.specs.declared.atoms.Atom.{Atom}
use Rattle.linear_atoms.specs.declared.atoms.Feature.{Feature}
use Rattle.linear_atoms.specs.Atoms.{IsAtom, AreAtoms}
use Rattle.linear_atoms.specs.Rising.{AreRising}
use Rattle.cpp_conditions.specs.declared.conditions.Condition.{Condition}
use Rattle.cpp_conditions.specs.declared.formulas.Formula.{Formula}
use Rattle.cpp_conditions.specs.Distinct.{Occurs, OccursIn, AreAtomsOf, Grows}
use Rattle.cpp_conditions.specs.Numbering.{IsAmong, AreAmong, AreAllAmong, IsNumbered, vector_at}
use Rattle.cpp_conditions.specs.Propositions.{Proposition, Const, Test, Not, And, Or, IsBelow, IsFit, true_at, true_on}
use Rattle.cpp_conditions.specs.Validity.{Plain}
use Rattle.cpp_conditions.specs.View.{proposition, formula}
use Rattle.cpp_conditions.proofs.Collected.{among_more, grows_on}
use Rattle.cpp_conditions.proofs.Numbers.{numbered_below, numbered_truth}
use Rattle.cpp_lines.specs.Sections.{AreNumbered, AreConditionsOf, truths_on, truths_at}
use Rattle.feature_values.specs.Moved.{AreAdded, AreNewNumbers, moved, test_number}

-- ---- atoms

occurs_left : (a : Atom) (ps qs : List (Proposition Atom)) → OccursIn a ps → OccursIn a (ps ++ qs)
occurs_left a [] qs o = absurd o
occurs_left a (p ∷ ps) qs (inl o) = inl o
occurs_left a (p ∷ ps) qs (inr o) = inr (occurs_left a ps qs o)

occurs_right : (a : Atom) (ps qs : List (Proposition Atom)) → OccursIn a qs → OccursIn a (ps ++ qs)
occurs_right a [] qs o = o
occurs_right a (p ∷ ps) qs o = inr (occurs_right a ps qs o)

all_kept : (xs ys : List Atom) (ps : List (Proposition Atom)) → ((a : Atom) → IsAmong a xs → IsAmong a ys) → AreAllAmong xs ps → AreAllAmong ys ps
all_kept xs ys [] k h = tt
all_kept xs ys (p ∷ ps) k h = (among_more xs ys p k h.0, all_kept xs ys ps k h.1)

all_both : (xs : List Atom) (ps qs : List (Proposition Atom)) → AreAllAmong xs ps → AreAllAmong xs qs → AreAllAmong xs (ps ++ qs)
all_both xs [] qs h k = k
all_both xs (p ∷ ps) qs h k = (h.0, all_both xs ps qs h.1 k)

pub none_added : (xs : List Atom) → AreAdded [] xs xs
none_added xs = record { grows = record { rising = λ r. r; kept = λ a m. m; only = λ a m. inl m }; all = tt }

-- the atoms of one more condition
pub one_added : (ps : List (Proposition Atom)) (q : Proposition Atom) (old mid new : List Atom) → AreAdded ps old mid → Grows (λ (a : Atom). Occurs a q) mid new → AreAmong new q → AreAdded (ps ++ q ∷ []) old new
one_added ps q old mid new h g m = record {
  grows = grows_on (λ (a : Atom). OccursIn a ps) (λ (a : Atom). Occurs a q) (λ (a : Atom). OccursIn a (ps ++ q ∷ [])) old mid new
      (λ a o. occurs_left a ps (q ∷ []) o) (λ a o. occurs_right a ps (q ∷ []) (inl o)) h.grows g;
  all = all_both new ps (q ∷ []) (all_kept mid new ps g.kept h.all) (m, tt);
}

atoms_added : (ps qs : List (Proposition Atom)) (old new : List Atom) → AreAtomsOf ps old → AreAdded qs old new → AreAtomsOf (ps ++ qs) new
atoms_added ps qs old new h k = record {
  rising = k.grows.rising h.rising;
  all = all_both new ps qs (all_kept old new ps k.grows.kept h.all) k.all;
  only = λ a m. elim (k.grows.only a m) [ inl n ↦ occurs_left a ps qs (h.only a n) | inr o ↦ occurs_right a ps qs o ];
}

-- ---- numbers

pub tested : (atoms : List Atom) (a : Atom) (f : Proposition ℕ) → IsNumbered atoms (Test a) f → slice_get atoms (test_number f) ≡ Some a
tested atoms a (Const b) h = absurd h
tested atoms a (Test n) h = h
tested atoms a (Not f) h = absurd h
tested atoms a (And f g) h = absurd h
tested atoms a (Or f g) h = absurd h

moved_numbered : (old new : List Atom) (numbers : List ℕ) (p : Proposition Atom) (f : Proposition ℕ) → AreNewNumbers old new numbers → IsNumbered old p f → IsNumbered new p (moved numbers f)
moved_numbered old new numbers (Const b) (Const c) m h = h
moved_numbered old new numbers (Test a) (Test n) m h = m n a h
moved_numbered old new numbers (Not p) (Not f) m h = moved_numbered old new numbers p f m h
moved_numbered old new numbers (And p q) (And f g) m h = (moved_numbered old new numbers p f m h.0, moved_numbered old new numbers q g m h.1)
moved_numbered old new numbers (Or p q) (Or f g) m h = (moved_numbered old new numbers p f m h.0, moved_numbered old new numbers q g m h.1)
moved_numbered old new numbers _ _ m h = absurd h

all_numbered : (old new : List Atom) (numbers : List ℕ) (ps : List (Proposition Atom)) (fs gs : List Formula) → AreNewNumbers old new numbers → map formula gs ≡ map (λ (f : Formula). moved numbers (formula f)) fs
    → AreNumbered old ps fs → AreNumbered new ps gs
all_numbered old new numbers [] [] [] m e h = tt
all_numbered old new numbers [] [] (g ∷ gs) m e h = absurd cc
all_numbered old new numbers [] (f ∷ fs) gs m e h = absurd h
all_numbered old new numbers (p ∷ ps) [] gs m e h = absurd h
all_numbered old new numbers (p ∷ ps) (f ∷ fs) [] m e h = absurd cc
all_numbered old new numbers (p ∷ ps) (f ∷ fs) (g ∷ gs) m e h =
    let first : moved numbers (formula f) ≡ formula g = cc in
    let behind : map formula gs ≡ map (λ (f : Formula). moved numbers (formula f)) fs = cc in
    (subst (IsNumbered new p) first (moved_numbered old new numbers p (formula f) m h.0), all_numbered old new numbers ps fs gs m behind h.1)

numbered_both : (atoms : List Atom) (ps qs : List (Proposition Atom)) (fs gs : List Formula) → AreNumbered atoms ps fs → AreNumbered atoms qs gs → AreNumbered atoms (ps ++ qs) (fs ++ gs)
numbered_both atoms [] qs [] gs h k = k
numbered_both atoms [] qs (f ∷ fs) gs h k = absurd h
numbered_both atoms (p ∷ ps) qs [] gs h k = absurd h
numbered_both atoms (p ∷ ps) qs (f ∷ fs) gs h k = (h.0, numbered_both atoms ps qs fs gs h.1 k)

numbered_truths : (atoms : List Atom) (ps : List (Proposition Atom)) (fs : List Formula) (values : List ℤ) → AreNumbered atoms ps fs → truths_on atoms values fs ≡ truths_at values ps
numbered_truths atoms [] [] values h = refl
numbered_truths atoms [] (f ∷ fs) values h = absurd h
numbered_truths atoms (p ∷ ps) [] values h = absurd h
numbered_truths atoms (p ∷ ps) (f ∷ fs) values h =
    ap (λ (b : Bool). b ∷ truths_on atoms values fs) (numbered_truth atoms p (formula f) values h.0) ∙ ap (λ (bs : List Bool). true_at values p ∷ bs) (numbered_truths atoms ps fs values h.1)

pub conditions_added : (model : Plain) (conditions tests : List (Proposition Atom)) (old new : List Atom) (fs gs hs : List Formula) (numbers : List ℕ) → AreAdded tests old new → AreNewNumbers old new numbers
    → map formula gs ≡ map (λ (f : Formula). moved numbers (formula f)) fs → AreNumbered new tests hs → AreConditionsOf model conditions old fs → AreConditionsOf model (conditions ++ tests) new (gs ++ hs)
conditions_added model conditions tests old new fs gs hs numbers a m e b h =
    let all : AreNumbered new (conditions ++ tests) (gs ++ hs) = numbered_both new conditions tests gs hs (all_numbered old new numbers conditions fs gs m e h.numbered) b in
    record {
      atoms_are = subst (λ (ps : List (Proposition Atom)). AreAtomsOf ps new) (append_assoc model.constraints conditions tests) (atoms_added (model.constraints ++ conditions) tests old new h.atoms_are a);
      numbered = all;
      truths = λ values. numbered_truths new (conditions ++ tests) (gs ++ hs) values all;
    }

-- ---- numbers below the count of atoms

place_below : (atoms : List Atom) (n : ℕ) (a : Atom) → slice_get atoms n ≡ Some a → n < length atoms
place_below [] n a e = absurd cc
place_below (b ∷ bs) zero a e = omega arith
place_below (b ∷ bs) (suc n) a e = let h : n < length bs = place_below bs n a e in omega arith

stands_there : (xs : List Atom) (n : ℕ) → n < length xs → (a : Atom) × (slice_get xs n ≡ Some a)
stands_there [] n l = absurd (omega arith)
stands_there (x ∷ xs) zero l = (x, refl)
stands_there (x ∷ xs) (suc n) l = stands_there xs n (omega arith)

moved_at : (old new : List Atom) (numbers : List ℕ) (n : ℕ) → AreNewNumbers old new numbers → n < length old → get_or numbers n 0 < length new
moved_at old new numbers n m l =
    let t = stands_there old n l in
    place_below new (get_or numbers n 0) t.0 (m n t.0 t.1)

moved_below : (old new : List Atom) (numbers : List ℕ) (f : Proposition ℕ) → AreNewNumbers old new numbers → IsBelow (length old) f → IsBelow (length new) (moved numbers f)
moved_below old new numbers (Const b) m h = tt
moved_below old new numbers (Test n) m h = moved_at old new numbers n m h
moved_below old new numbers (Not f) m h = moved_below old new numbers f m h
moved_below old new numbers (And f g) m h = (moved_below old new numbers f m h.0, moved_below old new numbers g m h.1)
moved_below old new numbers (Or f g) m h = (moved_below old new numbers f m h.0, moved_below old new numbers g m h.1)

abbrev AreBelow : List Atom → List Formula → Type 0
AreBelow atoms fs = All (λ (f : Formula). IsBelow (length atoms) (formula f)) fs

all_moved_below : (old new : List Atom) (numbers : List ℕ) (fs gs : List Formula) → AreNewNumbers old new numbers → map formula gs ≡ map (λ (f : Formula). moved numbers (formula f)) fs → AreBelow old fs → AreBelow new gs
all_moved_below old new numbers fs [] m e h = All-nil (λ (f : Formula). IsBelow (length new) (formula f))
all_moved_below old new numbers [] (g ∷ gs) m e h = absurd cc
all_moved_below old new numbers (f ∷ fs) (g ∷ gs) m e h =
    let first : moved numbers (formula f) ≡ formula g = cc in
    let behind : map formula gs ≡ map (λ (f : Formula). moved numbers (formula f)) fs = cc in
    All-cons (λ (x : Formula). IsBelow (length new) (formula x)) g gs
    (subst (IsBelow (length new)) first (moved_below old new numbers (formula f) m (All-head (λ (x : Formula). IsBelow (length old) (formula x)) f fs h)))
    (all_moved_below old new numbers fs gs m behind (All-tail (λ (x : Formula). IsBelow (length old) (formula x)) f fs h))

all_numbered_below : (atoms : List Atom) (ps : List (Proposition Atom)) (fs : List Formula) → AreNumbered atoms ps fs → AreBelow atoms fs
all_numbered_below atoms ps [] h = All-nil (λ (f : Formula). IsBelow (length atoms) (formula f))
all_numbered_below atoms [] (f ∷ fs) h = absurd h
all_numbered_below atoms (p ∷ ps) (f ∷ fs) h =
    All-cons (λ (x : Formula). IsBelow (length atoms) (formula x)) f fs (numbered_below atoms p (formula f) h.0) (all_numbered_below atoms ps fs h.1)

pub all_below : (tests : List (Proposition Atom)) (old new : List Atom) (fs gs hs : List Formula) (numbers : List ℕ) → AreNewNumbers old new numbers
    → map formula gs ≡ map (λ (f : Formula). moved numbers (formula f)) fs → AreNumbered new tests hs → All (λ (f : Formula). IsBelow (length old) (formula f)) fs → All (λ (f : Formula). IsBelow (length new) (formula f)) (gs ++ hs)
all_below tests old new fs gs hs numbers m e b h =
    All-append (λ (f : Formula). IsBelow (length new) (formula f)) gs hs (all_moved_below old new numbers fs gs m e h) (all_numbered_below new tests hs b)

length_mapped : {X Y : Type 0} (g : X → Y) (xs : List X) → length (map g xs) ≡ length xs
length_mapped g [] = refl
length_mapped g (x ∷ xs) = ap suc (length_mapped g xs)

length_numbered : (atoms : List Atom) (ps : List (Proposition Atom)) (fs : List Formula) → AreNumbered atoms ps fs → length fs ≡ length ps
length_numbered atoms [] [] h = refl
length_numbered atoms [] (f ∷ fs) h = absurd h
length_numbered atoms (p ∷ ps) [] h = absurd h
length_numbered atoms (p ∷ ps) (f ∷ fs) h = ap suc (length_numbered atoms ps fs h.1)

pub all_counted : (new : List Atom) (tests : List (Proposition Atom)) (fs gs hs : List Formula) (numbers : List ℕ) → map formula gs ≡ map (λ (f : Formula). moved numbers (formula f)) fs → AreNumbered new tests hs
    → length (gs ++ hs) ≡ length fs + length tests
all_counted new tests fs gs hs numbers e b =
    let g : length gs ≡ length fs = sym (length_mapped formula gs) ∙ ap length e ∙ length_mapped (λ (f : Formula). moved numbers (formula f)) fs in
    let h : length hs ≡ length tests = length_numbered new tests hs b in
    omega (arith, length-append gs hs)

-- ---- one condition, one formula and one atom after another

taken : (cs : List Condition) (i : ℕ) (x : Condition) → i < length cs → x ≡ get_or cs i x → map proposition (take (i + 1) cs) ≡ map proposition (take i cs) ++ proposition x ∷ []
taken cs i x h e =
    ap (map proposition) (take_more cs i x h ∙ ap (λ (y : Condition). take i cs ++ y ∷ []) (sym e)) ∙ map-append proposition (take i cs) (x ∷ [])

left : (cs : List Condition) (i : ℕ) (x : Condition) → i < length cs → x ≡ get_or cs i x → map proposition (drop i cs) ≡ proposition x ∷ map proposition (drop (i + 1) cs)
left cs i x h e =
    ap (map proposition) (drop-cons cs i x h ∙ ap (λ (y : Condition). y ∷ drop (suc i) cs) (sym e)) ∙ ap (λ (n : ℕ). proposition x ∷ map proposition (drop n cs)) (sym (add-one i))

pub added_more : (cs : List Condition) (i : ℕ) (x : Condition) (old mid new : List Atom) → i < length cs → x ≡ get_or cs i x → AreAdded (map proposition (take i cs)) old mid
    → Grows (λ (a : Atom). Occurs a (proposition x)) mid new → AreAmong new (proposition x) → AreAdded (map proposition (take (i + 1) cs)) old new
added_more cs i x old mid new h e m g k =
    subst (λ (ps : List (Proposition Atom)). AreAdded ps old new) (sym (taken cs i x h e)) (one_added (map proposition (take i cs)) (proposition x) old mid new m g k)

pub among_more_left : (atoms : List Atom) (cs : List Condition) (i : ℕ) (x : Condition) → i < length cs → x ≡ get_or cs i x → AreAllAmong atoms (map proposition (drop i cs)) → AreAllAmong atoms (map proposition (drop (i + 1) cs))
among_more_left atoms cs i x h e m = let k : AreAllAmong atoms (proposition x ∷ map proposition (drop (i + 1) cs)) = subst (AreAllAmong atoms) (left cs i x h e) m in k.1

pub formulas_more : (atoms : List Atom) (cs : List Condition) (i : ℕ) (x : Condition) (made more : List Formula) (f : Formula) → i < length cs → x ≡ get_or cs i x → more ≡ made ++ f ∷ []
    → AreNumbered atoms (map proposition (take i cs)) made → IsNumbered atoms (proposition x) (formula f) → AreNumbered atoms (map proposition (take (i + 1) cs)) more
formulas_more atoms cs i x made more f h e p m n =
    subst (λ (ps : List (Proposition Atom)). AreNumbered atoms ps more) (sym (taken cs i x h e))
    (subst (AreNumbered atoms (map proposition (take i cs) ++ proposition x ∷ [])) (sym p) (numbered_both atoms (map proposition (take i cs)) (proposition x ∷ []) made (f ∷ []) m (n, tt)))

pub item_among : (xs : List Atom) (i : ℕ) (x : Atom) → i < length xs → x ≡ get_or xs i x → IsAmong x xs
item_among [] i x h e = absurd (omega arith)
item_among (y ∷ ys) zero x h e = inl (sym e)
item_among (y ∷ ys) (suc i) x h e = inr (item_among ys i x (omega arith) e)

numbers_push : (xs new : List Atom) (ns : List ℕ) (x : Atom) (m : ℕ) → length ns ≡ length xs → slice_get new m ≡ Some x → AreNewNumbers xs new ns → AreNewNumbers (xs ++ x ∷ []) new (ns ++ m ∷ [])
numbers_push [] new [] x m l e h zero a s = e ∙ s
numbers_push [] new [] x m l e h (suc n) a s = absurd cc
numbers_push [] new (k ∷ ks) x m l e h n a s = absurd (omega arith)
numbers_push (y ∷ ys) new [] x m l e h n a s = absurd (omega arith)
numbers_push (y ∷ ys) new (k ∷ ks) x m l e h zero a s = h zero a s
numbers_push (y ∷ ys) new (k ∷ ks) x m l e h (suc n) a s = numbers_push ys new ks x m (omega arith) e (λ j b t. h (suc j) b t) n a s

pub numbers_more : (old new : List Atom) (made more : List ℕ) (i m : ℕ) (x : Atom) → i < length old → x ≡ get_or old i x → more ≡ made ++ m ∷ [] → length made ≡ i → slice_get new m ≡ Some x
    → AreNewNumbers (take i old) new made → AreNewNumbers (take (i + 1) old) new more
numbers_more old new made more i m x h e p l s k =
    let list : take (i + 1) old ≡ take i old ++ x ∷ [] = take_more old i x h ∙ ap (λ (y : Atom). take i old ++ y ∷ []) (sym e) in
    let count : length made ≡ length (take i old) = l ∙ sym (length-take-le i old (omega arith)) in
    subst (λ (xs : List Atom). AreNewNumbers xs new more) (sym list) (subst (AreNewNumbers (take i old ++ x ∷ []) new) (sym p) (numbers_push (take i old) new made x m count s k))

pub all_new : (old new : List Atom) (made : List ℕ) (i : ℕ) → length old ≤ i → AreNewNumbers (take i old) new made → AreNewNumbers old new made
all_new old new made i h k = subst (λ (xs : List Atom). AreNewNumbers xs new made) (take_all i old h) k
