-- The least and the greatest sum over the ranges bound each sum, and are reached.
use Rattle.std.proofs.Common.{◌≡◌, ℕ, zero, suc, ◌*◌, ◌≤◌, ◌<◌, ℤ, pos, negsuc, ◌+ℤ◌, ◌-ℤ◌, ◌*ℤ◌, ◌≤ℤ◌, ◌<ℤ◌, int_lt, int_le, unsigned_abs, Bool, true, false, if◌then◌else◌, List, [], ◌∷◌, length, map, get_or, sym, ap, subst, refl, ◌∙◌, arith, Option, Some, None}
use Rattle.std.proofs.lemmas.Int.{ints}
use Rattle.std.proofs.lemmas.Bool.{false≢true}
use Rattle.std.proofs.Math.IntN.{negsuc-*ℤ-pos}
use Rattle.linear_atoms.specs.declared.atoms.Feature.{Feature}
use Rattle.linear_atoms.specs.declared.atoms.Atom.{Atom}
use Rattle.linear_atoms.specs.Forms.{RisesFrom, IsRising, sum_at}
use Rattle.linear_atoms.specs.Atoms.{AreBelow, AreRanges, IsAtom, IsWithin, IsDecided}
use Rattle.linear_atoms.specs.Ranges.{extreme_value, extreme_at, extreme_sum, decided_of}
use Rattle.linear_terms.proofs.Integers.{times-sum}

size_by : (b g : Bool) (f : Feature) → unsigned_abs f.low ≤ 1048576 → unsigned_abs f.high ≤ 1048576 → unsigned_abs (if b then (if g then f.high else f.low) else (if g then f.low else f.high)) ≤ 1048576
size_by true true f l h = h
size_by true false f l h = l
size_by false true f l h = l
size_by false false f l h = h

pub extreme_size : (g : Bool) (a : ℤ) (fs : List Feature) (n : ℕ) → AreRanges fs → unsigned_abs (extreme_at g a fs n) ≤ 1048576
extreme_size g a [] n h = omega arith
extreme_size g a (f ∷ fs) zero h = size_by (int_lt (pos 0) a) g f h.1 h.2
extreme_size g a (f ∷ fs) (suc n) h = extreme_size g a fs n h.3

-- what has a range, at a place
pub extreme_is : {X : Type 0} (feature : X → Feature) (g : Bool) (a : ℤ) (xs : List X) (n : ℕ) (x : X) → n < length xs → x ≡ get_or xs n x → extreme_value g a (feature x) ≡ extreme_at g a (map feature xs) n
extreme_is feature g a [] n x h e = absurd (omega arith)
extreme_is feature g a (y ∷ ys) zero x h e = ap (λ z. extreme_value g a (feature z)) e
extreme_is feature g a (y ∷ ys) (suc n) x h e = extreme_is feature g a ys n x (omega arith) e

pub length_mapped : {X : Type 0} (feature : X → Feature) (xs : List X) → length (map feature xs) ≡ length xs
length_mapped feature [] = refl
length_mapped feature (x ∷ xs) = ap suc (length_mapped feature xs)

pub map_same : {X : Type 0} (xs : List X) → map (λ x. x) xs ≡ xs
map_same [] = refl
map_same (x ∷ xs) = ap (λ ys. x ∷ ys) (map_same xs)

pub extreme_split : (g : Bool) (fs : List Feature) (rest behind : List (ℕ × ℤ)) (n : ℕ) (a p : ℤ) → rest ≡ (n, a) ∷ behind → p ≡ a *ℤ extreme_at g a fs n → extreme_sum g fs rest ≡ p +ℤ extreme_sum g fs behind
extreme_split g fs rest behind n a p e f = ap (extreme_sum g fs) e ∙ ap (λ x. x +ℤ extreme_sum g fs behind) (sym f)

-- ---- the bounds

gap : (a x y : ℤ) → a *ℤ y ≡ a *ℤ x +ℤ a *ℤ (y -ℤ x)
gap a x y =
    let e : a *ℤ (x +ℤ (y -ℤ x)) ≡ a *ℤ x +ℤ a *ℤ (y -ℤ x) = times-sum a x (y -ℤ x) in
    let f : a *ℤ (x +ℤ (y -ℤ x)) ≡ a *ℤ y = ap (λ z. a *ℤ z) (omega (arith, ints)) in
    omega (arith, ints)

-- a number that is not negative, as one of ℕ
pub record IsNat (x : ℤ) : Type 0 where
  pub size : ℕ
  pub is : x ≡ pos size

nat_of : (x : ℤ) → pos 0 ≤ℤ x → IsNat x
nat_of (pos n) h = record { size = n; is = refl }
nat_of (negsuc n) h = absurd (omega (arith, ints))

rising_product : (a x y : ℤ) → pos 0 <ℤ a → x ≤ℤ y → (a *ℤ x) ≤ℤ (a *ℤ y)
rising_product (pos a) x y h k =
    let d : IsNat (y -ℤ x) = nat_of (y -ℤ x) (omega (arith, ints)) in
    let e : pos a *ℤ (y -ℤ x) ≡ pos (a * d.size) = ap (λ z. pos a *ℤ z) d.is in
    let g : pos a *ℤ y ≡ pos a *ℤ x +ℤ pos a *ℤ (y -ℤ x) = gap (pos a) x y in
    omega (arith, ints)
rising_product (negsuc a) x y h k = absurd (omega (arith, ints))

no_more : (a d : ℤ) → a ≤ℤ pos 0 → IsNat d → (a *ℤ d) ≤ℤ pos 0
no_more (pos zero) d h n = rw n.is (omega (arith, ints))
no_more (pos (suc a)) d h n = absurd (omega (arith, ints))
no_more (negsuc a) d h n = subst (λ x. (negsuc a *ℤ x) ≤ℤ pos 0) (sym n.is) (rw (negsuc-*ℤ-pos a n.size) (omega (arith, ints)))

falling_product : (a x y : ℤ) → a ≤ℤ pos 0 → x ≤ℤ y → (a *ℤ y) ≤ℤ (a *ℤ x)
falling_product a x y h k =
    let d : IsNat (y -ℤ x) = nat_of (y -ℤ x) (omega (arith, ints)) in
    let g : a *ℤ y ≡ a *ℤ x +ℤ a *ℤ (y -ℤ x) = gap a x y in
    let e : (a *ℤ (y -ℤ x)) ≤ℤ pos 0 = no_more a (y -ℤ x) h d in
    omega (arith, ints)

between_by : (b : Bool) (a v : ℤ) (f : Feature) → b ≡ int_lt (pos 0) a → f.low ≤ℤ v → v ≤ℤ f.high
    → ((a *ℤ (if b then (if false then f.high else f.low) else (if false then f.low else f.high))) ≤ℤ (a *ℤ v)) × ((a *ℤ v) ≤ℤ (a *ℤ (if b then (if true then f.high else f.low) else (if true then f.low else f.high))))
between_by true a v f e l h = let p : pos 0 <ℤ a = grind (arith, ints) in (rising_product a f.low v p l, rising_product a v f.high p h)
between_by false a v f e l h = let p : a ≤ℤ pos 0 = grind (arith, ints) in (falling_product a v f.high p h, falling_product a f.low v p l)

pub between : (a : ℤ) (fs : List Feature) (vs : List ℤ) (n : ℕ) → IsWithin fs vs → ((a *ℤ extreme_at false a fs n) ≤ℤ (a *ℤ get_or vs n (pos 0))) × ((a *ℤ get_or vs n (pos 0)) ≤ℤ (a *ℤ extreme_at true a fs n))
between a [] [] n h = (omega (arith, ints), omega (arith, ints))
between a [] (v ∷ vs) n h = absurd h
between a (f ∷ fs) [] n h = absurd h
between a (f ∷ fs) (v ∷ vs) zero h = between_by (int_lt (pos 0) a) a v f refl h.0 h.1
between a (f ∷ fs) (v ∷ vs) (suc n) h = between a fs vs n h.2

pub sums_between : (fs : List Feature) (vs : List ℤ) (ts : List (ℕ × ℤ)) → IsWithin fs vs → (extreme_sum false fs ts ≤ℤ sum_at ts vs) × (sum_at ts vs ≤ℤ extreme_sum true fs ts)
sums_between fs vs [] h = (omega (arith, ints), omega (arith, ints))
sums_between fs vs (t ∷ ts) h =
    let p = between t.1 fs vs t.0 h in
    let q = sums_between fs vs ts h in
    let p0 : (t.1 *ℤ extreme_at false t.1 fs t.0) ≤ℤ (t.1 *ℤ get_or vs t.0 (pos 0)) = p.0 in
    let p1 : (t.1 *ℤ get_or vs t.0 (pos 0)) ≤ℤ (t.1 *ℤ extreme_at true t.1 fs t.0) = p.1 in
    let q0 : extreme_sum false fs ts ≤ℤ sum_at ts vs = q.0 in
    let q1 : sum_at ts vs ≤ℤ extreme_sum true fs ts = q.1 in
    (omega (arith, ints), omega (arith, ints))

-- ---- they are reached

lows : List Feature → List ℤ
lows [] = []
lows (f ∷ fs) = f.low ∷ lows fs

lows_within : (fs : List Feature) → AreRanges fs → IsWithin fs (lows fs)
unfolding lows
lows_within [] h = tt
lows_within (f ∷ fs) h = (omega (arith, ints), h.0, lows_within fs h.3)

ends_by : (b g : Bool) (f : Feature) → f.low ≤ℤ f.high → (f.low ≤ℤ (if b then (if g then f.high else f.low) else (if g then f.low else f.high))) × ((if b then (if g then f.high else f.low) else (if g then f.low else f.high)) ≤ℤ f.high)
ends_by true true f h = (h, omega (arith, ints))
ends_by true false f h = (omega (arith, ints), h)
ends_by false true f h = (omega (arith, ints), h)
ends_by false false f h = (h, omega (arith, ints))

-- one value replaced by the extreme one
put : Bool → ℤ → List Feature → List ℤ → ℕ → List ℤ
put g a [] vs n = vs
put g a (f ∷ fs) [] n = []
put g a (f ∷ fs) (v ∷ vs) zero = extreme_value g a f ∷ vs
put g a (f ∷ fs) (v ∷ vs) (suc n) = v ∷ put g a fs vs n

put_within : (g : Bool) (a : ℤ) (fs : List Feature) (vs : List ℤ) (n : ℕ) → AreRanges fs → IsWithin fs vs → IsWithin fs (put g a fs vs n)
unfolding put
put_within g a [] vs n r h = h
put_within g a (f ∷ fs) [] n r h = absurd h
put_within g a (f ∷ fs) (v ∷ vs) zero r h = let e = ends_by (int_lt (pos 0) a) g f r.0 in (e.0, e.1, h.2)
put_within g a (f ∷ fs) (v ∷ vs) (suc n) r h = (h.0, h.1, put_within g a fs vs n r.3 h.2)

put_at : (g : Bool) (a : ℤ) (fs : List Feature) (vs : List ℤ) (n : ℕ) → IsWithin fs vs → n < length fs → get_or (put g a fs vs n) n (pos 0) ≡ extreme_at g a fs n
unfolding put
put_at g a [] vs n h k = absurd (omega arith)
put_at g a (f ∷ fs) [] n h k = absurd h
put_at g a (f ∷ fs) (v ∷ vs) zero h k = refl
put_at g a (f ∷ fs) (v ∷ vs) (suc n) h k = put_at g a fs vs n h.2 (omega arith)

put_else : (g : Bool) (a : ℤ) (fs : List Feature) (vs : List ℤ) (n m : ℕ) → n < m → get_or (put g a fs vs n) m (pos 0) ≡ get_or vs m (pos 0)
unfolding put
put_else g a [] vs n m h = refl
put_else g a (f ∷ fs) [] n m h = refl
put_else g a (f ∷ fs) (v ∷ vs) n zero h = absurd (omega arith)
put_else g a (f ∷ fs) (v ∷ vs) zero (suc m) h = refl
put_else g a (f ∷ fs) (v ∷ vs) (suc n) (suc m) h = put_else g a fs vs n m (omega arith)

sum_else : (g : Bool) (a : ℤ) (fs : List Feature) (vs : List ℤ) (n m : ℕ) (ts : List (ℕ × ℤ)) → n < m → RisesFrom m ts → sum_at ts (put g a fs vs n) ≡ sum_at ts vs
sum_else g a fs vs n m [] h r = refl
sum_else g a fs vs n m (t ∷ ts) h r =
    let k : m ≤ t.0 = r.0 in
    let e : get_or (put g a fs vs n) t.0 (pos 0) ≡ get_or vs t.0 (pos 0) = put_else g a fs vs n t.0 (omega arith) in
    let f : sum_at ts (put g a fs vs n) ≡ sum_at ts vs = sum_else g a fs vs n (suc t.0) ts (omega arith) r.2 in
    ap (λ x. t.1 *ℤ x +ℤ sum_at ts (put g a fs vs n)) e ∙ ap (λ x. t.1 *ℤ get_or vs t.0 (pos 0) +ℤ x) f

pub record Reaches (g : Bool) (fs : List Feature) (ts : List (ℕ × ℤ)) : Type 0 where
  pub values : List ℤ
  pub within : IsWithin fs values
  pub reached : sum_at ts values ≡ extreme_sum g fs ts

pub reach : (g : Bool) (fs : List Feature) (m : ℕ) (ts : List (ℕ × ℤ)) → AreRanges fs → RisesFrom m ts → AreBelow (length fs) ts → Reaches g fs ts
reach g fs m [] h r b = record { values = lows fs; within = lows_within fs h; reached = refl }
reach g fs m (t ∷ ts) h r b =
    let k : Reaches g fs ts = reach g fs (suc t.0) ts h r.2 b.1 in
    record {
      values = put g t.1 fs k.values t.0;
      within = put_within g t.1 fs k.values t.0 h k.within;
      reached = ap (λ x. t.1 *ℤ x +ℤ sum_at ts (put g t.1 fs k.values t.0)) (put_at g t.1 fs k.values t.0 k.within b.0)
          ∙ ap (λ x. t.1 *ℤ extreme_at g t.1 fs t.0 +ℤ x) (sum_else g t.1 fs k.values t.0 (suc t.0) ts (omega arith) r.2 ∙ k.reached);
    }

-- ---- the answers

passed : (b s : ℤ) → b ≤ℤ s → int_le b s ≡ true
passed b s h = grind (arith, ints)

failed : (b s : ℤ) → s <ℤ b → int_le b s ≡ false
failed b s h = grind (arith, ints)

pub always : (fs : List Feature) (atom : Atom) → atom.bound ≤ℤ extreme_sum false fs atom.terms → IsDecided fs atom (Some true)
always fs atom h vs w =
    let l : extreme_sum false fs atom.terms ≤ℤ sum_at atom.terms vs = (sums_between fs vs atom.terms w).0 in
    passed atom.bound (sum_at atom.terms vs) (omega (arith, ints))

pub never : (fs : List Feature) (atom : Atom) → extreme_sum true fs atom.terms <ℤ atom.bound → IsDecided fs atom (Some false)
never fs atom h vs w =
    let l : sum_at atom.terms vs ≤ℤ extreme_sum true fs atom.terms = (sums_between fs vs atom.terms w).1 in
    failed atom.bound (sum_at atom.terms vs) (omega (arith, ints))

open_still : (fs : List Feature) (atom : Atom) → AreRanges fs → IsRising atom.terms → AreBelow (length fs) atom.terms → extreme_sum false fs atom.terms <ℤ atom.bound → atom.bound ≤ℤ extreme_sum true fs atom.terms → IsDecided fs atom None
open_still fs atom h r b l g =
    let p : Reaches true fs atom.terms = reach true fs 0 atom.terms h r b in
    let q : Reaches false fs atom.terms = reach false fs 0 atom.terms h r b in
    let e : sum_at atom.terms p.values ≡ extreme_sum true fs atom.terms = p.reached in
    let f : sum_at atom.terms q.values ≡ extreme_sum false fs atom.terms = q.reached in (
      (p.values, p.within, passed atom.bound (sum_at atom.terms p.values) (omega (arith, ints))),
      (q.values, q.within, failed atom.bound (sum_at atom.terms q.values) (omega (arith, ints))),
    )

reached : (x y : ℤ) → int_le x y ≡ true → x ≤ℤ y
reached x y e = grind (arith, ints)

not_reached : (x y : ℤ) → int_le x y ≡ false → y <ℤ x
not_reached x y e = grind (arith, ints)

missed : (x y : ℤ) → int_lt x y ≡ true → x <ℤ y
missed x y e = grind (arith, ints)

not_missed : (x y : ℤ) → int_lt x y ≡ false → y ≤ℤ x
not_missed x y e = grind (arith, ints)

decides_by : (fs : List Feature) (atom : Atom) (b c : Bool) → AreRanges fs → IsAtom (length fs) atom → int_le atom.bound (extreme_sum false fs atom.terms) ≡ b → int_lt (extreme_sum true fs atom.terms) atom.bound ≡ c
    → IsDecided fs atom (if b then Some true else (if c then Some false else None))
decides_by fs atom true c h a e f = always fs atom (reached _ _ e)
decides_by fs atom false true h a e f = never fs atom (missed _ _ f)
decides_by fs atom false false h a e f = open_still fs atom h a.rising a.below (not_reached _ _ e) (not_missed _ _ f)

pub decided_so : (fs : List Feature) (atom : Atom) → AreRanges fs → IsAtom (length fs) atom → IsDecided fs atom (decided_of fs atom)
decided_so fs atom h a = decides_by fs atom (int_le atom.bound (extreme_sum false fs atom.terms)) (int_lt (extreme_sum true fs atom.terms) atom.bound) h a refl refl

one_answer : (fs : List Feature) (atom : Atom) (r s : Option Bool) (values : List ℤ) → IsWithin fs values → IsDecided fs atom r → IsDecided fs atom s → r ≡ s
one_answer fs atom None None values w p q = refl
one_answer fs atom None (Some v) values w p q = absurd (false≢true (sym p.1.2 ∙ q p.1.0 p.1.1 ∙ sym (q p.0.0 p.0.1) ∙ p.0.2))
one_answer fs atom (Some v) None values w p q = absurd (false≢true (sym q.1.2 ∙ p q.1.0 q.1.1 ∙ sym (p q.0.0 q.0.1) ∙ q.0.2))
one_answer fs atom (Some u) (Some v) values w p q = ap Some (sym (p values w) ∙ q values w)

pub decided_once : (fs : List Feature) (atom : Atom) (said : Option Bool) → AreRanges fs → IsAtom (length fs) atom → IsDecided fs atom said → said ≡ decided_of fs atom
decided_once fs atom said h a d = one_answer fs atom said (decided_of fs atom) (lows fs) (lows_within fs h) d (decided_so fs atom h a)
