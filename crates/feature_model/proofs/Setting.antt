-- Values that are set, and how many.
use Rattle.std.proofs.Common.{◌≡◌, ℕ, zero, suc, ◌+◌, ◌-◌, ◌≤◌, ◌<◌, ℤ, pos, ◌≤ℤ◌, int_le, unsigned_abs, FitsSigned, to_z, of_z, w64, Bool, true, false, ◌&&◌, List, [], ◌∷◌, ◌++◌, length, set, Option, Some, None, refl, sym, ap, subst, ◌∙◌, arith}
use Rattle.std.proofs.lemmas.Int.{ints, to_z-of_z}
use Rattle.linear_atoms.specs.declared.atoms.Feature.{Feature}
use Rattle.std.specs.Prelude.{IfSome, Result, Ok, Err, cond, ⊤}
use Rattle.std.specs.Str.{bytes_eq}
use Rattle.linear_atoms.specs.Atoms.{AreRanges, AreValues}
use Rattle.feature_model.specs.declared.faults.ConfigFault.{ConfigFault}
use Rattle.feature_model.specs.declared.faults.ConfigFault.TheVariants as faults
use Rattle.feature_model.specs.Settings.{fits, is_set, count, AreSmall, IsSmallRange, Spells, named, parts, value_of, set_at, set_by, step, Sets, unset, value_by}

counted : (slots : List (Option ℤ)) (i : ℕ) (v : ℤ) → i < length slots → is_set slots i ≡ false → count (set slots i (Some v)) ≡ count slots + 1
counted [] i v h k = absurd (omega arith)
counted (None ∷ ss) zero v h k = refl
counted (Some w ∷ ss) zero v h k = cc
counted (None ∷ ss) (suc i) v h k = counted ss i v (omega arith) k
counted (Some w ∷ ss) (suc i) v h k = ap (λ n. n + 1) (counted ss i v (omega arith) k)

pub set_counts : (f : Feature) (slots : List (Option ℤ)) (i : ℕ) (value : Option ℤ) → i < length slots → is_set slots i ≡ false → fits f value ≡ true → count (set slots i value) ≡ count slots + 1
set_counts f slots i None h k e = cc
set_counts f slots i (Some v) h k e = counted slots i v h k

small_set : (slots : List (Option ℤ)) (i : ℕ) (v : ℤ) → unsigned_abs v ≤ 1048576 → AreSmall slots → AreSmall (set slots i (Some v))
small_set [] i v h k = tt
small_set (None ∷ ss) zero v h k = (h, k)
small_set (Some w ∷ ss) zero v h k = (h, k.1)
small_set (None ∷ ss) (suc i) v h k = small_set ss i v h k
small_set (Some w ∷ ss) (suc i) v h k = (k.0, small_set ss i v h k.1)

and_left : (a b : Bool) → (a && b) ≡ true → a ≡ true
and_left true b e = refl
and_left false b e = e

and_right : (a b : Bool) → (a && b) ≡ true → b ≡ true
and_right true b e = e
and_right false b e = cc

at_most : (a b : ℤ) → int_le a b ≡ true → a ≤ℤ b
at_most a b e = grind (arith, ints)

pub in_range_small : (f : Feature) (v : ℤ) → IsSmallRange f → fits f (Some v) ≡ true → unsigned_abs v ≤ 1048576
in_range_small f v r e =
    let a : f.low ≤ℤ v = at_most _ _ (and_left _ _ e) in
    let b : v ≤ℤ f.high = at_most _ _ (and_right _ _ e) in
    let c = r.low in let d = r.high in
    omega (arith, ints)

pub set_small : (f : Feature) (slots : List (Option ℤ)) (i : ℕ) (value : Option ℤ) → IsSmallRange f → fits f value ≡ true → AreSmall slots → AreSmall (set slots i value)
set_small f slots i None r e h = cc
set_small f slots i (Some v) r e h = small_set slots i v (in_range_small f v r e) h

pub count_most : (slots : List (Option ℤ)) → count slots ≤ length slots
count_most [] = omega arith
count_most (None ∷ ss) = let h = count_most ss in omega arith
count_most (Some v ∷ ss) = let h = count_most ss in omega arith

-- ---- one word

small_by : (b : Bool) (n : ℕ) (f : Feature) (r : Option (ℕ × Feature)) → IsSmallRange f → IfSome r (λ x. IsSmallRange x.1) → IfSome (cond b (Some (n, f)) r) (λ x. IsSmallRange x.1)
small_by true n f r h k = h
small_by false n f r h k = k

small_named : (name : List ℕ) (n : ℕ) (fs : List Feature) → AreRanges fs → IfSome (named name n fs) (λ x. IsSmallRange x.1)
small_named name n [] h = tt
small_named name n (f ∷ fs) h = small_by (bytes_eq f.name name) n f (named name (n + 1) fs) (record { low = h.1; high = h.2 }) (small_named name (n + 1) fs h.3)

large_fails : (f : Feature) (v : ℤ) (b : Bool) → IsSmallRange f → 1048576 < unsigned_abs v → fits f (Some v) ≡ b → false ≡ b
large_fails f v true r h e = let k = in_range_small f v r e in absurd (omega arith)
large_fails f v false r h e = refl

same_set : (n : ℕ) (slots : List (Option ℤ)) (v o : Option ℤ) (found : Option (ℕ × Feature)) → Spells v o → IfSome found (λ x. IsSmallRange x.1) → set_at n slots v found ≡ set_at n slots o found
same_set n slots v o None h k = refl
same_set n slots None None (Some x) h k = refl
same_set n slots None (Some w) (Some x) h k =
    let e : false ≡ fits x.1 (Some w) = large_fails x.1 w _ k h refl in
    ap (λ b. cond (is_set slots x.0) (Err (faults.Twice n)) (cond b (Ok (set slots x.0 (Some w))) (Err (faults.OutOfRange n)))) e
same_set n slots (Some v) o (Some x) h k = ap (λ y. set_at n slots y (Some x)) (sym h.0)

pub word_sets : (features : List Feature) (n : ℕ) (old new : List (Option ℤ)) (r : Result ⊤ ConfigFault) (word name bytes : List ℕ) (text : Option (List ℕ)) (v : Option ℤ) → AreRanges features → (name, text) ≡ parts word → bytes ≡ name → Spells v (value_of text)
    → Sets new r (set_at n old v (named bytes 0 features)) → Sets new r (step features n old word)
unfolding step
word_sets features n old new r word name bytes text v ranges p b s h =
    let e : set_at n old v (named bytes 0 features) ≡ set_at n old (value_of text) (named name 0 features) =
    ap (λ x. set_at n old v (named x 0 features)) b ∙ same_set n old v (value_of text) (named name 0 features) s (small_named name 0 features ranges) in
    subst (λ q. Sets new r (set_by features n old q)) p (subst (λ x. Sets new r x) e h)

-- ---- no word

pub count_unset : (fs : List Feature) → count (unset fs) ≡ 0
count_unset [] = refl
count_unset (f ∷ fs) = count_unset fs

pub small_unset : (fs : List Feature) → AreSmall (unset fs)
small_unset [] = tt
small_unset (f ∷ fs) = small_unset fs

pub length_unset : (fs : List Feature) → length (unset fs) ≡ length fs
length_unset [] = refl
length_unset (f ∷ fs) = ap suc (length_unset fs)

-- ---- values

off_small : (b : Bool) (n : ℕ) (v : ℤ) → Ok v ≡ cond b (Ok (pos 0)) (Err (faults.Missing n)) → unsigned_abs v ≤ 1048576
off_small true n v e = let k : v ≡ pos 0 = cc in subst (λ x. unsigned_abs x ≤ 1048576) (sym k) (omega arith)
off_small false n v e = cc

by_small : (n : ℕ) (f : Feature) (slot : Option ℤ) (slots : List (Option ℤ)) (v : ℤ) → AreSmall (slot ∷ slots) → Ok v ≡ value_by n f slot → unsigned_abs v ≤ 1048576
by_small n f None slots v h e = off_small f.boolean n v e
by_small n f (Some w) slots v h e = let k : v ≡ w = cc in subst (λ x. unsigned_abs x ≤ 1048576) (sym k) h.0

pub value_small : (n : ℕ) (f : Feature) (slot : Option ℤ) (slots whole : List (Option ℤ)) (v : ℤ) → whole ≡ slot ∷ slots → AreSmall whole → Ok v ≡ value_by n f slot → unsigned_abs v ≤ 1048576
value_small n f slot slots whole v c h e = by_small n f slot slots v (subst AreSmall c h) e

value_fits : (v : ℤ) → unsigned_abs v ≤ 1048576 → FitsSigned w64 v
value_fits v h = omega (arith, ints)

pub read_small : (v : ℤ) → unsigned_abs v ≤ 1048576 → unsigned_abs (to_z w64 (of_z w64 v)) ≤ 1048576
read_small v h = subst (λ x. unsigned_abs x ≤ 1048576) (sym (to_z-of_z w64 v (value_fits v h))) h

values_last : (old : List ℤ) (v : ℤ) → unsigned_abs v ≤ 1048576 → AreValues old → AreValues (old ++ v ∷ [])
values_last [] v h k = (h, tt)
values_last (x ∷ xs) v h k = (k.0, values_last xs v h k.1)

pub values_more : (old mid : List ℤ) (v : ℤ) → mid ≡ old ++ v ∷ [] → unsigned_abs v ≤ 1048576 → AreValues old → AreValues mid
values_more old mid v e h k = subst AreValues (sym e) (values_last old v h k)
