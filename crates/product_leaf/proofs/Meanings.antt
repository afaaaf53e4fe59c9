-- What the operations make of the parts of leaves that are not Nothing is what the definitions say of the leaves.
use Rattle.std.proofs.Common.{◌≡◌, ℕ, zero, suc, ◌<◌, ◌≤◌, ℤ, Bool, true, false, List, [], ◌∷◌, Some, None, length, map, slice_set, slice_index_or, if◌then◌else◌, refl, ap, sym, subst, ◌∙◌, ◌≤ℤ◌, pos, to_z, of_z, w64, arith}
use Rattle.std.specs.List.{zip, list_any}
use Rattle.std.proofs.lemmas.Int.{ints}
use Rattle.c_tree.specs.Value.{least, greatest, IsInt}
use Rattle.leaf_domain.specs.declared.range.Range.{Range}
use Rattle.leaf_domain.specs.Ranges.{empty_range}
use Rattle.leaf_domain.specs.Leaves.{LeafValue, nothing_of}
use Rattle.strides.specs.declared.strided.Strided.{Strided}
use Rattle.strides.specs.Strided.{is_bare, reduced, best_part, point_at, range_of}
use Rattle.product_leaf.specs.StrideLeaves.{stride_parts, part_in, leaf_of, parts_of, best_parts, AllOwn, stride_best, settled, joined_all, all_lie_in, widened_all, narrowed_all, part_at, met_part, stride_leq, stride_join, stride_widen, stride_narrow, stride_bounds, stride_with, stride_meet}
use Rattle.product_leaf.specs.View.{IsOwnOf, IsBestOf}
use Rattle.leaf_domain.proofs.Variables.{length_zipped, length_replaced}
use Rattle.nonrelational_leaf.proofs.PartLists.{length_best, own_best}
use Rattle.product_leaf.specs.Laws.Parts.{fours_numbers}
use Rattle.product_leaf.specs.Laws.StrideLaws.{stride_part_laws}
use Rattle.product_leaf.proofs.PartLemmas.{best_set}

abbrev count_of : LeafValue → ℕ
count_of v = v.variables

-- ---- as many parts as variables
pub own_count : (v : LeafValue) (bs : List Strided) → IsOwnOf v bs → length bs ≡ v.variables
own_count v bs h = sym (ap count_of h.same)

pub best_count : (v : LeafValue) (bs : List Strided) → IsBestOf v bs → length bs ≡ v.variables
best_count v bs h = ap length h.best ∙ length_best stride_parts stride_part_laws h.parts ∙ sym (ap count_of h.same)

pub best_all_own : (v : LeafValue) (bs : List Strided) → IsBestOf v bs → AllOwn bs
best_all_own v bs h = subst AllOwn (sym h.best) (own_best stride_parts stride_part_laws h.parts h.own)

pub few_zipped : (f : Strided → Strided → Strided) (us bs rs : List Strided) (n : ℕ) → length us ≡ n → length bs ≡ n → n ≤ 48 → rs ≡ map (λ (a, b). f a b) (zip us bs) → length rs ≤ 48
few_zipped f us bs rs n p q h e = omega (arith, ap length e, length_zipped f us bs (p ∙ sym q))

-- past the end aside, the default does not matter
pub read_at : (bs : List Strided) (x : ℕ) (d e : Strided) → x < length bs → slice_index_or bs x d ≡ slice_index_or bs x e
read_at [] x d e h = absurd (omega arith)
read_at (b ∷ bs) zero d e h = refl
read_at (b ∷ bs) (suc x) d e h = read_at bs x d e (omega arith)

-- ---- the operations
best_some : (v : LeafValue) (us bs : List Strided) → v ≡ leaf_of us → bs ≡ map reduced us → leaf_of bs ≡ stride_best v
best_some v us bs e g = rw (g, e, fours_numbers us) refl

pub best_is : (v : LeafValue) (bs : List Strided) → IsBestOf v bs → leaf_of bs ≡ stride_best v
best_is v bs h = best_some v h.parts bs h.same h.best

leq_some : (a b : LeafValue) (us bs ps : List Strided) (r : Bool) → a ≡ leaf_of us → b ≡ leaf_of bs → ps ≡ map reduced us → r ≡ all_lie_in ps bs → r ≡ stride_leq a b
leq_some a b us bs ps r e f g h = rw (h, g, e, f, fours_numbers us, fours_numbers bs) refl

pub leq_is : (a b : LeafValue) (ps bs : List Strided) (r : Bool) → IsBestOf a ps → IsOwnOf b bs → r ≡ all_lie_in ps bs → r ≡ stride_leq a b
leq_is a b ps bs r h k e = leq_some a b h.parts bs ps r h.same k.same h.best e

join_some : (a b : LeafValue) (us bs ps qs rs : List Strided) → a ≡ leaf_of us → b ≡ leaf_of bs → ps ≡ map reduced us → qs ≡ map reduced bs → rs ≡ joined_all ps qs → leaf_of rs ≡ stride_join a b
join_some a b us bs ps qs rs e f g h k = rw (k, g, h, e, f, fours_numbers us, fours_numbers bs) refl

pub join_is : (a b : LeafValue) (ps qs rs : List Strided) → IsBestOf a ps → IsBestOf b qs → rs ≡ joined_all ps qs → leaf_of rs ≡ stride_join a b
join_is a b ps qs rs h k e = join_some a b h.parts k.parts ps qs rs h.same k.same h.best k.best e

widen_some : (ts : List ℤ) (a b : LeafValue) (us bs qs rs : List Strided) → a ≡ leaf_of us → b ≡ leaf_of bs → qs ≡ map reduced bs → rs ≡ widened_all ts us qs → leaf_of rs ≡ stride_widen ts a b
widen_some ts a b us bs qs rs e f h k = rw (k, h, e, f, fours_numbers us, fours_numbers bs) refl

pub widen_is : (ts : List ℤ) (a b : LeafValue) (us qs rs : List Strided) → IsOwnOf a us → IsBestOf b qs → rs ≡ widened_all ts us qs → leaf_of rs ≡ stride_widen ts a b
widen_is ts a b us qs rs h k e = widen_some ts a b us k.parts qs rs h.same k.same k.best e

narrow_some : (ts : List ℤ) (a b : LeafValue) (us bs qs rs : List Strided) → a ≡ leaf_of us → b ≡ leaf_of bs → qs ≡ map reduced bs → rs ≡ narrowed_all ts us qs → settled rs ≡ stride_narrow ts a b
narrow_some ts a b us bs qs rs e f h k = rw (k, h, e, f, fours_numbers us, fours_numbers bs) refl

pub narrow_is : (ts : List ℤ) (a b : LeafValue) (us qs rs : List Strided) → IsOwnOf a us → IsBestOf b qs → rs ≡ narrowed_all ts us qs → settled rs ≡ stride_narrow ts a b
narrow_is ts a b us qs rs h k e = narrow_some ts a b us k.parts qs rs h.same k.same k.best e

bounds_some : (v : LeafValue) (us bs : List Strided) (x : ℕ) → v ≡ leaf_of us → bs ≡ map reduced us → x < length bs → range_of (part_at bs x) ≡ stride_bounds v x
bounds_some v us bs x e g l = rw (e, fours_numbers us, ← g) (ap range_of (read_at bs x (point_at (pos 0)) (part_in empty_range) l))

pub bounds_is : (v : LeafValue) (bs : List Strided) (x : ℕ) → IsBestOf v bs → x < length bs → range_of (part_at bs x) ≡ stride_bounds v x
bounds_is v bs x h l = bounds_some v h.parts bs x h.same h.best l

-- ---- one part for another
some_part : (b p : Strided) → Some p ≡ best_part b → (is_bare b ≡ false) × (p ≡ reduced b)
some_part b p = by_test (is_bare b) refl
  where
    by_test : (t : Bool) → is_bare b ≡ t → Some p ≡ (if t then None else Some (reduced b)) → (is_bare b ≡ false) × (p ≡ reduced b)
    by_test true e f = cc
    by_test false e f = (e, cc)

none_part : (b : Strided) → None ≡ best_part b → is_bare b ≡ true
none_part b = by_test (is_bare b) refl
  where
    by_test : (t : Bool) → is_bare b ≡ t → None ≡ (if t then None else Some (reduced b)) → is_bare b ≡ true
    by_test true e f = e
    by_test false e f = cc

with_some : (v : LeafValue) (us bs : List Strided) (x : ℕ) (p b : Strided) → v ≡ leaf_of us → bs ≡ map reduced us → is_bare b ≡ false → p ≡ reduced b → leaf_of (slice_set bs x p) ≡ stride_with v x b
with_some v us bs x p b e g n q = rw (q, g, e, fours_numbers us, n, best_set us x b) refl

pub with_part_is : (v : LeafValue) (bs : List Strided) (x : ℕ) (p b : Strided) → IsBestOf v bs → Some p ≡ best_part b → leaf_of (slice_set bs x p) ≡ stride_with v x b
with_part_is v bs x p b h e = let (n, q) = some_part b p e in with_some v h.parts bs x p b h.same h.best n q

with_none : (v : LeafValue) (us : List Strided) (x : ℕ) (b : Strided) → v ≡ leaf_of us → is_bare b ≡ true → nothing_of (length us) ≡ stride_with v x b
with_none v us x b e n = rw (e, n) refl

pub with_nothing_is : (v : LeafValue) (bs : List Strided) (x : ℕ) (b : Strided) → IsBestOf v bs → None ≡ best_part b → nothing_of v.variables ≡ stride_with v x b
with_nothing_is v bs x b h e = ap nothing_of (ap count_of h.same) ∙ with_none v h.parts x b h.same (none_part b e)

-- the part of a leaf as it stands, met
met_some : (v : LeafValue) (us : List Strided) (x : ℕ) (r : Range) → v ≡ leaf_of us → x < length us → stride_with v x (met_part (part_at us x) r) ≡ stride_meet v x r
met_some v us x r e l =
    ap (λ p. stride_with v x (met_part p r)) (read_at us x (point_at (pos 0)) (part_in empty_range) l ∙ ap (λ ps. slice_index_or ps x (part_in empty_range)) (sym (ap parts_of e ∙ fours_numbers us)))

pub met_is : (v : LeafValue) (us : List Strided) (x : ℕ) (r : Range) → IsOwnOf v us → x < length us → stride_with v x (met_part (part_at us x) r) ≡ stride_meet v x r
met_is v us x r h l = met_some v us x r h.same l

parts_some : (v : LeafValue) (us bs : List Strided) → v ≡ leaf_of us → bs ≡ map reduced us → bs ≡ best_parts v
parts_some v us bs e g = rw (g, e, fours_numbers us) refl

pub best_parts_are : (v : LeafValue) (bs : List Strided) → IsBestOf v bs → bs ≡ best_parts v
best_parts_are v bs h = parts_some v h.parts bs h.same h.best

-- ---- parts as they stand, where each has a number
pub settled_bare : (rs : List Strided) (n : ℕ) → list_any is_bare rs ≡ true → length rs ≡ n → nothing_of n ≡ settled rs
settled_bare rs n e l = rw e (ap nothing_of (sym l))

pub settled_full : (rs : List Strided) → list_any is_bare rs ≡ false → leaf_of rs ≡ settled rs
settled_full rs e = rw e refl

-- a number of `int` comes back from 64 bits
pub int_back : (n : ℤ) → IsInt n → to_z w64 (of_z w64 n) ≡ n
int_back n i = let p : least ≤ℤ n = i.low in let q : n ≤ℤ greatest = i.high in omega (arith, ints)
