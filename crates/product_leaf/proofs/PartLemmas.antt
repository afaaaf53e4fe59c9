-- Facts on lists of parts by their best bounds.
use Rattle.std.proofs.Common.{◌≡◌, ◌≢◌, ℕ, zero, suc, ◌<◌, nat_eq, Bool, true, false, ◌&&◌, ◌||◌, List, [], ◌∷◌, length, map, ℤ, pos, Option, Some, None, IfSome, if◌then◌else◌, slice_set, refl, ap, sym, subst, ◌∙◌, arith}
use Rattle.std.specs.List.{list_any}
use Rattle.std.specs.Ordering.{int_eq}
use Rattle.std.proofs.lemmas.Bool.Decides.{nat_tests}
use Rattle.std.proofs.lemmas.Int.{ints}
use Rattle.leaf_domain.specs.Leaves.{same_numbers}
use Rattle.strides.specs.declared.strided.Strided.{Strided}
use Rattle.strides.specs.Strided.{is_bare, reduced, best_part, point_at, IsOwn, joined}
use Rattle.strides.proofs.StridedLaws.{reduced_best, best_reduced, joined_best, point_best, reduced_own}
use Rattle.product_leaf.specs.StrideLeaves.{numbers_of, AllOwn, joined_all, all_same_parts}
use Rattle.product_leaf.specs.Laws.Parts.{IsLimited}

pub reduced_twice : (b : Strided) → is_bare b ≡ false → reduced (reduced b) ≡ reduced b
reduced_twice b e = best_reduced (reduced b) (reduced_best b e)

pub best_twice : (bs : List Strided) → AllOwn bs → map reduced (map reduced bs) ≡ map reduced bs
best_twice [] h = refl
best_twice (b ∷ bs) h = ap (λ x. x ∷ map reduced (map reduced bs)) (reduced_twice b h.0.some) ∙ ap (λ xs. reduced b ∷ xs) (best_twice bs h.1)

pub joined_once : (a b : Strided) → is_bare a ≡ false → is_bare b ≡ false → reduced (joined (reduced a) (reduced b)) ≡ joined (reduced a) (reduced b)
joined_once a b e f = best_reduced (joined (reduced a) (reduced b)) (joined_best (reduced a) (reduced b) (reduced_best a e) (reduced_best b f))

pub joined_twice : (us bs : List Strided) → AllOwn us → AllOwn bs → map reduced (joined_all (map reduced us) (map reduced bs)) ≡ joined_all (map reduced us) (map reduced bs)
joined_twice [] bs h k = refl
joined_twice (a ∷ us) [] h k = refl
joined_twice (a ∷ us) (b ∷ bs) h k =
    ap (λ x. x ∷ map reduced (joined_all (map reduced us) (map reduced bs))) (joined_once a b h.0.some k.0.some)
    ∙ ap (λ xs. joined (reduced a) (reduced b) ∷ xs) (joined_twice us bs h.1 k.1)

pub best_set : (bs : List Strided) (x : ℕ) (b : Strided) → map reduced (slice_set bs x b) ≡ slice_set (map reduced bs) x (reduced b)
best_set [] x b = refl
best_set (a ∷ bs) zero b = refl
best_set (a ∷ bs) (suc x) b = ap (λ xs. reduced a ∷ xs) (best_set bs x b)

-- ---- best bounds of one part
pub part_own : (b : Strided) (r : Option Strided) → r ≡ best_part b → IsLimited b → IfSome r IsOwn
part_own b r e h = subst (λ o. IfSome o IsOwn) (sym e) (by_test (is_bare b) refl)
  where
    by_test : (t : Bool) → is_bare b ≡ t → IfSome (if t then None else Some (reduced b)) IsOwn
    by_test true f = tt
    by_test false f = reduced_own b h.low h.high h.residue f

pub part_best : (b : Strided) (r : Option Strided) → r ≡ best_part b → IfSome r (λ p. p ≡ reduced p)
part_best b r e = subst (λ o. IfSome o (λ p. p ≡ reduced p)) (sym e) (by_test (is_bare b) refl)
  where
    by_test : (t : Bool) → is_bare b ≡ t → IfSome (if t then None else Some (reduced b)) (λ p. p ≡ reduced p)
    by_test true f = tt
    by_test false f = sym (reduced_twice b f)

pub points_twice : (s : List ℤ) → map reduced (map point_at s) ≡ map point_at s
points_twice [] = refl
points_twice (n ∷ s) = ap (λ x. x ∷ map reduced (map point_at s)) (best_reduced (point_at n) (point_best n)) ∙ ap (λ xs. point_at n ∷ xs) (points_twice s)

pub joined_again : (us bs ps qs rs : List Strided) → ps ≡ map reduced us → qs ≡ map reduced bs → rs ≡ joined_all ps qs → AllOwn us → AllOwn bs → rs ≡ map reduced rs
joined_again us bs ps qs rs e f g o k = rw (g, e, f) (sym (joined_twice us bs o k))

pub best_again : (us ps : List Strided) → ps ≡ map reduced us → AllOwn us → ps ≡ map reduced ps
best_again us ps e o = rw e (sym (best_twice us o))

-- a list of best parts with one replaced
pub set_again : (ps : List Strided) (x : ℕ) (p : Strided) → ps ≡ map reduced ps → p ≡ reduced p → slice_set ps x p ≡ map reduced (slice_set ps x p)
set_again ps x p e f = sym (best_set ps x p ∙ ap (λ q. slice_set (map reduced ps) x q) (sym f) ∙ ap (λ xs. slice_set xs x p) (sym e))

pub set_own : (ps : List Strided) (x : ℕ) (p : Strided) → AllOwn ps → IsOwn p → AllOwn (slice_set ps x p)
set_own [] x p h k = tt
set_own (a ∷ ps) zero p h k = (k, h.1)
set_own (a ∷ ps) (suc x) p h k = (h.0, set_own ps x p h.1 k)

-- ---- parts are the same where their four numbers are
pos_eq : (m n : ℕ) → int_eq (pos m) (pos n) ≡ nat_eq m n
pos_eq m n = by_test (nat_eq m n) refl
  where
    by_test : (t : Bool) → nat_eq m n ≡ t → int_eq (pos m) (pos n) ≡ t
    by_test true e = let d : m ≡ n = grind (arith, nat_tests) in grind (arith, ints)
    by_test false e = let d : m ≢ n = grind (arith, nat_tests) in grind (arith, ints)

pub parts_same : (us bs : List Strided) → length us ≡ length bs → all_same_parts us bs ≡ same_numbers (numbers_of us) (numbers_of bs)
parts_same [] [] l = refl
parts_same [] (b ∷ bs) l = absurd (omega arith)
parts_same (a ∷ us) [] l = absurd (omega arith)
parts_same (a ∷ us) (b ∷ bs) l =
    by_tests (int_eq a.low b.low) (int_eq a.high b.high) (nat_eq a.stride.modulus b.stride.modulus) (int_eq (pos a.stride.modulus) (pos b.stride.modulus)) (int_eq a.stride.residue b.stride.residue) _ _
    (sym (pos_eq a.stride.modulus b.stride.modulus)) (parts_same us bs (omega arith))
  where
    by_tests : (s t u w v p n : Bool) → u ≡ w → p ≡ n → ((s && (t && (u && v))) && p) ≡ (s && (t && (w && (v && n))))
    by_tests true true true w true p n d e = ap (λ x. x && p) d ∙ ap (λ x. w && x) e
    by_tests true true true w false p n d e = ap (λ x. x && false) d
    by_tests true true false w v p n d e = ap (λ x. x && (v && n)) d
    by_tests true false u w v p n d e = refl
    by_tests false t u w v p n d e = refl

pub parts_differ : (us bs : List Strided) → length us ≢ length bs → same_numbers (numbers_of us) (numbers_of bs) ≡ false
parts_differ [] [] l = absurd (l refl)
parts_differ [] (b ∷ bs) l = refl
parts_differ (a ∷ us) [] l = refl
parts_differ (a ∷ us) (b ∷ bs) l =
    by_tests (int_eq a.low b.low) (int_eq a.high b.high) (int_eq (pos a.stride.modulus) (pos b.stride.modulus)) (int_eq a.stride.residue b.stride.residue) _
    (parts_differ us bs (λ e. l (ap suc e)))
  where
    by_tests : (s t u v n : Bool) → n ≡ false → (s && (t && (u && (v && n)))) ≡ false
    by_tests true true true true n e = e
    by_tests true true true false n e = refl
    by_tests true true false v n e = refl
    by_tests true false u v n e = refl
    by_tests false t u v n e = refl
