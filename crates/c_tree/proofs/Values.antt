-- The value of an expression is within `int`, in both modes.
use Rattle.std.proofs.Common.{◌≡◌, List, length, Bool, true, false, cond, not, ◌&&◌, ◌||◌, refl, subst, inl, inr, ◌⊎◌, arith}
use Rattle.std.specs.Prelude.{◌≤ℤ◌, ◌%◌, ◌/◌, ◌<◌, ℤ, pos, negsuc, int_le, int_lt, int_div, int_rem, neg_ℤ, ◌+ℤ◌, ◌-ℤ◌, ◌*ℤ◌, Result, Ok, Err}
use Rattle.std.specs.List.{All}
use Rattle.std.specs.Int.{int_rem_euclid}
use Rattle.std.specs.Ordering.{int_eq}
use Rattle.std.proofs.lemmas.Int.{ints, rem_below}
use Rattle.c_tree.specs.declared.tree.Kind.{Kind}
use Rattle.c_tree.specs.declared.tree.Kind.TheVariants.{Overflow, ZeroDivisor}
use Rattle.c_tree.specs.declared.tree.Mode.{Mode}
use Rattle.c_tree.specs.declared.tree.Mode.TheVariants.{Stop, Wrap}
use Rattle.c_tree.specs.declared.tree.Op.{Op}
use Rattle.c_tree.specs.declared.tree.Op.TheVariants.{Add, Sub, Mul, Div, Rem, Lt, Le, Gt, Ge, Eq, Ne, And, Or}
use Rattle.c_tree.specs.Tree.{Term, Number, Var, Neg, Not, Binary}
use Rattle.c_tree.specs.Value.{least, greatest, IsInt, in_range, wrapped, result_in, truth_of, is_zero, ◌>>=◌, applied_of, binary_of, value_of}
use Rattle.c_tree.specs.Fit.{IsTermOf}

-- a chain with a value has one at each step
bind_ok : (r : Result ℤ Kind) (f : ℤ → Result ℤ Kind) (m : ℤ) → (r >>= f) ≡ Ok m → (n : ℤ) × (r ≡ Ok n) × (f n ≡ Ok m)
bind_ok (Ok n) f m e = (n, refl, e)
bind_ok (Err kind) f m e = cc

-- which side a choice took
chosen : (b : Bool) (x y z : Result ℤ Kind) → cond b x y ≡ z → ((b ≡ true) × (x ≡ z)) ⊎ ((b ≡ false) × (y ≡ z))
chosen true x y z e = inl (refl, e)
chosen false x y z e = inr (refl, e)

IsInt-tested : (n : ℤ) → (int_le least n && int_le n greatest) ≡ true → IsInt n
IsInt-tested n e = grind (arith, ints)

IsInt-in_range : (n m : ℤ) → in_range n ≡ Ok m → IsInt m
IsInt-in_range n m e =
    elim (chosen (int_le least n && int_le n greatest) (Ok n) (Err Overflow) (Ok m) e) as (λ _. IsInt m) [
      | inl h ↦ let same : n ≡ m = cc h.1 in subst IsInt same (IsInt-tested n h.0)
      | inr h ↦ cc h.1
    ]

IsInt-ok : (n m : ℤ) (r : Result ℤ Kind) → r ≡ Ok n → IsInt n → r ≡ Ok m → IsInt m
IsInt-ok n m r e h f = let same : n ≡ m = cc in subst IsInt same h

-- ---- a wrapped number

record IsRest (r : ℤ) : Type 0 where
  low : pos 0 ≤ℤ r
  high : r ≤ℤ pos 4294967295

rest_below : (n : ℤ) → IsRest (int_rem_euclid n (pos 4294967296))
rest_below (pos a) = let h : a % 4294967296 < 4294967296 = omega arith in record { low = omega (arith, ints); high = omega (arith, ints) }
rest_below (negsuc a) = let h : a % 4294967296 < 4294967296 = omega arith in record { low = omega (arith, ints); high = omega (arith, ints) }

-- it lies in `int`
pub IsInt-wrapped : (n : ℤ) → IsInt (wrapped n)
IsInt-wrapped n = let h = rest_below (n +ℤ pos 2147483648) in record { low = omega (arith, ints); high = omega (arith, ints) }

rest_differs : (n : ℤ) → (k : ℤ) × (n ≡ int_rem_euclid n (pos 4294967296) +ℤ (pos 4294967296 *ℤ k))
rest_differs (pos a) = (pos (a / 4294967296), omega (arith, ints))
rest_differs (negsuc a) = (negsuc (a / 4294967296), omega (arith, ints))

-- it differs from the number by a multiple of 2^32
pub wrapped_differs : (n : ℤ) → (k : ℤ) × (n ≡ wrapped n +ℤ (pos 4294967296 *ℤ k))
wrapped_differs n = let h = rest_differs (n +ℤ pos 2147483648) in (h.0, omega (arith, ints, h.1))

IsInt-result_in : (mode : Mode) (n m : ℤ) → result_in mode n ≡ Ok m → IsInt m
IsInt-result_in Stop n m e = IsInt-in_range n m e
IsInt-result_in Wrap n m e = IsInt-ok (wrapped n) m _ refl (IsInt-wrapped n) e

IsInt-truth_of : (b : Bool) → IsInt (truth_of b)
IsInt-truth_of true = record { low = record { le = tt }; high = record { le = tt } }
IsInt-truth_of false = record { low = record { le = tt }; high = record { le = tt } }

IsInt-int_rem : (a b : ℤ) → IsInt a → IsInt b → is_zero b ≡ false → IsInt (int_rem a b)
IsInt-int_rem a b f g h = grind (arith, ints, rem_below a b)

IsInt-applied : (mode : Mode) (op : Op) (a b m : ℤ) → IsInt a → IsInt b → applied_of mode op a b ≡ Ok m → IsInt m
IsInt-applied mode Add a b m f g e = IsInt-result_in mode (a +ℤ b) m e
IsInt-applied mode Sub a b m f g e = IsInt-result_in mode (a -ℤ b) m e
IsInt-applied mode Mul a b m f g e = IsInt-result_in mode (a *ℤ b) m e
IsInt-applied mode Div a b m f g e =
    elim (chosen (is_zero b) (Err ZeroDivisor) (in_range (int_div a b)) (Ok m) e) as (λ _. IsInt m) [
      | inl h ↦ cc h.1
      | inr h ↦ IsInt-in_range (int_div a b) m h.1
    ]
IsInt-applied mode Rem a b m f g e =
    elim (chosen (is_zero b) (Err ZeroDivisor) (cond (int_eq a least && int_eq b (negsuc 0)) (Err Overflow) (Ok (int_rem a b))) (Ok m) e) as (λ _. IsInt m) [
      | inl h ↦ cc h.1
      | inr h ↦ elim (chosen (int_eq a least && int_eq b (negsuc 0)) (Err Overflow) (Ok (int_rem a b)) (Ok m) h.1) as (λ _. IsInt m) [
        | inl k ↦ cc k.1
        | inr k ↦ IsInt-ok _ m _ refl (IsInt-int_rem a b f g h.0) k.1
      ]
    ]
IsInt-applied mode Lt a b m f g e = IsInt-ok _ m _ refl (IsInt-truth_of (int_lt a b)) e
IsInt-applied mode Le a b m f g e = IsInt-ok _ m _ refl (IsInt-truth_of (int_le a b)) e
IsInt-applied mode Gt a b m f g e = IsInt-ok _ m _ refl (IsInt-truth_of (int_lt b a)) e
IsInt-applied mode Ge a b m f g e = IsInt-ok _ m _ refl (IsInt-truth_of (int_le b a)) e
IsInt-applied mode Eq a b m f g e = IsInt-ok _ m _ refl (IsInt-truth_of (int_eq a b)) e
IsInt-applied mode Ne a b m f g e = IsInt-ok _ m _ refl (IsInt-truth_of (not (int_eq a b))) e
IsInt-applied mode And a b m f g e = IsInt-ok _ m _ refl (IsInt-truth_of (not (is_zero a) && not (is_zero b))) e
IsInt-applied mode Or a b m f g e = IsInt-ok _ m _ refl (IsInt-truth_of (not (is_zero a) || not (is_zero b))) e

IsInt-both : (mode : Mode) (op : Op) (r s : Result ℤ Kind) (m : ℤ) → ((a : ℤ) → r ≡ Ok a → IsInt a) → ((b : ℤ) → s ≡ Ok b → IsInt b) → (r >>= λ a. s >>= λ b. applied_of mode op a b) ≡ Ok m → IsInt m
IsInt-both mode op r s m f g e =
    let left = bind_ok r (λ a. s >>= λ b. applied_of mode op a b) m e in
    let right = bind_ok s (λ b. applied_of mode op left.0 b) m left.2 in
    IsInt-applied mode op left.0 right.0 m (f left.0 left.1) (g right.0 right.1) right.2

-- the right side's truth, where it has one
IsInt-second : (s : Result ℤ Kind) (m : ℤ) → (s >>= λ b. Ok (truth_of (not (is_zero b)))) ≡ Ok m → IsInt m
IsInt-second s m e =
    let right = bind_ok s (λ b. Ok (truth_of (not (is_zero b)))) m e in
    IsInt-ok _ m _ refl (IsInt-truth_of (not (is_zero right.0))) right.2

IsInt-binary : (mode : Mode) (op : Op) (r s : Result ℤ Kind) (m : ℤ) → ((a : ℤ) → r ≡ Ok a → IsInt a) → ((b : ℤ) → s ≡ Ok b → IsInt b) → binary_of mode op r s ≡ Ok m → IsInt m
IsInt-binary mode And r s m f g e =
    let left = bind_ok r (λ a. cond (is_zero a) (Ok (pos 0)) (s >>= λ b. Ok (truth_of (not (is_zero b))))) m e in
    elim (chosen (is_zero left.0) (Ok (pos 0)) (s >>= λ b. Ok (truth_of (not (is_zero b)))) (Ok m) left.2) as (λ _. IsInt m) [
      | inl h ↦ IsInt-ok _ m _ refl (IsInt-truth_of false) h.1
      | inr h ↦ IsInt-second s m h.1
    ]
IsInt-binary mode Or r s m f g e =
    let left = bind_ok r (λ a. cond (is_zero a) (s >>= λ b. Ok (truth_of (not (is_zero b)))) (Ok (pos 1))) m e in
    elim (chosen (is_zero left.0) (s >>= λ b. Ok (truth_of (not (is_zero b)))) (Ok (pos 1)) (Ok m) left.2) as (λ _. IsInt m) [
      | inl h ↦ IsInt-second s m h.1
      | inr h ↦ IsInt-ok _ m _ refl (IsInt-truth_of true) h.1
    ]
IsInt-binary mode Add r s m f g e = IsInt-both mode Add r s m f g e
IsInt-binary mode Sub r s m f g e = IsInt-both mode Sub r s m f g e
IsInt-binary mode Mul r s m f g e = IsInt-both mode Mul r s m f g e
IsInt-binary mode Div r s m f g e = IsInt-both mode Div r s m f g e
IsInt-binary mode Rem r s m f g e = IsInt-both mode Rem r s m f g e
IsInt-binary mode Lt r s m f g e = IsInt-both mode Lt r s m f g e
IsInt-binary mode Le r s m f g e = IsInt-both mode Le r s m f g e
IsInt-binary mode Gt r s m f g e = IsInt-both mode Gt r s m f g e
IsInt-binary mode Ge r s m f g e = IsInt-both mode Ge r s m f g e
IsInt-binary mode Eq r s m f g e = IsInt-both mode Eq r s m f g e
IsInt-binary mode Ne r s m f g e = IsInt-both mode Ne r s m f g e

-- a value of an expression that is fit is an `int`
pub IsInt-value_of : (e : Term) (store : List ℤ) (mode : Mode) (m : ℤ) → IsTermOf (length store) e → All IsInt store → value_of e store mode ≡ Ok m → IsInt m
IsInt-value_of (Number n) store mode m h k e = IsInt-ok n m _ refl (record { low = omega (arith, ints); high = h.1 }) e
IsInt-value_of (Var x) store mode m h k e = IsInt-ok _ m _ refl (k x (pos 0) h) e
IsInt-value_of (Neg a) store mode m h k e =
    let step = bind_ok (value_of a store mode) (λ n. result_in mode (neg_ℤ n)) m e in
    IsInt-result_in mode (neg_ℤ step.0) m step.2
IsInt-value_of (Not a) store mode m h k e =
    let step = bind_ok (value_of a store mode) (λ n. Ok (truth_of (is_zero n))) m e in
    IsInt-ok _ m _ refl (IsInt-truth_of (is_zero step.0)) step.2
IsInt-value_of (Binary op a b) store mode m h k e =
    IsInt-binary mode op (value_of a store mode) (value_of b store mode) m (λ n. IsInt-value_of a store mode n h.0 k) (λ n. IsInt-value_of b store mode n h.1 k) e
