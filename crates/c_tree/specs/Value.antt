-- The value of an expression at a store: a whole number, or the stop that comes first (ISO/IEC 9899:2011, 6.5, with the
-- operands taken from left to right, and an `int` of 32 bits in two's complement).
use Rattle.std.specs.Prelude.{ℤ, pos, negsuc, ◌+ℤ◌, ◌-ℤ◌, ◌*ℤ◌, ◌≤ℤ◌, neg_ℤ, int_div, int_rem, int_lt, int_le, Bool, true, false, not, ◌&&◌, ◌||◌, if◌then◌else◌, List, Result, Ok, Err, slice_index_or}
use Rattle.std.specs.Int.{int_rem_euclid}
use Rattle.std.specs.Ordering.{int_eq}
use Rattle.c_tree.specs.declared.tree.Kind.{Kind}
use Rattle.c_tree.specs.declared.tree.Kind.TheVariants.{Overflow, ZeroDivisor}
use Rattle.c_tree.specs.declared.tree.Mode.{Mode}
use Rattle.c_tree.specs.declared.tree.Mode.TheVariants.{Stop, Wrap}
use Rattle.c_tree.specs.declared.tree.Op.{Op}
use Rattle.c_tree.specs.declared.tree.Op.TheVariants.{Add, Sub, Mul, Div, Rem, Lt, Le, Gt, Ge, Eq, Ne, And, Or}
use Rattle.c_tree.specs.Tree.{Term, Number, Var, Neg, Not, Binary}

-- the least and the greatest `int`
abbrev pub least : ℤ
least = negsuc 2147483647

abbrev pub greatest : ℤ
greatest = pos 2147483647

pub record IsInt (n : ℤ) : Type 0 where
  pub low : least ≤ℤ n
  pub high : n ≤ℤ greatest

-- a result, which overflows outside `int`
abbrev pub in_range : ℤ → Result ℤ Kind
in_range n = if int_le least n && int_le n greatest then Ok n else Err Overflow

-- the number of `int` that differs from a result by a multiple of 2^32
abbrev pub wrapped : ℤ → ℤ
wrapped n = int_rem_euclid (n +ℤ pos 2147483648) (pos 4294967296) -ℤ pos 2147483648

-- the result of a negation, a sum, a difference or a product
abbrev pub result_in : Mode → ℤ → Result ℤ Kind
result_in Stop n = in_range n
result_in Wrap n = Ok (wrapped n)

-- 1 for true, and 0 for false
abbrev pub truth_of : Bool → ℤ
truth_of true = pos 1
truth_of false = pos 0

abbrev pub is_zero : ℤ → Bool
is_zero n = int_eq n (pos 0)

-- goes on with a number; a stop stays
infixl 10 ◌>>=◌
abbrev pub ◌>>=◌ : Result ℤ Kind → (ℤ → Result ℤ Kind) → Result ℤ Kind
(Ok n) >>= f = f n
(Err kind) >>= f = Err kind

-- a quotient, truncated toward zero, and the remainder that belongs to it; both stop at the least `int` by -1, in each mode
abbrev pub quotient_of : ℤ → ℤ → Result ℤ Kind
quotient_of a b = if is_zero b then Err ZeroDivisor else in_range (int_div a b)

abbrev pub remainder_of : ℤ → ℤ → Result ℤ Kind
remainder_of a b =
    if is_zero b then Err ZeroDivisor else (if int_eq a least && int_eq b (negsuc 0) then Err Overflow else Ok (int_rem a b))

-- an operator on two numbers
abbrev pub applied_of : Mode → Op → ℤ → ℤ → Result ℤ Kind
applied_of mode Add a b = result_in mode (a +ℤ b)
applied_of mode Sub a b = result_in mode (a -ℤ b)
applied_of mode Mul a b = result_in mode (a *ℤ b)
applied_of mode Div a b = quotient_of a b
applied_of mode Rem a b = remainder_of a b
applied_of mode Lt a b = Ok (truth_of (int_lt a b))
applied_of mode Le a b = Ok (truth_of (int_le a b))
applied_of mode Gt a b = Ok (truth_of (int_lt b a))
applied_of mode Ge a b = Ok (truth_of (int_le b a))
applied_of mode Eq a b = Ok (truth_of (int_eq a b))
applied_of mode Ne a b = Ok (truth_of (not (int_eq a b)))
applied_of mode And a b = Ok (truth_of (not (is_zero a) && not (is_zero b)))
applied_of mode Or a b = Ok (truth_of (not (is_zero a) || not (is_zero b)))

-- an operator on two operands, the left one first; `&&` and `||` take the right one only where it is needed
abbrev pub binary_of : Mode → Op → Result ℤ Kind → Result ℤ Kind → Result ℤ Kind
binary_of mode And left right = left >>= λ a. if is_zero a then Ok (pos 0) else right >>= λ b. Ok (truth_of (not (is_zero b)))
binary_of mode Or left right = left >>= λ a. if is_zero a then right >>= (λ b. Ok (truth_of (not (is_zero b)))) else Ok (pos 1)
binary_of mode op left right = left >>= λ a. right >>= λ b. applied_of mode op a b

-- the value of an expression
abbrev pub value_of : Term → List ℤ → Mode → Result ℤ Kind
value_of (Number n) store mode = Ok n
value_of (Var x) store mode = Ok (slice_index_or store x (pos 0))
value_of (Neg a) store mode = value_of a store mode >>= λ n. result_in mode (neg_ℤ n)
value_of (Not a) store mode = value_of a store mode >>= λ n. Ok (truth_of (is_zero n))
value_of (Binary op a b) store mode = binary_of mode op (value_of a store mode) (value_of b store mode)
