-- Expressions of conditions, and C's value of them (ISO/IEC 9899:2011, 6.10.1 and 6.5).
use Rattle.std.specs.Prelude.{ℕ, suc, ℤ, pos, neg_ℤ, ◌+ℤ◌, ◌-ℤ◌, ◌*ℤ◌, int_lt, int_le, Bool, true, false, not, ◌&&◌, ◌||◌, if◌then◌else◌, List, [], ◌∷◌, Option, Some, None, option_map, slice_index_or}
use Rattle.std.specs.Str.{bytes_eq}
use Rattle.std.specs.Ordering.{int_eq}
use Rattle.linear_atoms.specs.declared.atoms.Feature.{Feature}
use Rattle.linear_atoms.specs.Texts.{boolean_at}
use Rattle.cpp_conditions.specs.declared.operators.Operator.{Operator}
use Rattle.cpp_conditions.specs.declared.operators.Operator.TheVariants.{Times, Plus, Minus, Less, AtMost, Greater, AtLeast, Equal, Differs, Both, Either}
use Rattle.cpp_conditions.specs.declared.operators.Prefix.{Prefix}
use Rattle.cpp_conditions.specs.declared.operators.Prefix.TheVariants.{Positive, Negative, Inverse}

pub data Expression : Type 0 where
  Number : (n : ℕ) → Expression
  Name : (name : List ℕ) → Expression
  IsDefined : (name : List ℕ) → Expression
  Unary : (u : Prefix) (e : Expression) → Expression
  Binary : (op : Operator) (a b : Expression) → Expression

-- the place of the feature with this name
abbrev pub found : List ℕ → List Feature → Option ℕ
found name [] = None
found name (f ∷ fs) = if bytes_eq f.name name then Some 0 else option_map suc (found name fs)

-- a feature's name is its value, any other name is 0
abbrev pub value_at : List ℤ → Option ℕ → ℤ
value_at values None = pos 0
value_at values (Some n) = slice_index_or values n (pos 0)

-- `defined` is 1 for an integer feature, the value of a Boolean one, and 0 for any other name
abbrev pub defined_at : List Feature → List ℤ → Option ℕ → ℤ
defined_at features values None = pos 0
defined_at features values (Some n) = if boolean_at features n then slice_index_or values n (pos 0) else pos 1

abbrev pub bit : Bool → ℤ
bit true = pos 1
bit false = pos 0

abbrev pub is_nonzero : ℤ → Bool
is_nonzero z = not (int_eq z (pos 0))

abbrev pub before : Prefix → ℤ → ℤ
before Positive x = x
before Negative x = neg_ℤ x
before Inverse x = bit (not (is_nonzero x))

abbrev pub between : Operator → ℤ → ℤ → ℤ
between Times x y = x *ℤ y
between Plus x y = x +ℤ y
between Minus x y = x -ℤ y
between Less x y = bit (int_lt x y)
between AtMost x y = bit (int_le x y)
between Greater x y = bit (int_lt y x)
between AtLeast x y = bit (int_le y x)
between Equal x y = bit (int_eq x y)
between Differs x y = bit (not (int_eq x y))
between Both x y = bit (is_nonzero x && is_nonzero y)
between Either x y = bit (is_nonzero x || is_nonzero y)

abbrev pub value : List Feature → List ℤ → Expression → ℤ
value features values (Number n) = pos n
value features values (Name name) = value_at values (found name features)
value features values (IsDefined name) = defined_at features values (found name features)
value features values (Unary u e) = before u (value features values e)
value features values (Binary op a b) = between op (value features values a) (value features values b)
