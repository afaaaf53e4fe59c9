-- Reading tokens one by one, with a stack of what is open.
use Rattle.std.specs.Prelude.{ℕ, suc, nat_lt, List, [], ◌∷◌, Option, Some, None, option_map, if◌then◌else◌}
use Rattle.cpp_conditions.specs.declared.operators.Operator.{Operator}
use Rattle.cpp_conditions.specs.declared.operators.Operator.TheVariants.{Plus, Minus}
use Rattle.cpp_conditions.specs.declared.operators.Prefix.{Prefix}
use Rattle.cpp_conditions.specs.declared.operators.Prefix.TheVariants.{Positive, Negative, Inverse}
use Rattle.cpp_conditions.specs.Expressions.{Expression, Number, Name, IsDefined, Unary, Binary}
use Rattle.cpp_conditions.specs.Grammar.{tighter}
use Rattle.cpp_conditions.specs.Tokens.{Token, Digits, Word, Defined, Open, Close, Bang, Oper}

-- what waits for the operand that comes: a parenthesis, a prefix, an operator with its left operand
pub data Frame : Type 0 where
  Paren : Frame
  Pre : (u : Prefix) → Frame
  Left : (op : Operator) (a : Expression) → Frame

-- the loosest level at which an operand may stand there
abbrev pub room : List Frame → ℕ
room [] = 6
room (Paren ∷ open_) = 6
room (Pre u ∷ open_) = 0
room (Left op a ∷ open_) = tighter op

-- an operand is wanted or was read; or `defined` was read, or `defined (`, or `defined (` and a name
pub data ExpressionState : Type 0 where
  Wants : (open_ : List Frame) → ExpressionState
  Has : (open_ : List Frame) (e : Expression) → ExpressionState
  Asks : (open_ : List Frame) → ExpressionState
  AsksInside : (open_ : List Frame) → ExpressionState
  Asked : (open_ : List Frame) (x : List ℕ) → ExpressionState

-- all operators up to a level that wait for this operand are applied
abbrev pub settle : ℕ → List Frame → Expression → List Frame × Expression
settle k [] e = ([], e)
settle k (Paren ∷ open_) e = (Paren ∷ open_, e)
settle k (Pre u ∷ open_) e = settle k open_ (Unary u e)
settle k (Left op a ∷ open_) e = if nat_lt (tighter op) k then settle k open_ (Binary op a e) else (Left op a ∷ open_, e)

abbrev pub closed_by : List Frame → Expression → Option ExpressionState
closed_by [] e = None
closed_by (Paren ∷ open_) e = Some (Has open_ e)
closed_by (Pre u ∷ open_) e = None
closed_by (Left op a ∷ open_) e = None

abbrev pub ended_by : List Frame → Expression → Option Expression
ended_by [] e = Some e
ended_by (frame ∷ open_) e = None

abbrev pub prefix_of : Operator → Option Prefix
prefix_of Plus = Some Positive
prefix_of Minus = Some Negative
prefix_of _ = None

abbrev pub wanted : List Frame → Token → Option ExpressionState
wanted open_ (Digits n) = Some (Has open_ (Number n))
wanted open_ (Word x) = Some (Has open_ (Name x))
wanted open_ Defined = Some (Asks open_)
wanted open_ Open = Some (Wants (Paren ∷ open_))
wanted open_ Bang = Some (Wants (Pre Inverse ∷ open_))
wanted open_ (Oper op) = option_map (λ u. Wants (Pre u ∷ open_)) (prefix_of op)
wanted open_ _ = None

abbrev pub gone_on : List Frame → Expression → Token → Option ExpressionState
gone_on open_ e Close = closed_by (settle 6 open_ e).0 (settle 6 open_ e).1
gone_on open_ e (Oper op) = Some (Wants (Left op (settle (suc (tighter op)) open_ e).1 ∷ (settle (suc (tighter op)) open_ e).0))
gone_on open_ e _ = None

abbrev pub asked : List Frame → Token → Option ExpressionState
asked open_ (Word x) = Some (Has open_ (IsDefined x))
asked open_ Open = Some (AsksInside open_)
asked open_ _ = None

abbrev pub asked_inside : List Frame → Token → Option ExpressionState
asked_inside open_ (Word x) = Some (Asked open_ x)
asked_inside open_ _ = None

abbrev pub asked_until : List Frame → List ℕ → Token → Option ExpressionState
asked_until open_ x Close = Some (Has open_ (IsDefined x))
asked_until open_ x _ = None

-- one token
abbrev pub step : ExpressionState → Token → Option ExpressionState
step (Wants open_) t = wanted open_ t
step (Has open_ e) t = gone_on open_ e t
step (Asks open_) t = asked open_ t
step (AsksInside open_) t = asked_inside open_ t
step (Asked open_ x) t = asked_until open_ x t

abbrev pub finish : ExpressionState → Option Expression
finish (Has open_ e) = ended_by (settle 6 open_ e).0 (settle 6 open_ e).1
finish _ = None

abbrev pub moved : Option ExpressionState → (ExpressionState → Option Expression) → Option Expression
moved None go = None
moved (Some state) go = go state

-- the expression of all tokens
unfoldable pub read : ExpressionState → List Token → Option Expression
read state [] = finish state
read state (t ∷ ts) = moved (step state t) (λ next. read next ts)
