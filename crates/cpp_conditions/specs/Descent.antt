-- What the functions of the descent answer, as the machine does it.
use Rattle.std.specs.Prelude.{◌≡◌, ⊤, ℕ, suc, ◌≤◌, List, ◌∷◌, map, Option, Some, None, Result, Ok, Err}
use Rattle.std.specs.Borrow.{Bor}
use Rattle.cpp_conditions.specs.declared.expression_refusal.ExpressionRefusal.{ExpressionRefusal}
use Rattle.cpp_conditions.specs.declared.expression_refusal.ExpressionRefusal.TheVariants as stops
use Rattle.cpp_conditions.specs.declared.tokens.Token as coded
use Rattle.cpp_conditions.specs.declared.expressions.Expression as trees
use Rattle.cpp_conditions.specs.declared.expressions.Expression.TheVariants as variants
use Rattle.cpp_conditions.specs.Expressions.{Expression, Number, Name, IsDefined, Unary, Binary}
use Rattle.cpp_conditions.specs.Grammar.{tighter}
use Rattle.cpp_conditions.specs.Machine.{Frame, room, Wants, Has, Asks, prefix_of, read}
use Rattle.cpp_conditions.specs.Scanning.{token}
use Rattle.cpp_conditions.specs.Integers.{integer_value}
use Rattle.cpp_conditions.specs.Tokens.{Token, Open, Close, Bang, Oper}

-- an expression that was read as a plain one
abbrev pub expression : trees.Expression → Expression
expression (variants.Number ds) = Number (integer_value ds.now)
expression (variants.Name name) = Name name.now
expression (variants.IsDefined name) = IsDefined name.now
expression (variants.Unary' u p e) = Unary u (expression e)
expression (variants.Binary' op p a q b) = Binary op (expression a) (expression b)

abbrev pub plain : List coded.Token → List Token
plain = map token

-- the list doesn't begin with an operator that is tighter than the level
abbrev pub Loose : ℕ → List Token → Type 0
Loose k (Oper op ∷ w) = k ≤ suc (tighter op)
Loose k _ = Unit {0}

abbrev pub IsNoClose : List Token → Type 0
IsNoClose (Close ∷ w) = ⊥
IsNoClose _ = Unit {0}

abbrev pub IsNoOpen : List Token → Type 0
IsNoOpen (Open ∷ w) = ⊥
IsNoOpen _ = Unit {0}

abbrev pub IsNoPrefix : List Token → Type 0
IsNoPrefix (Bang ∷ w) = ⊥
IsNoPrefix (Oper op ∷ w) = prefix_of op ≡ None
IsNoPrefix _ = Unit {0}

-- whatever is open, if it has room for the level, the machine gets from the one to the other
abbrev pub Goes : ℕ → List Token → Expression → List Token → Type 0
Goes k ts e rest = (open_ : List Frame) → k ≤ room open_ → read (Wants open_) ts ≡ read (Has open_ e) rest

abbrev pub Halts : ℕ → List Token → Type 0
Halts k ts = (open_ : List Frame) → k ≤ room open_ → read (Wants open_) ts ≡ None

abbrev pub Falls : ℕ → ExpressionRefusal → List Token → Type 0
Falls k stops.NoMemory ts = ⊤
Falls k stops.Wrong ts = Halts k ts

abbrev pub Climbs : ℕ → Result (trees.Expression × Bor (List coded.Token)) ExpressionRefusal → List Token → Type 0
Climbs k (Ok x) ts = Goes k ts (expression x.0) (plain x.1.now)
Climbs k (Err e) ts = Falls k e ts

-- behind `defined`
abbrev pub Asking : Option (Bor (List ℕ) × Bor (List coded.Token)) → List Token → Type 0
Asking (Some x) ts = (open_ : List Frame) → read (Asks open_) ts ≡ read (Has open_ (IsDefined x.0.now)) (plain x.1.now)
Asking None ts = (open_ : List Frame) → read (Asks open_) ts ≡ None

-- a number, a name or `defined` of a name; where there is none, nothing but a prefix or a parenthesis goes on
abbrev pub Singles : Option (trees.Expression × Bor (List coded.Token)) → List Token → Type 0
Singles (Some x) ts = (open_ : List Frame) → read (Wants open_) ts ≡ read (Has open_ (expression x.0)) (plain x.1.now)
Singles None ts = IsNoPrefix ts → IsNoOpen ts → (open_ : List Frame) → read (Wants open_) ts ≡ None

abbrev pub Made : Result trees.Expression ExpressionRefusal → Expression → Type 0
Made (Ok e) t = expression e ≡ t
Made (Err stops.NoMemory) t = ⊤
Made (Err stops.Wrong) t = ⊥

abbrev pub AnswersExpression : Result trees.Expression ExpressionRefusal → Option Expression → Type 0
AnswersExpression (Ok e) o = o ≡ Some (expression e)
AnswersExpression (Err stops.NoMemory) o = ⊤
AnswersExpression (Err stops.Wrong) o = o ≡ None
