-- What a reader makes: a well-formed program.
use Rattle.std.specs.Prelude.{◌≡◌, ℕ, ◌+◌, ◌≤◌, ◌<◌, max, List, [], ◌∷◌, IsTrue, length}
use Rattle.std.specs.List.{All}
use Rattle.fam_outer.specs.declared.faults.Place.{Place}
use Rattle.fam_outer.specs.Places.{is_before}
use Rattle.c_tree.specs.Tree.{Term, Number, Var, Neg, Not, Binary, Jump, Break, Continue, Return, Code, Done, Assign, Input, Assert, If, While, Do, Leave, Block, Skip, Cond, Whole}
use Rattle.c_tree.specs.Value.{IsInt}
use Rattle.c_tree.specs.declared.lists.Declared.{Declared}
use Rattle.c_tree.specs.Fit.{IsCodeOf, IsPlain}
use Rattle.c_tree.specs.Places.{program_places}

-- a place is before each of a list
abbrev pub IsBeforeAll : Place → List Place → Type 0
IsBeforeAll p [] = Unit {0}
IsBeforeAll p (q ∷ qs) = IsTrue (is_before p q) × IsBeforeAll p qs

-- places that rise strictly, so that no two are one
abbrev pub IsRising : List Place → Type 0
IsRising [] = Unit {0}
IsRising (p ∷ ps) = IsBeforeAll p ps × IsRising ps

-- how many operators an expression has
abbrev pub operators : Term → ℕ
operators (Number n) = 0
operators (Var x) = 0
operators (Neg a) = operators a + 1
operators (Not a) = operators a + 1
operators (Binary op a b) = operators a + operators b + 1

-- how many statements and choices stand around the innermost
abbrev pub nesting : Code → ℕ
nesting Done = 0
nesting (Assign place target value rest) = nesting rest
nesting (Input place target rest) = nesting rest
nesting (Assert place test rest) = nesting rest
nesting (If place test p q rest) = max (max (nesting p) (nesting q) + 1) (nesting rest)
nesting (While place test step body rest) = max (max (nesting step) (nesting body) + 1) (nesting rest)
nesting (Do place body at test rest) = max (nesting body + 1) (nesting rest)
nesting (Leave place jump rest) = nesting rest
nesting (Block place body rest) = max (nesting body + 1) (nesting rest)
nesting (Skip place rest) = nesting rest
nesting (Cond number p q rest) = max (max (nesting p) (nesting q) + 1) (nesting rest)

abbrev pub IsSmallJump : Jump → Type 0
IsSmallJump Break = Unit {0}
IsSmallJump Continue = Unit {0}
IsSmallJump (Return e) = operators e ≤ 64

-- the expressions are small
abbrev pub IsSmall : Code → Type 0
IsSmall Done = Unit {0}
IsSmall (Assign place target value rest) = (operators value ≤ 65) × IsSmall rest
IsSmall (Input place target rest) = IsSmall rest
IsSmall (Assert place test rest) = (operators test ≤ 64) × IsSmall rest
IsSmall (If place test p q rest) = (operators test ≤ 64) × IsSmall p × IsSmall q × IsSmall rest
IsSmall (While place test step body rest) = (operators test ≤ 64) × IsSmall step × IsSmall body × IsSmall rest
IsSmall (Do place body at test rest) = (operators test ≤ 64) × IsSmall body × IsSmall rest
IsSmall (Leave place jump rest) = IsSmallJump jump × IsSmall rest
IsSmall (Block place body rest) = IsSmall body × IsSmall rest
IsSmall (Skip place rest) = IsSmall rest
IsSmall (Cond number p q rest) = IsSmall p × IsSmall q × IsSmall rest

-- a declarator of a program with so many variables
pub record IsDeclaredOf (count : ℕ) (d : Declared) : Type 0 where
  pub target : d.target < count
  pub value : IsInt d.value

-- a well-formed program: at most 48 variables, start values within `int`, numbers of variables below their count,
-- literals of `int`, places that rise in the order of the text, and the limits of depth. In a text at most 64 constructs stand
-- in one another, and a `for` that declares variables is two statements here, a block and the loop in it.
pub record IsProgram (p : Whole) : Type 0 where
  pub few : length p.names ≤ 48
  pub starts : length p.start ≡ length p.names
  pub ints : All IsInt p.start
  pub declared : All (IsDeclaredOf (length p.names)) p.declared
  pub names : IsCodeOf (length p.names) p.body
  pub rising : IsRising (program_places p)
  pub nested : nesting p.body ≤ 128
  pub small : IsSmall p.body

-- a plain program: no group of statements and no guarded declarator is left
pub record IsPlainProgram (p : Whole) : Type 0 where
  pub body : IsPlain p.body
  pub declared : p.declared ≡ []
