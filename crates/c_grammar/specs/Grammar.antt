-- Which lists of items spell an expression, a statement, a list of statements, declarations and a file. The grammar is a
-- part of that of ISO/IEC 9899:2011, 6.5 to 6.9, with the group directives of 6.10.1 and the definitions of 6.10.3 as items.
use Rattle.std.specs.Prelude.{◌≡◌, ℕ, ℤ, pos, negsuc, neg_ℤ, ◌+ℤ◌, ◌<ℤ◌, suc, Bool, true, false, ◌||◌, if◌then◌else◌, List, [], ◌∷◌, ◌++◌, map}
use Rattle.fam_outer.specs.declared.faults.Place.{Place}
use Rattle.c_tree.specs.declared.tree.Op.{Op}
use Rattle.c_tree.specs.declared.tree.Op.TheVariants.{Add, Sub, Mul, Div, Rem, Lt, Le, Gt, Ge, Eq, Ne, And, Or}
use Rattle.c_tree.specs.declared.lists.Guard.{Guard}
use Rattle.c_tree.specs.declared.lists.Declared.{Declared}
use Rattle.c_tree.specs.Value.{greatest}
use Rattle.c_tree.specs.Tree.{Term, Number, Var, Neg, Not, Binary, Break, Continue, Return, Code, Done, Assign, Input, Assert, If, While, Do, Leave, Block, Skip, Cond, followed, Whole}
use Rattle.c_tree.specs.Project.{projected_start}
use Rattle.c_grammar.specs.declared.items.Sign.{Sign}
use Rattle.c_grammar.specs.declared.items.Sign.TheVariants as signs
use Rattle.c_grammar.specs.declared.items.Item.{Item}
use Rattle.c_grammar.specs.Statics.{statics_by}
pub use Rattle.c_grammar.specs.Items.{at, is_group}
pub use Rattle.c_grammar.specs.Groups.{with_true, with_false, declared}

-- ---- expressions

-- how many levels of operators bind tighter
abbrev pub tighter : Op → ℕ
tighter Mul = 0
tighter Div = 0
tighter Rem = 0
tighter Add = 1
tighter Sub = 1
tighter Lt = 2
tighter Le = 2
tighter Gt = 2
tighter Ge = 2
tighter Eq = 3
tighter Ne = 3
tighter And = 4
tighter Or = 5

pub data Prefix : Type 0 where
  Positive : Prefix
  Negative : Prefix
  Inverse : Prefix

abbrev pub prefix_sign : Prefix → Sign
prefix_sign Positive = signs.Oper Add
prefix_sign Negative = signs.Oper Sub
prefix_sign Inverse = signs.Bang

-- `+e` is read as `e`
abbrev pub applied : Prefix → Term → Term
applied Positive e = e
applied Negative e = Neg e
applied Inverse e = Not e

-- an expression of a level: 0 is a unary one, 1 a product, then sums, relations, equalities, `&&`, and 6 is any
pub data Expresses : ℕ → List Item → Term → Type 0 where
  number : (p : Place) (n : ℤ) → Expresses 0 (at p (signs.Number n) ∷ []) (Number n)
  name : (p : Place) (x : ℕ) → Expresses 0 (at p (signs.Name x) ∷ []) (Var x)
  group : (p q : Place) {ts : List Item} {e : Term} → Expresses 6 ts e → Expresses 0 (at p signs.Open ∷ (ts ++ at q signs.Close ∷ [])) e
  prefix : (p : Place) (u : Prefix) {ts : List Item} {e : Term} → Expresses 0 ts e → Expresses 0 (at p (prefix_sign u) ∷ ts) (applied u e)
  loose : {k : ℕ} {ts : List Item} {e : Term} → Expresses k ts e → Expresses (suc k) ts e
  binary : (p : Place) (op : Op) {ts us : List Item} {a b : Term} → Expresses (suc (tighter op)) ts a → Expresses (tighter op) us b → Expresses (suc (tighter op)) (ts ++ at p (signs.Oper op) ∷ us) (Binary op a b)

-- ---- statements

-- what a compound assignment (6.5.16.2), as `x += e;`, makes of the variable and the expression: the sign, and the operator
-- that it means
pub data Update : Type 0 where
  Sum : Update
  Difference : Update
  Product : Update
  Quotient : Update
  Remainder : Update

abbrev pub update_sign : Update → Sign
update_sign Sum = signs.PlusEquals
update_sign Difference = signs.MinusEquals
update_sign Product = signs.StarEquals
update_sign Quotient = signs.SlashEquals
update_sign Remainder = signs.PercentEquals

abbrev pub update_op : Update → Op
update_op Sum = Add
update_op Difference = Sub
update_op Product = Mul
update_op Quotient = Div
update_op Remainder = Rem

-- the variable, changed by an expression
abbrev pub updated : Place → ℕ → Update → Term → Code
updated p x u e = Assign p x (Binary (update_op u) (Var x) e) Done

-- a step by one, behind the name (6.5.2.4) or before it (6.5.3.1): the sign
pub data Count : Type 0 where
  Raise : Count
  Lower : Count

abbrev pub count_sign : Count → Sign
count_sign Raise = signs.PlusPlus
count_sign Lower = signs.MinusMinus

abbrev pub by_one : Count → Update
by_one Raise = Sum
by_one Lower = Difference

-- the variable, one more or one less
abbrev pub changed_by_one : Place → ℕ → Count → Code
changed_by_one p x u = updated p x (by_one u) (Number (pos 1))

-- the name of a function outside (6.5.2.2), whose value is an input: `input`, or another one
pub data Callable : Sign → Type 0 where
  of_input : Callable signs.Input
  of_function : (k : ℕ) → Callable (signs.Function k)

-- a change of a variable, read as a statement at its first token: an assignment (6.5.16), of an expression or of an input, a
-- compound one, and a step by one, behind the name or before it
pub data Changes : List Item → Code → Type 0 where
  assignment : (p q : Place) (x : ℕ) {ts : List Item} {e : Term} → Expresses 6 ts e → Changes (at p (signs.Name x) ∷ at q signs.Equals ∷ ts) (Assign p x e Done)
  input_taken : (p q r s t : Place) (x : ℕ) {f : Sign} → Callable f → Changes (at p (signs.Name x) ∷ at q signs.Equals ∷ at r f ∷ at s signs.Open ∷ at t signs.Close ∷ []) (Input p x Done)
  compound_assignment : (p q : Place) (x : ℕ) (u : Update) {ts : List Item} {e : Term} → Expresses 6 ts e → Changes (at p (signs.Name x) ∷ at q (update_sign u) ∷ ts) (updated p x u e)
  count_behind : (p q : Place) (x : ℕ) (u : Count) → Changes (at p (signs.Name x) ∷ at q (count_sign u) ∷ []) (changed_by_one p x u)
  count_before : (p q : Place) (x : ℕ) (u : Count) → Changes (at p (count_sign u) ∷ at q (signs.Name x) ∷ []) (changed_by_one p x u)

-- what a `for` (6.8.5.3) does before its first test, and behind its body: nothing, or a change
pub data Clause : List Item → Code → Type 0 where
  no_clause : Clause [] Done
  clause : {ts : List Item} {c : Code} → Changes ts c → Clause ts c

-- the test of a `for` up to its semicolon, and the place of the loop, which is that of the first token; an absent one is 1, at the
-- semicolon
pub data Tests : List Item → Place → Term → Type 0 where
  no_test : (s : Place) → Tests (at s signs.Semicolon ∷ []) s (Number (pos 1))
  test : (s : Place) {x : Item} {ts : List Item} {e : Term} → Expresses 6 (x ∷ ts) e → Tests (x ∷ (ts ++ at s signs.Semicolon ∷ [])) x.place e

-- at most one item, with this sign
pub data Optional : Sign → List Item → Type 0 where
  absent : (s : Sign) → Optional s []
  present : (p : Place) (s : Sign) → Optional s (at p s ∷ [])

-- the words of the type `int` (6.7.2), which is the same as `int32_t`
pub data Typed : List Item → Type 0 where
  int : (p : Place) → Typed (at p signs.Int ∷ [])
  int32 : (p : Place) → Typed (at p signs.Int32 ∷ [])
  signed : (p : Place) → Typed (at p signs.Signed ∷ [])
  signed_int : (p q : Place) → Typed (at p signs.Signed ∷ at q signs.Int ∷ [])
  int_signed : (p q : Place) → Typed (at p signs.Int ∷ at q signs.Signed ∷ [])

-- what a declaration declares: variables, constants, or constants that are counted (6.7.2.2), of which the last one before has
-- this value
pub data Qualifier : Type 0 where
  Unqualified : Qualifier
  Constant : Qualifier
  Counted : (last : ℤ) → Qualifier

-- a type, and for constants `const` once, before or behind it (6.7.3)
pub data Qualified : Qualifier → List Item → Type 0 where
  unqualified : {us : List Item} → Typed us → Qualified Unqualified us
  const_before : (p : Place) {us : List Item} → Typed us → Qualified Constant (at p signs.Const ∷ us)
  const_behind : (p : Place) {us : List Item} → Typed us → Qualified Constant (us ++ at p signs.Const ∷ [])

-- a declarator in `main` (6.7.6), read as a statement at its name: without an initialiser the value is indeterminate (6.7.9p10),
-- which is any value, as that of an input is; a constant has an initialiser
pub data LocalDeclarator : Qualifier → List Item → Code → Type 0 where
  uninitialised : (p : Place) (x : ℕ) → LocalDeclarator Unqualified (at p (signs.Name x) ∷ []) (Input p x Done)
  initialised : (p q : Place) (x : ℕ) {kind : Qualifier} {ts : List Item} {e : Term} → Expresses 6 ts e → LocalDeclarator kind (at p (signs.Name x) ∷ at q signs.Equals ∷ ts) (Assign p x e Done)
  from_call : (p q r s t : Place) (x : ℕ) {kind : Qualifier} {f : Sign} → Callable f → LocalDeclarator kind (at p (signs.Name x) ∷ at q signs.Equals ∷ at r f ∷ at s signs.Open ∷ at t signs.Close ∷ []) (Input p x Done)

-- ---- declarations

-- the first constant that is counted is 0
abbrev pub uncounted : Qualifier
uncounted = Counted (negsuc 0)

-- what comes behind a declarator with this value
abbrev pub behind : Qualifier → ℤ → Qualifier
behind Unqualified n = Unqualified
behind Constant n = Constant
behind (Counted last) n = Counted n

-- what a declaration begins with: its type, and before it at most one item with this sign; or `enum {`
pub data Begins : Sign → Qualifier → List Item → Type 0 where
  only_type : (s : Sign) {us : List Item} {kind : Qualifier} → Qualified kind us → Begins s kind us
  then_type : (p : Place) (s : Sign) {us : List Item} {kind : Qualifier} → Qualified kind us → Begins s kind (at p s ∷ us)
  enumeration : (p q : Place) (s : Sign) → Begins s uncounted (at p signs.Enum ∷ at q signs.LeftBrace ∷ [])

-- a variable with its start value, which is 0 where none stands; a constant has one, or is counted: one more than the last, and
-- an `int`
pub data Declarator : Qualifier → List Item → ℕ → ℤ → Type 0 where
  bare : (p : Place) (x : ℕ) → Declarator Unqualified (at p (signs.Name x) ∷ []) x (pos 0)
  positive : (p q r : Place) (x : ℕ) (n : ℤ) {kind : Qualifier} → Declarator kind (at p (signs.Name x) ∷ at q signs.Equals ∷ at r (signs.Number n) ∷ []) x n
  negative : (p q r s : Place) (x : ℕ) (n : ℤ) {kind : Qualifier} → Declarator kind (at p (signs.Name x) ∷ at q signs.Equals ∷ at r (signs.Oper Sub) ∷ at s (signs.Number n) ∷ []) x (neg_ℤ n)
  counted : (p : Place) (x : ℕ) (last : ℤ) → last <ℤ greatest → Declarator (Counted last) (at p (signs.Name x) ∷ []) x (last +ℤ pos 1)

-- what ends a declaration behind its last declarator: a semicolon, and before it the brace of an `enum`, perhaps behind a comma
pub data Ending : Qualifier → List Item → Type 0 where
  variables_end : (p : Place) → Ending Unqualified (at p signs.Semicolon ∷ [])
  constants_end : (p : Place) → Ending Constant (at p signs.Semicolon ∷ [])
  enumeration_end : (last : ℤ) (p q : Place) → Ending (Counted last) (at p signs.RightBrace ∷ at q signs.Semicolon ∷ [])
  comma_end : (last : ℤ) (p q r : Place) → Ending (Counted last) (at p signs.Comma ∷ at q signs.RightBrace ∷ at r signs.Semicolon ∷ [])

-- a definition (6.10.3) of a constant: a number, perhaps negative and perhaps in parentheses. It ends with its line, so no item
-- ends it
pub data Defines : List Item → ℕ → ℤ → Type 0 where
  defined : (p q r : Place) (x : ℕ) (n : ℤ) → Defines (at p signs.Define ∷ at q (signs.Name x) ∷ at r (signs.Number n) ∷ []) x n
  negative_defined : (p q r s : Place) (x : ℕ) (n : ℤ) → Defines (at p signs.Define ∷ at q (signs.Name x) ∷ at r (signs.Oper Sub) ∷ at s (signs.Number n) ∷ []) x (neg_ℤ n)
  enclosed : (p q r s t : Place) (x : ℕ) (n : ℤ) → Defines (at p signs.Define ∷ at q (signs.Name x) ∷ at r signs.Open ∷ at s (signs.Number n) ∷ at t signs.Close ∷ []) x n
  negative_enclosed : (p q r s t u : Place) (x : ℕ) (n : ℤ) → Defines (at p signs.Define ∷ at q (signs.Name x) ∷ at r signs.Open ∷ at s (signs.Oper Sub) ∷ at t (signs.Number n) ∷ at u signs.Close ∷ []) x (neg_ℤ n)

-- declarations within guards; declarators up to what ends them; what closes a group, where these guards hold in its later parts
pub data Part : Type 0 where
  Outer : (gs : List Guard) → Part
  Vars : (kind : Qualifier) (gs : List Guard) → Part
  Later : (gs : List Guard) → Part

-- the declarators that a list of items declares, in its order; a declaration of a function leaves nothing (6.7.6.3)
pub data Declares : Part → List Item → List Declared → Type 0 where
  nothing : (gs : List Guard) → Declares (Outer gs) [] []
  variables : (gs : List Guard) {us vs ws : List Item} {ds es : List Declared} {kind : Qualifier} → Begins signs.Static kind us → Declares (Vars kind gs) vs ds → Declares (Outer gs) ws es → Declares (Outer gs) (us ++ (vs ++ ws)) (ds ++ es)
  prototype : (q r s t : Place) (gs : List Guard) {f : Sign} {us vs ws : List Item} {es : List Declared} → Begins signs.Extern Unqualified us → Callable f → Optional signs.Void vs → Declares (Outer gs) ws es → Declares (Outer gs) (us ++ at q f ∷ at r signs.Open ∷ (vs ++ at s signs.Close ∷ at t signs.Semicolon ∷ ws)) es
  void_prototype : (p q r s t : Place) (k : ℕ) (gs : List Guard) {us vs ws : List Item} {es : List Declared} → Optional signs.Extern us → Optional signs.Void vs → Declares (Outer gs) ws es → Declares (Outer gs) (us ++ at p signs.Void ∷ at q (signs.Function k) ∷ at r signs.Open ∷ (vs ++ at s signs.Close ∷ at t signs.Semicolon ∷ ws)) es
  definition : (gs : List Guard) {us ws : List Item} {es : List Declared} {x : ℕ} {n : ℤ} → Defines us x n → Declares (Outer gs) ws es → Declares (Outer gs) (us ++ ws) (declared x n gs ∷ es)
  section : (p : Place) (n : ℕ) (gs : List Guard) {us vs ws : List Item} {cs ds es : List Declared} → Declares (Outer (with_true gs n)) us cs → Declares (Later (with_false gs n)) vs ds → Declares (Outer gs) ws es → Declares (Outer gs) (at p (signs.GroupIf n) ∷ (us ++ (vs ++ ws))) (cs ++ (ds ++ es))
  last_var : (gs : List Guard) {us vs : List Item} {x : ℕ} {n : ℤ} {kind : Qualifier} → Declarator kind us x n → Ending kind vs → Declares (Vars kind gs) (us ++ vs) (declared x n gs ∷ [])
  next_var : (p : Place) (gs : List Guard) {us vs : List Item} {x : ℕ} {n : ℤ} {ds : List Declared} {kind : Qualifier} → Declarator kind us x n → Declares (Vars (behind kind n) gs) vs ds → Declares (Vars kind gs) (us ++ at p signs.Comma ∷ vs) (declared x n gs ∷ ds)
  end_part : (p : Place) (gs : List Guard) → Declares (Later gs) (at p signs.GroupEnd ∷ []) []
  else_part : (p q : Place) (gs : List Guard) {us : List Item} {ds : List Declared} → Declares (Outer gs) us ds → Declares (Later gs) (at p signs.GroupElse ∷ (us ++ at q signs.GroupEnd ∷ [])) ds
  elif_part : (p : Place) (n : ℕ) (gs : List Guard) {us vs : List Item} {cs ds : List Declared} → Declares (Outer (with_true gs n)) us cs → Declares (Later (with_false gs n)) vs ds → Declares (Later gs) (at p (signs.GroupElif n) ∷ (us ++ vs)) (cs ++ ds)

-- ---- lists of statements

-- a list; a statement, and whether it ends in an `if` without `else`; what closes a group, with its later parts; each of them in the
-- body of a loop or not; and the declarators of a declaration in `main`, up to its semicolon
pub data Shape : Type 0 where
  Listed : (inside : Bool) → Shape
  Stated : (inside dangles : Bool) → Shape
  Chained : (inside : Bool) → Shape
  Locals : (kind : Qualifier) → Shape

-- a statement is a list of one, and a `for` a list of its loop, behind the change before the first test; an absent `else` is the
-- empty list; `#elif` opens a choice in the no side; a declaration is a list of a statement for each of its declarators,
-- and a static one leaves no statement (6.2.4p3): its variables have their values from the start. `break` and `continue` stand in
-- the body of a loop (6.8.6.2 and 6.8.6.3), and the test of a `do` (6.8.5.2) has the place of its first token. A `for` that declares
-- variables, each with an initialiser, as constants have one, is a block at its place around the declaration and the loop (6.8.5p5)
pub data Writes : Shape → List Item → Code → Type 0 where
  none : {i : Bool} → Writes (Listed i) [] Done
  more : {b : Bool} {ts us : List Item} {c d : Code} {i : Bool} → Writes (Stated i b) ts c → Writes (Listed i) us d → Writes (Listed i) (ts ++ us) (followed c d)
  choice : (p : Place) (n : ℕ) {ts us vs : List Item} {c d e : Code} {i : Bool} → Writes (Listed i) ts c → Writes (Chained i) us d → Writes (Listed i) vs e → Writes (Listed i) (at p (signs.GroupIf n) ∷ (ts ++ (us ++ vs))) (Cond n c d e)
  local : {ts us vs : List Item} {c d : Code} {kind : Qualifier} {i : Bool} → Qualified kind ts → Writes (Locals kind) us c → Writes (Listed i) vs d → Writes (Listed i) (ts ++ (us ++ vs)) (followed c d)
  static_local : (p : Place) {ts us vs : List Item} {ds : List Declared} {c : Code} {kind : Qualifier} {i : Bool} → Qualified kind ts → Declares (Vars kind []) us ds → Writes (Listed i) vs c → Writes (Listed i) (at p signs.Static ∷ (ts ++ (us ++ vs))) c
  last_local : (p : Place) {ts : List Item} {c : Code} {kind : Qualifier} → LocalDeclarator kind ts c → Writes (Locals kind) (ts ++ at p signs.Semicolon ∷ []) c
  next_local : (p : Place) {ts us : List Item} {c d : Code} {kind : Qualifier} → LocalDeclarator kind ts c → Writes (Locals kind) us d → Writes (Locals kind) (ts ++ at p signs.Comma ∷ us) (followed c d)
  ends : (p : Place) {i : Bool} → Writes (Chained i) (at p signs.GroupEnd ∷ []) Done
  otherwise : (p q : Place) {ts : List Item} {c : Code} {i : Bool} → Writes (Listed i) ts c → Writes (Chained i) (at p signs.GroupElse ∷ (ts ++ at q signs.GroupEnd ∷ [])) c
  elif : (p : Place) (n : ℕ) {ts us : List Item} {c d : Code} {i : Bool} → Writes (Listed i) ts c → Writes (Chained i) us d → Writes (Chained i) (at p (signs.GroupElif n) ∷ (ts ++ us)) (Cond n c d Done)
  change : (r : Place) {ts : List Item} {c : Code} {i : Bool} → Changes ts c → Writes (Stated i false) (ts ++ at r signs.Semicolon ∷ []) c
  call : (p q r s : Place) {f : Sign} {i : Bool} → Callable f → Writes (Stated i false) (at p f ∷ at q signs.Open ∷ at r signs.Close ∷ at s signs.Semicolon ∷ []) (Skip p Done)
  void_call : (p q r s t u v : Place) {f : Sign} {i : Bool} → Callable f → Writes (Stated i false) (at p signs.Open ∷ at q signs.Void ∷ at r signs.Close ∷ at s f ∷ at t signs.Open ∷ at u signs.Close ∷ at v signs.Semicolon ∷ []) (Skip p Done)
  assert : (p q r s : Place) {ts : List Item} {e : Term} {i : Bool} → Expresses 6 ts e → Writes (Stated i false) (at p signs.Assert ∷ at q signs.Open ∷ (ts ++ at r signs.Close ∷ at s signs.Semicolon ∷ [])) (Assert p e Done)
  skip : (p : Place) {i : Bool} → Writes (Stated i false) (at p signs.Semicolon ∷ []) (Skip p Done)
  block : (p q : Place) {ts : List Item} {c : Code} {i : Bool} → Writes (Listed i) ts c → Writes (Stated i false) (at p signs.LeftBrace ∷ (ts ++ at q signs.RightBrace ∷ [])) (Block p c Done)
  while : (p q r : Place) {b : Bool} {ts us : List Item} {e : Term} {c : Code} {i : Bool} → Expresses 6 ts e → Writes (Stated true b) us c → Writes (Stated i b) (at p signs.While ∷ at q signs.Open ∷ (ts ++ at r signs.Close ∷ us)) (While p e Done c Done)
  for : (p q r s : Place) {b : Bool} {ts us vs ws : List Item} {start step c : Code} {t : Place} {e : Term} {i : Bool} → Clause ts start → Tests us t e → Clause vs step → Writes (Stated true b) ws c → Writes (Stated i b) (at p signs.For ∷ at q signs.Open ∷ (ts ++ at r signs.Semicolon ∷ (us ++ (vs ++ at s signs.Close ∷ ws)))) (followed start (While t e step c Done))
  declaring_for : (p q s : Place) {b : Bool} {ts ds us vs ws : List Item} {start step c : Code} {t : Place} {e : Term} {kind : Qualifier} {i : Bool} → Qualified kind ts → Writes (Locals Constant) ds start → Tests us t e → Clause vs step → Writes (Stated true b) ws c → Writes (Stated i b) (at p signs.For ∷ at q signs.Open ∷ (ts ++ (ds ++ (us ++ (vs ++ at s signs.Close ∷ ws))))) (Block p (followed start (While t e step c Done)) Done)
  if_then : (p q r : Place) {b : Bool} {ts us : List Item} {e : Term} {c : Code} {i : Bool} → Expresses 6 ts e → Writes (Stated i b) us c → Writes (Stated i true) (at p signs.If ∷ at q signs.Open ∷ (ts ++ at r signs.Close ∷ us)) (If p e c Done Done)
  if_else : (p q r s : Place) {b : Bool} {ts us vs : List Item} {e : Term} {c d : Code} {i : Bool} → Expresses 6 ts e → Writes (Stated i false) us c → Writes (Stated i b) vs d → Writes (Stated i b) (at p signs.If ∷ at q signs.Open ∷ (ts ++ at r signs.Close ∷ (us ++ at s signs.Else ∷ vs))) (If p e c d Done)
  do_while : (p q r s t : Place) {b : Bool} {ts us : List Item} {x : Item} {e : Term} {c : Code} {i : Bool} → Writes (Stated true b) ts c → Expresses 6 (x ∷ us) e → Writes (Stated i false) (at p signs.Do ∷ (ts ++ at q signs.While ∷ at r signs.Open ∷ x ∷ (us ++ at s signs.Close ∷ at t signs.Semicolon ∷ []))) (Do p c x.place e Done)
  break : (p q : Place) → Writes (Stated true false) (at p signs.Break ∷ at q signs.Semicolon ∷ []) (Leave p Break Done)
  continue : (p q : Place) → Writes (Stated true false) (at p signs.Continue ∷ at q signs.Semicolon ∷ []) (Leave p Continue Done)
  return : (p q : Place) {ts : List Item} {e : Term} {i : Bool} → Expresses 6 ts e → Writes (Stated i false) (at p signs.Return ∷ (ts ++ at q signs.Semicolon ∷ [])) (Leave p (Return e) Done)

-- ---- files

-- groups, or what closes one
pub data Gap : Type 0 where
  Gaps : Gap
  GapRest : Gap

-- groups that hold no token
pub data Empty : Gap → List Item → Type 0 where
  no_more : Empty Gaps []
  empty_section : (p : Place) (n : ℕ) {us vs ws : List Item} → Empty Gaps us → Empty GapRest vs → Empty Gaps ws → Empty Gaps (at p (signs.GroupIf n) ∷ (us ++ (vs ++ ws)))
  empty_end : (p : Place) → Empty GapRest (at p signs.GroupEnd ∷ [])
  empty_else : (p q : Place) {us : List Item} → Empty Gaps us → Empty GapRest (at p signs.GroupElse ∷ (us ++ at q signs.GroupEnd ∷ []))
  empty_elif : (p : Place) (n : ℕ) {us vs : List Item} → Empty Gaps us → Empty GapRest vs → Empty GapRest (at p (signs.GroupElif n) ∷ (us ++ vs))

-- the statements of `main`, up to its closing brace, and what may follow
pub data Body : List Item → Code → Place → Type 0 where
  body : (p : Place) {us vs : List Item} {c : Code} → Writes (Listed false) us c → Empty Gaps vs → Body (us ++ at p signs.RightBrace ∷ vs) c p

-- `main`
pub data Main : List Item → Code → Place → Type 0 where
  main : (q r s t u : Place) {ts us vs : List Item} {c : Code} → Typed ts → Optional signs.Void us → Body vs c u → Main (ts ++ at q signs.Main ∷ at r signs.Open ∷ (us ++ at s signs.Close ∷ at t signs.LeftBrace ∷ vs)) c u

-- what a file has: its declarators in the order of the text, its statements, and the place of its last brace
pub record File : Type 0 where
  pub declared : List Declared
  pub body : Code
  pub end : Place

abbrev pub file_of : List Declared → Code → Place → File
file_of ds c p = record { declared = ds; body = c; end = p }

-- declarations, and then `main`
pub data Forms : List Item → File → Type 0 where
  file : {us vs : List Item} {ds : List Declared} {c : Code} {p : Place} → Declares (Outer []) us ds → Main vs c p → Forms (us ++ vs) (file_of ds c p)

abbrev pub has_groups : List Item → Bool
has_groups [] = false
has_groups (x ∷ ts) = is_group x.sign || has_groups ts

abbrev pub zeros : List (List ℕ) → List ℤ
zeros names = map (λ name. pos 0) names

-- the declarators of a file: those that it declares before `main`, and the static ones of `main`
abbrev pub held_of : List Item → File → List Declared
held_of items f = f.declared ++ statics_by items

-- the program of a file over a list of names: without groups it is plain, and its start values are those of the last
-- declaration of each name, else 0; with groups it keeps the declarators
abbrev pub whole_of : List (List ℕ) → List Item → File → Whole
whole_of names items f = record {
  names = names;
  start = if has_groups items then zeros names else projected_start [] (held_of items f) (zeros names);
  declared = if has_groups items then held_of items f else [];
  body = f.body;
  end = f.end;
}

-- a list of items spells a program over a list of names
pub record Spells (names : List (List ℕ)) (p : Whole) (items : List Item) : Type 0 where
  pub file : File
  pub forms : Forms items file
  pub is : p ≡ whole_of names items file
