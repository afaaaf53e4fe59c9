-- Reading item by item: statements.
use Rattle.std.specs.Prelude.{ℕ, pos, Bool, true, false, List, [], ◌∷◌, Option, Some, None}
use Rattle.fam_outer.specs.declared.faults.Place.{Place}
use Rattle.c_tree.specs.declared.tree.Op.TheVariants.{Sub}
use Rattle.c_tree.specs.Tree.{Term, Number, Code, Break, Continue, Done, Input, If, While, Leave, Block, Skip, Cond}
use Rattle.c_grammar.specs.declared.items.Sign.{Sign}
use Rattle.c_grammar.specs.declared.items.Sign.TheVariants as signs
use Rattle.c_grammar.specs.Grammar.{Sum, Difference, Product, Quotient, Remainder, Count, Raise, Lower, changed_by_one, Qualifier, Unqualified, Constant, file_of}
use Rattle.c_grammar.specs.States.{Stack, Top, Braces, Yes, No, ThenOf, ElseOf, LoopOf, DoOf, Start, ChangeStart, Onward, InList, AtTest, Scope, ListScope, ForScope, Site, AsStatement, AsStart, AsStep, ToAssign, ToInitialise, ToUpdate, ToAssert, ToChoose, ToLoop, ToRepeat, ToRedo, ToReturn, Pending, OfStatement, OfLocal, TypeWords, OneInt, OneSigned, WholeType, StaticPart, BehindStatic, BehindStaticConst, BehindStaticType, BeforeStaticName, BehindStaticName, BehindStaticEquals, BehindStaticMinus, BehindStaticNumber, ReadingState, Ready, LocalConst, LocalType, NextLocal, LocalNamed, InStatic, Ended, Wants, Counting, Named, Opens, ForOpens, TestComes, StepComes, RedoOpens, VoidComes, CallOpens, Finishing, Over}
use Rattle.c_grammar.specs.ExpressionSteps.{is_in_loop, with_declarator, behind_declaration, started_by, placed, ended_change, closed_change, want}

-- the state, where it is this sign
abbrev pub at_open : ReadingState → Sign → Option ReadingState
at_open next signs.Open = Some next
at_open next _ = None

abbrev pub at_close : ReadingState → Sign → Option ReadingState
at_close next signs.Close = Some next
at_close next _ = None

abbrev pub at_semicolon : ReadingState → Sign → Option ReadingState
at_semicolon next signs.Semicolon = Some next
at_semicolon next _ = None

abbrev pub at_while : ReadingState → Sign → Option ReadingState
at_while next signs.While = Some next
at_while next _ = None

abbrev pub at_void : ReadingState → Sign → Option ReadingState
at_void next signs.Void = Some next
at_void next _ = None

-- the name of a function
abbrev pub at_function : ReadingState → Sign → Option ReadingState
at_function next signs.Input = Some next
at_function next (signs.Function k) = Some next
at_function next _ = None

-- the name of a function other than `input`, whose value is an `int`
abbrev pub at_void_function : ReadingState → Sign → Option ReadingState
at_void_function next (signs.Function k) = Some next
at_void_function next _ = None

-- ---- statements

-- the nearest `if` that an `else` may belong to
abbrev pub else_of : Stack → Code → Option ReadingState
else_of (Top ds made) c = None
else_of (Braces p made outer) c = None
else_of (Yes links n made outer) c = None
else_of (No links n first made outer) c = None
else_of (ThenOf p e outer) c = Some (Ready (ElseOf p e c outer))
else_of (ElseOf p e first outer) c = else_of outer (If p e first c Done)
else_of (LoopOf start p e advance outer) c = else_of outer (started_by start (While p e advance c Done))
else_of (DoOf p outer) c = None

-- the earlier parts of a group around its later ones
abbrev pub linked : List (ℕ × Code) → Code → Code
linked [] c = c
linked (l ∷ links) c = linked links (Cond l.0 l.1 c Done)

abbrev pub opened : ℕ → Stack → Option ReadingState
opened n (Top ds made) = Some (Ready (Yes [] n Done (Top ds made)))
opened n (Braces p made outer) = Some (Ready (Yes [] n Done (Braces p made outer)))
opened n (Yes links m made outer) = Some (Ready (Yes [] n Done (Yes links m made outer)))
opened n (No links m first made outer) = Some (Ready (Yes [] n Done (No links m first made outer)))
opened n (ThenOf p e outer) = None
opened n (ElseOf p e first outer) = None
opened n (LoopOf start p e advance outer) = None
opened n (DoOf p outer) = None

abbrev pub braced : Stack → Place → Option ReadingState
braced (Braces p made outer) q = Some (Ended outer (Block p made Done))
braced (Top ds made) q = Some (Over (file_of ds made q) [])
braced _ q = None

-- `break` and `continue` stand in a loop
abbrev pub leaving : Bool → Stack → Code → Option ReadingState
leaving true outer c = Some (Finishing (OfStatement (AsStatement outer) c))
leaving false outer c = None

abbrev pub next_part : ℕ → Stack → Option ReadingState
next_part m (Yes links n made outer) = Some (Ready (Yes ((n, made) ∷ links) m Done outer))
next_part m _ = None

abbrev pub last_part : Stack → Option ReadingState
last_part (Yes links n made outer) = Some (Ready (No links n made Done outer))
last_part _ = None

abbrev pub group_end : Stack → Option ReadingState
group_end (Yes links n made outer) = Some (Ended outer (linked links (Cond n made Done Done)))
group_end (No links n first made outer) = Some (Ended outer (linked links (Cond n first made Done)))
group_end _ = None

-- a declaration as a statement stands in a list
abbrev pub in_list : Stack → ReadingState → Option ReadingState
in_list (Top ds made) next = Some next
in_list (Braces p made outer) next = Some next
in_list (Yes links n made outer) next = Some next
in_list (No links n first made outer) next = Some next
in_list (ThenOf p e outer) next = None
in_list (ElseOf p e first outer) next = None
in_list (LoopOf start p e advance outer) next = None
in_list (DoOf p outer) next = None

abbrev pub begin : Stack → Place → Sign → Option ReadingState
begin outer p (signs.Name x) = Some (Named p x (AsStatement outer))
begin outer p signs.Static = in_list outer (InStatic BehindStatic outer)
begin outer p signs.Const = in_list outer (LocalConst (ListScope outer))
begin outer p signs.Int = in_list outer (LocalType Unqualified OneInt (ListScope outer))
begin outer p signs.Int32 = in_list outer (LocalType Unqualified WholeType (ListScope outer))
begin outer p signs.Signed = in_list outer (LocalType Unqualified OneSigned (ListScope outer))
begin outer p signs.Input = Some (CallOpens (OfStatement (AsStatement outer) (Skip p Done)))
begin outer p (signs.Function k) = Some (CallOpens (OfStatement (AsStatement outer) (Skip p Done)))
begin outer p signs.Open = Some (VoidComes p outer)
begin outer p signs.Semicolon = Some (Ended outer (Skip p Done))
begin outer p signs.PlusPlus = Some (Counting p Raise (AsStatement outer))
begin outer p signs.MinusMinus = Some (Counting p Lower (AsStatement outer))
begin outer p signs.LeftBrace = Some (Ready (Braces p Done outer))
begin outer p signs.RightBrace = braced outer p
begin outer p signs.Assert = Some (Opens (ToAssert p outer))
begin outer p signs.If = Some (Opens (ToChoose p outer))
begin outer p signs.While = Some (Opens (ToLoop p outer))
begin outer p signs.For = Some (ForOpens p outer)
begin outer p signs.Do = Some (Ready (DoOf p outer))
begin outer p signs.Break = leaving (is_in_loop outer) outer (Leave p Break Done)
begin outer p signs.Continue = leaving (is_in_loop outer) outer (Leave p Continue Done)
begin outer p signs.Return = Some (Wants [] (ToReturn p outer))
begin outer p (signs.GroupIf n) = opened n outer
begin outer p (signs.GroupElif n) = next_part n outer
begin outer p signs.GroupElse = last_part outer
begin outer p signs.GroupEnd = group_end outer
begin outer p _ = None

-- behind a statement, where no `else` comes
abbrev pub proceed : Onward → Place → Sign → Option ReadingState
proceed (InList outer) p s = begin outer p s
proceed (AtTest q c outer) p s = at_while (RedoOpens q c outer) s

abbrev pub on : Stack → Code → Place → Sign → Option ReadingState
on outer c p signs.Else = else_of outer c
on outer c p s = proceed (placed outer c) p s

abbrev pub named : Place → ℕ → Site → Sign → Option ReadingState
named p x site signs.Equals = Some (Wants [] (ToAssign p x site))
named p x site signs.PlusEquals = Some (Wants [] (ToUpdate p x Sum site))
named p x site signs.MinusEquals = Some (Wants [] (ToUpdate p x Difference site))
named p x site signs.StarEquals = Some (Wants [] (ToUpdate p x Product site))
named p x site signs.SlashEquals = Some (Wants [] (ToUpdate p x Quotient site))
named p x site signs.PercentEquals = Some (Wants [] (ToUpdate p x Remainder site))
named p x site signs.PlusPlus = Some (Finishing (OfStatement site (changed_by_one p x Raise)))
named p x site signs.MinusMinus = Some (Finishing (OfStatement site (changed_by_one p x Lower)))
named p x site _ = None

abbrev pub counting : Place → Count → Site → Sign → Option ReadingState
counting p u site (signs.Name x) = Some (Finishing (OfStatement site (changed_by_one p x u)))
counting p u site _ = None

-- a change begins in a `for`
abbrev pub changing : Site → Place → Sign → Option ReadingState
changing site p (signs.Name x) = Some (Named p x site)
changing site p signs.PlusPlus = Some (Counting p Raise site)
changing site p signs.MinusMinus = Some (Counting p Lower site)
changing site p _ = None

-- what stands before the first test of a `for`, or nothing does
abbrev pub start_comes : Place → Stack → Place → Sign → Option ReadingState
start_comes p outer q signs.Semicolon = Some (TestComes (ChangeStart Done) outer)
start_comes p outer q signs.Const = Some (LocalConst (ForScope p Done outer))
start_comes p outer q signs.Int = Some (LocalType Unqualified OneInt (ForScope p Done outer))
start_comes p outer q signs.Int32 = Some (LocalType Unqualified WholeType (ForScope p Done outer))
start_comes p outer q signs.Signed = Some (LocalType Unqualified OneSigned (ForScope p Done outer))
start_comes p outer q s = changing (AsStart outer) q s

-- the test of a `for`, or none: the loop has the place of what comes
abbrev pub test_comes : Start → Stack → Place → Sign → Option ReadingState
test_comes start outer p signs.Semicolon = Some (StepComes start p (Number (pos 1)) outer)
test_comes start outer p s = want [] (ToRepeat start p outer) s

-- what stands behind the test of a `for`, or nothing does
abbrev pub step_comes : Start → Place → Term → Stack → Place → Sign → Option ReadingState
step_comes start p e outer q signs.Close = Some (Ready (LoopOf start p e Done outer))
step_comes start p e outer q s = changing (AsStep start p e outer) q s

-- the test of a `do` has the place of what comes
abbrev pub redo_comes : Place → Code → Stack → Place → Sign → Option ReadingState
redo_comes p c outer q s = want [] (ToRedo p c q outer) s

-- ---- declarations in `main`

-- the end of a declarator in `main`
abbrev pub local_end : Qualifier → Scope → Code → Sign → Option ReadingState
local_end kind scope c signs.Semicolon = Some (behind_declaration (with_declarator scope c))
local_end kind scope c signs.Comma = Some (NextLocal kind (with_declarator scope c))
local_end kind scope c _ = None

-- the first word of the type of a constant
abbrev pub const_word : Scope → Sign → Option ReadingState
const_word scope signs.Int = Some (LocalType Constant OneInt scope)
const_word scope signs.Int32 = Some (LocalType Constant WholeType scope)
const_word scope signs.Signed = Some (LocalType Constant OneSigned scope)
const_word scope _ = None

-- what a `for` declares has an initialiser, as a constant has one
abbrev pub initialising : Scope → Qualifier → Qualifier
initialising (ListScope outer) kind = kind
initialising (ForScope p made outer) kind = Constant

-- the name of a variable or a constant
abbrev pub next_local : Qualifier → Scope → Place → Sign → Option ReadingState
next_local kind scope p (signs.Name x) = Some (LocalNamed (initialising scope kind) p x scope)
next_local kind scope p _ = None

-- `const` behind the type, or a name
abbrev pub behind_local_type : Qualifier → Scope → Place → Sign → Option ReadingState
behind_local_type Unqualified scope p signs.Const = Some (NextLocal Constant scope)
behind_local_type kind scope p s = next_local kind scope p s

-- another word of the type, or what follows it
abbrev pub local_type : Qualifier → Scope → Place → Sign → TypeWords → Option ReadingState
local_type kind scope p signs.Signed OneInt = Some (LocalType kind WholeType scope)
local_type kind scope p signs.Int OneSigned = Some (LocalType kind WholeType scope)
local_type kind scope p s words = behind_local_type kind scope p s

-- without an initialiser a variable has any value; a constant has one
abbrev pub without_initialiser : Qualifier → Place → ℕ → Scope → Sign → Option ReadingState
without_initialiser Unqualified p x scope s = local_end Unqualified scope (Input p x Done) s
without_initialiser kind p x scope s = None

abbrev pub local_named : Qualifier → Place → ℕ → Scope → Sign → Option ReadingState
local_named kind p x scope signs.Equals = Some (Wants [] (ToInitialise kind p x scope))
local_named kind p x scope s = without_initialiser kind p x scope s

-- the end of a statement or of a declarator
abbrev pub finishing : Pending → Sign → Option ReadingState
finishing (OfStatement site c) signs.Semicolon = ended_change site c
finishing (OfStatement site c) signs.Close = closed_change site c
finishing (OfStatement site c) s = None
finishing (OfLocal kind scope c) s = local_end kind scope c s

-- ---- static declarations in `main`

-- the first word of the type
abbrev pub static_word : Qualifier → Stack → Sign → Option ReadingState
static_word kind outer signs.Int = Some (InStatic (BehindStaticType kind OneInt) outer)
static_word kind outer signs.Int32 = Some (InStatic (BehindStaticType kind WholeType) outer)
static_word kind outer signs.Signed = Some (InStatic (BehindStaticType kind OneSigned) outer)
static_word kind outer _ = None

-- `const`, or the first word of the type
abbrev pub behind_static_word : Stack → Sign → Option ReadingState
behind_static_word outer signs.Const = Some (InStatic BehindStaticConst outer)
behind_static_word outer s = static_word Unqualified outer s

-- the name of a variable or a constant
abbrev pub static_name : Qualifier → Stack → Sign → Option ReadingState
static_name kind outer (signs.Name x) = Some (InStatic (BehindStaticName kind) outer)
static_name kind outer _ = None

-- `const` behind the type, or a name
abbrev pub behind_static_type : Qualifier → Stack → Sign → Option ReadingState
behind_static_type Unqualified outer signs.Const = Some (InStatic (BeforeStaticName Constant) outer)
behind_static_type kind outer s = static_name kind outer s

-- another word of the type, or what follows it
abbrev pub static_type : Qualifier → Stack → Sign → TypeWords → Option ReadingState
static_type kind outer signs.Signed OneInt = Some (InStatic (BehindStaticType kind WholeType) outer)
static_type kind outer signs.Int OneSigned = Some (InStatic (BehindStaticType kind WholeType) outer)
static_type kind outer s words = behind_static_type kind outer s

-- the end of a declarator
abbrev pub static_end : Qualifier → Stack → Sign → Option ReadingState
static_end kind outer signs.Semicolon = Some (Ready outer)
static_end kind outer signs.Comma = Some (InStatic (BeforeStaticName kind) outer)
static_end kind outer _ = None

-- without an initialiser a variable starts at 0; a constant has one
abbrev pub static_bare : Qualifier → Stack → Sign → Option ReadingState
static_bare Unqualified outer s = static_end Unqualified outer s
static_bare kind outer s = None

abbrev pub static_named : Qualifier → Stack → Sign → Option ReadingState
static_named kind outer signs.Equals = Some (InStatic (BehindStaticEquals kind) outer)
static_named kind outer s = static_bare kind outer s

-- a number, or `-` before one
abbrev pub static_value : Qualifier → Stack → Sign → Option ReadingState
static_value kind outer (signs.Number n) = Some (InStatic (BehindStaticNumber kind) outer)
static_value kind outer (signs.Oper Sub) = Some (InStatic (BehindStaticMinus kind) outer)
static_value kind outer _ = None

abbrev pub static_negative : Qualifier → Stack → Sign → Option ReadingState
static_negative kind outer (signs.Number n) = Some (InStatic (BehindStaticNumber kind) outer)
static_negative kind outer _ = None

abbrev pub static_step : StaticPart → Stack → Sign → Option ReadingState
static_step BehindStatic outer s = behind_static_word outer s
static_step BehindStaticConst outer s = static_word Constant outer s
static_step (BehindStaticType kind words) outer s = static_type kind outer s words
static_step (BeforeStaticName kind) outer s = static_name kind outer s
static_step (BehindStaticName kind) outer s = static_named kind outer s
static_step (BehindStaticEquals kind) outer s = static_value kind outer s
static_step (BehindStaticMinus kind) outer s = static_negative kind outer s
static_step (BehindStaticNumber kind) outer s = static_end kind outer s
