-- Reading item by item: what is open, and expressions.
use Rattle.std.specs.Prelude.{ℕ, suc, nat_lt, Bool, true, false, List, [], ◌∷◌, Option, Some, None, option_map, if◌then◌else◌}
use Rattle.c_tree.specs.declared.tree.Op.{Op}
use Rattle.c_tree.specs.declared.tree.Op.TheVariants.{Add, Sub}
use Rattle.c_tree.specs.Tree.{Term, Number, Var, Binary, Code, Return, Done, Assign, Input, Assert, If, While, Do, Leave, Block, followed}
use Rattle.c_grammar.specs.declared.items.Sign.{Sign}
use Rattle.c_grammar.specs.declared.items.Sign.TheVariants as signs
use Rattle.c_grammar.specs.Grammar.{tighter, Prefix, Positive, Negative, Inverse, applied, updated}
use Rattle.c_grammar.specs.States.{Frame, Paren, Pre, Left, Stack, Top, Braces, Yes, No, ThenOf, ElseOf, LoopOf, DoOf, Start, ChangeStart, DeclaredStart, Onward, InList, AtTest, Scope, ListScope, ForScope, Site, AsStatement, AsStart, AsStep, Use, ToAssign, ToInitialise, ToUpdate, ToAssert, ToChoose, ToLoop, ToRepeat, ToRedo, ToReturn, OfStatement, OfLocal, ReadingState, Ready, NextLocal, Ended, Wants, Has, TestComes, StepComes, CallOpens, Finishing}

-- ---- what is open

-- what comes next stands in the body of a loop
abbrev pub is_in_loop : Stack → Bool
is_in_loop (Top ds made) = false
is_in_loop (Braces p made outer) = is_in_loop outer
is_in_loop (Yes links n made outer) = is_in_loop outer
is_in_loop (No links n first made outer) = is_in_loop outer
is_in_loop (ThenOf p e outer) = is_in_loop outer
is_in_loop (ElseOf p e first outer) = is_in_loop outer
is_in_loop (LoopOf start p e advance outer) = true
is_in_loop (DoOf p outer) = true

-- what a declarator makes is put into its list: declarations stand in lists, or in a `for`
abbrev pub folded : Stack → Code → Stack
folded (Top ds made) c = Top ds (followed made c)
folded (Braces p made outer) c = Braces p (followed made c) outer
folded (Yes links n made outer) c = Yes links n (followed made c) outer
folded (No links n first made outer) c = No links n first (followed made c) outer
folded (ThenOf p e outer) c = ThenOf p e outer
folded (ElseOf p e first outer) c = ElseOf p e first outer
folded (LoopOf start p e advance outer) c = LoopOf start p e advance outer
folded (DoOf p outer) c = DoOf p outer

abbrev pub with_declarator : Scope → Code → Scope
with_declarator (ListScope outer) c = ListScope (folded outer c)
with_declarator (ForScope p made outer) c = ForScope p (followed made c) outer

-- behind the semicolon of a declaration a statement may begin, and in a `for` the test comes
abbrev pub behind_declaration : Scope → ReadingState
behind_declaration (ListScope outer) = Ready outer
behind_declaration (ForScope p made outer) = TestComes (DeclaredStart p made) outer

-- a loop behind what stands before its first test
abbrev pub started_by : Start → Code → Code
started_by (ChangeStart c) loop = followed c loop
started_by (DeclaredStart p c) loop = Block p (followed c loop) Done

-- a statement is put where it belongs, and no `else` comes
abbrev pub placed : Stack → Code → Onward
placed (Top ds made) c = InList (Top ds (followed made c))
placed (Braces p made outer) c = InList (Braces p (followed made c) outer)
placed (Yes links n made outer) c = InList (Yes links n (followed made c) outer)
placed (No links n first made outer) c = InList (No links n first (followed made c) outer)
placed (ThenOf p e outer) c = placed outer (If p e c Done Done)
placed (ElseOf p e first outer) c = placed outer (If p e first c Done)
placed (LoopOf start p e advance outer) c = placed outer (started_by start (While p e advance c Done))
placed (DoOf p outer) c = AtTest p c outer

-- ---- expressions

-- the operators that bind tighter are applied
abbrev pub settle : ℕ → List Frame → Term → List Frame × Term
settle k [] e = ([], e)
settle k (Paren ∷ fs) e = (Paren ∷ fs, e)
settle k (Pre u ∷ fs) e = settle k fs (applied u e)
settle k (Left op a ∷ fs) e = if nat_lt (tighter op) k then settle k fs (Binary op a e) else (Left op a ∷ fs, e)

abbrev pub prefix_of : Op → Option Prefix
prefix_of Add = Some Positive
prefix_of Sub = Some Negative
prefix_of _ = None

-- a change of a variable ends: with a semicolon it is a statement, or the test of a `for` comes; with a closing parenthesis the
-- body of a `for` does
abbrev pub ended_change : Site → Code → Option ReadingState
ended_change (AsStatement outer) c = Some (Ended outer c)
ended_change (AsStart outer) c = Some (TestComes (ChangeStart c) outer)
ended_change (AsStep start p e outer) c = None

abbrev pub closed_change : Site → Code → Option ReadingState
closed_change (AsStatement outer) c = None
closed_change (AsStart outer) c = None
closed_change (AsStep start p e outer) c = Some (Ready (LoopOf start p e c outer))

abbrev pub input_of : List Frame → Use → Option ReadingState
input_of [] (ToAssign p x site) = Some (CallOpens (OfStatement site (Input p x Done)))
input_of [] (ToInitialise kind p x scope) = Some (CallOpens (OfLocal kind scope (Input p x Done)))
input_of _ _ = None

abbrev pub want : List Frame → Use → Sign → Option ReadingState
want fs u (signs.Number n) = Some (Has fs u (Number n))
want fs u (signs.Name x) = Some (Has fs u (Var x))
want fs u signs.Open = Some (Wants (Paren ∷ fs) u)
want fs u signs.Bang = Some (Wants (Pre Inverse ∷ fs) u)
want fs u (signs.Oper op) = option_map (λ v. Wants (Pre v ∷ fs) u) (prefix_of op)
want fs u signs.Input = input_of fs u
want fs u (signs.Function k) = input_of fs u
want fs u _ = None

abbrev pub tested : Use → Term → Option ReadingState
tested (ToAssign p x site) e = closed_change site (Assign p x e Done)
tested (ToInitialise kind p x scope) e = None
tested (ToUpdate p x u site) e = closed_change site (updated p x u e)
tested (ToAssert p outer) e = Some (Finishing (OfStatement (AsStatement outer) (Assert p e Done)))
tested (ToChoose p outer) e = Some (Ready (ThenOf p e outer))
tested (ToLoop p outer) e = Some (Ready (LoopOf (ChangeStart Done) p e Done outer))
tested (ToRepeat start p outer) e = None
tested (ToRedo p c q outer) e = Some (Finishing (OfStatement (AsStatement outer) (Do p c q e Done)))
tested (ToReturn p outer) e = None

abbrev pub closed_by : List Frame → Use → Term → Option ReadingState
closed_by [] u e = tested u e
closed_by (Paren ∷ fs) u e = Some (Has fs u e)
closed_by (Pre v ∷ fs) u e = None
closed_by (Left op a ∷ fs) u e = None

abbrev pub assigned : Use → Term → Option ReadingState
assigned (ToAssign p x site) e = ended_change site (Assign p x e Done)
assigned (ToInitialise kind p x scope) e = Some (behind_declaration (with_declarator scope (Assign p x e Done)))
assigned (ToUpdate p x u site) e = ended_change site (updated p x u e)
assigned (ToAssert p outer) e = None
assigned (ToChoose p outer) e = None
assigned (ToLoop p outer) e = None
assigned (ToRepeat start p outer) e = Some (StepComes start p e outer)
assigned (ToRedo p c q outer) e = None
assigned (ToReturn p outer) e = Some (Ended outer (Leave p (Return e) Done))

abbrev pub ended_by : List Frame → Use → Term → Option ReadingState
ended_by [] u e = assigned u e
ended_by (f ∷ fs) u e = None

-- another declarator comes
abbrev pub initialised : Use → Term → Option ReadingState
initialised (ToInitialise kind p x scope) e = Some (NextLocal kind (with_declarator scope (Assign p x e Done)))
initialised (ToAssign p x site) e = None
initialised (ToUpdate p x u site) e = None
initialised (ToAssert p outer) e = None
initialised (ToChoose p outer) e = None
initialised (ToLoop p outer) e = None
initialised (ToRepeat start p outer) e = None
initialised (ToRedo p c q outer) e = None
initialised (ToReturn p outer) e = None

abbrev pub followed_by : List Frame → Use → Term → Option ReadingState
followed_by [] u e = initialised u e
followed_by (f ∷ fs) u e = None

abbrev pub have : List Frame → Use → Term → Sign → Option ReadingState
have fs u e signs.Close = closed_by (settle 6 fs e).0 u (settle 6 fs e).1
have fs u e (signs.Oper op) = Some (Wants (Left op (settle (suc (tighter op)) fs e).1 ∷ (settle (suc (tighter op)) fs e).0) u)
have fs u e signs.Semicolon = ended_by (settle 6 fs e).0 u (settle 6 fs e).1
have fs u e signs.Comma = followed_by (settle 6 fs e).0 u (settle 6 fs e).1
have fs u e _ = None
