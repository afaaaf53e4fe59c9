-- What is open while items are read, and the states of the reading.
use Rattle.std.specs.Prelude.{ℕ, ℤ, List, [], ◌∷◌}
use Rattle.fam_outer.specs.declared.faults.Place.{Place}
use Rattle.c_tree.specs.declared.tree.Op.{Op}
use Rattle.c_tree.specs.declared.lists.Declared.{Declared}
use Rattle.c_tree.specs.Tree.{Term, Code}
use Rattle.c_grammar.specs.Groups.{Sections}
use Rattle.c_grammar.specs.Grammar.{tighter, Prefix, Update, Count, Qualifier, File}

-- what waits for an operand
pub data Frame : Type 0 where
  Paren : Frame
  Pre : (u : Prefix) → Frame
  Left : (op : Op) (a : Term) → Frame

-- the loosest expression that may stand next
abbrev pub room : List Frame → ℕ
room [] = 6
room (Paren ∷ fs) = 6
room (Pre u ∷ fs) = 0
room (Left op a ∷ fs) = tighter op

-- what a `for` does before its first test: a change of a variable, or nothing; or it declares variables, and is a block at this place
pub data Start : Type 0 where
  ChangeStart : (c : Code) → Start
  DeclaredStart : (p : Place) (c : Code) → Start

-- the statements that are open, the innermost first; a list has the statements that it has so far, and the outermost one,
-- that of `main`, the declarators before it; a loop has what stands before its first test, and its step; of a `do` the body is read
pub data Stack : Type 0 where
  Top : (ds : List Declared) (made : Code) → Stack
  Braces : (p : Place) (made : Code) (outer : Stack) → Stack
  Yes : (links : List (ℕ × Code)) (n : ℕ) (made : Code) (outer : Stack) → Stack
  No : (links : List (ℕ × Code)) (n : ℕ) (first : Code) (made : Code) (outer : Stack) → Stack
  ThenOf : (p : Place) (e : Term) (outer : Stack) → Stack
  ElseOf : (p : Place) (e : Term) (first : Code) (outer : Stack) → Stack
  LoopOf : (start : Start) (p : Place) (e : Term) (advance : Code) (outer : Stack) → Stack
  DoOf : (p : Place) (outer : Stack) → Stack

-- what comes behind a statement, where no `else` does: more of a list; or the test of a `do`, behind its body
pub data Onward : Type 0 where
  InList : (outer : Stack) → Onward
  AtTest : (p : Place) (c : Code) (outer : Stack) → Onward

-- what a declaration in `main` stands in: a list; or the parentheses of a `for` at this place, with its declarators so far
pub data Scope : Type 0 where
  ListScope : (outer : Stack) → Scope
  ForScope : (p : Place) (made : Code) (outer : Stack) → Scope

-- where a change of a variable stands: as a statement; before the first test of a `for`; behind its test
pub data Site : Type 0 where
  AsStatement : (outer : Stack) → Site
  AsStart : (outer : Stack) → Site
  AsStep : (start : Start) (p : Place) (e : Term) (outer : Stack) → Site

-- what an expression is for; the initialiser of a variable that `main` declares has what its declaration declares, and the test
-- of a `for` what stands before it; that of a `do` has its body, and its own place
pub data Use : Type 0 where
  ToAssign : (p : Place) (x : ℕ) (site : Site) → Use
  ToInitialise : (kind : Qualifier) (p : Place) (x : ℕ) (scope : Scope) → Use
  ToUpdate : (p : Place) (x : ℕ) (u : Update) (site : Site) → Use
  ToAssert : (p : Place) (outer : Stack) → Use
  ToChoose : (p : Place) (outer : Stack) → Use
  ToLoop : (p : Place) (outer : Stack) → Use
  ToRepeat : (start : Start) (p : Place) (outer : Stack) → Use
  ToRedo : (p : Place) (c : Code) (q : Place) (outer : Stack) → Use
  ToReturn : (p : Place) (outer : Stack) → Use

-- what is read but for its end: a statement, which may be a change in a `for`, or a declarator in `main`
pub data Pending : Type 0 where
  OfStatement : (site : Site) (c : Code) → Pending
  OfLocal : (kind : Qualifier) (scope : Scope) (c : Code) → Pending

-- what stands before the type of a declaration
pub data Leading : Type 0 where
  NoWord : Leading
  StaticWord : Leading
  ExternWord : Leading
  ConstWord : Leading

-- the words of a type so far: another one may come behind the first two
pub data TypeWords : Type 0 where
  OneInt : TypeWords
  OneSigned : TypeWords
  WholeType : TypeWords

-- what of a static declaration in `main` is read: `static`; `const` behind it; words of its type; what stands before a name; a name; `=`;
-- `-`; and a number
pub data StaticPart : Type 0 where
  BehindStatic : StaticPart
  BehindStaticConst : StaticPart
  BehindStaticType : (kind : Qualifier) (words : TypeWords) → StaticPart
  BeforeStaticName : (kind : Qualifier) → StaticPart
  BehindStaticName : (kind : Qualifier) → StaticPart
  BehindStaticEquals : (kind : Qualifier) → StaticPart
  BehindStaticMinus : (kind : Qualifier) → StaticPart
  BehindStaticNumber : (kind : Qualifier) → StaticPart

-- what parentheses after a name of a function are for
pub data Aim : Type 0 where
  ToPrototype : (secs : Sections) (ds : List Declared) → Aim
  ToMain : (ds : List Declared) → Aim

-- a group behind `main`: another part may come, or this one is the last; and how many conditions it has so far
pub data Tailing : Type 0 where
  Another : (k : ℕ) → Tailing
  Final : (k : ℕ) → Tailing

pub data ReadingState : Type 0 where
  -- a declaration may begin, after these declarators
  Outside : (secs : Sections) (ds : List Declared) → ReadingState
  AfterStatic : (secs : Sections) (ds : List Declared) → ReadingState
  AfterExtern : (secs : Sections) (ds : List Declared) → ReadingState
  AfterConst : (secs : Sections) (ds : List Declared) → ReadingState
  AfterEnum : (secs : Sections) (ds : List Declared) → ReadingState
  AfterVoidType : (secs : Sections) (ds : List Declared) → ReadingState
  AfterType : (lead : Leading) (words : TypeWords) (secs : Sections) (ds : List Declared) → ReadingState
  -- a declarator comes, of a variable or of a constant
  Declaring : (kind : Qualifier) (secs : Sections) (ds : List Declared) → ReadingState
  Bare : (kind : Qualifier) (x : ℕ) (secs : Sections) (ds : List Declared) → ReadingState
  Starting : (kind : Qualifier) (x : ℕ) (secs : Sections) (ds : List Declared) → ReadingState
  Negating : (kind : Qualifier) (x : ℕ) (secs : Sections) (ds : List Declared) → ReadingState
  Started : (kind : Qualifier) (x : ℕ) (n : ℤ) (secs : Sections) (ds : List Declared) → ReadingState
  -- in an `enum`, behind a comma and the value before it; and behind its brace
  Listing : (last : ℤ) (secs : Sections) (ds : List Declared) → ReadingState
  Enumerated : (secs : Sections) (ds : List Declared) → ReadingState
  -- in a definition: its name comes; its value does; the number behind `-` does; in parentheses the number, perhaps behind `-`,
  -- and then the closing one comes
  AfterDefine : (secs : Sections) (ds : List Declared) → ReadingState
  Defining : (x : ℕ) (secs : Sections) (ds : List Declared) → ReadingState
  NegativeDefining : (x : ℕ) (secs : Sections) (ds : List Declared) → ReadingState
  Enclosing : (x : ℕ) (secs : Sections) (ds : List Declared) → ReadingState
  NegativeEnclosing : (x : ℕ) (secs : Sections) (ds : List Declared) → ReadingState
  Enclosed : (x : ℕ) (n : ℤ) (secs : Sections) (ds : List Declared) → ReadingState
  -- parentheses after the name of a function: before them, in them, after `void`, and behind them
  Parameters : (aim : Aim) → ReadingState
  InParameters : (aim : Aim) → ReadingState
  AfterVoid : (aim : Aim) → ReadingState
  AfterParameters : (aim : Aim) → ReadingState
  -- a statement may begin
  Ready : (outer : Stack) → ReadingState
  -- a declaration in `main`: behind `const`; behind words of its type; a declarator comes; behind its name
  LocalConst : (scope : Scope) → ReadingState
  LocalType : (kind : Qualifier) (words : TypeWords) (scope : Scope) → ReadingState
  NextLocal : (kind : Qualifier) (scope : Scope) → ReadingState
  LocalNamed : (kind : Qualifier) (p : Place) (x : ℕ) (scope : Scope) → ReadingState
  -- a static declaration in `main`, which leaves no statement
  InStatic : (part : StaticPart) (outer : Stack) → ReadingState
  -- a statement has ended; an `else` may come
  Ended : (outer : Stack) (c : Code) → ReadingState
  Wants : (fs : List Frame) (u : Use) → ReadingState
  Has : (fs : List Frame) (u : Use) (e : Term) → ReadingState
  -- the name of a variable comes, behind `++` or `--`
  Counting : (p : Place) (u : Count) (site : Site) → ReadingState
  Named : (p : Place) (x : ℕ) (site : Site) → ReadingState
  Opens : (u : Use) → ReadingState
  -- a `for`: its parentheses come; what stands before its first test does; the test does; what stands behind it does
  ForOpens : (p : Place) (outer : Stack) → ReadingState
  StartComes : (p : Place) (outer : Stack) → ReadingState
  TestComes : (start : Start) (outer : Stack) → ReadingState
  StepComes : (start : Start) (p : Place) (e : Term) (outer : Stack) → ReadingState
  -- a `do`, behind its body and `while`: the parentheses of its test come; the test does
  RedoOpens : (p : Place) (c : Code) (outer : Stack) → ReadingState
  RedoComes : (p : Place) (c : Code) (outer : Stack) → ReadingState
  -- a call whose value is dropped, which begins with parentheses: `void` comes, and the closing one, and the name of a function
  VoidComes : (p : Place) (outer : Stack) → ReadingState
  VoidCloses : (p : Place) (outer : Stack) → ReadingState
  CallComes : (p : Place) (outer : Stack) → ReadingState
  -- the parentheses of a call, which makes this statement or declarator
  CallOpens : (made : Pending) → ReadingState
  CallCloses : (made : Pending) → ReadingState
  -- a semicolon ends the statement or the declaration, and a comma the declarator
  Finishing : (made : Pending) → ReadingState
  -- `main` is closed; the groups that are open
  Over : (f : File) (parts : List Tailing) → ReadingState
