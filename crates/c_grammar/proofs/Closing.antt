-- Whatever is open can be closed.
use Rattle.std.proofs.Common.{◌≡◌, ℕ, ℤ, pos, neg_ℤ, suc, List, [], ◌∷◌, Ok, refl, ◌∙◌}
use Rattle.fam_outer.specs.declared.faults.Place.{Place}
use Rattle.c_tree.specs.declared.lists.Declared.{Declared}
use Rattle.c_tree.specs.Tree.{Term, Number, Var, Binary, Return, Code, Done, Assign, Assert, If, While, Do, Leave, Block, Skip, Cond, followed}
use Rattle.c_grammar.specs.declared.items.Sign.TheVariants as signs
use Rattle.c_grammar.specs.declared.items.Item.{Item}
use Rattle.c_grammar.specs.Grammar.{at, tighter, applied, updated, changed_by_one, Qualifier, Unqualified, Constant, Counted, uncounted, File, file_of}
use Rattle.c_grammar.specs.Ahead.{Loose, NoElse}
use Rattle.c_grammar.specs.Machine.{Tailing, Another, Final, Frame, Paren, Pre, Left, Stack, Top, Braces, Yes, No, ThenOf, ElseOf, LoopOf, DoOf, Start, ChangeStart, DeclaredStart, Scope, ListScope, ForScope, AsStatement, AsStart, AsStep, Use, ToAssign, ToInitialise, ToUpdate, ToAssert, ToChoose, ToLoop, ToRepeat, ToRedo, ToReturn, Pending, OfStatement, OfLocal, Sections, Outermost, InPart, InLast, Aim, ToPrototype, ToMain, ReadingState, Outside, AfterStatic, AfterExtern, AfterConst, AfterEnum, AfterVoidType, AfterType, NoWord, StaticWord, ExternWord, ConstWord, Declaring, Bare, Starting, Negating, Started, Listing, Enumerated, AfterDefine, Defining, NegativeDefining, Enclosing, NegativeEnclosing, Enclosed, Parameters, InParameters, AfterVoid, AfterParameters, Ready, LocalConst, LocalType, NextLocal, LocalNamed, Ended, Wants, Has, Counting, Named, Opens, ForOpens, StartComes, TestComes, StepComes, RedoOpens, RedoComes, VoidComes, VoidCloses, CallComes, CallOpens, CallCloses, Finishing, Over, with_declared, with_declarator, behind_declaration, initialising, started_by, linked, run, InStatic, BehindStatic, BehindStaticConst, BehindStaticType, BeforeStaticName, BehindStaticName, BehindStaticEquals, BehindStaticMinus, BehindStaticNumber, StaticPart}
use Rattle.c_grammar.proofs.CompleteExpressions.{pre_absorbs, left_absorbs}
use Rattle.c_grammar.proofs.StatementEnds.{loop_absorbs, else_absorbs, then_absorbs}

pub nowhere : Place
nowhere = record { line = 0; column = 0 }

unfoldable pub closers : Stack → List Item
closers (Top ds made) = at nowhere signs.RightBrace ∷ []
closers (Braces p made outer) = at nowhere signs.RightBrace ∷ closers outer
closers (Yes links n made outer) = at nowhere signs.GroupEnd ∷ closers outer
closers (No links n first made outer) = at nowhere signs.GroupEnd ∷ closers outer
closers (ThenOf p e outer) = closers outer
closers (ElseOf p e first outer) = closers outer
closers (LoopOf start p e advance outer) = closers outer
closers (DoOf p outer) = at nowhere signs.While ∷ at nowhere signs.Open ∷ at nowhere (signs.Name 0) ∷ at nowhere signs.Close ∷ at nowhere signs.Semicolon ∷ closers outer

pub closers_no_else : (outer : Stack) → NoElse (closers outer)
unfolding closers
closers_no_else (Top ds made) = tt
closers_no_else (Braces p made outer) = tt
closers_no_else (Yes links n made outer) = tt
closers_no_else (No links n first made outer) = tt
closers_no_else (ThenOf p e outer) = closers_no_else outer
closers_no_else (ElseOf p e first outer) = closers_no_else outer
closers_no_else (LoopOf start p e advance outer) = closers_no_else outer
closers_no_else (DoOf p outer) = tt

closes : (outer : Stack) (c : Code) → (made : File) × (run (Ended outer c) (closers outer) ≡ Ok made)
unfolding closers run
closes (Top ds made) c = (file_of ds (followed made c) nowhere, refl)
closes (Braces p made outer) c = closes outer (Block p (followed made c) Done)
closes (Yes links n made outer) c = closes outer (linked links (Cond n (followed made c) Done Done))
closes (No links n first made outer) c = closes outer (linked links (Cond n first (followed made c) Done))
closes (ThenOf p e outer) c = let h = closes outer (If p e c Done Done) in (h.0, then_absorbs p e outer c (closers outer) (closers_no_else outer) ∙ h.1)
closes (ElseOf p e first outer) c = let h = closes outer (If p e first c Done) in (h.0, else_absorbs p e first outer c (closers outer) ∙ h.1)
closes (LoopOf start p e advance outer) c = let h = closes outer (started_by start (While p e advance c Done)) in (h.0, loop_absorbs start p e advance outer c (closers outer) ∙ h.1)
closes (DoOf p outer) c = closes outer (Do p c nowhere (Var 0) Done)

-- the rest of a file
abbrev Rest : ReadingState → Type 0
Rest state = (tail : List Item) × (made : File) × (run state tail ≡ Ok made)

-- where a statement may begin
closes_ready : (outer : Stack) → Rest (Ready outer)
unfolding run
closes_ready outer = let h = closes outer (Skip nowhere Done) in (at nowhere signs.Semicolon ∷ closers outer, h.0, h.1)

-- behind the parentheses of a `for`, and in them
closes_loop : (start : Start) (p : Place) (e : Term) (advance : Code) (outer : Stack) → Rest (Ready (LoopOf start p e advance outer))
unfolding run closers
closes_loop start p e advance outer = let h = closes (LoopOf start p e advance outer) (Skip nowhere Done) in (at nowhere signs.Semicolon ∷ closers outer, h.0, h.1)

closes_step : (start : Start) (p : Place) (e : Term) (outer : Stack) → Rest (StepComes start p e outer)
unfolding run
closes_step start p e outer = let h = closes_loop start p e Done outer in (at nowhere signs.Close ∷ h.0, h.1, h.2)

closes_test : (start : Start) (outer : Stack) → Rest (TestComes start outer)
unfolding run
closes_test start outer = let h = closes_step start nowhere (Number (pos 1)) outer in (at nowhere signs.Semicolon ∷ h.0, h.1, h.2)

closes_start : (p : Place) (outer : Stack) → Rest (StartComes p outer)
unfolding run
closes_start p outer = let h = closes_test (ChangeStart Done) outer in (at nowhere signs.Semicolon ∷ h.0, h.1, h.2)

-- behind a declaration
closes_declaration : (scope : Scope) → Rest (behind_declaration scope)
closes_declaration (ListScope outer) = closes_ready outer
closes_declaration (ForScope p made outer) = closes_test (DeclaredStart p made) outer

closes_pending : (made : Pending) → Rest (Finishing made)
unfolding run
closes_pending (OfStatement (AsStatement outer) c) = let h = closes outer c in (at nowhere signs.Semicolon ∷ closers outer, h.0, h.1)
closes_pending (OfStatement (AsStart outer) c) = let h = closes_test (ChangeStart c) outer in (at nowhere signs.Semicolon ∷ h.0, h.1, h.2)
closes_pending (OfStatement (AsStep start p e outer) c) = let h = closes_loop start p e c outer in (at nowhere signs.Close ∷ h.0, h.1, h.2)
closes_pending (OfLocal kind scope c) = let h = closes_declaration (with_declarator scope c) in (at nowhere signs.Semicolon ∷ h.0, h.1, h.2)

record CanEnd (state : ReadingState) : Type 0 where
  pub tail : List Item
  pub made : File
  pub reads : run state tail ≡ Ok made
  pub tight : (k : ℕ) → Loose k tail

ends_use : (u : Use) (e : Term) → CanEnd (Has [] u e)
unfolding run
ends_use (ToAssign p x (AsStatement outer)) e = let h = closes outer (Assign p x e Done) in record { tail = at nowhere signs.Semicolon ∷ closers outer; made = h.0; reads = h.1; tight = λ k. tt }
ends_use (ToAssign p x (AsStart outer)) e = let h = closes_test (ChangeStart (Assign p x e Done)) outer in record { tail = at nowhere signs.Semicolon ∷ h.0; made = h.1; reads = h.2; tight = λ k. tt }
ends_use (ToAssign p x (AsStep start q f outer)) e = let h = closes_loop start q f (Assign p x e Done) outer in record { tail = at nowhere signs.Close ∷ h.0; made = h.1; reads = h.2; tight = λ k. tt }
ends_use (ToInitialise kind p x scope) e = let h = closes_declaration (with_declarator scope (Assign p x e Done)) in record { tail = at nowhere signs.Semicolon ∷ h.0; made = h.1; reads = h.2; tight = λ k. tt }
ends_use (ToUpdate p x u (AsStatement outer)) e = let h = closes outer (updated p x u e) in record { tail = at nowhere signs.Semicolon ∷ closers outer; made = h.0; reads = h.1; tight = λ k. tt }
ends_use (ToUpdate p x u (AsStart outer)) e = let h = closes_test (ChangeStart (updated p x u e)) outer in record { tail = at nowhere signs.Semicolon ∷ h.0; made = h.1; reads = h.2; tight = λ k. tt }
ends_use (ToUpdate p x u (AsStep start q f outer)) e = let h = closes_loop start q f (updated p x u e) outer in record { tail = at nowhere signs.Close ∷ h.0; made = h.1; reads = h.2; tight = λ k. tt }
ends_use (ToAssert p outer) e = let h = closes outer (Assert p e Done) in record { tail = at nowhere signs.Close ∷ at nowhere signs.Semicolon ∷ closers outer; made = h.0; reads = h.1; tight = λ k. tt }
ends_use (ToChoose p outer) e = let h = closes (ThenOf p e outer) (Skip nowhere Done) in record { tail = at nowhere signs.Close ∷ at nowhere signs.Semicolon ∷ closers (ThenOf p e outer); made = h.0; reads = h.1; tight = λ k. tt }
ends_use (ToLoop p outer) e = let h = closes_loop (ChangeStart Done) p e Done outer in record { tail = at nowhere signs.Close ∷ h.0; made = h.1; reads = h.2; tight = λ k. tt }
ends_use (ToRepeat start p outer) e = let h = closes_step start p e outer in record { tail = at nowhere signs.Semicolon ∷ h.0; made = h.1; reads = h.2; tight = λ k. tt }
ends_use (ToRedo p c q outer) e = let h = closes outer (Do p c q e Done) in record { tail = at nowhere signs.Close ∷ at nowhere signs.Semicolon ∷ closers outer; made = h.0; reads = h.1; tight = λ k. tt }
ends_use (ToReturn p outer) e = let h = closes outer (Leave p (Return e) Done) in record { tail = at nowhere signs.Semicolon ∷ closers outer; made = h.0; reads = h.1; tight = λ k. tt }

ends_expr : (fs : List Frame) (u : Use) (e : Term) → CanEnd (Has fs u e)
unfolding run
ends_expr [] u e = ends_use u e
ends_expr (Paren ∷ fs) u e = let h = ends_expr fs u e in record { tail = at nowhere signs.Close ∷ h.tail; made = h.made; reads = h.reads; tight = λ k. tt }
ends_expr (Pre v ∷ fs) u e = let h = ends_expr fs u (applied v e) in record { tail = h.tail; made = h.made; reads = pre_absorbs v fs u e h.tail ∙ h.reads; tight = h.tight }
ends_expr (Left op a ∷ fs) u e = let h = ends_expr fs u (Binary op a e) in record { tail = h.tail; made = h.made; reads = left_absorbs op a fs u e h.tail (h.tight (suc (tighter op))) ∙ h.reads; tight = h.tight }

-- behind the name of a declarator in `main`
after_name : (kind : Qualifier) (p : Place) (x : ℕ) (scope : Scope) → Rest (LocalNamed kind p x scope)
unfolding run
after_name kind p x scope = let h = closes_declaration (with_declarator scope (Assign p x (Var 0) Done)) in (at nowhere signs.Equals ∷ at nowhere (signs.Name 0) ∷ at nowhere signs.Semicolon ∷ h.0, h.1, h.2)

after_declarations : (secs : Sections) (ds : List Declared) → Rest (Outside secs ds)
unfolding run
after_declarations Outermost ds = (at nowhere signs.Int ∷ at nowhere signs.Main ∷ at nowhere signs.Open ∷ at nowhere signs.Close ∷ at nowhere signs.LeftBrace ∷ at nowhere signs.RightBrace ∷ [], file_of ds Done nowhere, refl)
after_declarations (InPart gs n outer) ds = let h = after_declarations outer ds in (at nowhere signs.GroupEnd ∷ h.0, h.1, h.2)
after_declarations (InLast gs outer) ds = let h = after_declarations outer ds in (at nowhere signs.GroupEnd ∷ h.0, h.1, h.2)

after_parameters : (aim : Aim) → Rest (AfterParameters aim)
unfolding run
after_parameters (ToPrototype secs ds) = let h = after_declarations secs ds in (at nowhere signs.Semicolon ∷ h.0, h.1, h.2)
after_parameters (ToMain ds) = (at nowhere signs.LeftBrace ∷ at nowhere signs.RightBrace ∷ [], file_of ds Done nowhere, refl)

after_groups : (f : File) (parts : List Tailing) → Rest (Over f parts)
unfolding run
after_groups f [] = ([], f, refl)
after_groups f (Another k ∷ parts) = let h = after_groups f parts in (at nowhere signs.GroupEnd ∷ h.0, h.1, h.2)
after_groups f (Final k ∷ parts) = let h = after_groups f parts in (at nowhere signs.GroupEnd ∷ h.0, h.1, h.2)

after_declarator : (kind : Qualifier) (x : ℕ) (n : ℤ) (secs : Sections) (ds : List Declared) → Rest (Started kind x n secs ds)
unfolding run
after_declarator Unqualified x n secs ds = let h = after_declarations secs (with_declared secs ds x n) in (at nowhere signs.Semicolon ∷ h.0, h.1, h.2)
after_declarator Constant x n secs ds = let h = after_declarations secs (with_declared secs ds x n) in (at nowhere signs.Semicolon ∷ h.0, h.1, h.2)
after_declarator (Counted last) x n secs ds = let h = after_declarations secs (with_declared secs ds x n) in (at nowhere signs.RightBrace ∷ at nowhere signs.Semicolon ∷ h.0, h.1, h.2)

-- in a static declaration of `main`
after_static : (part : StaticPart) (outer : Stack) → Rest (InStatic part outer)
unfolding run
after_static BehindStatic outer = let h = closes_ready outer in (at nowhere signs.Int ∷ at nowhere (signs.Name 0) ∷ at nowhere signs.Semicolon ∷ h.0, h.1, h.2)
after_static BehindStaticConst outer = let h = closes_ready outer in (at nowhere signs.Int ∷ at nowhere (signs.Name 0) ∷ at nowhere signs.Equals ∷ at nowhere (signs.Number (pos 0)) ∷ at nowhere signs.Semicolon ∷ h.0, h.1, h.2)
after_static (BehindStaticType Unqualified words) outer = let h = closes_ready outer in (at nowhere (signs.Name 0) ∷ at nowhere signs.Semicolon ∷ h.0, h.1, h.2)
after_static (BehindStaticType Constant words) outer = let h = closes_ready outer in (at nowhere (signs.Name 0) ∷ at nowhere signs.Equals ∷ at nowhere (signs.Number (pos 0)) ∷ at nowhere signs.Semicolon ∷ h.0, h.1, h.2)
after_static (BehindStaticType (Counted last) words) outer = let h = closes_ready outer in (at nowhere (signs.Name 0) ∷ at nowhere signs.Equals ∷ at nowhere (signs.Number (pos 0)) ∷ at nowhere signs.Semicolon ∷ h.0, h.1, h.2)
after_static (BeforeStaticName kind) outer = let h = closes_ready outer in (at nowhere (signs.Name 0) ∷ at nowhere signs.Equals ∷ at nowhere (signs.Number (pos 0)) ∷ at nowhere signs.Semicolon ∷ h.0, h.1, h.2)
after_static (BehindStaticName kind) outer = let h = closes_ready outer in (at nowhere signs.Equals ∷ at nowhere (signs.Number (pos 0)) ∷ at nowhere signs.Semicolon ∷ h.0, h.1, h.2)
after_static (BehindStaticEquals kind) outer = let h = closes_ready outer in (at nowhere (signs.Number (pos 0)) ∷ at nowhere signs.Semicolon ∷ h.0, h.1, h.2)
after_static (BehindStaticMinus kind) outer = let h = closes_ready outer in (at nowhere (signs.Number (pos 0)) ∷ at nowhere signs.Semicolon ∷ h.0, h.1, h.2)
after_static (BehindStaticNumber kind) outer = let h = closes_ready outer in (at nowhere signs.Semicolon ∷ h.0, h.1, h.2)

pub completes : (state : ReadingState) → (tail : List Item) × (made : File) × (run state tail ≡ Ok made)
unfolding run after_declarator
completes (Outside secs ds) = after_declarations secs ds
completes (AfterStatic secs ds) = let h = after_declarator Unqualified 0 (pos 0) secs ds in (at nowhere signs.Int ∷ at nowhere (signs.Name 0) ∷ h.0, h.1, h.2)
completes (AfterExtern secs ds) = let h = after_parameters (ToPrototype secs ds) in (at nowhere signs.Int ∷ at nowhere signs.Input ∷ at nowhere signs.Open ∷ at nowhere signs.Close ∷ h.0, h.1, h.2)
completes (AfterConst secs ds) = let h = after_declarator Constant 0 (pos 0) secs ds in (at nowhere signs.Int ∷ at nowhere (signs.Name 0) ∷ at nowhere signs.Equals ∷ at nowhere (signs.Number (pos 0)) ∷ h.0, h.1, h.2)
completes (AfterEnum secs ds) = let h = after_declarator uncounted 0 (pos 0) secs ds in (at nowhere signs.LeftBrace ∷ at nowhere (signs.Name 0) ∷ at nowhere signs.Equals ∷ at nowhere (signs.Number (pos 0)) ∷ h.0, h.1, h.2)
completes (AfterVoidType secs ds) = let h = after_parameters (ToPrototype secs ds) in (at nowhere (signs.Function 0) ∷ at nowhere signs.Open ∷ at nowhere signs.Close ∷ h.0, h.1, h.2)
completes (AfterType NoWord words secs ds) = let h = after_declarator Unqualified 0 (pos 0) secs ds in (at nowhere (signs.Name 0) ∷ h.0, h.1, h.2)
completes (AfterType StaticWord words secs ds) = let h = after_declarator Unqualified 0 (pos 0) secs ds in (at nowhere (signs.Name 0) ∷ h.0, h.1, h.2)
completes (AfterType ExternWord words secs ds) = let h = after_parameters (ToPrototype secs ds) in (at nowhere signs.Input ∷ at nowhere signs.Open ∷ at nowhere signs.Close ∷ h.0, h.1, h.2)
completes (AfterType ConstWord words secs ds) = let h = after_declarator Constant 0 (pos 0) secs ds in (at nowhere (signs.Name 0) ∷ at nowhere signs.Equals ∷ at nowhere (signs.Number (pos 0)) ∷ h.0, h.1, h.2)
completes (Declaring kind secs ds) = let h = after_declarator kind 0 (pos 0) secs ds in (at nowhere (signs.Name 0) ∷ at nowhere signs.Equals ∷ at nowhere (signs.Number (pos 0)) ∷ h.0, h.1, h.2)
completes (Bare kind x secs ds) = let h = after_declarator kind x (pos 0) secs ds in (at nowhere signs.Equals ∷ at nowhere (signs.Number (pos 0)) ∷ h.0, h.1, h.2)
completes (Starting kind x secs ds) = let h = after_declarator kind x (pos 0) secs ds in (at nowhere (signs.Number (pos 0)) ∷ h.0, h.1, h.2)
completes (Negating kind x secs ds) = let h = after_declarator kind x (neg_ℤ (pos 0)) secs ds in (at nowhere (signs.Number (pos 0)) ∷ h.0, h.1, h.2)
completes (Started kind x n secs ds) = after_declarator kind x n secs ds
completes (Listing last secs ds) = let h = after_declarations secs ds in (at nowhere signs.RightBrace ∷ at nowhere signs.Semicolon ∷ h.0, h.1, h.2)
completes (Enumerated secs ds) = let h = after_declarations secs ds in (at nowhere signs.Semicolon ∷ h.0, h.1, h.2)
completes (AfterDefine secs ds) = let h = after_declarations secs (with_declared secs ds 0 (pos 0)) in (at nowhere (signs.Name 0) ∷ at nowhere (signs.Number (pos 0)) ∷ h.0, h.1, h.2)
completes (Defining x secs ds) = let h = after_declarations secs (with_declared secs ds x (pos 0)) in (at nowhere (signs.Number (pos 0)) ∷ h.0, h.1, h.2)
completes (NegativeDefining x secs ds) = let h = after_declarations secs (with_declared secs ds x (neg_ℤ (pos 0))) in (at nowhere (signs.Number (pos 0)) ∷ h.0, h.1, h.2)
completes (Enclosing x secs ds) = let h = after_declarations secs (with_declared secs ds x (pos 0)) in (at nowhere (signs.Number (pos 0)) ∷ at nowhere signs.Close ∷ h.0, h.1, h.2)
completes (NegativeEnclosing x secs ds) = let h = after_declarations secs (with_declared secs ds x (neg_ℤ (pos 0))) in (at nowhere (signs.Number (pos 0)) ∷ at nowhere signs.Close ∷ h.0, h.1, h.2)
completes (Enclosed x n secs ds) = let h = after_declarations secs (with_declared secs ds x n) in (at nowhere signs.Close ∷ h.0, h.1, h.2)
completes (Parameters aim) = let h = after_parameters aim in (at nowhere signs.Open ∷ at nowhere signs.Close ∷ h.0, h.1, h.2)
completes (InParameters aim) = let h = after_parameters aim in (at nowhere signs.Close ∷ h.0, h.1, h.2)
completes (AfterVoid aim) = let h = after_parameters aim in (at nowhere signs.Close ∷ h.0, h.1, h.2)
completes (AfterParameters aim) = after_parameters aim
completes (Ready outer) = closes_ready outer
completes (LocalConst scope) = let h = after_name (initialising scope Constant) nowhere 0 scope in (at nowhere signs.Int ∷ at nowhere (signs.Name 0) ∷ h.0, h.1, h.2)
completes (LocalType Unqualified words scope) = let h = after_name (initialising scope Unqualified) nowhere 0 scope in (at nowhere (signs.Name 0) ∷ h.0, h.1, h.2)
completes (LocalType Constant words scope) = let h = after_name (initialising scope Constant) nowhere 0 scope in (at nowhere (signs.Name 0) ∷ h.0, h.1, h.2)
completes (LocalType (Counted last) words scope) = let h = after_name (initialising scope (Counted last)) nowhere 0 scope in (at nowhere (signs.Name 0) ∷ h.0, h.1, h.2)
completes (NextLocal kind scope) = let h = after_name (initialising scope kind) nowhere 0 scope in (at nowhere (signs.Name 0) ∷ h.0, h.1, h.2)
completes (LocalNamed kind p x scope) = after_name kind p x scope
completes (InStatic part outer) = after_static part outer
completes (Ended outer c) = let h = closes outer c in (closers outer, h.0, h.1)
completes (Wants fs u) = let h = ends_expr fs u (Var 0) in (at nowhere (signs.Name 0) ∷ h.tail, h.made, h.reads)
completes (Has fs u e) = let h = ends_expr fs u e in (h.tail, h.made, h.reads)
completes (Counting p u site) = let h = closes_pending (OfStatement site (changed_by_one p 0 u)) in (at nowhere (signs.Name 0) ∷ h.0, h.1, h.2)
completes (Named p x site) = let h = ends_use (ToAssign p x site) (Var 0) in (at nowhere signs.Equals ∷ at nowhere (signs.Name 0) ∷ h.tail, h.made, h.reads)
completes (Opens u) = let h = ends_use u (Var 0) in (at nowhere signs.Open ∷ at nowhere (signs.Name 0) ∷ h.tail, h.made, h.reads)
completes (ForOpens p outer) = let h = closes_start p outer in (at nowhere signs.Open ∷ h.0, h.1, h.2)
completes (StartComes p outer) = closes_start p outer
completes (TestComes start outer) = closes_test start outer
completes (StepComes start p e outer) = closes_step start p e outer
completes (RedoOpens p c outer) = let h = closes outer (Do p c nowhere (Var 0) Done) in (at nowhere signs.Open ∷ at nowhere (signs.Name 0) ∷ at nowhere signs.Close ∷ at nowhere signs.Semicolon ∷ closers outer, h.0, h.1)
completes (RedoComes p c outer) = let h = closes outer (Do p c nowhere (Var 0) Done) in (at nowhere (signs.Name 0) ∷ at nowhere signs.Close ∷ at nowhere signs.Semicolon ∷ closers outer, h.0, h.1)
completes (VoidComes p outer) = let h = closes outer (Skip p Done) in (at nowhere signs.Void ∷ at nowhere signs.Close ∷ at nowhere signs.Input ∷ at nowhere signs.Open ∷ at nowhere signs.Close ∷ at nowhere signs.Semicolon ∷ closers outer, h.0, h.1)
completes (VoidCloses p outer) = let h = closes outer (Skip p Done) in (at nowhere signs.Close ∷ at nowhere signs.Input ∷ at nowhere signs.Open ∷ at nowhere signs.Close ∷ at nowhere signs.Semicolon ∷ closers outer, h.0, h.1)
completes (CallComes p outer) = let h = closes outer (Skip p Done) in (at nowhere signs.Input ∷ at nowhere signs.Open ∷ at nowhere signs.Close ∷ at nowhere signs.Semicolon ∷ closers outer, h.0, h.1)
completes (CallOpens made) = let h = closes_pending made in (at nowhere signs.Open ∷ at nowhere signs.Close ∷ h.0, h.1, h.2)
completes (CallCloses made) = let h = closes_pending made in (at nowhere signs.Close ∷ h.0, h.1, h.2)
completes (Finishing made) = closes_pending made
completes (Over f parts) = after_groups f parts
