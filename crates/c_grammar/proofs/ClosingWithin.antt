-- Whatever is open within the limits can be closed within them: the text that closes it opens nothing more, and has no
-- operator.
use Rattle.std.proofs.Common.{◌≡◌, ℕ, ℤ, pos, neg_ℤ, suc, ◌≤◌, List, [], ◌∷◌, Some, Ok, refl, subst, ◌∙◌, arith}
use Rattle.fam_outer.specs.declared.faults.Place.{Place}
use Rattle.c_tree.specs.declared.lists.Declared.{Declared}
use Rattle.c_tree.specs.Tree.{Term, Number, Var, Binary, Return, Code, Done, Assign, Assert, If, While, Do, Leave, Block, Skip, Cond, followed}
use Rattle.c_grammar.specs.declared.items.Sign.TheVariants as signs
use Rattle.c_grammar.specs.declared.items.Item.{Item}
use Rattle.c_grammar.specs.Grammar.{at, tighter, applied, updated, changed_by_one, Raise, Qualifier, Unqualified, Constant, Counted, uncounted, File, file_of}
use Rattle.c_grammar.specs.Ahead.{Loose, NoElse}
use Rattle.c_grammar.specs.Machine.{Tailing, Another, Final, Frame, Paren, Pre, Left, Stack, Top, Braces, Yes, No, ThenOf, ElseOf, LoopOf, DoOf, Start, ChangeStart, DeclaredStart, Scope, ListScope, ForScope, Site, AsStatement, AsStart, AsStep, Use, ToAssign, ToInitialise, ToUpdate, ToAssert, ToChoose, ToLoop, ToRepeat, ToRedo, ToReturn, Pending, OfStatement, OfLocal, Sections, Outermost, InPart, InLast, Aim, ToPrototype, ToMain, ReadingState, Outside, AfterStatic, AfterExtern, AfterConst, AfterEnum, AfterVoidType, AfterType, NoWord, StaticWord, ExternWord, ConstWord, Declaring, Bare, Starting, Negating, Started, Listing, Enumerated, AfterDefine, Defining, NegativeDefining, Enclosing, NegativeEnclosing, Enclosed, Parameters, InParameters, AfterVoid, AfterParameters, Ready, LocalConst, LocalType, NextLocal, LocalNamed, Ended, Wants, Has, Counting, Named, Opens, ForOpens, StartComes, TestComes, StepComes, RedoOpens, RedoComes, VoidComes, VoidCloses, CallComes, CallOpens, CallCloses, Finishing, Over, with_declared, with_declarator, behind_declaration, initialising, started_by, linked, step, StaticPart, InStatic, BehindStatic, BehindStaticConst, BehindStaticType, BeforeStaticName, BehindStaticName, BehindStaticEquals, BehindStaticMinus, BehindStaticNumber}
use Rattle.c_grammar.specs.Deep.{guarded}
use Rattle.c_grammar.proofs.CompleteExpressions.{pre_step, left_step}
use Rattle.c_grammar.proofs.StatementEnds.{loop_step, else_step, then_step}
use Rattle.c_grammar.proofs.Closing.{nowhere, closers, closers_no_else}
use Rattle.c_grammar.proofs.CompleteWithin.{takes, same_within}
use Rattle.c_grammar.proofs.TokensWithin.{last_sign, then_comes, assigned_there, updated_there}

closes : (outer : Stack) (c : Code) (n : ℕ) → (made : File) × (guarded (Ended outer c) n (closers outer) ≡ Ok made)
unfolding closers guarded
closes (Top ds made) c n = (file_of ds (followed made c) nowhere, refl)
closes (Braces p made outer) c n = closes outer (Block p (followed made c) Done) 0
closes (Yes links i made outer) c n = closes outer (linked links (Cond i (followed made c) Done Done)) 0
closes (No links i first made outer) c n = closes outer (linked links (Cond i first (followed made c) Done)) 0
closes (ThenOf p e outer) c n =
    let h = closes outer (If p e c Done Done) n in
    (h.0, same_within (Ended (ThenOf p e outer) c) (Ended outer (If p e c Done Done)) n refl refl refl refl (closers outer) (λ x y is. then_step p e outer c x.place x.sign (subst NoElse is (closers_no_else outer))) ∙ h.1)
closes (ElseOf p e first outer) c n =
    let h = closes outer (If p e first c Done) n in
    (h.0, same_within (Ended (ElseOf p e first outer) c) (Ended outer (If p e first c Done)) n refl refl refl refl (closers outer) (λ x y is. else_step p e first outer c x.place x.sign) ∙ h.1)
closes (LoopOf start p e advance outer) c n =
    let made : Code = started_by start (While p e advance c Done) in
    let h = closes outer made n in
    (h.0, same_within (Ended (LoopOf start p e advance outer) c) (Ended outer made) n refl refl refl refl (closers outer) (λ x y is. loop_step start p e advance outer c x.place x.sign) ∙ h.1)
closes (DoOf p outer) c n = closes outer (Do p c nowhere (Var 0) Done) 0

-- the rest of a file within the limits
abbrev pub Rest : ReadingState → ℕ → Type 0
Rest state n = (tail : List Item) × (made : File) × (guarded state n tail ≡ Ok made)

-- before the test of a `for`
closes_test : (start : Start) (outer : Stack) (n : ℕ) → Rest (TestComes start outer) n
unfolding guarded
closes_test start outer n =
    let loop : Stack = LoopOf start nowhere (Number (pos 1)) Done outer in
    let h = closes loop (Skip nowhere Done) 0 in
    (at nowhere signs.Semicolon ∷ at nowhere signs.Close ∷ at nowhere signs.Semicolon ∷ closers loop, h.0, h.1)

-- where a statement may begin
closes_ready : (outer : Stack) (n : ℕ) → Rest (Ready outer) n
unfolding guarded
closes_ready outer n = let h = closes outer (Skip nowhere Done) 0 in (at nowhere signs.Semicolon ∷ closers outer, h.0, h.1)

-- behind a declaration
closes_declaration : (scope : Scope) (n : ℕ) → Rest (behind_declaration scope) n
closes_declaration (ListScope outer) n = closes_ready outer n
closes_declaration (ForScope p made outer) n = closes_test (DeclaredStart p made) outer n

-- behind a change, where it stands
after_change : (site : Site) (c : Code) (n : ℕ) → Rest (then_comes site c) n
unfolding guarded
after_change (AsStatement outer) c n = let h = closes outer c n in (closers outer, h.0, h.1)
after_change (AsStart outer) c n = closes_test (ChangeStart c) outer n
after_change (AsStep start p e outer) c n = let h = closes (LoopOf start p e c outer) (Skip nowhere Done) 0 in (at nowhere signs.Semicolon ∷ closers (LoopOf start p e c outer), h.0, h.1)

record CanEnd (state : ReadingState) (n : ℕ) : Type 0 where
  pub tail : List Item
  pub made : File
  pub reads : guarded state n tail ≡ Ok made
  pub tight : (k : ℕ) → Loose k tail

-- an expression with which a change ends
ends_change : (u : Use) (e : Term) (site : Site) (c : Code) (n : ℕ) → n ≤ 64 → step (Has [] u e) nowhere (last_sign site) ≡ Some (then_comes site c) → CanEnd (Has [] u e) n
ends_change u e (AsStatement outer) c n few is =
    let h = after_change (AsStatement outer) c n in
    record { tail = at nowhere signs.Semicolon ∷ h.0; made = h.1; reads = takes (Has [] u e) (Ended outer c) nowhere signs.Semicolon n n h.0 is refl refl few ∙ h.2; tight = λ k. tt }
ends_change u e (AsStart outer) c n few is =
    let h = after_change (AsStart outer) c n in
    record { tail = at nowhere signs.Semicolon ∷ h.0; made = h.1; reads = takes (Has [] u e) (TestComes (ChangeStart c) outer) nowhere signs.Semicolon n n h.0 is refl refl few ∙ h.2; tight = λ k. tt }
ends_change u e (AsStep start p t outer) c n few is =
    let h = after_change (AsStep start p t outer) c n in
    record { tail = at nowhere signs.Close ∷ h.0; made = h.1; reads = takes (Has [] u e) (Ready (LoopOf start p t c outer)) nowhere signs.Close n n h.0 is refl refl few ∙ h.2; tight = λ k. tt }

ends_use : (u : Use) (e : Term) (n : ℕ) → n ≤ 64 → CanEnd (Has [] u e) n
unfolding guarded
ends_use (ToAssign p x site) e n few = ends_change (ToAssign p x site) e site (Assign p x e Done) n few (assigned_there p nowhere x e site)
ends_use (ToInitialise kind p x scope) e n few =
    let next : Scope = with_declarator scope (Assign p x e Done) in
    let h = closes_declaration next n in
    record { tail = at nowhere signs.Semicolon ∷ h.0; made = h.1; reads = takes (Has [] (ToInitialise kind p x scope) e) (behind_declaration next) nowhere signs.Semicolon n n h.0 refl refl refl few ∙ h.2; tight = λ k. tt }
ends_use (ToUpdate p x u site) e n few = ends_change (ToUpdate p x u site) e site (updated p x u e) n few (updated_there p nowhere x u e site)
ends_use (ToAssert p outer) e n few =
    let h = closes outer (Assert p e Done) 0 in
    let text : List Item = at nowhere signs.Semicolon ∷ closers outer in
    record { tail = at nowhere signs.Close ∷ text; made = h.0; reads = takes (Has [] (ToAssert p outer) e) (Finishing (OfStatement (AsStatement outer) (Assert p e Done))) nowhere signs.Close n n text refl refl refl few ∙ h.1; tight = λ k. tt }
ends_use (ToChoose p outer) e n few =
    let h = closes (ThenOf p e outer) (Skip nowhere Done) 0 in
    let text : List Item = at nowhere signs.Semicolon ∷ closers (ThenOf p e outer) in
    record { tail = at nowhere signs.Close ∷ text; made = h.0; reads = takes (Has [] (ToChoose p outer) e) (Ready (ThenOf p e outer)) nowhere signs.Close n n text refl refl refl few ∙ h.1; tight = λ k. tt }
ends_use (ToLoop p outer) e n few =
    let loop : Stack = LoopOf (ChangeStart Done) p e Done outer in
    let h = closes loop (Skip nowhere Done) 0 in
    let text : List Item = at nowhere signs.Semicolon ∷ closers loop in
    record { tail = at nowhere signs.Close ∷ text; made = h.0; reads = takes (Has [] (ToLoop p outer) e) (Ready loop) nowhere signs.Close n n text refl refl refl few ∙ h.1; tight = λ k. tt }
ends_use (ToRepeat start p outer) e n few =
    let loop : Stack = LoopOf start p e Done outer in
    let h = closes loop (Skip nowhere Done) 0 in
    let text : List Item = at nowhere signs.Close ∷ at nowhere signs.Semicolon ∷ closers loop in
    record { tail = at nowhere signs.Semicolon ∷ text; made = h.0; reads = takes (Has [] (ToRepeat start p outer) e) (StepComes start p e outer) nowhere signs.Semicolon n n text refl refl refl few ∙ h.1; tight = λ k. tt }
ends_use (ToRedo p c q outer) e n few =
    let h = closes outer (Do p c q e Done) 0 in
    let text : List Item = at nowhere signs.Semicolon ∷ closers outer in
    record { tail = at nowhere signs.Close ∷ text; made = h.0; reads = takes (Has [] (ToRedo p c q outer) e) (Finishing (OfStatement (AsStatement outer) (Do p c q e Done))) nowhere signs.Close n n text refl refl refl few ∙ h.1; tight = λ k. tt }
ends_use (ToReturn p outer) e n few =
    let h = closes outer (Leave p (Return e) Done) n in
    record { tail = at nowhere signs.Semicolon ∷ closers outer; made = h.0; reads = takes (Has [] (ToReturn p outer) e) (Ended outer (Leave p (Return e) Done)) nowhere signs.Semicolon n n (closers outer) refl refl refl few ∙ h.1; tight = λ k. tt }

ends_expr : (fs : List Frame) (u : Use) (e : Term) (n : ℕ) → n ≤ 64 → CanEnd (Has fs u e) n
ends_expr [] u e n few = ends_use u e n few
ends_expr (Paren ∷ fs) u e n few =
    let h = ends_expr fs u e n few in
    record { tail = at nowhere signs.Close ∷ h.tail; made = h.made; reads = takes (Has (Paren ∷ fs) u e) (Has fs u e) nowhere signs.Close n n h.tail refl refl refl few ∙ h.reads; tight = λ k. tt }
ends_expr (Pre v ∷ fs) u e n few =
    let h = ends_expr fs u (applied v e) n few in
    record { tail = h.tail; made = h.made; reads = same_within (Has (Pre v ∷ fs) u e) (Has fs u (applied v e)) n refl refl refl refl h.tail (λ x y is. pre_step v fs u e x.sign) ∙ h.reads; tight = h.tight }
ends_expr (Left op a ∷ fs) u e n few =
    let h = ends_expr fs u (Binary op a e) n few in
    record { tail = h.tail; made = h.made; reads = same_within (Has (Left op a ∷ fs) u e) (Has fs u (Binary op a e)) n refl refl refl refl h.tail (λ x y is. left_step op a fs u e x.sign (subst (Loose (suc (tighter op))) is (h.tight (suc (tighter op))))) ∙ h.reads; tight = h.tight }

after_declarations : (secs : Sections) (ds : List Declared) (n : ℕ) → Rest (Outside secs ds) n
unfolding guarded
after_declarations Outermost ds n = (at nowhere signs.Int ∷ at nowhere signs.Main ∷ at nowhere signs.Open ∷ at nowhere signs.Close ∷ at nowhere signs.LeftBrace ∷ at nowhere signs.RightBrace ∷ [], file_of ds Done nowhere, refl)
after_declarations (InPart gs i outer) ds n = let h = after_declarations outer ds 0 in (at nowhere signs.GroupEnd ∷ h.0, h.1, h.2)
after_declarations (InLast gs outer) ds n = let h = after_declarations outer ds 0 in (at nowhere signs.GroupEnd ∷ h.0, h.1, h.2)

after_parameters : (aim : Aim) (n : ℕ) → Rest (AfterParameters aim) n
unfolding guarded
after_parameters (ToPrototype secs ds) n = let h = after_declarations secs ds 0 in (at nowhere signs.Semicolon ∷ h.0, h.1, h.2)
after_parameters (ToMain ds) n = (at nowhere signs.LeftBrace ∷ at nowhere signs.RightBrace ∷ [], file_of ds Done nowhere, refl)

after_groups : (f : File) (parts : List Tailing) (n : ℕ) → Rest (Over f parts) n
unfolding guarded
after_groups f [] n = ([], f, refl)
after_groups f (Another k ∷ parts) n = let h = after_groups f parts 0 in (at nowhere signs.GroupEnd ∷ h.0, h.1, h.2)
after_groups f (Final k ∷ parts) n = let h = after_groups f parts 0 in (at nowhere signs.GroupEnd ∷ h.0, h.1, h.2)

after_declarator : (kind : Qualifier) (x : ℕ) (i : ℤ) (secs : Sections) (ds : List Declared) (n : ℕ) → Rest (Started kind x i secs ds) n
unfolding guarded
after_declarator Unqualified x i secs ds n = let h = after_declarations secs (with_declared secs ds x i) 0 in (at nowhere signs.Semicolon ∷ h.0, h.1, h.2)
after_declarator Constant x i secs ds n = let h = after_declarations secs (with_declared secs ds x i) 0 in (at nowhere signs.Semicolon ∷ h.0, h.1, h.2)
after_declarator (Counted last) x i secs ds n = let h = after_declarations secs (with_declared secs ds x i) 0 in (at nowhere signs.RightBrace ∷ at nowhere signs.Semicolon ∷ h.0, h.1, h.2)

-- behind a statement or a declarator in `main`
closes_pending : (made : Pending) (n : ℕ) → Rest (Finishing made) n
unfolding guarded
closes_pending (OfStatement (AsStatement outer) c) n = let h = after_change (AsStatement outer) c 0 in (at nowhere signs.Semicolon ∷ h.0, h.1, h.2)
closes_pending (OfStatement (AsStart outer) c) n = let h = after_change (AsStart outer) c 0 in (at nowhere signs.Semicolon ∷ h.0, h.1, h.2)
closes_pending (OfStatement (AsStep start p e outer) c) n = let h = after_change (AsStep start p e outer) c 0 in (at nowhere signs.Close ∷ h.0, h.1, h.2)
closes_pending (OfLocal kind scope c) n = let h = closes_declaration (with_declarator scope c) 0 in (at nowhere signs.Semicolon ∷ h.0, h.1, h.2)

-- behind the name of a declarator in `main`
after_name : (kind : Qualifier) (p : Place) (x : ℕ) (scope : Scope) (n : ℕ) → Rest (LocalNamed kind p x scope) n
unfolding guarded
after_name kind p x scope n = let h = ends_use (ToInitialise kind p x scope) (Var 0) 0 (omega arith) in (at nowhere signs.Equals ∷ at nowhere (signs.Name 0) ∷ h.tail, h.made, h.reads)

-- in a static declaration of `main`
after_static : (part : StaticPart) (outer : Stack) (n : ℕ) → Rest (InStatic part outer) n
unfolding guarded
after_static BehindStatic outer n = let h = closes_ready outer 0 in (at nowhere signs.Int ∷ at nowhere (signs.Name 0) ∷ at nowhere signs.Semicolon ∷ h.0, h.1, h.2)
after_static BehindStaticConst outer n = let h = closes_ready outer 0 in (at nowhere signs.Int ∷ at nowhere (signs.Name 0) ∷ at nowhere signs.Equals ∷ at nowhere (signs.Number (pos 0)) ∷ at nowhere signs.Semicolon ∷ h.0, h.1, h.2)
after_static (BehindStaticType Unqualified words) outer n = let h = closes_ready outer 0 in (at nowhere (signs.Name 0) ∷ at nowhere signs.Semicolon ∷ h.0, h.1, h.2)
after_static (BehindStaticType Constant words) outer n = let h = closes_ready outer 0 in (at nowhere (signs.Name 0) ∷ at nowhere signs.Equals ∷ at nowhere (signs.Number (pos 0)) ∷ at nowhere signs.Semicolon ∷ h.0, h.1, h.2)
after_static (BehindStaticType (Counted last) words) outer n = let h = closes_ready outer 0 in (at nowhere (signs.Name 0) ∷ at nowhere signs.Equals ∷ at nowhere (signs.Number (pos 0)) ∷ at nowhere signs.Semicolon ∷ h.0, h.1, h.2)
after_static (BeforeStaticName kind) outer n = let h = closes_ready outer 0 in (at nowhere (signs.Name 0) ∷ at nowhere signs.Equals ∷ at nowhere (signs.Number (pos 0)) ∷ at nowhere signs.Semicolon ∷ h.0, h.1, h.2)
after_static (BehindStaticName kind) outer n = let h = closes_ready outer 0 in (at nowhere signs.Equals ∷ at nowhere (signs.Number (pos 0)) ∷ at nowhere signs.Semicolon ∷ h.0, h.1, h.2)
after_static (BehindStaticEquals kind) outer n = let h = closes_ready outer 0 in (at nowhere (signs.Number (pos 0)) ∷ at nowhere signs.Semicolon ∷ h.0, h.1, h.2)
after_static (BehindStaticMinus kind) outer n = let h = closes_ready outer 0 in (at nowhere (signs.Number (pos 0)) ∷ at nowhere signs.Semicolon ∷ h.0, h.1, h.2)
after_static (BehindStaticNumber kind) outer n = let h = closes_ready outer 0 in (at nowhere signs.Semicolon ∷ h.0, h.1, h.2)

-- each state that is reached within the limits goes on to a file within them
pub goes_on_within : (state : ReadingState) (n : ℕ) → n ≤ 64 → Rest state n
unfolding guarded after_declarator
goes_on_within (Outside secs ds) n few = after_declarations secs ds n
goes_on_within (AfterStatic secs ds) n few = let h = after_declarator Unqualified 0 (pos 0) secs ds 0 in (at nowhere signs.Int ∷ at nowhere (signs.Name 0) ∷ h.0, h.1, h.2)
goes_on_within (AfterExtern secs ds) n few = let h = after_parameters (ToPrototype secs ds) 0 in (at nowhere signs.Int ∷ at nowhere signs.Input ∷ at nowhere signs.Open ∷ at nowhere signs.Close ∷ h.0, h.1, h.2)
goes_on_within (AfterConst secs ds) n few = let h = after_declarator Constant 0 (pos 0) secs ds 0 in (at nowhere signs.Int ∷ at nowhere (signs.Name 0) ∷ at nowhere signs.Equals ∷ at nowhere (signs.Number (pos 0)) ∷ h.0, h.1, h.2)
goes_on_within (AfterEnum secs ds) n few = let h = after_declarator uncounted 0 (pos 0) secs ds 0 in (at nowhere signs.LeftBrace ∷ at nowhere (signs.Name 0) ∷ at nowhere signs.Equals ∷ at nowhere (signs.Number (pos 0)) ∷ h.0, h.1, h.2)
goes_on_within (AfterVoidType secs ds) n few = let h = after_parameters (ToPrototype secs ds) 0 in (at nowhere (signs.Function 0) ∷ at nowhere signs.Open ∷ at nowhere signs.Close ∷ h.0, h.1, h.2)
goes_on_within (AfterType NoWord words secs ds) n few = let h = after_declarator Unqualified 0 (pos 0) secs ds 0 in (at nowhere (signs.Name 0) ∷ h.0, h.1, h.2)
goes_on_within (AfterType StaticWord words secs ds) n few = let h = after_declarator Unqualified 0 (pos 0) secs ds 0 in (at nowhere (signs.Name 0) ∷ h.0, h.1, h.2)
goes_on_within (AfterType ExternWord words secs ds) n few = let h = after_parameters (ToPrototype secs ds) 0 in (at nowhere signs.Input ∷ at nowhere signs.Open ∷ at nowhere signs.Close ∷ h.0, h.1, h.2)
goes_on_within (AfterType ConstWord words secs ds) n few = let h = after_declarator Constant 0 (pos 0) secs ds 0 in (at nowhere (signs.Name 0) ∷ at nowhere signs.Equals ∷ at nowhere (signs.Number (pos 0)) ∷ h.0, h.1, h.2)
goes_on_within (Declaring kind secs ds) n few = let h = after_declarator kind 0 (pos 0) secs ds 0 in (at nowhere (signs.Name 0) ∷ at nowhere signs.Equals ∷ at nowhere (signs.Number (pos 0)) ∷ h.0, h.1, h.2)
goes_on_within (Bare kind x secs ds) n few = let h = after_declarator kind x (pos 0) secs ds 0 in (at nowhere signs.Equals ∷ at nowhere (signs.Number (pos 0)) ∷ h.0, h.1, h.2)
goes_on_within (Starting kind x secs ds) n few = let h = after_declarator kind x (pos 0) secs ds 0 in (at nowhere (signs.Number (pos 0)) ∷ h.0, h.1, h.2)
goes_on_within (Negating kind x secs ds) n few = let h = after_declarator kind x (neg_ℤ (pos 0)) secs ds 0 in (at nowhere (signs.Number (pos 0)) ∷ h.0, h.1, h.2)
goes_on_within (Started kind x i secs ds) n few = after_declarator kind x i secs ds n
goes_on_within (Listing last secs ds) n few = let h = after_declarations secs ds 0 in (at nowhere signs.RightBrace ∷ at nowhere signs.Semicolon ∷ h.0, h.1, h.2)
goes_on_within (Enumerated secs ds) n few = let h = after_declarations secs ds 0 in (at nowhere signs.Semicolon ∷ h.0, h.1, h.2)
goes_on_within (AfterDefine secs ds) n few = let h = after_declarations secs (with_declared secs ds 0 (pos 0)) 0 in (at nowhere (signs.Name 0) ∷ at nowhere (signs.Number (pos 0)) ∷ h.0, h.1, h.2)
goes_on_within (Defining x secs ds) n few = let h = after_declarations secs (with_declared secs ds x (pos 0)) 0 in (at nowhere (signs.Number (pos 0)) ∷ h.0, h.1, h.2)
goes_on_within (NegativeDefining x secs ds) n few = let h = after_declarations secs (with_declared secs ds x (neg_ℤ (pos 0))) 0 in (at nowhere (signs.Number (pos 0)) ∷ h.0, h.1, h.2)
goes_on_within (Enclosing x secs ds) n few = let h = after_declarations secs (with_declared secs ds x (pos 0)) 0 in (at nowhere (signs.Number (pos 0)) ∷ at nowhere signs.Close ∷ h.0, h.1, h.2)
goes_on_within (NegativeEnclosing x secs ds) n few = let h = after_declarations secs (with_declared secs ds x (neg_ℤ (pos 0))) 0 in (at nowhere (signs.Number (pos 0)) ∷ at nowhere signs.Close ∷ h.0, h.1, h.2)
goes_on_within (Enclosed x i secs ds) n few = let h = after_declarations secs (with_declared secs ds x i) 0 in (at nowhere signs.Close ∷ h.0, h.1, h.2)
goes_on_within (Parameters aim) n few = let h = after_parameters aim 0 in (at nowhere signs.Open ∷ at nowhere signs.Close ∷ h.0, h.1, h.2)
goes_on_within (InParameters aim) n few = let h = after_parameters aim 0 in (at nowhere signs.Close ∷ h.0, h.1, h.2)
goes_on_within (AfterVoid aim) n few = let h = after_parameters aim 0 in (at nowhere signs.Close ∷ h.0, h.1, h.2)
goes_on_within (AfterParameters aim) n few = after_parameters aim n
goes_on_within (Ready outer) n few = closes_ready outer n
goes_on_within (LocalConst scope) n few = let h = after_name (initialising scope Constant) nowhere 0 scope 0 in (at nowhere signs.Int ∷ at nowhere (signs.Name 0) ∷ h.0, h.1, h.2)
goes_on_within (LocalType Unqualified words scope) n few = let h = after_name (initialising scope Unqualified) nowhere 0 scope 0 in (at nowhere (signs.Name 0) ∷ h.0, h.1, h.2)
goes_on_within (LocalType Constant words scope) n few = let h = after_name (initialising scope Constant) nowhere 0 scope 0 in (at nowhere (signs.Name 0) ∷ h.0, h.1, h.2)
goes_on_within (LocalType (Counted last) words scope) n few = let h = after_name (initialising scope (Counted last)) nowhere 0 scope 0 in (at nowhere (signs.Name 0) ∷ h.0, h.1, h.2)
goes_on_within (NextLocal kind scope) n few = let h = after_name (initialising scope kind) nowhere 0 scope 0 in (at nowhere (signs.Name 0) ∷ h.0, h.1, h.2)
goes_on_within (LocalNamed kind p x scope) n few = after_name kind p x scope n
goes_on_within (InStatic part outer) n few = after_static part outer n
goes_on_within (Ended outer c) n few = let h = closes outer c n in (closers outer, h.0, h.1)
goes_on_within (Wants fs u) n few = let h = ends_expr fs u (Var 0) n few in (at nowhere (signs.Name 0) ∷ h.tail, h.made, takes (Wants fs u) (Has fs u (Var 0)) nowhere (signs.Name 0) n n h.tail refl refl refl few ∙ h.reads)
goes_on_within (Has fs u e) n few = let h = ends_expr fs u e n few in (h.tail, h.made, h.reads)
goes_on_within (Counting p u site) n few = let h = closes_pending (OfStatement site (changed_by_one p 0 u)) 0 in (at nowhere (signs.Name 0) ∷ h.0, h.1, h.2)
goes_on_within (Named p x site) n few = let h = closes_pending (OfStatement site (changed_by_one p x Raise)) 0 in (at nowhere signs.PlusPlus ∷ h.0, h.1, h.2)
goes_on_within (Opens u) n few = let h = ends_use u (Var 0) 0 (omega arith) in (at nowhere signs.Open ∷ at nowhere (signs.Name 0) ∷ h.tail, h.made, h.reads)
goes_on_within (ForOpens p outer) n few = let h = after_change (AsStart outer) Done 0 in (at nowhere signs.Open ∷ at nowhere signs.Semicolon ∷ h.0, h.1, h.2)
goes_on_within (StartComes p outer) n few = let h = after_change (AsStart outer) Done 0 in (at nowhere signs.Semicolon ∷ h.0, h.1, h.2)
goes_on_within (TestComes start outer) n few = closes_test start outer n
goes_on_within (StepComes start p e outer) n few = let h = after_change (AsStep start p e outer) Done 0 in (at nowhere signs.Close ∷ h.0, h.1, h.2)
goes_on_within (RedoOpens p c outer) n few = let h = closes outer (Do p c nowhere (Var 0) Done) 0 in (at nowhere signs.Open ∷ at nowhere (signs.Name 0) ∷ at nowhere signs.Close ∷ at nowhere signs.Semicolon ∷ closers outer, h.0, h.1)
goes_on_within (RedoComes p c outer) n few = let h = closes outer (Do p c nowhere (Var 0) Done) 0 in (at nowhere (signs.Name 0) ∷ at nowhere signs.Close ∷ at nowhere signs.Semicolon ∷ closers outer, h.0, h.1)
goes_on_within (VoidComes p outer) n few = let h = closes outer (Skip p Done) 0 in (at nowhere signs.Void ∷ at nowhere signs.Close ∷ at nowhere signs.Input ∷ at nowhere signs.Open ∷ at nowhere signs.Close ∷ at nowhere signs.Semicolon ∷ closers outer, h.0, h.1)
goes_on_within (VoidCloses p outer) n few = let h = closes outer (Skip p Done) 0 in (at nowhere signs.Close ∷ at nowhere signs.Input ∷ at nowhere signs.Open ∷ at nowhere signs.Close ∷ at nowhere signs.Semicolon ∷ closers outer, h.0, h.1)
goes_on_within (CallComes p outer) n few = let h = closes outer (Skip p Done) 0 in (at nowhere signs.Input ∷ at nowhere signs.Open ∷ at nowhere signs.Close ∷ at nowhere signs.Semicolon ∷ closers outer, h.0, h.1)
goes_on_within (CallOpens made) n few = let h = closes_pending made 0 in (at nowhere signs.Open ∷ at nowhere signs.Close ∷ h.0, h.1, h.2)
goes_on_within (CallCloses made) n few = let h = closes_pending made 0 in (at nowhere signs.Close ∷ h.0, h.1, h.2)
goes_on_within (Finishing made) n few = closes_pending made n
goes_on_within (Over f parts) n few = after_groups f parts n
