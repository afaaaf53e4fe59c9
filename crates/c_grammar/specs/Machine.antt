-- Reading item by item, with what is open.
use Rattle.std.specs.Prelude.{ℕ, suc, List, [], ◌∷◌, length, Option, Some, None, Result, Ok, Err}
use Rattle.fam_outer.specs.declared.faults.Place.{Place}
use Rattle.c_tree.specs.Tree.{Done, Skip}
use Rattle.c_grammar.specs.declared.items.Sign.{Sign}
use Rattle.c_grammar.specs.declared.items.Sign.TheVariants as signs
use Rattle.c_grammar.specs.declared.items.Item.{Item}
pub use Rattle.c_grammar.specs.Groups.{Sections, Outermost, InPart, InLast, guards_of}
use Rattle.c_grammar.specs.Grammar.{File}
pub use Rattle.c_grammar.specs.States.{Frame, Paren, Pre, Left, room, Stack, Top, Braces, Yes, No, ThenOf, ElseOf, LoopOf, DoOf, Start, ChangeStart, DeclaredStart, Onward, InList, AtTest, Scope, ListScope, ForScope, Site, AsStatement, AsStart, AsStep, Use, ToAssign, ToInitialise, ToUpdate, ToAssert, ToChoose, ToLoop, ToRepeat, ToRedo, ToReturn, Pending, OfStatement, OfLocal, Leading, NoWord, StaticWord, ExternWord, ConstWord, TypeWords, OneInt, OneSigned, WholeType, StaticPart, BehindStatic, BehindStaticConst, BehindStaticType, BeforeStaticName, BehindStaticName, BehindStaticEquals, BehindStaticMinus, BehindStaticNumber, Aim, ToPrototype, ToMain, Tailing, Another, Final, ReadingState, Outside, AfterStatic, AfterExtern, AfterConst, AfterEnum, AfterVoidType, AfterType, Declaring, Bare, Starting, Negating, Started, Listing, Enumerated, AfterDefine, Defining, NegativeDefining, Enclosing, NegativeEnclosing, Enclosed, Parameters, InParameters, AfterVoid, AfterParameters, Ready, LocalConst, LocalType, NextLocal, LocalNamed, InStatic, Ended, Wants, Has, Counting, Named, Opens, ForOpens, StartComes, TestComes, StepComes, RedoOpens, RedoComes, VoidComes, VoidCloses, CallComes, CallOpens, CallCloses, Finishing, Over}
pub use Rattle.c_grammar.specs.ExpressionSteps.{is_in_loop, folded, with_declarator, behind_declaration, started_by, placed, settle, prefix_of, ended_change, closed_change, input_of, want, tested, closed_by, assigned, ended_by, initialised, followed_by, have}
pub use Rattle.c_grammar.specs.StatementSteps.{at_open, at_close, at_semicolon, at_while, at_void, at_function, at_void_function, else_of, linked, opened, braced, leaving, next_part, last_part, group_end, in_list, begin, proceed, on, named, counting, changing, start_comes, test_comes, step_comes, redo_comes, local_end, const_word, initialising, next_local, behind_local_type, local_type, without_initialiser, local_named, finishing, static_word, behind_static_word, static_name, behind_static_type, static_type, static_end, static_bare, static_named, static_value, static_negative, static_step}
pub use Rattle.c_grammar.specs.DeclarationSteps.{next_condition, last_section, section_end, first_word, outside, behind_extern, behind_static, after_enum, declaring, qualifying, main_of, naming, behind_type, after_type, with_declared, listed, declaration_end, enumeration_end, started, listing, counts_on, without_value, is_bare, starting, negating, after_define, defined_as, defining, negative_defining, enclosing, negative_enclosing, in_parameters, after_parameters}

-- ---- the end of a file

abbrev pub over : File → List Tailing → Sign → Option ReadingState
over f parts (signs.GroupIf n) = Some (Over f (Another 1 ∷ parts))
over f (Another k ∷ parts) (signs.GroupElif n) = Some (Over f (Another (suc k) ∷ parts))
over f (Another k ∷ parts) signs.GroupElse = Some (Over f (Final k ∷ parts))
over f (part ∷ parts) signs.GroupEnd = Some (Over f parts)
over f _ _ = None

-- ---- the machine

-- what an item leads to, where the state can take it
abbrev pub step : ReadingState → Place → Sign → Option ReadingState
step (Outside secs ds) p s = outside secs ds s
step (AfterStatic secs ds) p s = behind_static secs ds s
step (AfterExtern secs ds) p s = behind_extern secs ds s
step (AfterConst secs ds) p s = first_word ConstWord secs ds s
step (AfterEnum secs ds) p s = after_enum secs ds s
step (AfterVoidType secs ds) p s = at_void_function (Parameters (ToPrototype secs ds)) s
step (AfterType lead words secs ds) p s = after_type lead secs ds s words
step (Declaring kind secs ds) p s = declaring kind secs ds s
step (Bare kind x secs ds) p s = is_bare kind x secs ds s
step (Starting kind x secs ds) p s = starting kind x secs ds s
step (Negating kind x secs ds) p s = negating kind x secs ds s
step (Started kind x n secs ds) p s = started kind x n secs ds s
step (Listing last secs ds) p s = listing last secs ds s
step (Enumerated secs ds) p s = at_semicolon (Outside secs ds) s
step (AfterDefine secs ds) p s = after_define secs ds s
step (Defining x secs ds) p s = defining x secs ds s
step (NegativeDefining x secs ds) p s = negative_defining x secs ds s
step (Enclosing x secs ds) p s = enclosing x secs ds s
step (NegativeEnclosing x secs ds) p s = negative_enclosing x secs ds s
step (Enclosed x n secs ds) p s = at_close (defined_as x n secs ds) s
step (Parameters aim) p s = at_open (InParameters aim) s
step (InParameters aim) p s = in_parameters aim s
step (AfterVoid aim) p s = at_close (AfterParameters aim) s
step (AfterParameters aim) p s = after_parameters aim s
step (Ready outer) p s = begin outer p s
step (LocalConst scope) p s = const_word scope s
step (LocalType kind words scope) p s = local_type kind scope p s words
step (NextLocal kind scope) p s = next_local kind scope p s
step (LocalNamed kind q x scope) p s = local_named kind q x scope s
step (InStatic part outer) p s = static_step part outer s
step (Ended outer c) p s = on outer c p s
step (Wants fs u) p s = want fs u s
step (Has fs u e) p s = have fs u e s
step (Counting q u site) p s = counting q u site s
step (Named q x site) p s = named q x site s
step (Opens u) p s = at_open (Wants [] u) s
step (ForOpens q outer) p s = at_open (StartComes q outer) s
step (StartComes q outer) p s = start_comes q outer p s
step (TestComes start outer) p s = test_comes start outer p s
step (StepComes start q e outer) p s = step_comes start q e outer p s
step (RedoOpens q c outer) p s = at_open (RedoComes q c outer) s
step (RedoComes q c outer) p s = redo_comes q c outer p s
step (VoidComes q outer) p s = at_void (VoidCloses q outer) s
step (VoidCloses q outer) p s = at_close (CallComes q outer) s
step (CallComes q outer) p s = at_function (CallOpens (OfStatement (AsStatement outer) (Skip q Done))) s
step (CallOpens made) p s = at_open (CallCloses made) s
step (CallCloses made) p s = at_close (Finishing made) s
step (Finishing made) p s = finishing made s
step (Over f parts) p s = over f parts s

-- the file, where it may end here
abbrev pub finish : ReadingState → Option File
finish (Over f []) = Some f
finish _ = None

abbrev pub at_end : Option File → Result File ℕ
at_end None = Err 0
at_end (Some f) = Ok f

abbrev pub moved : Option ReadingState → (ReadingState → Result File ℕ) → ℕ → Result File ℕ
moved None go n = Err n
moved (Some state) go n = go state

-- the file, or how many items there are from the wrong one on
unfoldable pub run : ReadingState → List Item → Result File ℕ
run state [] = at_end (finish state)
run state (x ∷ ts) = moved (step state x.place x.sign) (λ next. run next ts) (suc (length ts))

abbrev pub start : ReadingState
start = Outside Outermost []
