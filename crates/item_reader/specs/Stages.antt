-- The stages of a file: which function takes the step of a state.
use Rattle.std.specs.Prelude.{ℕ}
use Rattle.c_grammar.specs.Machine.{ReadingState, Outside, AfterStatic, AfterExtern, AfterConst, AfterEnum, AfterVoidType, AfterType, Declaring, Bare, Starting, Negating, Started, Listing, Enumerated, AfterDefine, Defining, NegativeDefining, Enclosing, NegativeEnclosing, Enclosed, Parameters, InParameters, AfterVoid, AfterParameters, Ready, LocalConst, LocalType, NextLocal, LocalNamed, InStatic, Ended, Wants, Has, Counting, Named, Opens, ForOpens, StartComes, TestComes, StepComes, RedoOpens, RedoComes, VoidComes, VoidCloses, CallComes, CallOpens, CallCloses, Finishing, Over}

-- 0 before a declarator, 1 in it, 2 in a definition, 3 at a statement, 4 in a declaration in `main`, 5 at an expression,
-- 6 in the parentheses of a `for`, 7 before the test of a `do`, 8 in a call, 9 in the parentheses of a function that is declared
-- or at the end of a file
abbrev pub stage : ReadingState → ℕ
stage (Outside secs ds) = 0
stage (AfterStatic secs ds) = 0
stage (AfterExtern secs ds) = 0
stage (AfterConst secs ds) = 0
stage (AfterEnum secs ds) = 0
stage (AfterVoidType secs ds) = 0
stage (AfterType lead words secs ds) = 0
stage (Declaring kind secs ds) = 0
stage (Bare kind x secs ds) = 1
stage (Starting kind x secs ds) = 1
stage (Negating kind x secs ds) = 1
stage (Started kind x n secs ds) = 1
stage (Listing last secs ds) = 1
stage (Enumerated secs ds) = 1
stage (AfterDefine secs ds) = 2
stage (Defining x secs ds) = 2
stage (NegativeDefining x secs ds) = 2
stage (Enclosing x secs ds) = 2
stage (NegativeEnclosing x secs ds) = 2
stage (Enclosed x n secs ds) = 2
stage (Ready outer) = 3
stage (Ended outer c) = 3
stage (Counting p u site) = 3
stage (Named p x site) = 3
stage (Finishing made) = 3
stage (LocalConst scope) = 4
stage (LocalType kind words scope) = 4
stage (NextLocal kind scope) = 4
stage (LocalNamed kind p x scope) = 4
stage (InStatic part outer) = 4
stage (Wants fs u) = 5
stage (Has fs u e) = 5
stage (Opens u) = 5
stage (ForOpens p outer) = 6
stage (StartComes p outer) = 6
stage (TestComes start outer) = 6
stage (StepComes start p e outer) = 6
stage (RedoOpens p c outer) = 7
stage (RedoComes p c outer) = 7
stage (VoidComes p outer) = 8
stage (VoidCloses p outer) = 8
stage (CallComes p outer) = 8
stage (CallOpens made) = 8
stage (CallCloses made) = 8
stage (Parameters aim) = 9
stage (InParameters aim) = 9
stage (AfterVoid aim) = 9
stage (AfterParameters aim) = 9
stage (Over f parts) = 9
