use Rattle.cpp_conditions.specs.Propositions.{IsBelow}
use Rattle.cpp_conditions.specs.View.{formula}
use Rattle.analysis_tests.proofs.start_chains.falling.Given as goal

abbrev pub invariant-loop-test : goal.invariant-loop-test
invariant-loop-test l = IsBelow 320 (formula l.made)
