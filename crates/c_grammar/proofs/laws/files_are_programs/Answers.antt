use Rattle.c_grammar.proofs.Fitting.{well_formed_law, plain_law}
use Rattle.c_grammar.proofs.Conditions.{conditioned_law}
use Rattle.c_grammar.proofs.laws.files_are_programs.Goals as goal

pub returns-clause-formed : goal.returns-clause-formed
returns-clause-formed c = well_formed_law

pub returns-clause-plain : goal.returns-clause-plain
returns-clause-plain c = plain_law

pub returns-clause-conditions : goal.returns-clause-conditions
returns-clause-conditions c = conditioned_law
