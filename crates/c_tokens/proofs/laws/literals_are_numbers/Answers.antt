use Rattle.c_tokens.proofs.Decimals.{read, small, written}
use Rattle.c_tokens.proofs.laws.literals_are_numbers.Goals as goal

pub returns-clause-read : goal.returns-clause-read
returns-clause-read c = read

pub returns-clause-small : goal.returns-clause-small
returns-clause-small c = small

pub returns-clause-written : goal.returns-clause-written
returns-clause-written c = written
