use Rattle.c_parser.proofs.LocalDeclarations.{declared_all}
use Rattle.c_parser.proofs.laws.declarations_are_those_of_the_grammar.Goals as goal

pub returns : goal.returns
returns c = λ items f forms. declared_all forms
