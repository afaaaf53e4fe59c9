use Rattle.c_parser.proofs.OwnNames.{few_declared, own_declared}
use Rattle.c_parser.proofs.laws.names_are_declared.Goals as goal

pub returns-clause-names : goal.returns-clause-names
returns-clause-names c =
    own_declared (record { read = c.reads_longest_lexemes.ensures; literal = c.literals_are_numbers.ensures.small; rise = c.places_rise.ensures })
    (record { names = c.names_stay.ensures.names; declarations = c.names_stay.ensures.declarations }) c.within_the_limits_is_a_file.ensures

pub returns-clause-few : goal.returns-clause-few
returns-clause-few c =
    few_declared (record { read = c.reads_longest_lexemes.ensures; literal = c.literals_are_numbers.ensures.small; rise = c.places_rise.ensures })
    (record { names = c.names_stay.ensures.names; declarations = c.names_stay.ensures.declarations })
