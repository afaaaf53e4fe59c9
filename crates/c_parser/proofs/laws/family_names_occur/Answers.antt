use Rattle.c_parser.proofs.FamilyNames.{family_occurs}
use Rattle.c_parser.proofs.laws.family_names_occur.Goals as goal

pub returns : goal.returns
returns c =
    family_occurs (record { read = c.reads_longest_lexemes.ensures; literal = c.literals_are_numbers.ensures.small; rise = c.places_rise.ensures }) c.lines_are_apart.ensures c.one_reading.ensures
