use Rattle.c_parser.proofs.BlockNames.{BlockLaws}
use Rattle.c_parser.proofs.KeptTexts.{TextLaws}
use Rattle.reading_laws.proofs.Numbered.{families_have_declared_names}
use Rattle.reading_laws.proofs.names.families_have_the_names_that_they_declare.Goals as goal

pub returns : goal.returns
returns c =
    let texts : TextLaws = record { tokens = record { read = c.reads_longest_lexemes.ensures; literal = c.literals_are_numbers.ensures.small; rise = c.places_rise.ensures }; apart = c.lines_are_apart.ensures; one = c.one_reading.ensures; told = c.texts_are_read_once.ensures } in
    let blocks : BlockLaws = record { names = c.names_stay.ensures.names; declarations = c.names_stay.ensures.declarations } in
    families_have_declared_names texts blocks c.within_the_limits_is_a_file.ensures c.declarations_of_families_are_those_of_the_grammar.ensures.all
