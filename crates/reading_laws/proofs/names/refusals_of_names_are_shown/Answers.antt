use Rattle.c_parser.proofs.KeptTexts.{TextLaws}
use Rattle.reading_laws.proofs.Shown.{ShownLaws, undeclared_names_are_shown, second_declarations_are_shown}
use Rattle.reading_laws.proofs.names.refusals_of_names_are_shown.Goals as goal

pub returns-clause-undeclared : goal.returns-clause-undeclared
returns-clause-undeclared c =
    let texts : TextLaws = record { tokens = record { read = c.reads_longest_lexemes.ensures; literal = c.literals_are_numbers.ensures.small; rise = c.places_rise.ensures }; apart = c.lines_are_apart.ensures; one = c.one_reading.ensures; told = c.texts_are_read_once.ensures } in
    let laws : ShownLaws = record { texts = texts; keeps = c.leaving_out_makes_nothing_deeper.ensures; plain_texts = c.variants_are_plain.ensures; loops = record { file = c.blocks_form_the_file.ensures.file; kept = c.blocks_form_the_file.ensures.kept }; tokens = c.reads_longest_lexemes.ensures } in
    undeclared_names_are_shown laws

pub returns-clause-twice : goal.returns-clause-twice
returns-clause-twice c =
    let texts : TextLaws = record { tokens = record { read = c.reads_longest_lexemes.ensures; literal = c.literals_are_numbers.ensures.small; rise = c.places_rise.ensures }; apart = c.lines_are_apart.ensures; one = c.one_reading.ensures; told = c.texts_are_read_once.ensures } in
    let laws : ShownLaws = record { texts = texts; keeps = c.leaving_out_makes_nothing_deeper.ensures; plain_texts = c.variants_are_plain.ensures; loops = record { file = c.blocks_form_the_file.ensures.file; kept = c.blocks_form_the_file.ensures.kept }; tokens = c.reads_longest_lexemes.ensures } in
    second_declarations_are_shown laws
