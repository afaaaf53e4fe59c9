use Rattle.c_parser.proofs.FamilyAnswers.{in_blocks}
use Rattle.c_parser.proofs.KeptTexts.{TextLaws}
use Rattle.c_parser.proofs.Projecting.{ProgramLaws, spelled, texts, declared, read, accepted}
use Rattle.c_parser.proofs.variants.variants_are_projections.Goals as goal

pub returns-clause-spelled : goal.returns-clause-spelled
returns-clause-spelled c =
    let laws : TextLaws = record { tokens = record { read = c.reads_longest_lexemes.ensures; literal = c.literals_are_numbers.ensures.small; rise = c.places_rise.ensures }; apart = c.lines_are_apart.ensures; one = c.one_reading.ensures; told = c.texts_are_read_once.ensures } in
    spelled laws c.leaving_out_makes_nothing_deeper.ensures c.variants_are_plain.ensures

pub returns-clause-texts : goal.returns-clause-texts
returns-clause-texts c =
    let laws : TextLaws = record { tokens = record { read = c.reads_longest_lexemes.ensures; literal = c.literals_are_numbers.ensures.small; rise = c.places_rise.ensures }; apart = c.lines_are_apart.ensures; one = c.one_reading.ensures; told = c.texts_are_read_once.ensures } in
    texts laws

pub returns-clause-declared : goal.returns-clause-declared
returns-clause-declared c =
    let laws : TextLaws = record { tokens = record { read = c.reads_longest_lexemes.ensures; literal = c.literals_are_numbers.ensures.small; rise = c.places_rise.ensures }; apart = c.lines_are_apart.ensures; one = c.one_reading.ensures; told = c.texts_are_read_once.ensures } in
    declared laws c.variants_are_plain.ensures

pub returns-clause-read : goal.returns-clause-read
returns-clause-read c =
    let laws : TextLaws = record { tokens = record { read = c.reads_longest_lexemes.ensures; literal = c.literals_are_numbers.ensures.small; rise = c.places_rise.ensures }; apart = c.lines_are_apart.ensures; one = c.one_reading.ensures; told = c.texts_are_read_once.ensures } in
    let programs : ProgramLaws = record {
      keeps = c.leaving_out_makes_nothing_deeper.ensures;
      is_file = c.within_the_limits_is_a_file.ensures;
      conditions = c.files_are_programs.ensures.conditions;
      starts = c.values_are_starts.ensures;
      enough = c.conditions_are_enough.ensures;
    } in
    read (in_blocks c.names_stay.ensures.names c.family_names_occur.ensures) laws programs (record { file = c.blocks_form_the_file.ensures.file; kept = c.blocks_form_the_file.ensures.kept }) c.variants_are_plain.ensures

pub returns-clause-accepted : goal.returns-clause-accepted
returns-clause-accepted c = accepted c.texts_are_read_once.ensures
