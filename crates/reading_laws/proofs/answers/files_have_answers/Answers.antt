use Rattle.c_parser.proofs.Lexical.{TokenLaws}
use Rattle.reading_laws.proofs.FileAnswers.{PhaseLaws}
use Rattle.reading_laws.proofs.MadeFamilies.{files_are_answered}
use Rattle.reading_laws.proofs.answers.files_have_answers.Goals as goal

pub returns : goal.returns
returns c =
    let tokens : TokenLaws = record { read = c.reads_longest_lexemes.ensures; literal = c.literals_are_numbers.ensures.small; rise = c.places_rise.ensures } in
    let phases : PhaseLaws = record {
      lines = c.phases_have_answers.ensures.lines;
      grammar = record { reads = c.reads_within_the_limits.ensures.file; stops_wrong = c.reads_within_the_limits.ensures.wrong; stops_deep = c.reads_within_the_limits.ensures.deep };
      names = c.phases_have_answers.ensures.names;
    } in
    files_are_answered tokens c.places_stay.ensures.code_len phases
