use Rattle.family_generator.proofs.Accepted.{generated_not_refused}
use Rattle.family_generator.proofs.laws.generated_families_are_accepted.Goals as goal

pub returns : goal.returns
returns c model number code place =
    generated_not_refused
    (record {
      texts = record { tokens = record { read = c.reads_longest_lexemes.ensures; literal = c.literals_are_numbers.ensures.small; rise = c.places_rise.ensures }; apart = c.lines_are_apart.ensures; one = c.one_reading.ensures; told = c.texts_are_read_once.ensures };
      reads = c.reads_within_the_limits.ensures.file;
      stops_wrong = c.reads_within_the_limits.ensures.wrong;
      stops_deep = c.reads_within_the_limits.ensures.deep;
      others = c.others_stay.ensures.items;
    }) model number (code, place)
