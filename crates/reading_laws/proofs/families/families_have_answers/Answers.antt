use Rattle.c_parser.proofs.FamilyAnswers.{few_tests}
use Rattle.reading_laws.proofs.Fitting.{over_read}
use Rattle.reading_laws.proofs.ReadFamilies.{families_promised, families_answered}
use Rattle.reading_laws.proofs.families.families_have_answers.Goals as goal

pub returns-clause-promised : goal.returns-clause-promised
returns-clause-promised c = families_promised (record {
  tokens = record { read = c.reads_longest_lexemes.ensures; literal = c.literals_are_numbers.ensures.small; rise = c.places_rise.ensures };
  names = c.family_names_are_few.ensures;
  few_tests = λ dialect model bytes f h. few_tests dialect model bytes h.known h.spelled h.accepted;
  blanked_length = c.places_stay.ensures.blanked_len;
  code_length = c.places_stay.ensures.code_len;
  formed = c.files_are_programs.ensures.formed;
  conditions = c.files_are_programs.ensures.conditions;
  within = c.within_the_limits_is_a_file.ensures;
  few = c.few_atoms_are_not_more.ensures;
  fit = λ unknown features bytes p ranges reads. (over_read features ranges unknown bytes _ reads).fit;
  uses = c.uses_stand.ensures;
  counted = c.tests_are_open.ensures.count;
  fit_tests = c.tests_are_open.ensures.fit;
  values = c.values_keep_programs.ensures.program;
  values_conditions = c.values_keep_programs.ensures.conditions;
})

pub returns-clause-answer : goal.returns-clause-answer
returns-clause-answer c = families_answered (record {
  tokens = record { read = c.reads_longest_lexemes.ensures; literal = c.literals_are_numbers.ensures.small; rise = c.places_rise.ensures };
  names = c.family_names_are_few.ensures;
  few_tests = λ dialect model bytes f h. few_tests dialect model bytes h.known h.spelled h.accepted;
  blanked_length = c.places_stay.ensures.blanked_len;
  code_length = c.places_stay.ensures.code_len;
  formed = c.files_are_programs.ensures.formed;
  conditions = c.files_are_programs.ensures.conditions;
  within = c.within_the_limits_is_a_file.ensures;
  few = c.few_atoms_are_not_more.ensures;
  fit = λ unknown features bytes p ranges reads. (over_read features ranges unknown bytes _ reads).fit;
  uses = c.uses_stand.ensures;
  counted = c.tests_are_open.ensures.count;
  fit_tests = c.tests_are_open.ensures.fit;
  values = c.values_keep_programs.ensures.program;
  values_conditions = c.values_keep_programs.ensures.conditions;
}) c.files_have_answers.ensures
