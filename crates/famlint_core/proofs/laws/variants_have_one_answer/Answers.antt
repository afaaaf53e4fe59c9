use Rattle.famlint_core.proofs.VariantOnce.{one_answer}
use Rattle.famlint_core.proofs.SomeVariant.{some_answer}
use Rattle.famlint_core.proofs.laws.variants_have_one_answer.Goals as goal

pub returns-clause-some : goal.returns-clause-some
returns-clause-some c = some_answer (record {
  models = c.bytes_say_some_model.ensures.answer;
  families = c.families_have_answers.ensures.answer;
  configurations = c.phases_have_answers.ensures.configurations;
  variants = c.variants_are_projections.ensures.read;
})

pub returns-clause-alone : goal.returns-clause-alone
returns-clause-alone c = one_answer (record {
  models = c.bytes_say_one_model.ensures;
  families = c.families_are_read_once.ensures.once;
  accepted = c.families_are_read_once.ensures.accepted;
  refused = c.families_are_read_once.ensures.refused;
  texts = c.variants_have_one_text.ensures;
  programs = c.reads_at_most_once.ensures;
})
