use Rattle.famlint_core.proofs.Theorem.{told_stops, read_families}
use Rattle.famlint_core.proofs.laws.reports_tell_each_stop.Goals as goal

pub returns-clause-told : goal.returns-clause-told
returns-clause-told c = told_stops (record {
  models = c.bytes_say_one_model.ensures;
  families = c.families_are_read_once.ensures.once;
  accepted = c.families_are_read_once.ensures.accepted;
  refused = c.families_are_read_once.ensures.refused;
  texts = c.variants_have_one_text.ensures;
  programs = c.reads_at_most_once.ensures;
})

pub returns-clause-read : goal.returns-clause-read
returns-clause-read c = read_families
