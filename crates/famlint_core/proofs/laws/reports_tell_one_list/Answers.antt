use Rattle.famlint_core.proofs.OneReport.{one_list}
use Rattle.famlint_core.proofs.laws.reports_tell_one_list.Goals as goal

pub returns : goal.returns
returns c = one_list (record {
  models = c.bytes_say_one_model.ensures;
  families = c.families_are_read_once.ensures.once;
  accepted = c.families_are_read_once.ensures.accepted;
  refused = c.families_are_read_once.ensures.refused;
  texts = c.variants_have_one_text.ensures;
  programs = c.reads_at_most_once.ensures;
}) c.families_are_of_files.ensures c.reports_of_families_tell_their_alarms.ensures
