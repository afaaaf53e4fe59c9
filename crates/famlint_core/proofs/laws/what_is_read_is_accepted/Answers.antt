use Rattle.famlint_core.proofs.Accepting.{accepted}
use Rattle.famlint_core.proofs.laws.what_is_read_is_accepted.Goals as goal

pub returns : goal.returns
returns c = accepted (record {
  models = c.bytes_say_one_model.ensures;
  families = c.families_are_read_once.ensures.once;
  accepted = c.families_are_read_once.ensures.accepted;
  refused = c.families_are_read_once.ensures.refused;
  texts = c.variants_have_one_text.ensures;
  programs = c.reads_at_most_once.ensures;
}) c.texts_are_read_once.ensures
