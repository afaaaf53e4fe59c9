use Rattle.famlint_core.proofs.Theorem.{failing_places}
use Rattle.famlint_core.proofs.laws.refused_certificates_do_not_hold.Goals as goal

pub returns : goal.returns
returns c = failing_places (record {
  once = record {
    models = c.bytes_say_one_model.ensures;
    families = c.families_are_read_once.ensures.once;
    accepted = c.families_are_read_once.ensures.accepted;
    refused = c.families_are_read_once.ensures.refused;
    texts = c.variants_have_one_text.ensures;
    programs = c.reads_at_most_once.ensures;
  };
  texts = c.texts_are_read_once.ensures;
  files = c.families_are_of_files.ensures;
  written = c.written_analyses_are_accepted.ensures;
})
