use Rattle.std.proofs.Common.{negsuc}
use Rattle.leaf_domain.proofs.FormLemmas.{multiple_is_form}
use Rattle.leaf_domain.proofs.survey.negation.Goals as goal

pub negation-found-requires-clause-form : goal.negation-found-requires-clause-form
negation-found-requires-clause-form g c = rw c.in_ok-form.ensures (multiple_is_form _ (negsuc 0) c.args.a.now.form c.requires.form)

pub returns-clause-over : goal.returns-clause-over
returns-clause-over g c = record {
  range = c.negation-found.ensures.int;
  form = rw c.in_ok-form.ensures (multiple_is_form _ (negsuc 0) c.args.a.now.form c.requires.form);
  few = rw c.in_ok-form.ensures (multiple_is_form 48 (negsuc 0) c.args.a.now.form c.requires.few);
  operation = tt;
}
