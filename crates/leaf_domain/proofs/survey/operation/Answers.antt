use Rattle.leaf_domain.proofs.FormLemmas.{binary_is_form, where_is_operation, kept_is_operation}
use Rattle.leaf_domain.proofs.survey.operation.Goals as goal

pub operation-found-requires-clause-form : goal.operation-found-requires-clause-form
operation-found-requires-clause-form g c = rw c.in_ok-form.ensures (binary_is_form _ c.args.op c.args.a.form c.args.b.form c.requires.a.form c.requires.b.form)

pub returns-clause-over : goal.returns-clause-over
returns-clause-over g c = record {
  range = c.operation-found.ensures.int;
  form = rw c.in_ok-form.ensures (binary_is_form _ c.args.op c.args.a.form c.args.b.form c.requires.a.form c.requires.b.form);
  few = rw c.in_ok-form.ensures (binary_is_form 48 c.args.op c.args.a.form c.args.b.form c.requires.a.few c.requires.b.few);
  operation = rw c.kept_operation.ensures (kept_is_operation _ c.args.op c.operation-found.result.fits _
      (rw c.operation_where-operation.ensures (where_is_operation _ c.if-left.operation_where c.args.op c.args.a.form c.args.b.form c.requires.a.form c.requires.b.form)));
}
