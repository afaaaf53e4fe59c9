use Rattle.certificate_format.proofs.Shapes.{no_kind}
use Rattle.certificate_format.proofs.forms.kind_before.Goals as goal

pub returns-in_default-behind-2 : goal.returns-in_default-behind-2
returns-in_default-behind-2 c = no_kind c.args.text.now c.in_default.ensures c.in_default-behind.ensures c.in_default-behind-2.ensures
