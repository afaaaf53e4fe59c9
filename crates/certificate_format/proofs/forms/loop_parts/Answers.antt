use Rattle.certificate_format.proofs.Shapes.{no_loop_cut}
use Rattle.certificate_format.proofs.forms.loop_parts.Goals as goal

pub returns-in_default-cut_at : goal.returns-in_default-cut_at
returns-in_default-cut_at c =
    no_loop_cut c.args.line.now c.in-Some.text.now c.in-Some-place_before.place c.in-Some-place_before.text.now c.in-Some.ensures c.in-Some-place_before.ensures.0 c.in-Some-place_before.ensures.1
    c.in_default-cut_at.ensures
