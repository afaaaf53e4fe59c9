use Rattle.certificate_format.specs.Rows.{row_of}
use Rattle.certificate_format.proofs.Certified.{loop_without_leaf, strange_loop, told_none, told_some}
use Rattle.certificate_format.proofs.reading.loop_entry.Goals as goal

pub returns-in_default : goal.returns-in_default
returns-in_default c line a =
    loop_without_leaf (row_of c.args.rows.now) c.args.names.now c.args.number c.args.parts.0 c.args.parts.1.now c.args.parts.2.now (told_none _ _ c.in_default.is c.in_ok-bounds.ensures) line a

pub returns-in_default-2 : goal.returns-in_default-2
returns-in_default-2 c line a =
    let told = told_some _ _ _ c.in-Some.bounds c.in-Some.is c.in_ok-bounds.ensures in
    strange_loop (row_of c.args.rows.now) c.args.names.now c.args.number c.args.parts.0 c.args.parts.1.now c.args.parts.2.now c.in-Some.bounds told.0 told.1
    (told_none _ _ c.in_default-2.is c.in_ok-region.ensures) line a
