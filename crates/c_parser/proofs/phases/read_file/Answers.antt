use Rattle.std.proofs.Common.{List, Option, sym, subst}
use Rattle.fam_outer.specs.declared.faults.FileCode.{FileCode}
use Rattle.fam_outer.specs.declared.faults.Place.{Place}
use Rattle.c_tree.specs.View.{whole}
use Rattle.c_grammar.specs.declared.items.Item.{Item}
use Rattle.c_parser.specs.Stages.{list}
use Rattle.c_parser.proofs.Reached.{wrong_name}
use Rattle.c_parser.proofs.phases.read_file.Goals as goal

pub returns-in-Some-clause-reads : goal.returns-in-Some-clause-reads
returns-in-Some-clause-reads g c =
    let kind = g.F.FileKind.meaning c.args.kind.now in
    let named : (g.F.FileKind.meaning c.args.kind.now).named (list c.in_ok-program.program.names c.in_ok-names.field-0-0.items.items) c.in_ok-names.known c.in_ok-code.field-0 =
    subst (λ (xs : List Item). (g.F.FileKind.meaning c.args.kind.now).named (list c.in_ok-program.program.names xs) c.in_ok-names.known c.in_ok-code.field-0) c.as_slice-2.ensures.value c.in_ok-code.ensures in
    rw c.refused.ensures (wrong_name kind c.args.bytes.now c.in_ok-names.field-0-0 c.in_ok-names.known (whole c.in_ok-program.program) c.in-Some.code c.in-Some.place c.in_ok-names.ensures.listed
    (rw (sym c.as_slice.ensures.value) c.in_ok-program.ensures.spelled)
    (subst (λ (o : Option (FileCode × Place)). (g.F.FileKind.meaning c.args.kind.now).named (list c.in_ok-program.program.names c.in_ok-names.field-0-0.items.items) c.in_ok-names.known o) c.in-Some.is named))
