use Rattle.std.proofs.Common.{rules}
use Rattle.c_tree.specs.View.{whole}
use Rattle.c_tree.proofs.Wholes.{IsProgram-same}
use Rattle.c_tree.proofs.projection.project.Goals as goal

pub returns-clause-program : goal.returns-clause-program
returns-clause-program c =
    IsProgram-same c.args.truths.now (whole c.args.code.now)
    (whole (record { names = c.in_ok-names.names; start = c.in_ok-start.start; declared = c.from_vec.result; body = c.project_list.new.out; end = c.args.code.now.end }))
    (search (rules, c.in_ok-project_list.ensures, c.in_ok-names.ensures, c.in_ok-start.ensures, c.deref.ensures.value, c.from_vec.ensures)) c.requires.program
