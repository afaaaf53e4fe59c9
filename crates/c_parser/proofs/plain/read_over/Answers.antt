use Rattle.c_tree.specs.View.{whole}
use Rattle.c_parser.proofs.Overs.{plain_program, reads_spelled}
use Rattle.c_parser.proofs.plain.read_over.Goals as goal

pub returns-clause-reads : goal.returns-clause-reads
returns-clause-reads c = reads_spelled c.args.functions.now c.args.includes c.args.given.now c.args.limits c.args.bytes.now c.in_ok-program.program c.in_ok-program.field-0-1 c.in_ok-program.ensures.reads

pub returns-clause-plain : goal.returns-clause-plain
returns-clause-plain c = plain_program c.files_are_programs.ensures.plain c.within_the_limits_is_a_file.ensures (whole c.in_ok-program.program) c.in_ok-program.field-0-1 c.in_ok-program.ensures.has
