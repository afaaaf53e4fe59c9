use Rattle.c_parser.proofs.BlockNames.{BlockLaws}
use Rattle.c_parser.proofs.Overs.{has_given, given_names}
use Rattle.c_parser.proofs.plain.read_plain_with.Goals as goal

pub returns-clause-names : goal.returns-clause-names
returns-clause-names c =
    has_given (record { names = c.names_stay.ensures.names; declarations = c.names_stay.ensures.declarations }) c.args.functions.now c.args.includes c.args.names.now c.args.bytes.now c.read_over.result c.requires.declared c.read_over.ensures.reads

pub returns-clause-program : goal.returns-clause-program
returns-clause-program c =
    let blocks : BlockLaws = record { names = c.names_stay.ensures.names; declarations = c.names_stay.ensures.declarations } in
    given_names c.args.names.now c.args.bytes.now c.read_over.result c.requires.few (has_given blocks c.args.functions.now c.args.includes c.args.names.now c.args.bytes.now c.read_over.result c.requires.declared c.read_over.ensures.reads) c.read_over.ensures.program
