use Rattle.c_parser.proofs.Stepwise.{listed_whole}
use Rattle.c_parser.proofs.numbering.number.Goals as goal

pub returns : goal.returns
returns c =
    listed_whole c.args.functions.now c.args.given.now c.in_ok-names.names.keys c.items.new.names.keys c.args.bytes.now c.args.tokens.now (record { names = c.in_ok-names_of.field-0; items = c.in_ok-items.items })
    c.in_ok-names.ensures c.in_ok-items.ensures c.in_ok-names_of.ensures
