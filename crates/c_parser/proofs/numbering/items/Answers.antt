use Rattle.std.proofs.Common.{◌∙◌, subst, length}
use Rattle.c_parser.specs.Items.{lexeme_in}
use Rattle.c_parser.specs.Signing.{AreWithin}
use Rattle.c_parser.proofs.Growing.{room_left, names_next, items_next}
use Rattle.c_parser.proofs.numbering.items.Goals as goal

pub scan-preserved : goal.scan-preserved
scan-preserved c =
    let h = c.in_ok-sign.ensures in
    record {
      names = c.scan.invariant.names ∙ names_next c.args.functions.now c.args.bytes.now c.scan.names.keys c.sign.new.names.keys c.in_ok-sign.sign c.scan.rest.now c.in-Some.behind.now c.in-Some.token h c.in-Some.ensures;
      items = c.scan.invariant.items ∙ items_next c.args.functions.now c.args.bytes.now c.scan.names.keys c.sign.new.names.keys c.in_ok-sign.sign c.scan.rest.now c.in-Some.behind.now c.in-Some.token c.scan.items.items c.push.new.self.items h c.in-Some.ensures c.in_ok-push.ensures.items;
      few = room_left c.args.functions.now c.scan.names.keys c.sign.new.names.keys c.in-Some.token.kind (lexeme_in c.args.bytes.now c.in-Some.token) c.in_ok-sign.sign c.scan.rest.now c.in-Some.behind.now c.in-Some.token 2147483648 h c.in-Some.ensures c.scan.invariant.few;
      within = (subst (AreWithin (length c.args.bytes.now)) c.in-Some.ensures c.scan.invariant.within).1;
    }
