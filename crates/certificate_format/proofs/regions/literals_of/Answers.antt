use Rattle.std.proofs.Common.{sym}
use Rattle.certificate_format.specs.Rows.{row_of}
use Rattle.certificate_format.proofs.Pieces.{none_found, found_more, all_found}
use Rattle.certificate_format.proofs.regions.literals_of.Goals as goal

pub pieces-init : goal.pieces-init
pieces-init c = none_found (row_of c.args.rows.now) c.args.region.now c.new-found.result.items c.new-found.ensures.items

pub pieces-preserved : goal.pieces-preserved
pieces-preserved c =
    found_more (row_of c.args.rows.now) c.args.region.now c.pieces.rest.now c.pieces.found.items c.in-Some.text.now c.in-Some.behind.now c.in-Some-piece_of.piece c.add_piece.new.found.items
    c.pieces.invariant c.in-Some.ensures (sym c.in-Some-piece_of.ensures) c.in_ok-add_piece.ensures

pub returns : goal.returns
returns c =
    all_found (row_of c.args.rows.now) c.args.region.now c.pieces.rest.now c.pieces.found.items c.in-Some-piece_of-2.piece c.add_piece-2.new.found.items
    c.pieces.invariant c.in_default.ensures (sym c.in-Some-piece_of-2.ensures) c.in_ok-add_piece-2.ensures
