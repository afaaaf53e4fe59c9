use Rattle.std.proofs.Common.{◌∙◌, ap, length}
use Rattle.octagon_leaf.specs.Greatest.{leaf_of, difference}
use Rattle.octagon_leaf.proofs.Full.{entries-are}
use Rattle.octagon_leaf.proofs.leaf.OctagonLeafLeaf.start.Goals as goal

pub returns : goal.returns
returns c =
    let s = c.args.values.now in
    c.from_best.ensures ∙ ap leaf_of (entries-are c.in_ok-matrix.matrix (length s) (difference s) c.in_ok-matrix.ensures.kept c.in_ok-matrix.ensures.entries)
