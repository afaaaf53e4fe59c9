use Rattle.std.proofs.Common.{◌<◌, ◌∙◌, length, arith}
use Rattle.product_leaf.proofs.Meanings.{best_count, bounds_is}
use Rattle.product_leaf.proofs.leaf.StrideLeafLeaf.bounds_of.Goals as goal

pub returns-in-Some : goal.returns-in-Some
returns-in-Some c =
    let l : c.args.x < length c.in-Some.parts.now = omega (arith, c.requires, best_count _ _ c.in-Some.ensures.best) in
    c.range.ensures ∙ bounds_is c.args.self.now c.in-Some.parts.now c.args.x c.in-Some.ensures.best l
