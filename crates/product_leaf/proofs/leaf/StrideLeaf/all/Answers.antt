use Rattle.std.proofs.Common.{sym, ap, ◌∙◌}
use Rattle.product_leaf.specs.StrideLeaves.{parts_of}
use Rattle.product_leaf.specs.Laws.Parts.{fours_numbers}
use Rattle.product_leaf.proofs.leaf.StrideLeaf.all.Goals as goal

pub returns-in-Some : goal.returns-in-Some
returns-in-Some c = sym (ap parts_of c.in-Some.ensures.standing.same ∙ fours_numbers c.in-Some.parts.now)
