use Rattle.std.proofs.Common.{◌≡◌, ◌≢◌, ◌∙◌, length, sym, arith}
use Rattle.product_leaf.proofs.PartLemmas.{parts_same, parts_differ}
use Rattle.product_leaf.proofs.parts.are_same.Goals as goal

pub returns-then-a-b : goal.returns-then-a-b
returns-then-a-b c = let l : length c.args.a.now ≡ length c.args.b.now = omega arith in c.all_same.ensures ∙ parts_same c.args.a.now c.args.b.now l

pub returns-else-a-b : goal.returns-else-a-b
returns-else-a-b c = let l : length c.args.a.now ≢ length c.args.b.now = omega arith in sym (parts_differ c.args.a.now c.args.b.now l)
