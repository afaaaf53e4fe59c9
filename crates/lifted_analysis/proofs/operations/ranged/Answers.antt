use Rattle.std.proofs.Common.{◌≡◌, arith}
use Rattle.lifted_analysis.proofs.RuleLemmas.{range_more}
use Rattle.lifted_analysis.proofs.operations.ranged.Goals as goal

pub loop-range-preserved : goal.loop-range-preserved
loop-range-preserved g c =
    let value = g.L.Leaf.value in
    let before = c.loop-range.invariant in
    let here : c.loop-range.x ≡ c.loop-range.range-index = before.x in
    let both = range_more g.L.Leaf.meaning g.met.L.Leaf.laws c.args.ranges.now c.loop-range.range-index c.loop-range.x (value c.args.leaf.now) (value c.loop-range.made) (value c.in_ok-made-2.made) _ c.loop-range-test.true here
    c.requires.count c.requires.ranges c.leaf_is_valid-in-loop-range.ensures.valid before.same c.in_ok-made-2.ensures before.made in
    record { made = both.0; x = omega (arith, here); same = both.1 }
