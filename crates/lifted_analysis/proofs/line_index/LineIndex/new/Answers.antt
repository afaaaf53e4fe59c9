use Rattle.std.proofs.Common.{◌<◌, length, arith}
use Rattle.lifted_analysis.proofs.LineIndexLemmas.{positions_more}
use Rattle.lifted_analysis.proofs.line_index.LineIndex.new.Goals as goal

pub loop-k-preserved : goal.loop-k-preserved
loop-k-preserved c = λ q.
    let lines = c.args.lines.now in
    let k = c.loop-k.k in
    let lt : k < length lines = omega (arith, c.loop-k-test.true) in
    let added = c.in_ok-add.ensures q in
    let so_far = c.loop-k.invariant q in
    let more = positions_more lines k c.index-lines-k.result q lt c.index-lines-k.is in
    cc
