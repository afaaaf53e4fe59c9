use Rattle.octagon_matrix.specs.Matrices.{entry_of}
use Rattle.octagon_closure.specs.Sweeps.{halves}
use Rattle.octagon_closure.proofs.Closing.{entries-same, negative-same}
use Rattle.octagon_closure.proofs.tighten.Goals as goal

pub returns-clause-lowered : goal.returns-clause-lowered
returns-clause-lowered c = λ e.
    let m = c.args.matrix.now in
    entries-same m c.meet_sums.new.matrix c.halves-row.result c.halves-row.result (halves (entry_of m)) (halves (entry_of m)) c.halves-row.ensures c.halves-row.ensures (c.meet_sums.ensures.lowered e)

pub returns-clause-empty : goal.returns-clause-empty
returns-clause-empty c = λ e.
    let m = c.args.matrix.now in
    negative-same m c.halves-row.result c.halves-row.result (halves (entry_of m)) (halves (entry_of m)) c.halves-row.ensures c.halves-row.ensures (c.meet_sums.ensures.empty e)
