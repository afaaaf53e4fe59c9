use Rattle.std.proofs.Common.{refl}
use Rattle.octagon_closure.specs.declared.Closed.TheVariants.{Empty}
use Rattle.octagon_closure.proofs.Octagons.{IsPassed, all}
use Rattle.octagon_closure.proofs.Closing.{one-step, one-negative, halved-negative, closed-best}
use Rattle.octagon_closure.proofs.Unique.{closure-same, empty-where}
use Rattle.octagon_closure.proofs.close_after_one.Goals as goal

pub returns-in-Empty-clause-empty : goal.returns-in-Empty-clause-empty
returns-in-Empty-clause-empty c = (λ e. one-negative c.args.matrix.now c.args.a c.args.b c.requires.first c.requires.second (c.in-Empty.ensures.empty refl), λ u. refl)

pub returns-in-Empty-clause-same : goal.returns-in-Empty-clause-same
returns-in-Empty-clause-same c = λ answer next q.
    closure-same c.args.matrix.now next c.pass.new.matrix answer Empty q (record { empty = returns-in-Empty-clause-empty c; best = λ e. cc; kept = c.in-Empty.ensures.kept })

pub returns-clause-best : goal.returns-clause-best
returns-clause-best c = λ e.
    let m = c.args.matrix.now in
    let p : IsPassed m c.pass.new.matrix all = one-step m c.pass.new.matrix c.args.a c.args.b c.requires.came c.requires.first c.requires.second c.in-Closed.ensures.kept (c.in-Closed.ensures.lowered refl) in
    closed-best m c.pass.new.matrix c.tighten.new.matrix p c.tighten.ensures.kept (c.tighten.ensures.lowered e)

pub returns-clause-empty : goal.returns-clause-empty
returns-clause-empty c = (
  λ e.
      let m = c.args.matrix.now in
      let p : IsPassed m c.pass.new.matrix all = one-step m c.pass.new.matrix c.args.a c.args.b c.requires.came c.requires.first c.requires.second c.in-Closed.ensures.kept (c.in-Closed.ensures.lowered refl) in
      halved-negative m c.pass.new.matrix all p (c.tighten.ensures.empty e),
  λ u. empty-where c.args.matrix.now c.tighten.new.matrix c.tighten.result (returns-clause-best c) u,
)

pub returns-clause-same : goal.returns-clause-same
returns-clause-same c = λ answer next q.
    closure-same c.args.matrix.now next c.tighten.new.matrix answer c.tighten.result q (record { empty = returns-clause-empty c; best = returns-clause-best c; kept = c.tighten.ensures.kept })
