use Rattle.std.proofs.Common.{arith, ◌+◌, ◌*◌, ℕ, refl, nat_lt}
use Rattle.octagon_matrix.specs.Matrices.{entry_of}
use Rattle.octagon_matrix.proofs.Stores.{holds-store}
use Rattle.octagon_closure.proofs.Octagons.{IsPassed, all}
use Rattle.octagon_closure.proofs.Extending.{with_pair}
use Rattle.octagon_closure.proofs.Below.{below-more, below-all, below-none}
use Rattle.octagon_closure.proofs.Closing.{passed-start, passed-less, passed-step, through-negative, halved-negative, closed-best}
use Rattle.octagon_closure.proofs.Unique.{empty-where}
use Rattle.octagon_closure.proofs.close.Goals as goal

pub loop-k-init : goal.loop-k-init
loop-k-init c = passed-start c.args.matrix.now (λ b. nat_lt b (2 * 0)) c.variables-variables.ensures.kept (below-none c.args.matrix.now.variables (entry_of c.args.matrix.now))

pub returns-in-Empty-clause-empty : goal.returns-in-Empty-clause-empty
returns-in-Empty-clause-empty c = (
  λ e. through-negative c.args.matrix.now c.loop-k.matrix (λ b. nat_lt b (2 * c.loop-k.k)) (2 * c.loop-k.k) (2 * c.loop-k.k) c.loop-k.invariant (omega arith) (omega arith) (c.in-Empty.ensures.empty refl),
  λ u. refl,
)

pub returns-in-Empty-clause-within : goal.returns-in-Empty-clause-within
returns-in-Empty-clause-within c = λ s. holds-store c.args.matrix.now s c.variables-variables.ensures.kept

pub loop-k-preserved : goal.loop-k-preserved
loop-k-preserved c =
    let k : ℕ = c.loop-k.k in
    passed-less c.args.matrix.now c.pass.new.matrix (with_pair (2 * k) (λ b. nat_lt b (2 * k))) (λ b. nat_lt b (2 * (k + 1))) (λ b h u. below-more k b u)
    (passed-step c.args.matrix.now c.loop-k.matrix c.pass.new.matrix (λ b. nat_lt b (2 * k)) (2 * k) c.loop-k.invariant (omega arith) c.in-Closed.ensures.kept (c.in-Closed.ensures.lowered refl))

pub returns-clause-best : goal.returns-clause-best
returns-clause-best c = λ e.
    let m = c.args.matrix.now in
    let p : IsPassed m c.loop-k.matrix all = passed-less m c.loop-k.matrix (λ b. nat_lt b (2 * c.loop-k.k)) all (λ b h u. below-all m.variables c.loop-k.k b (omega arith) h) c.loop-k.invariant in
    closed-best m c.loop-k.matrix c.tighten.new.matrix p c.tighten.ensures.kept (c.tighten.ensures.lowered e)

pub returns-clause-empty : goal.returns-clause-empty
returns-clause-empty c = (
  λ e. halved-negative c.args.matrix.now c.loop-k.matrix (λ b. nat_lt b (2 * c.loop-k.k)) c.loop-k.invariant (c.tighten.ensures.empty e),
  λ u. empty-where c.args.matrix.now c.tighten.new.matrix c.tighten.result (returns-clause-best c) u,
)

pub returns-clause-within : goal.returns-clause-within
returns-clause-within c = λ s. holds-store c.args.matrix.now s c.variables-variables.ensures.kept
