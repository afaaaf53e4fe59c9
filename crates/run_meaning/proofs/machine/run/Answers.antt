use Rattle.std.proofs.Common.{◌+◌, ◌-◌, sym, ◌∙◌, ap, arith}
use Rattle.run_meaning.specs.declared.machine.Progress.TheVariants as progress
use Rattle.c_tree.specs.Run as run
use Rattle.c_tree.specs.Run.{Standing, steps_of}
use Rattle.run_meaning.specs.View.{standing}
use Rattle.run_meaning.proofs.Fits.{steps_of-first}
use Rattle.run_meaning.proofs.machine.run.Goals as goal

pub returns-in-Stopped : goal.returns-in-Stopped
returns-in-Stopped c =
    let first = steps_of-first c.args.mode c.args.inputs.now c.args.n c.loop-i._i (standing c.loop-i.state) (progress.Stopped c.in-Stopped.place c.in-Stopped.kind) (omega arith) (sym c.in-Stopped.is ∙ c.in_ok-step.ensures.progress) in
    sym first ∙ c.loop-i.invariant.same

pub returns-in-Waiting : goal.returns-in-Waiting
returns-in-Waiting c =
    let first = steps_of-first c.args.mode c.args.inputs.now c.args.n c.loop-i._i (standing c.loop-i.state) (progress.Waiting c.in-Waiting.place) (omega arith) (sym c.in-Waiting.is ∙ c.in_ok-step.ensures.progress) in
    ap (λ store. run.WaitingEnd c.in-Waiting.place store) (c.store_of.ensures ∙ ap (λ (s : Standing). s.store) c.in_ok-step.ensures.left) ∙ (sym first ∙ c.loop-i.invariant.same)

pub returns-in-Ended : goal.returns-in-Ended
returns-in-Ended c =
    let first = steps_of-first c.args.mode c.args.inputs.now c.args.n c.loop-i._i (standing c.loop-i.state) progress.Ended (omega arith) (sym c.in-Ended.is ∙ c.in_ok-step.ensures.progress) in
    ap (λ store. run.EndedEnd store) (c.store_of-in-Ended.ensures ∙ ap (λ (s : Standing). s.store) c.in_ok-step.ensures.left) ∙ (sym first ∙ c.loop-i.invariant.same)

pub loop-i-preserved : goal.loop-i-preserved
loop-i-preserved c =
    let first = steps_of-first c.args.mode c.args.inputs.now c.args.n c.loop-i._i (standing c.loop-i.state) progress.Moved (omega arith) (sym c.in-Moved.is ∙ c.in_ok-step.ensures.progress) in
    record {
      fit = c.in_ok-step.ensures.fit;
      same = ap (λ s. steps_of c.args.mode c.args.inputs.now (c.args.n - (c.loop-i._i + 1)) s) c.in_ok-step.ensures.left ∙ (sym first ∙ c.loop-i.invariant.same);
    }
