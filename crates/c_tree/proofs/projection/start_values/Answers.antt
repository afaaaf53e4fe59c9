use Rattle.std.proofs.Common.{List, slice_set, if◌then◌else◌, ap, sym, ◌∙◌}
use Rattle.std.specs.Prelude.{ℤ}
use Rattle.c_tree.specs.Project.{guards_hold}
use Rattle.c_tree.proofs.Starts.{start_more, start_none}
use Rattle.c_tree.proofs.projection.start_values.Goals as goal

pub loop-d-init : goal.loop-d-init
loop-d-init c = c.in_ok-made.ensures.items ∙ sym (start_none c.args.truths.now 0 c.args.start.now)

pub loop-d-preserved : goal.loop-d-preserved
loop-d-preserved c =
    let d = c.d-item.result in
    c.take_declared.ensures
    ∙ ap (λ (l : List ℤ). if guards_hold c.args.truths.now d.guards then slice_set l d.target d.value else l) c.loop-d.invariant
    ∙ sym (start_more c.args.truths.now c.args.declared.now c.loop-d.d-index d c.args.start.now c.loop-d-test.true c.d-item.is)
