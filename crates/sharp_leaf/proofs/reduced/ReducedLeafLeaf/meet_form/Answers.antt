use Rattle.std.proofs.Common.{sym, subst, ◌∙◌}
use Rattle.leaf_domain.specs.Forms.{IsForm}
use Rattle.sharp_leaf.proofs.Answered.{first_met, second_met}
use Rattle.sharp_leaf.proofs.reduced.ReducedLeafLeaf.meet_form.Goals as goal

pub either_side-requires-clause-same : goal.either_side-requires-clause-same
either_side-requires-clause-same c =
    first_met c.args.self.now c.octagon.result.now c.in_ok-octagon-in-Ne.octagon c.args.f.now c.args.op c.octagon.ensures.valid c.requires c.octagon.ensures.value c.in_ok-octagon-in-Ne.ensures
    ∙ sym (second_met c.args.self.now c.strides.result.now c.in_ok-strides-in-Ne.strides c.args.f.now c.args.op c.octagon.ensures.valid c.requires c.strides.ensures.value c.in_ok-strides-in-Ne.ensures)

pub either_side-requires-clause-form : goal.either_side-requires-clause-form
either_side-requires-clause-form c =
    subst (λ n. IsForm n c.args.f.now)
    (sym (first_met c.args.self.now c.octagon.result.now c.in_ok-octagon-in-Ne.octagon c.args.f.now c.args.op c.octagon.ensures.valid c.requires c.octagon.ensures.value c.in_ok-octagon-in-Ne.ensures))
    c.requires
