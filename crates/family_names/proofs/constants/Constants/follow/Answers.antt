use Rattle.std.proofs.Common.{◌≡◌, Bool, not, ◌&&◌, sym, subst, ◌∙◌}
use Rattle.family_names.specs.Judging.{FollowsConstants}
use Rattle.family_names.proofs.Holding.{held_more, is_asked, is_not_asked}
use Rattle.family_names.proofs.constants.Constants.follow.Goals as goal
use Rattle.family_names.proofs.constants.Constants.follow.Goals.{then-is_constant, else-is_constant}

pub returns : goal.returns
returns c = λ before k h.
    let used = c.uses_next-is_used.result in
    let is : c.if-is_constant.is_constant ≡ (c.is_constant.result && not c.uses_next-is_used.result) = elim c.if-is_constant.branch [
      | then-is_constant w ↦ is_asked c.is_constant.result used c.if-is_constant.is_constant w.if-is_constant.true w.is_constant-is
      | else-is_constant w ↦ is_not_asked c.is_constant.result used c.if-is_constant.is_constant w.if-is_constant.false w.is_constant-is
    ] in
    held_more before c.args.item c.args.self.now
    (record { track = c.follow.new.self; declarations = c.follow_constants.new.declarations })
    c.args.seen.now c.is_constant.result used k h (c.follow.ensures before h.track) (c.is_constant.ensures before h.track) (c.uses_next-is_used.ensures before k h.track)
    (subst (λ (b : Bool). FollowsConstants c.args.self.now.declarations b c.args.seen.now.groups c.args.seen.now.in_main c.args.item.sign c.follow_constants.new.declarations) is
    (c.in_ok-follow_constants.ensures h.sound (h.inside ∙ sym k.main)))
