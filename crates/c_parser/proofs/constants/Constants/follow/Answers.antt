use Rattle.std.proofs.Common.{◌≡◌, not, ◌&&◌, ◌∙◌}
use Rattle.family_names.proofs.Holding.{is_asked, is_not_asked}
use Rattle.c_parser.proofs.Holding.{held_more, declared_next}
use Rattle.c_parser.proofs.constants.Constants.follow.Goals as goal
use Rattle.c_parser.proofs.constants.Constants.follow.Goals.{then-is_constant, else-is_constant}

pub returns : goal.returns
returns c = λ before k h.
    let used = c.uses_next-is_used in
    let is : c.if-is_constant.is_declared ≡ (c.is_constant.result && not used.result) = elim c.if-is_constant.branch [
      | then-is_constant w ↦ is_asked c.is_constant.result c.uses_next-is_used.result c.if-is_constant.is_declared w.if-is_constant.true w.is_declared-is
      | else-is_constant w ↦ is_not_asked c.is_constant.result c.uses_next-is_used.result c.if-is_constant.is_declared w.if-is_constant.false w.is_declared-is
    ] in
    held_more before c.args.item (record { track = c.follow.new.self; names = c.follow_constants.new.names }) (c.follow.ensures before h.track)
    (c.in_ok-follow_constants.ensures before h.names k.main (is ∙ declared_next before c.is_constant.result used.result (c.is_constant.ensures before h.track) (used.ensures before k.main h.track)))
