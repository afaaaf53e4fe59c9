use Rattle.certificate_laws.proofs.AcceptedVerdict.{answers_yes}
use Rattle.certificate_laws.proofs.laws.analyses_told_by_bounds_are_accepted.Goals as goal

pub returns : goal.returns
returns g c =
    λ told joins o model p conditions atoms certificate verdict program found answered.
    answers_yes g.L.Leaf.meaning g.met.L.Leaf.laws c.transfer_is_sound.ensures.answers told joins o model p conditions atoms certificate program found verdict answered
