use Rattle.certificate_laws.proofs.AcceptedWhole.{read_and_accepted}
use Rattle.certificate_laws.proofs.laws.written_analyses_are_accepted.Goals as goal

pub returns : goal.returns
returns c =
    λ o model p conditions atoms bytes result program at names written short answered.
    read_and_accepted c.transfer_is_sound.ensures.answers o model p conditions atoms bytes program at names written short result answered
