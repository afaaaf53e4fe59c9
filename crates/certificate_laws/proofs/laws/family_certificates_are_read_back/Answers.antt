use Rattle.certificate_laws.proofs.Families.{families_are_read_back}
use Rattle.certificate_laws.proofs.laws.family_certificates_are_read_back.Goals as goal

pub returns : goal.returns
returns c = families_are_read_back c.transfer_is_sound.ensures.answers
