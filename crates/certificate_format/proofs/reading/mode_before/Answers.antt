use Rattle.certificate_format.proofs.Certified.{no_header}
use Rattle.certificate_format.proofs.reading.mode_before.Goals as goal

pub returns-in_default-behind : goal.returns-in_default-behind
returns-in_default-behind c = no_header c.args.bytes.now c.in_default.ensures c.in_default-behind.ensures
