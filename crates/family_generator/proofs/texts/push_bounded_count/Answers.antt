use Rattle.std.proofs.Common.{append_assoc}
use Rattle.family_generator.proofs.texts.push_bounded_count.Goals as goal

pub returns : goal.returns
returns c = simp append_assoc c.in_ok-write.ensures.bytes
