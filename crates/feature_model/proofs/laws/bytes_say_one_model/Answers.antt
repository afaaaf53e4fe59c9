use Rattle.feature_model.proofs.Once.{one_reading}
use Rattle.feature_model.proofs.laws.bytes_say_one_model.Goals as goal

pub returns : goal.returns
returns c bytes r s = one_reading c.bytes_have_one_reading.ensures c.few_atoms_are_not_more.ensures bytes r s
