use Rattle.congruence_leaf.specs.Laws.TwoStrides.{met_has, met_only}
use Rattle.congruence_leaf.proofs.laws.parts_keep_the_numbers_of_both_strides.Goals as goal

pub returns : goal.returns
returns c = λ b t n. (λ h. met_only b t n h, λ h. met_has b t n h.0 h.1)
