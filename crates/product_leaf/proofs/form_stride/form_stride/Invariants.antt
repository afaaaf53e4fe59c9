use Rattle.std.proofs.Common.{length}
use Rattle.product_leaf.proofs.FormSums.{IsSum}
use Rattle.product_leaf.proofs.form_stride.form_stride.Given as goal

abbrev pub invariant-terms : goal.invariant-terms
invariant-terms l = IsSum l.parts l.f l.modulus l.value l.rest

abbrev pub decreases-terms : goal.decreases-terms
decreases-terms l = length l.rest
