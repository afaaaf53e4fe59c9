use Rattle.std.proofs.Common.{ap, length, sym, ◌∙◌, false-eqb}
use Rattle.std.proofs.lemmas.Bool.{eqb-true}
use Rattle.cpp_conditions.proofs.Formed.{formed_product, formed_multiple}
use Rattle.cpp_conditions.proofs.Sizes.{small_back}
use Rattle.cpp_conditions.proofs.forming.product.Goals as goal

pub returns-then-is_empty : goal.returns-then-is_empty
returns-then-is_empty c = formed_product c.args.names.now c.args.left c.args.right _ c.scale.result c.requires.right (ap length (sym c.items.ensures) ∙ eqb-true _ _ (sym c.if-is_empty.ensures)) (small_back c.args.left c.requires.left.small) c.scale.ensures.exact

pub returns : goal.returns
returns c = formed_multiple c.args.names.now c.args.left c.args.right _ c.scale-else-is_empty.result c.requires.left (λ h. false-eqb _ _ c.if-is_empty.ensures (ap length c.items.ensures ∙ h)) (small_back c.args.right c.requires.right.small) c.scale-else-is_empty.ensures.exact
