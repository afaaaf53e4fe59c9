use Rattle.cpp_lines.proofs.VariantTexts.{variant_plain}
use Rattle.cpp_lines.proofs.laws.variants_are_plain.Goals as goal

pub returns : goal.returns
returns c = variant_plain
