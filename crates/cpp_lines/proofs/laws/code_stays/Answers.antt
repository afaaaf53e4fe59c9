use Rattle.cpp_lines.proofs.VariantTexts.{code_stays as stays}
use Rattle.cpp_lines.proofs.laws.code_stays.Goals as goal

pub returns : goal.returns
returns c = stays
