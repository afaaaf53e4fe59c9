use Rattle.cpp_lines.proofs.ReadOnce.{one_text}
use Rattle.cpp_lines.proofs.laws.variants_have_one_text.Goals as goal

pub returns : goal.returns
returns c = one_text c.texts_are_read_once.ensures
