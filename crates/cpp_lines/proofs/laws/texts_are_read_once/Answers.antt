use Rattle.cpp_lines.proofs.ReadOnce.{read_once}
use Rattle.cpp_lines.proofs.laws.texts_are_read_once.Goals as goal

pub returns : goal.returns
returns c = read_once c.bytes_have_one_reading.ensures c.few_atoms_are_not_more.ensures
