use Rattle.c_tree.proofs.Values.{IsInt-wrapped, wrapped_differs}
use Rattle.c_tree.proofs.laws.wrapping_is_modular.Goals as goal

pub returns : goal.returns
returns c = record { int = IsInt-wrapped; differs = wrapped_differs }
