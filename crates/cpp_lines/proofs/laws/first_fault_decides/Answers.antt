use Rattle.cpp_lines.specs.Faults.{first_fault}
use Rattle.cpp_lines.proofs.Deciding.{decides}
use Rattle.cpp_lines.proofs.laws.first_fault_decides.Goals as goal

pub returns : goal.returns
unfolding first_fault
returns c = decides
