use Rattle.std.proofs.Common.{subst, sym}
use Rattle.cpp_conditions.specs.Numbering.{vector_at}
use Rattle.atom_solver.specs.Truths.{Knows}
use Rattle.atom_solver.proofs.branching.is_untrue.Goals as goal

pub returns : goal.returns
returns c done vs w t = c.in_ok-answer.ensures done vs w (subst (λ x. Knows x (vector_at c.args.atoms.now vs)) (sym c.deref_mut.ensures.value) (c.in_ok-known.ensures vs w)) t
