use Rattle.std.proofs.Common.{length, sym, subst}
use Rattle.cpp_conditions.specs.Validity.{AreFit}
use Rattle.atom_solver.proofs.prepared.Prepared.new.Goals as goal

pub valid_box-requires-clause-atoms : goal.valid_box-requires-clause-atoms
valid_box-requires-clause-atoms c =
    let n = length c.args.model.now.features in
    c.in_ok-question.ensures.fit n (subst (AreFit n) (sym c.items.ensures) c.requires.constraints)
