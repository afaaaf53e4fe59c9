use Rattle.std.proofs.Common.{◌∙◌, sym, ap, subst}
use Rattle.linear_atoms.specs.Atoms.{IsDecided}
use Rattle.linear_atoms.specs.Ranges.{decided_of}
use Rattle.linear_atoms.proofs.Extremes.{decided_so, map_same}
use Rattle.linear_atoms.proofs.atoms.Atom.decided.Goals as goal

pub returns-clause-exact : goal.returns-clause-exact
returns-clause-exact c =
    let fs = c.args.features.now in
    let a = c.args.self.now in
    subst (IsDecided fs a) (sym (c.decided_by.ensures ∙ ap (λ x. decided_of x a) (map_same fs))) (decided_so fs a c.requires.ranges c.requires.atom)
