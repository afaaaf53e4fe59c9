use Rattle.std.proofs.Common.{map, sym, subst}
use Rattle.linear_atoms.specs.Atoms.{IsAtom, IsDecided}
use Rattle.linear_atoms.specs.Ranges.{range}
use Rattle.linear_atoms.proofs.Extremes.{decided_so, length_mapped}
use Rattle.linear_atoms.proofs.atoms.Atom.decided_within.Goals as goal

pub returns-clause-exact : goal.returns-clause-exact
returns-clause-exact c =
    let fs = map range c.args.spans.now in
    let a = c.args.self.now in
    subst (IsDecided fs a) (sym c.decided_by.ensures) (decided_so fs a c.requires.ranges (subst (λ n. IsAtom n a) (sym (length_mapped range c.args.spans.now)) c.requires.atom))
