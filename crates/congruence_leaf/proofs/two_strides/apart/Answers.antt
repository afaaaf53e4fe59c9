use Rattle.std.proofs.Common.{◌≤◌, ◌-ℤ◌, unsigned_abs, arith}
use Rattle.std.proofs.lemmas.Int.{ints}
use Rattle.congruence_leaf.proofs.Solving.{rest_found}
use Rattle.congruence_leaf.proofs.two_strides.apart.Goals as goal

pub returns-clause-value : goal.returns-clause-value
returns-clause-value c =
    let p : unsigned_abs c.args.s.residue ≤ 4294967296 = c.requires.first.residue in
    let q : unsigned_abs c.args.t.residue ≤ 4294967296 = c.requires.second.residue in
    let m : c.args.t.modulus ≤ 4294967295 = c.requires.second.modulus in
    rest_found c.args.t.modulus (c.args.t.residue -ℤ c.args.s.residue) _ _ c.rem_euclid.result c.requires.some c.rem_euclid.ensures.value (omega (arith, ints)) (omega (arith, ints)) m
