use Rattle.std.proofs.Common.{Ok, rules}
use Rattle.linear_atoms.specs.declared.normal.Normal.TheVariants as normals
use Rattle.linear_atoms.specs.Normal.{NormalWithin}
use Rattle.linear_atoms.proofs.Coprimes.{normal_kept}
use Rattle.linear_atoms.proofs.forms.Linear.normal.Goals as goal

pub returns-in_ok-made-in-Some-clause-atom : goal.returns-in_ok-made-in-Some-clause-atom
returns-in_ok-made-in-Some-clause-atom c count below =
    let w : NormalWithin (Ok (normals.Literal c.in_ok-made-in-Some.made)) c.args.self.now = search rules in
    normal_kept count c.args.self.now (normals.Literal c.in_ok-made-in-Some.made) w.0 w.1 c.requires below
