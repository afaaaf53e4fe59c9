use Rattle.std.proofs.Common.{◌≡◌, drop}
use Rattle.family_names.specs.Declarations.{has_one}
use Rattle.family_names.proofs.declarations.has_one.Given as goal

abbrev pub invariant-loop-declaration : goal.invariant-loop-declaration
invariant-loop-declaration l = has_one l.declarations l.name ≡ has_one (drop l.declaration-index l.declarations) l.name
