use Rattle.std.proofs.Common.{rules}
use Rattle.family_names.proofs.LocalsBehind.{no_locals}
use Rattle.family_names.proofs.locals.Locals.new.Goals as goal

pub returns : goal.returns
returns c = no_locals _ (search rules) (search rules)
