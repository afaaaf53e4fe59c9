use Rattle.std.proofs.Common.{rules}
use Rattle.family_names.proofs.Calling.{no_functions}
use Rattle.family_names.proofs.functions.Functions.new.Goals as goal

pub returns : goal.returns
returns c = no_functions _ (search rules) (search rules) (search rules)
