use Rattle.std.proofs.Common.{◌≡◌, true, List, Bool, length}
use Rattle.family_names.specs.Declarations.{is_declared}
use Rattle.family_names.proofs.declarations.is_clear.Given as goal

abbrev pub invariant-declarations : goal.invariant-declarations
invariant-declarations l = (truths : List Bool) → is_declared truths l.rest l.name ≡ true → is_declared truths l.declarations l.name ≡ true

abbrev pub decreases-declarations : goal.decreases-declarations
decreases-declarations l = length l.rest
