use Rattle.std.proofs.Common.{length}
use Rattle.linear_terms.specs.Terms.{terms_by}
use Rattle.linear_terms.proofs.Merges.{Multiplying}
use Rattle.linear_terms.proofs.merging.multiplied.Given as goal

abbrev pub invariant-terms : goal.invariant-terms
invariant-terms l = Multiplying l.fn.limit l.fn.by l.list.items l.rest (terms_by l.fn.by l.initial.rest)

abbrev pub decreases-terms : goal.decreases-terms
decreases-terms l = length l.rest
