use Rattle.std.proofs.Common.{◌+◌, length}
use Rattle.linear_terms.specs.Terms.{terms_sum}
use Rattle.linear_terms.proofs.Merges.{Merging}
use Rattle.linear_terms.proofs.merging.merged.Given as goal

abbrev pub invariant-terms : goal.invariant-terms
invariant-terms l = Merging l.fn.limit l.list.items l.ms l.ns (terms_sum l.initial.ms l.initial.ns)

abbrev pub decreases-terms : goal.decreases-terms
decreases-terms l = length l.ms + length l.ns
