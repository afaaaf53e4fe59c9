use Rattle.std.proofs.Common.{length, true}
use Rattle.linear_atoms.specs.Texts.{terms_text}
use Rattle.linear_atoms.proofs.Writings.{Writing}
use Rattle.linear_atoms.proofs.texts.terms_text.Given as goal

abbrev pub invariant-terms : goal.invariant-terms
invariant-terms l = Writing l.fn.features l.is_first l.text.items l.rest (terms_text true l.fn.features l.initial.rest)

abbrev pub decreases-terms : goal.decreases-terms
decreases-terms l = length l.rest
