use Rattle.std.proofs.Common.{sym, ◌∙◌}
use Rattle.linearised_leaf.proofs.FormLaws.{negated_is}
use Rattle.linearised_leaf.proofs.differences.negated_met.Goals as goal

pub form_met-requires-clause-form : goal.form_met-requires-clause-form
form_met-requires-clause-form g c = negated_is (g.L.Leaf.value c.args.leaf.now).variables c.args.f.now c.in-Some.g c.requires.form (sym c.in_ok-negated.ensures ∙ c.in-Some.is)
