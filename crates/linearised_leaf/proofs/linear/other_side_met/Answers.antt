use Rattle.std.proofs.Common.{sym, ◌∙◌}
use Rattle.linearised_leaf.proofs.FormLaws.{negated_is}
use Rattle.linearised_leaf.proofs.linear.other_side_met.Goals as goal

pub side_met-requires-clause-form : goal.side_met-requires-clause-form
side_met-requires-clause-form g c = negated_is (g.L.Leaf.value c.args.leaf.now).variables c.args.f.now c.in-Some.g c.requires.form (sym c.in_ok-negated.ensures ∙ c.in-Some.is)
