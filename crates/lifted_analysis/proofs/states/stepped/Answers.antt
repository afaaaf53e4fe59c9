use Rattle.std.proofs.Common.{rules, sym, subst}
use Rattle.decision_tree.specs.View.{numbered}
use Rattle.lifted_analysis.specs.Steps.{IsStepOf, stepped_by}
use Rattle.lifted_analysis.proofs.StateLemmas.{state_numbered, lifted_made}
use Rattle.lifted_analysis.proofs.states.stepped.Goals as goal

pub map_in-requires-clause-callable : goal.map_in-requires-clause-callable
map_in-requires-clause-callable g c =
    record { each = λ p w. let h = subst (λ n. IsStepOf n c.args.step.now) (sym (c.requires.state.leaves p.now w)) c.requires.step in search rules }

pub map_in-requires-clause-t : goal.map_in-requires-clause-t
map_in-requires-clause-t g c = state_numbered g.L.Leaf.value c.args.family.now c.args.tables.now.leaves (numbered c.args.t.now) c.requires.state

pub returns : goal.returns
returns g c =
    lifted_made g.L.Leaf.value c.args.family.now c.map_in.result _ (stepped_by g.L.Leaf.meaning c.args.family.now.options.now.mode c.args.step.now) c.args.tables.now.leaves c.map_in.new.forest (numbered c.args.t.now)
    (λ a b h. let k = h.says in let e = h.shows in search rules)
    c.requires.state c.map_in.ensures.mapped c.map_in.ensures.leaves c.map_in.ensures.tests c.map_in.ensures.tree c.map_in.ensures.keeps
