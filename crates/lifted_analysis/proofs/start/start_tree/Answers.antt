use Rattle.std.proofs.Common.{rules}
use Rattle.lifted_analysis.specs.Start.{IsBeginningOf}
use Rattle.lifted_analysis.proofs.StartLemmas.{start_fits, begun, started}
use Rattle.lifted_analysis.proofs.start.start_tree.Goals as goal

pub map_in-requires-clause-callable : goal.map_in-requires-clause-callable
map_in-requires-clause-callable g c =
    record {
      each = λ p w.
          let fits : IsBeginningOf c.args.family.now.variables p.now = start_fits c.args.family.now c.args.start.now c.args.declared.now c.in_ok-values.values c.in_ok-values.ensures.tree c.requires.count c.requires.ints c.requires.declared p.now w in
          let few = c.requires.family.few in
          search rules;
    }

pub returns-clause-state : goal.returns-clause-state
returns-clause-state g c =
    begun g.L.Leaf.value g.L.Leaf.meaning g.met.L.Leaf.laws c.args.family.now c.map_in.result c.args.start.now c.args.declared.now c.in_ok-values.values _ c.map_in.new.forest
    (λ a b h. let k = h in search rules)
    c.in_ok-values.ensures.tree c.requires.count c.requires.ints c.requires.declared c.map_in.ensures.leaves c.map_in.ensures.tests c.map_in.ensures.tree

pub returns-clause-at_each : goal.returns-clause-at_each
returns-clause-at_each g c =
    started g.L.Leaf.value g.L.Leaf.meaning g.met.L.Leaf.laws c.args.family.now c.map_in.result c.args.start.now c.args.declared.now c.in_ok-values.values _
    (λ a b h. let k = h in search rules)
    c.in_ok-values.ensures.tree c.map_in.ensures.mapped
