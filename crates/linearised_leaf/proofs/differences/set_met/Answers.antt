use Rattle.std.proofs.Common.{◌≡◌, IfOk, sym, subst, ◌∙◌}
use Rattle.leaf_domain.specs.Leaves.{LeafValue}
use Rattle.linearised_leaf.proofs.DifferenceLaws.{set_met_is, set_met_stays}
use Rattle.linearised_leaf.proofs.differences.set_met.Goals as goal

pub returns-then-is_nothing : goal.returns-then-is_nothing
returns-then-is_nothing g c = set_met_stays g.L.Leaf.meaning (g.L.Leaf.value c.args.leaf.now) (g.L.Leaf.value c.args.set) c.args.x c.args.f.now (sym c.is_nothing.ensures ∙ c.if-is_nothing.true)

pub returns : goal.returns
returns g c =
    let P : LeafValue → Type 0 = λ u. IfOk c.negated_met.result (λ met. g.L.Leaf.value met ≡ u) in
    subst P
    (set_met_is g.L.Leaf.meaning (g.L.Leaf.value c.args.leaf.now) (g.L.Leaf.value c.args.set) (g.L.Leaf.value c.in_ok-met.met) c.args.x c.args.f.now (sym c.is_nothing.ensures ∙ c.if-is_nothing.false) c.in_ok-met.ensures.value)
    c.negated_met.ensures
