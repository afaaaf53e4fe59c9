use Rattle.std.proofs.Common.{◌≡◌, ◌∙◌, sym, subst, IfOk}
use Rattle.lifted_analysis.proofs.StateLemmas.{stepped_stays}
use Rattle.lifted_analysis.proofs.operations.Step.at.Goals as goal

pub returns-then-is_nothing-clause-value : goal.returns-then-is_nothing-clause-value
returns-then-is_nothing-clause-value g c =
    let value = g.L.Leaf.value in
    let v = value c.args.leaf.now in
    let stays = stepped_stays g.L.Leaf.meaning g.met.L.Leaf.laws c.args.mode (c.transfer_is_sound.ensures.answers c.args.mode) v c.leaf_is_valid.ensures.few (sym c.is_nothing.ensures ∙ c.if-is_nothing.true) c.args.self.now in
    subst (λ u. IfOk c.copy.result (λ made. value made ≡ u)) (sym stays) c.copy.ensures
