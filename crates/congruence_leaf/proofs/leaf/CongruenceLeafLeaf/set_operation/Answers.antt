use Rattle.std.proofs.Common.{◌≡◌, IfOk, ap, sym, subst, ◌∙◌}
use Rattle.leaf_domain.specs.Leaves.{LeafValue}
use Rattle.product_leaf.specs.StrideLeaves.{stride_with}
use Rattle.product_leaf.specs.Laws.Parts.{IsLimited}
use Rattle.congruence_leaf.specs.Congruences.{results_in}
use Rattle.congruence_leaf.specs.Laws.Leaves.{met_limited}
use Rattle.congruence_leaf.proofs.leaf.CongruenceLeafLeaf.set_operation.Goals as goal

pub with-requires-clause-part : goal.with-requires-clause-part
with-requires-clause-part c = subst IsLimited (sym c.met_part.ensures) (met_limited c.in-Some.results c.args.r c.in-Some.ensures.reduced c.requires.r)

pub returns-in-None : goal.returns-in-None
returns-in-None c =
    let P : LeafValue → Type 0 = λ u. IfOk c.set_range.result (λ leaf. leaf ≡ u) in
    subst P (ap (λ o. stride_with c.args.self.now c.args.x (results_in o c.args.r)) c.in-None.ensures.value) c.set_range.ensures

pub returns-in-Some : goal.returns-in-Some
returns-in-Some c =
    let P : LeafValue → Type 0 = λ u. IfOk c.with.result (λ leaf. leaf ≡ u) in
    subst P (ap (λ b. stride_with c.args.self.now c.args.x b) c.met_part.ensures ∙ ap (λ o. stride_with c.args.self.now c.args.x (results_in o c.args.r)) c.in-Some.ensures.value) c.with.ensures
