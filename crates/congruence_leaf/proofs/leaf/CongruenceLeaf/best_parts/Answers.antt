use Rattle.std.proofs.Common.{◌≡◌, ◌≤◌, IfSome, IfNone, subst}
use Rattle.leaf_domain.specs.Leaves.{LeafValue, nothing_of}
use Rattle.product_leaf.specs.View.{IsBestOf}
use Rattle.congruence_leaf.proofs.leaf.CongruenceLeaf.best_parts.Goals as goal

pub returns-clause-nothing : goal.returns-clause-nothing
returns-clause-nothing c =
    let P : LeafValue → Type 0 = λ v. IfNone c.best_parts.result (v ≡ nothing_of v.variables) in
    subst P c.self.view_is c.best_parts.ensures.nothing

pub returns-clause-best : goal.returns-clause-best
returns-clause-best c =
    let P : LeafValue → Type 0 = λ v. IfSome c.best_parts.result (λ bs. IsBestOf v bs.now) in
    subst P c.self.view_is c.best_parts.ensures.best

pub returns-clause-few : goal.returns-clause-few
returns-clause-few c =
    let P : LeafValue → Type 0 = λ v. v.variables ≤ 48 in
    subst P c.self.view_is c.best_parts.ensures.few
