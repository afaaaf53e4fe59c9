use Rattle.std.proofs.Common.{List, subst, sym}
use Rattle.strides.specs.declared.strided.Strided.{Strided}
use Rattle.product_leaf.specs.View.{IsBestOf}
use Rattle.product_leaf.proofs.Inside.{best_inside}
use Rattle.product_leaf.proofs.leaf.StrideLeaf.best_parts.Goals as goal

pub returns-in-Some-clause-best : goal.returns-in-Some-clause-best
returns-in-Some-clause-best c =
    let P : List Strided → Type 0 = λ bs. IsBestOf c.args.self.now bs in
    subst P (sym c.deref.ensures.value) (best_inside c.self.inside c.args.self.now c.in-Some.best c.self.view_is c.self.invariant c.in-Some.is)
