use Rattle.std.proofs.Common.{◌≡◌, ◌∙◌, ℤ, List, ap, sym, subst, IfOk}
use Rattle.leaf_domain.specs.Leaves.{LeafValue}
use Rattle.octagon_leaf.specs.Greatest.{standing}
use Rattle.octagon_leaf.specs.Octagons.{narrowed}
use Rattle.octagon_leaf.proofs.Full.{entries-are}
use Rattle.octagon_leaf.proofs.Meanings.{narrow-is}
use Rattle.octagon_leaf.proofs.leaf.OctagonLeafLeaf.narrow.Goals as goal

pub returns-in_ok-narrowed-in-Some-best_matrix : goal.returns-in_ok-narrowed-in-Some-best_matrix
returns-in_ok-narrowed-in-Some-best_matrix c =
    let m = c.in-Some.own.now in
    let k = c.in-Some-best_matrix.best.now in
    let g = c.in_ok-narrowed-in-Some-best_matrix in
    let ts : List ℤ = c.args.thresholds.now in
    let P : LeafValue → Type 0 = λ u. IfOk c.standing_as.result (λ leaf. leaf ≡ u) in
    subst P
    (ap standing (entries-are g.field-0 m.variables (narrowed ts m k) g.ensures.kept g.ensures.entries) ∙ sym (narrow-is ts c.args.self.now c.args.other.now m k c.in-Some.ensures.standing c.in-Some-best_matrix.ensures.best))
    c.standing_as.ensures
