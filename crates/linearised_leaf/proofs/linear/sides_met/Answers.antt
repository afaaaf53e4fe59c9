use Rattle.std.proofs.Common.{◌≡◌, pos, IfOk, sym, subst, ap, ◌∙◌}
use Rattle.leaf_domain.specs.Leaves.{LeafValue}
use Rattle.linearised_leaf.specs.Sides.{side_met}
use Rattle.linearised_leaf.specs.Tightened.{other_side_met, sides_met}
use Rattle.linearised_leaf.proofs.linear.sides_met.Goals as goal

pub returns-in-Lt : goal.returns-in-Lt
unfolding sides_met
returns-in-Lt g c =
    let P : LeafValue → Type 0 = λ u. IfOk c.side_met.result (λ met. g.L.Leaf.value met ≡ u) in
    subst P (sym (ap (λ o. sides_met g.L.Leaf.meaning (g.L.Leaf.value c.args.leaf.now) c.args.f.now o) c.in-Lt.is)) c.side_met.ensures.value

pub returns-in-Le : goal.returns-in-Le
unfolding sides_met
returns-in-Le g c =
    let P : LeafValue → Type 0 = λ u. IfOk c.side_met-in-Le.result (λ met. g.L.Leaf.value met ≡ u) in
    subst P (sym (ap (λ o. sides_met g.L.Leaf.meaning (g.L.Leaf.value c.args.leaf.now) c.args.f.now o) c.in-Le.is)) c.side_met-in-Le.ensures.value

pub returns-in-Gt : goal.returns-in-Gt
unfolding sides_met
returns-in-Gt g c =
    let P : LeafValue → Type 0 = λ u. IfOk c.other_side_met.result (λ met. g.L.Leaf.value met ≡ u) in
    subst P (sym (ap (λ o. sides_met g.L.Leaf.meaning (g.L.Leaf.value c.args.leaf.now) c.args.f.now o) c.in-Gt.is)) c.other_side_met.ensures.value

pub returns-in-Ge : goal.returns-in-Ge
unfolding sides_met
returns-in-Ge g c =
    let P : LeafValue → Type 0 = λ u. IfOk c.other_side_met-in-Ge.result (λ met. g.L.Leaf.value met ≡ u) in
    subst P (sym (ap (λ o. sides_met g.L.Leaf.meaning (g.L.Leaf.value c.args.leaf.now) c.args.f.now o) c.in-Ge.is)) c.other_side_met-in-Ge.ensures.value

pub returns-in_ok-below-in-Eq : goal.returns-in_ok-below-in-Eq
unfolding sides_met
returns-in_ok-below-in-Eq g c =
    let M = g.L.Leaf.meaning in
    let v = g.L.Leaf.value c.args.leaf.now in
    let P : LeafValue → Type 0 = λ u. IfOk c.other_side_met-in-Eq.result (λ met. g.L.Leaf.value met ≡ u) in
    subst P
    (ap (λ u. other_side_met M u c.args.f.now (pos 0)) c.in_ok-below-in-Eq.ensures.value ∙ sym (ap (λ o. sides_met M v c.args.f.now o) c.in-Eq.is))
    c.other_side_met-in-Eq.ensures.value

pub returns-in_ok-above-in-Ne : goal.returns-in_ok-above-in-Ne
unfolding sides_met
returns-in_ok-above-in-Ne g c =
    let M = g.L.Leaf.meaning in
    let v = g.L.Leaf.value c.args.leaf.now in
    let P : LeafValue → Type 0 = λ u. IfOk c.join.result (λ met. g.L.Leaf.value met ≡ u) in
    subst P
    (ap (λ u. M.join u (g.L.Leaf.value c.in_ok-above-in-Ne.above)) c.in_ok-below-in-Ne.ensures.value ∙ ap (λ u. M.join (side_met M v c.args.f.now (pos 1)) u) c.in_ok-above-in-Ne.ensures.value
    ∙ sym (ap (λ o. sides_met M v c.args.f.now o) c.in-Ne.is))
    c.join.ensures
