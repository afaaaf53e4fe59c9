use Rattle.std.proofs.Common.{IfSome, sym, subst}
use Rattle.leaf_domain.specs.Forms.{IsForm}
use Rattle.linearised_leaf.proofs.FormLaws.{form_more, less_has}
use Rattle.linearised_leaf.proofs.linear.tightened_set.Goals as goal

pub less_variable-requires : goal.less_variable-requires
less_variable-requires g c = form_more (g.L.Leaf.value c.args.leaf.now).variables 48 c.args.f.now c.leaf_is_valid.ensures.few c.requires.f

pub tightened_where-requires : goal.tightened_where-requires
tightened_where-requires g c =
    let n = (g.L.Leaf.value c.args.leaf.now).variables in
    subst (λ m. IfSome c.in_ok-less_variable.field-0 (IsForm m)) (sym c.requires.same)
    (subst (λ o. IfSome o (IsForm n)) (sym c.in_ok-less_variable.ensures) (less_has n c.args.x c.args.f.now c.requires.x c.requires.f))
