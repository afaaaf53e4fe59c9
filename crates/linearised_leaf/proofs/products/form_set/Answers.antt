use Rattle.std.proofs.Common.{sym, subst}
use Rattle.leaf_domain.specs.Sums.{HasForm}
use Rattle.linearised_leaf.proofs.FormLaws.{form_more, less_has}
use Rattle.linearised_leaf.proofs.products.form_set.Goals as goal

pub less_variable-requires : goal.less_variable-requires
less_variable-requires g c = form_more (g.L.Leaf.value c.args.leaf.now).variables 48 c.args.f.now c.leaf_is_valid.ensures.few c.requires.f

pub met_where-requires : goal.met_where-requires
met_where-requires g c =
    let n = (g.L.Leaf.value c.args.leaf.now).variables in
    subst (λ m. HasForm m c.in_ok-less.less) (sym c.requires.same) (subst (HasForm n) (sym c.in_ok-less.ensures) (less_has n c.args.x c.args.f.now c.requires.x c.requires.f))
