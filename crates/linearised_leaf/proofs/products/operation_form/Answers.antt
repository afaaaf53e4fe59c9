use Rattle.std.proofs.Common.{◌≡◌, sym, subst}
use Rattle.std.proofs.lemmas.Result.{IfOk-weaker}
use Rattle.c_tree.specs.declared.tree.Op.TheVariants.{Mul}
use Rattle.leaf_domain.specs.Sums.{HasForm}
use Rattle.linearised_leaf.specs.Products.{form_by_op}
use Rattle.linearised_leaf.proofs.ProductLaws.{form_has}
use Rattle.linearised_leaf.proofs.products.operation_form.Goals as goal

pub returns-in-Mul-clause-form : goal.returns-in-Mul-clause-form
returns-in-Mul-clause-form g c =
    let M = g.L.Leaf.meaning in
    let v = g.L.Leaf.value c.args.leaf.now in
    IfOk-weaker c.product_form.result (λ made. made ≡ form_by_op M v Mul c.args.p.now.left c.args.p.now.right) (HasForm v.variables)
    (λ made k. subst (HasForm v.variables) (sym k) (form_has M v v.variables Mul c.args.p.now.left c.args.p.now.right c.requires.left c.requires.right)) c.product_form.ensures
