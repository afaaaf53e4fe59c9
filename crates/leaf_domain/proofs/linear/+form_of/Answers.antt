use Rattle.std.proofs.Common.{rules}
use Rattle.c_tree.specs.View.{term}
use Rattle.leaf_domain.proofs.FormLemmas.{answered_form}
use Rattle.leaf_domain.proofs.linear.+form_of.Goals as goal

pub returns-in_ok-form_of-in-Neg-clause-form : goal.returns-in_ok-form_of-in-Neg-clause-form
returns-in_ok-form_of-in-Neg-clause-form t c = answered_form c.multiple.result (term c.args.e.now) (search rules)

pub returns-in_ok-form_of-in-Binary-Add-default-default-2-clause-form :
    goal.returns-in_ok-form_of-in-Binary-Add-default-default-2-clause-form
returns-in_ok-form_of-in-Binary-Add-default-default-2-clause-form t c = answered_form c.sum.result (term c.args.e.now) (search rules)

pub returns-in_ok-form_of-in-Binary-Sub-default-default-2-clause-form :
    goal.returns-in_ok-form_of-in-Binary-Sub-default-default-2-clause-form
returns-in_ok-form_of-in-Binary-Sub-default-default-2-clause-form t c = answered_form c.difference.result (term c.args.e.now) (search rules)

pub returns-in_ok-form_of-in-Binary-Mul-default-default-2-clause-form :
    goal.returns-in_ok-form_of-in-Binary-Mul-default-default-2-clause-form
returns-in_ok-form_of-in-Binary-Mul-default-default-2-clause-form t c = answered_form c.product.result (term c.args.e.now) (search rules)
