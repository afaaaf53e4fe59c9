use Rattle.std.proofs.Common.{[], ◌∷◌, length, rules, sym, subst, Ok}
use Rattle.std.specs.Fn.{FnReturnsAt}
use Rattle.decision_tree.specs.Plain.{Plain, leaf, HasLeaf}
use Rattle.decision_tree.specs.View.{plain}
use Rattle.tree_unify.proofs.OneOperand.{all_units, the_unit, one_column, tests_of_one, mapped_of_one, leaves_of_one}
use Rattle.tree_unify.proofs.mapped.map_counted.Goals as goal

pub unify_counted-requires-clause-takes : goal.unify_counted-requires-clause-takes
unify_counted-requires-clause-takes g c = record { each = λ x y w v p e. c.requires.callable.each p (subst (λ z. HasLeaf z (plain c.args.t.now)) (sym e) w) }

pub returns-clause-mapped : goal.returns-clause-mapped
returns-clause-mapped g c =
    mapped_of_one c.unify_counted.result (plain c.args.t.now) (plain c.in_ok-unit.unit) _ (λ a b. FnReturnsAt g.F.Fn c.args.f.now a (Ok b)) (λ a x b h. h) c.unify_counted.ensures.unified

pub returns-clause-leaves : goal.returns-clause-leaves
returns-clause-leaves g c =
    leaves_of_one c.unify_counted.result (plain c.args.t.now) (plain c.in_ok-unit.unit) _ (λ a b. FnReturnsAt g.F.Fn c.args.f.now a (Ok b)) (λ a x b h. h) c.unify_counted.ensures.leaves

pub returns-clause-tests : goal.returns-clause-tests
returns-clause-tests g c = tests_of_one c.unify_counted.result (plain c.args.t.now) (plain c.in_ok-unit.unit) (search rules) c.unify_counted.ensures.tests

pub returns-clause-steps : goal.returns-clause-steps
returns-clause-steps g c = λ xs hx. one_column {X = Unit {0}} (length xs) c.args.steps.now c.unify_counted.new.steps tt (c.unify_counted.ensures.steps xs (tt ∷ []) hx (all_units (plain c.in_ok-unit.unit)))

pub returns-clause-nodes : goal.returns-clause-nodes
returns-clause-nodes g c = λ xs hx. one_column {X = Plain (Unit {0})} (length xs) c.args.nodes.now c.unify_counted.new.nodes (leaf tt) (c.unify_counted.ensures.nodes xs (leaf tt ∷ []) hx (the_unit (plain c.in_ok-unit.unit) (search rules)))
