use Rattle.std.proofs.Common.{◌-◌, length}
use Rattle.run_meaning.proofs.Plans.{front-Assign, front-Input, front-Assert, front-If, front-While, plan_at}
use Rattle.run_meaning.proofs.plan.plan_for.Goals as goal

pub returns-in-Assign-clause-target : goal.returns-in-Assign-clause-target
returns-in-Assign-clause-target c = c.plan_to_set.ensures.target (length c.args.inputs.now - c.args.taken)

pub returns-in-Assign-clause-does : goal.returns-in-Assign-clause-does
returns-in-Assign-clause-does c =
    λ rest levels. plan_at c.args.mode c.args.inputs.now c.args.store.now c.args.taken levels c.plan_to_set.result c.args.head.now _ rest _ c.in-Assign.is (front-Assign c.in-Assign.place c.in-Assign.target c.in-Assign.e rest) (c.plan_to_set.ensures.does c.args.inputs.now rest _ levels c.args.taken)

pub returns-in-Input-clause-does : goal.returns-in-Input-clause-does
returns-in-Input-clause-does c =
    λ rest levels. plan_at c.args.mode c.args.inputs.now c.args.store.now c.args.taken levels c.plan_to_take.result c.args.head.now _ rest _ c.in-Input.is (front-Input c.in-Input.place c.in-Input.target rest) (c.plan_to_take.ensures.does c.args.mode rest _ levels c.args.store.now)

pub returns-in-Assert-clause-target : goal.returns-in-Assert-clause-target
returns-in-Assert-clause-target c = c.plan_to_assert.ensures.target (length c.args.inputs.now - c.args.taken)

pub returns-in-Assert-clause-does : goal.returns-in-Assert-clause-does
returns-in-Assert-clause-does c =
    λ rest levels. plan_at c.args.mode c.args.inputs.now c.args.store.now c.args.taken levels c.plan_to_assert.result c.args.head.now _ rest _ c.in-Assert.is (front-Assert c.in-Assert.place c.in-Assert.test rest) (c.plan_to_assert.ensures.does c.args.inputs.now rest _ levels c.args.taken)

pub returns-in-If-clause-target : goal.returns-in-If-clause-target
returns-in-If-clause-target c = c.plan_to_choose.ensures.target (length c.args.inputs.now - c.args.taken)

pub returns-in-If-clause-does : goal.returns-in-If-clause-does
returns-in-If-clause-does c =
    λ rest levels. plan_at c.args.mode c.args.inputs.now c.args.store.now c.args.taken levels c.plan_to_choose.result c.args.head.now _ rest _ c.in-If.is (front-If c.in-If.place c.in-If.test c.in-If.yes c.in-If.no rest) (c.plan_to_choose.ensures.does c.args.inputs.now _ _ rest levels c.args.taken)

pub returns-in_ok-plan-in-While-clause-target : goal.returns-in_ok-plan-in-While-clause-target
returns-in_ok-plan-in-While-clause-target c = c.in_ok-plan-in-While.ensures.target (length c.args.inputs.now - c.args.taken)

pub returns-in_ok-plan-in-While-clause-does : goal.returns-in_ok-plan-in-While-clause-does
returns-in_ok-plan-in-While-clause-does c =
    λ rest levels. plan_at c.args.mode c.args.inputs.now c.args.store.now c.args.taken levels c.in_ok-plan-in-While.plan c.args.head.now _ rest _ c.in-While.is (front-While c.in-While.place c.in-While.test c.in-While.step c.in-While.body c.deref.result.now c.deref-in-While.result.now rest c.deref.ensures.value c.deref-in-While.ensures.value) (c.in_ok-plan-in-While.ensures.does c.args.inputs.now rest levels c.args.taken)

pub returns-in-Leave-clause-target : goal.returns-in-Leave-clause-target
returns-in-Leave-clause-target c = c.plan_to_leave.ensures.target (length c.args.inputs.now - c.args.taken)
