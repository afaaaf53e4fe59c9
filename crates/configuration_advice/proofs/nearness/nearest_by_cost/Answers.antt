use Rattle.std.proofs.Common.{ℤ, Bool, List, Option, length, map, ap}
use Rattle.std.proofs.lemmas.Result.{IfOk-weaker}
use Rattle.cpp_conditions.specs.Numbering.{vector_at}
use Rattle.cpp_conditions.specs.View.{formula}
use Rattle.decision_tree.specs.Plain.{leaf_of}
use Rattle.decision_tree.specs.View.{plain}
use Rattle.configuration_advice.specs.declared.comparing.Advice.{Advice}
use Rattle.configuration_advice.specs.Changes.{FindsCheapest}
use Rattle.configuration_advice.specs.Nearest.{Advises}
use Rattle.configuration_advice.proofs.Priced.{formulas_more, advised_by}
use Rattle.configuration_advice.proofs.nearness.nearest_by_cost.Goals as goal

pub cost-requires-clause-below : goal.cost-requires-clause-below
cost-requires-clause-below c = formulas_more (length c.args.tests.now) 320 c.args.kept.now c.requires.few c.requires.kept

pub cheapest-requires-clause-priced : goal.cheapest-requires-clause-priced
cheapest-requires-clause-priced c = record {
  atoms = c.requires.atoms;
  tests = c.in_ok-cost.ensures.tests (length c.args.tests.now) c.requires.alarms c.requires.kept;
  tree = c.in_ok-cost.ensures.numbered;
}

pub returns : goal.returns
returns c =
    let model = c.args.prepared.now in
    let tests = c.args.tests.now in
    let given = c.args.given.now.values in
    IfOk-weaker c.cheapest.result (λ (found : Option Advice). FindsCheapest model (λ (values : List ℤ). leaf_of (plain c.in_ok-cost.cost) (vector_at tests values)) (length c.items.result.now) found)
    (λ (found : Option Advice). Advises model tests (map plain c.args.alarms.now) given found)
    (λ found h. advised_by model tests (map plain c.args.alarms.now) (map formula c.args.kept.now) given c.requires.given c.requires.told
    (λ (values : List ℤ). leaf_of (plain c.in_ok-cost.cost) (vector_at tests values)) (length c.items.result.now)
    (λ values. c.in_ok-cost.ensures.cost (vector_at tests values)) (ap length c.items.ensures) found h)
    c.cheapest.ensures
