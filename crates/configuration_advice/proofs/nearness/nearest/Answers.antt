use Rattle.std.proofs.Common.{◌≡◌, ◌∙◌, ◌+◌, ◌≤◌, ℤ, List, Option, length, map, ap, sym, subst, arith}
use Rattle.std.proofs.lemmas.Result.{IfOk-weaker}
use Rattle.linear_atoms.specs.declared.atoms.Atom.{Atom}
use Rattle.linear_atoms.specs.Atoms.{AreAtoms, AreValues}
use Rattle.cpp_conditions.specs.declared.models.Model.{Model}
use Rattle.cpp_conditions.proofs.Within.{config_of}
use Rattle.decision_tree.specs.View.{plain}
use Rattle.configuration_advice.specs.declared.comparing.Advice.{Advice}
use Rattle.configuration_advice.specs.Changes.{Extends}
use Rattle.configuration_advice.specs.Nearest.{Advises}
use Rattle.configuration_advice.proofs.Advised.{all_below}
use Rattle.configuration_advice.proofs.FirstFound.{within_length}
use Rattle.configuration_advice.proofs.Priced.{advised_before, extends_length, trees_more}
use Rattle.configuration_advice.proofs.nearness.nearest.Goals as goal

pub all_kept-requires-clause-few : goal.all_kept-requires-clause-few
all_kept-requires-clause-few c =
    let own : length c.in_ok-tests.tests.items ≡ length c.args.atoms.now = ap length c.in_ok-tests.ensures in
    let same : length c.items-2.result.now ≡ length c.args.given.now.values = ap length c.items-2.ensures in
    let long = within_length c.args.model.now.features c.args.given.now.values c.requires.given in
    let most = c.requires.features.few in
    let few = c.requires.few in
    omega (arith, own, same, long, most, few)

pub all_kept-requires-clause-numbers : goal.all_kept-requires-clause-numbers
all_kept-requires-clause-numbers c =
    let same : length c.items-2.result.now ≡ length c.args.given.now.values = ap length c.items-2.ensures in
    let long = within_length c.args.model.now.features c.args.given.now.values c.requires.given in
    let most = c.requires.features.few in
    omega (arith, same, long, most)

pub all_kept-requires-clause-values : goal.all_kept-requires-clause-values
all_kept-requires-clause-values c =
    subst AreValues (sym c.items-2.ensures) (config_of c.args.model.now.features c.args.given.now.values c.requires.features.ranges c.requires.given).small

pub nearest_by_cost-requires-clause-atoms : goal.nearest_by_cost-requires-clause-atoms
nearest_by_cost-requires-clause-atoms c =
    let count = length c.args.model.now.features in
    let same : length c.items-2.result.now ≡ length c.args.given.now.values = ap length c.items-2.ensures in
    let long = within_length c.args.model.now.features c.args.given.now.values c.requires.given in
    let own : AreAtoms count c.in_ok-tests.tests.items = subst (AreAtoms count) (sym c.in_ok-tests.ensures) c.requires.atoms in
    subst (λ (m : Model). AreAtoms (length m.features) c.deref.result.now) (sym c.in_ok-prepared.ensures)
    (subst (AreAtoms count) (sym c.deref.ensures.value) (c.in_ok-kept.ensures.fits count own (omega (arith, same, long))))

pub nearest_by_cost-requires-clause-given : goal.nearest_by_cost-requires-clause-given
nearest_by_cost-requires-clause-given c =
    let long = within_length c.args.model.now.features c.args.given.now.values c.requires.given in
    let most = c.requires.features.few in
    omega (arith, long, most)

pub nearest_by_cost-requires-clause-alarms : goal.nearest_by_cost-requires-clause-alarms
nearest_by_cost-requires-clause-alarms c =
    let atoms = c.args.atoms.now in
    let after = c.deref.result.now in
    let more : Extends atoms after = subst (λ (xs : List Atom). Extends xs after) c.in_ok-tests.ensures (subst (Extends c.in_ok-tests.tests.items) (sym c.deref.ensures.value) c.in_ok-kept.ensures.extends) in
    trees_more (length atoms) (length after) c.args.alarms.now (extends_length atoms after more) c.requires.tests

pub returns-then-len-le-MOST_TESTS : goal.returns-then-len-le-MOST_TESTS
returns-then-len-le-MOST_TESTS c =
    let model = c.args.model.now in
    let atoms = c.args.atoms.now in
    let after = c.deref.result.now in
    let trees = c.args.alarms.now in
    let given = c.args.given.now.values in
    let more : Extends atoms after = subst (λ (xs : List Atom). Extends xs after) c.in_ok-tests.ensures (subst (Extends c.in_ok-tests.tests.items) (sym c.deref.ensures.value) c.in_ok-kept.ensures.extends) in
    IfOk-weaker c.nearest_by_cost.result (λ (found : Option Advice). Advises c.in_ok-prepared.prepared after (map plain trees) given found)
    (λ (found : Option Advice). Advises model atoms (map plain trees) given found)
    (λ found h. advised_before model atoms after (map plain trees) given more (all_below (length atoms) trees c.requires.tests) found
    (subst (λ (m : Model). Advises m after (map plain trees) given found) c.in_ok-prepared.ensures h))
    c.nearest_by_cost.ensures
