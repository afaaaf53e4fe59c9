use Rattle.std.proofs.Common.{◌≡◌, ◌++◌, ◌∙◌, ℤ, List, length, ap, sym, subst, refl, arith}
use Rattle.linear_atoms.specs.Atoms.{AreValues}
use Rattle.cpp_conditions.proofs.Within.{config_of}
use Rattle.configuration_advice.specs.Searching.{pairs}
use Rattle.configuration_advice.proofs.Advised.{asked_of, advised_for}
use Rattle.configuration_advice.proofs.FirstFound.{within_length}
use Rattle.configuration_advice.proofs.nearness.nearest_by_search.Goals as goal

pub with_pairs-requires-clause-values : goal.with_pairs-requires-clause-values
with_pairs-requires-clause-values c =
    subst AreValues (sym c.items-values.ensures) (config_of c.args.prepared.now.features c.args.given.now.values c.requires.features.ranges c.requires.given).small

pub with_pairs-requires-clause-few : goal.with_pairs-requires-clause-few
with_pairs-requires-clause-few c =
    let same : length c.items-values.result.now ≡ length c.args.given.now.values = ap length c.items-values.ensures in
    let long = within_length c.args.prepared.now.features c.args.given.now.values c.requires.given in
    let few = c.requires.features.few in
    omega (arith, same, long, few)

pub nearest_candidate-requires : goal.nearest_candidate-requires
nearest_candidate-requires c =
    let atoms = c.args.atoms.now in
    let tested = c.deref.ensures.value ∙ c.in_ok-tested.ensures ∙ ap (λ (gs : List ℤ). atoms ++ pairs 0 gs) c.items-values.ensures in
    asked_of _ c.args.prepared.now atoms refl tested refl (c.in_ok-quiet.ensures.below (length atoms) c.requires.tests) c.requires.atoms c.requires.features c.requires.given c.requires.few

pub returns : goal.returns
returns c =
    let atoms = c.args.atoms.now in
    let tested = c.deref.ensures.value ∙ c.in_ok-tested.ensures ∙ ap (λ (gs : List ℤ). atoms ++ pairs 0 gs) c.items-values.ensures in
    advised_for _ c.in_ok-found.found c.in_ok-found.ensures c.args.prepared.now atoms c.args.alarms.now refl tested refl
    (c.in_ok-quiet.ensures.below (length atoms) c.requires.tests) c.requires.atoms c.requires.features c.requires.given c.requires.few c.in_ok-quiet.ensures.truth c.requires.tests
