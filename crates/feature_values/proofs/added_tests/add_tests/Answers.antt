use Rattle.std.proofs.Common.{◌≤◌, ◌+◌, length, ap, sym, subst, arith}
use Rattle.cpp_conditions.specs.Numbering.{IsAmong}
use Rattle.feature_values.specs.Moved.{AreAdded}
use Rattle.feature_values.specs.Values.{tests_of, test_count}
use Rattle.feature_values.proofs.Answering.{tests_in, ready, tests_added, tests_below, tests_counted}
use Rattle.feature_values.proofs.Counting.{few_added, fit_added}
use Rattle.feature_values.proofs.added_tests.add_tests.Goals as goal

pub new_numbers-requires-clause-kept : goal.new_numbers-requires-clause-kept
new_numbers-requires-clause-kept c =
    let added : AreAdded (tests_of c.args.features.now c.args.uses.now) c.args.atoms.now c.add_all.new.atoms.items =
    tests_in c.args.features.now c.args.uses.now c.in_ok-tests.tests.items c.deref.result.now c.args.atoms.now c.in_ok-new.new.items c.add_all.new.atoms.items c.in_ok-tests.ensures c.deref.ensures.value c.in_ok-new.ensures c.in_ok-add_all.ensures in
    λ a m. subst (IsAmong a) (sym c.deref-2.ensures.value) (added.grows.kept a m)

pub new_numbers-requires-clause-few : goal.new_numbers-requires-clause-few
new_numbers-requires-clause-few c =
    let added : AreAdded (tests_of c.args.features.now c.args.uses.now) c.args.atoms.now c.add_all.new.atoms.items =
    tests_in c.args.features.now c.args.uses.now c.in_ok-tests.tests.items c.deref.result.now c.args.atoms.now c.in_ok-new.new.items c.add_all.new.atoms.items c.in_ok-tests.ensures c.deref.ensures.value c.in_ok-new.ensures c.in_ok-add_all.ensures in
    let few : length c.add_all.new.atoms.items ≤ length c.args.atoms.now + test_count c.args.features.now c.args.uses.now = few_added c.args.features.now c.args.uses.now c.args.atoms.now c.add_all.new.atoms.items added c.requires.rising in
    omega (arith, ap length c.deref-2.ensures.value)

pub formulas_of-requires-clause-few : goal.formulas_of-requires-clause-few
formulas_of-requires-clause-few c =
    let added : AreAdded (tests_of c.args.features.now c.args.uses.now) c.args.atoms.now c.add_all.new.atoms.items =
    tests_in c.args.features.now c.args.uses.now c.in_ok-tests.tests.items c.deref.result.now c.args.atoms.now c.in_ok-new.new.items c.add_all.new.atoms.items c.in_ok-tests.ensures c.deref.ensures.value c.in_ok-new.ensures c.in_ok-add_all.ensures in
    let few : length c.add_all.new.atoms.items ≤ length c.args.atoms.now + test_count c.args.features.now c.args.uses.now = few_added c.args.features.now c.args.uses.now c.args.atoms.now c.add_all.new.atoms.items added c.requires.rising in
    omega (arith, ap length c.deref-5.ensures.value)

pub returns-clause-tests : goal.returns-clause-tests
returns-clause-tests c =
    let added : AreAdded (tests_of c.args.features.now c.args.uses.now) c.args.atoms.now c.add_all.new.atoms.items =
    tests_in c.args.features.now c.args.uses.now c.in_ok-tests.tests.items c.deref.result.now c.args.atoms.now c.in_ok-new.new.items c.add_all.new.atoms.items c.in_ok-tests.ensures c.deref.ensures.value c.in_ok-new.ensures c.in_ok-add_all.ensures in
    let stands = ready c.args.features.now c.args.uses.now c.in_ok-tests.tests.items c.deref-4.result.now c.args.atoms.now c.add_all.new.atoms.items c.deref-2.result.now c.deref-5.result.now c.in_ok-numbers.numbers.items c.deref-3.result.now
    c.args.formulas.now c.in_ok-made.made.items c.in_ok-behind.behind.items c.append.new.self.items added c.in_ok-tests.ensures c.deref-4.ensures.value c.deref-2.ensures.value c.deref-5.ensures.value c.deref-3.ensures.value
    c.in_ok-numbers.ensures.numbers c.in_ok-made.ensures c.in_ok-behind.ensures.numbered c.in_ok-append.ensures.items in
    tests_added c.args.features.now c.args.uses.now c.args.atoms.now c.add_all.new.atoms.items c.args.formulas.now c.in_ok-made.made.items c.in_ok-behind.behind.items c.append.new.self.items stands

pub returns-clause-atoms : goal.returns-clause-atoms
returns-clause-atoms c =
    let added : AreAdded (tests_of c.args.features.now c.args.uses.now) c.args.atoms.now c.add_all.new.atoms.items =
    tests_in c.args.features.now c.args.uses.now c.in_ok-tests.tests.items c.deref.result.now c.args.atoms.now c.in_ok-new.new.items c.add_all.new.atoms.items c.in_ok-tests.ensures c.deref.ensures.value c.in_ok-new.ensures c.in_ok-add_all.ensures in
    fit_added c.args.features.now c.args.uses.now c.args.atoms.now c.add_all.new.atoms.items added c.requires.ranges c.requires.uses c.requires.fit

pub returns-clause-few : goal.returns-clause-few
returns-clause-few c =
    let added : AreAdded (tests_of c.args.features.now c.args.uses.now) c.args.atoms.now c.add_all.new.atoms.items =
    tests_in c.args.features.now c.args.uses.now c.in_ok-tests.tests.items c.deref.result.now c.args.atoms.now c.in_ok-new.new.items c.add_all.new.atoms.items c.in_ok-tests.ensures c.deref.ensures.value c.in_ok-new.ensures c.in_ok-add_all.ensures in
    few_added c.args.features.now c.args.uses.now c.args.atoms.now c.add_all.new.atoms.items added c.requires.rising

pub returns-clause-below : goal.returns-clause-below
returns-clause-below c =
    let added : AreAdded (tests_of c.args.features.now c.args.uses.now) c.args.atoms.now c.add_all.new.atoms.items =
    tests_in c.args.features.now c.args.uses.now c.in_ok-tests.tests.items c.deref.result.now c.args.atoms.now c.in_ok-new.new.items c.add_all.new.atoms.items c.in_ok-tests.ensures c.deref.ensures.value c.in_ok-new.ensures c.in_ok-add_all.ensures in
    let stands = ready c.args.features.now c.args.uses.now c.in_ok-tests.tests.items c.deref-4.result.now c.args.atoms.now c.add_all.new.atoms.items c.deref-2.result.now c.deref-5.result.now c.in_ok-numbers.numbers.items c.deref-3.result.now
    c.args.formulas.now c.in_ok-made.made.items c.in_ok-behind.behind.items c.append.new.self.items added c.in_ok-tests.ensures c.deref-4.ensures.value c.deref-2.ensures.value c.deref-5.ensures.value c.deref-3.ensures.value
    c.in_ok-numbers.ensures.numbers c.in_ok-made.ensures c.in_ok-behind.ensures.numbered c.in_ok-append.ensures.items in
    tests_below c.args.features.now c.args.uses.now c.args.atoms.now c.add_all.new.atoms.items c.args.formulas.now c.in_ok-made.made.items c.in_ok-behind.behind.items c.append.new.self.items stands c.requires.below

pub returns-clause-count : goal.returns-clause-count
returns-clause-count c =
    let added : AreAdded (tests_of c.args.features.now c.args.uses.now) c.args.atoms.now c.add_all.new.atoms.items =
    tests_in c.args.features.now c.args.uses.now c.in_ok-tests.tests.items c.deref.result.now c.args.atoms.now c.in_ok-new.new.items c.add_all.new.atoms.items c.in_ok-tests.ensures c.deref.ensures.value c.in_ok-new.ensures c.in_ok-add_all.ensures in
    let stands = ready c.args.features.now c.args.uses.now c.in_ok-tests.tests.items c.deref-4.result.now c.args.atoms.now c.add_all.new.atoms.items c.deref-2.result.now c.deref-5.result.now c.in_ok-numbers.numbers.items c.deref-3.result.now
    c.args.formulas.now c.in_ok-made.made.items c.in_ok-behind.behind.items c.append.new.self.items added c.in_ok-tests.ensures c.deref-4.ensures.value c.deref-2.ensures.value c.deref-5.ensures.value c.deref-3.ensures.value
    c.in_ok-numbers.ensures.numbers c.in_ok-made.ensures c.in_ok-behind.ensures.numbered c.in_ok-append.ensures.items in
    tests_counted c.args.features.now c.args.uses.now c.args.atoms.now c.add_all.new.atoms.items c.args.formulas.now c.in_ok-made.made.items c.in_ok-behind.behind.items c.append.new.self.items stands
