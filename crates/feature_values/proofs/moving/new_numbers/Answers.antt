use Rattle.std.proofs.Common.{ℕ, arith, length, ap}
use Rattle.std.proofs.lemmas.List.{length-append}
use Rattle.feature_values.proofs.Adding.{item_among, numbers_more, all_new}
use Rattle.feature_values.proofs.moving.new_numbers.Goals as goal

pub number_in-requires-clause-among : goal.number_in-requires-clause-among
number_in-requires-clause-among c =
    c.requires.kept c.atom-item.result (item_among c.args.old.now c.loop-atom.atom-index c.atom-item.result c.loop-atom-test.true c.atom-item.is)

pub loop-atom-preserved : goal.loop-atom-preserved
loop-atom-preserved c = record {
  numbers = numbers_more c.args.old.now c.args.new.now c.loop-atom.made.items c.push.new.self.items c.loop-atom.atom-index c.in_ok-number_in.field-0 c.atom-item.result c.loop-atom-test.true c.atom-item.is c.in_ok-push.ensures.items
      c.loop-atom.invariant.count c.in_ok-number_in.ensures c.loop-atom.invariant.numbers;
  count = omega (arith, ap length c.in_ok-push.ensures.items, length-append {A = ℕ});
}

pub returns-clause-numbers : goal.returns-clause-numbers
returns-clause-numbers c = all_new c.args.old.now c.args.new.now c.loop-atom.made.items c.loop-atom.atom-index c.loop-atom-test.false c.loop-atom.invariant.numbers
