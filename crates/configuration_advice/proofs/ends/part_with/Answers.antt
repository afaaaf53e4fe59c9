use Rattle.std.proofs.Common.{arith}
use Rattle.std.proofs.lemmas.Int.{ints}
use Rattle.configuration_advice.proofs.Halved.{least_below, greatest_below, greatest_above}
use Rattle.configuration_advice.proofs.ends.part_with.Goals as goal

pub returns-in-Some : goal.returns-in-Some
returns-in-Some c =
    let found = rw c.in-Some.is at c.in_ok-value_below-in-Least.ensures in
    let has = rw c.in-Least.is at c.requires.has in
    let small = has.small in
    rw c.in-Least.is (least_below c.args.prepared.now c.args.number c.args.span _ c.halfway-middle.result c.in-Some.value has c.halfway-middle.ensures.high found.1 (omega (arith, ints)) (omega (arith, ints)) (omega (arith, ints)))

pub returns-in-None-2 : goal.returns-in-None-2
returns-in-None-2 c =
    let found = rw c.in-None-2.is at c.in_ok-value_from-in-Greatest.ensures in
    let has = rw c.in-Greatest.is at c.requires.has in
    let small = has.small in
    rw c.in-Greatest.is (greatest_below c.args.prepared.now c.args.number c.args.span _ c.halfway-middle.result _ has c.halfway-middle.ensures.low c.halfway-middle.ensures.high found (omega (arith, ints)) (omega (arith, ints)) (omega (arith, ints)))

pub returns-in-Some-2 : goal.returns-in-Some-2
returns-in-Some-2 c =
    let found = rw c.in-Some-2.is at c.in_ok-value_from-in-Greatest.ensures in
    let has = rw c.in-Greatest.is at c.requires.has in
    let small = has.small in
    rw c.in-Greatest.is (greatest_above c.args.prepared.now c.args.number c.args.span _ c.halfway-middle.result c.in-Some-2.value has c.halfway-middle.ensures.low found.1 (omega (arith, ints)) (omega (arith, ints)) (omega (arith, ints)))
