use Rattle.std.proofs.Common.{◌≡◌, ℤ, pos, neg_ℤ, ◌≤ℤ◌, ◌^◌, Bool, true, false, of_z, w64, ap, refl, arith}
use Rattle.std.specs.Ordering.{int_eq}
use Rattle.std.proofs.lemmas.Int.{ints}
use Rattle.octagon_leaf.proofs.Numbers.{at_most-small, at_least-small, one-form}
use Rattle.octagon_leaf.proofs.shape.different.Goals as goal

zero-is : (v : ℤ) → of_z w64 v ≡ 0 → neg_ℤ (pos (2 ^ 51)) ≤ℤ v → v ≤ℤ pos (2 ^ 51) → v ≡ pos 0
zero-is v e h k = omega (arith, ints)

zero-tells : (v : ℤ) → v ≡ pos 0 → int_eq v (pos 0) ≡ true
zero-tells v e = grind (arith, ints)

tells-zero : (v : ℤ) → int_eq v (pos 0) ≡ true → v ≡ pos 0
tells-zero v e = grind (arith, ints)

other-tells : (v : ℤ) → (of_z w64 v ≡ 0 → ⊥) → int_eq v (pos 0) ≡ false
other-tells v f = by_test (int_eq v (pos 0)) refl
  where
    by_test : (t : Bool) → int_eq v (pos 0) ≡ t → int_eq v (pos 0) ≡ false
    by_test true e = absurd (f (ap (of_z w64) (tells-zero v e)))
    by_test false e = e

pub met-requires-clause-small : goal.met-requires-clause-small
met-requires-clause-small c =
    (at_least-small c.args.e (pos 1) c.at_least.result c.at_least.ensures c.requires.edge.constant one-form, (at_most-small c.args.e (pos 1) c.at_most.result c.at_most.ensures c.requires.edge.constant one-form, tt))

pub returns-in-true-true : goal.returns-in-true-true
returns-in-true-true c =
    let r = c.requires.range in
    let p : int_eq c.args.range.low (pos 0) ≡ true = zero-tells c.args.range.low (zero-is c.args.range.low c.in-true-true.is-0 r.low_least r.low_most) in
    let q : int_eq c.args.range.high (pos 0) ≡ true = zero-tells c.args.range.high (zero-is c.args.range.high c.in-true-true.is-1 r.high_least r.high_most) in
    rw (p, q) (rw (c.at_least.ensures, c.at_most.ensures) at c.met.ensures)

pub returns-in-true-false : goal.returns-in-true-false
returns-in-true-false c =
    let r = c.requires.range in
    let p : int_eq c.args.range.low (pos 0) ≡ true = zero-tells c.args.range.low (zero-is c.args.range.low c.in-true-false.is-0 r.low_least r.low_most) in
    let q : int_eq c.args.range.high (pos 0) ≡ false = other-tells c.args.range.high c.in-true-false.is-1 in
    rw (p, q) (rw (c.at_least-in-true-false.ensures) at c.met-in-true-false.ensures)

pub returns-in-false-true : goal.returns-in-false-true
returns-in-false-true c =
    let r = c.requires.range in
    let p : int_eq c.args.range.low (pos 0) ≡ false = other-tells c.args.range.low c.in-false-true.is-0 in
    let q : int_eq c.args.range.high (pos 0) ≡ true = zero-tells c.args.range.high (zero-is c.args.range.high c.in-false-true.is-1 r.high_least r.high_most) in
    rw (p, q) (rw (c.at_most-in-false-true.ensures) at c.met-in-false-true.ensures)
