-- The sizes of numbers that the code computes.
use Rattle.std.proofs.Common.{◌≡◌, ℕ, ◌*◌, ◌^◌, ◌<◌, ℤ, pos, neg_ℤ, ◌+ℤ◌, ◌-ℤ◌, ◌≤ℤ◌, Bool, true, false, arith}
use Rattle.std.proofs.lemmas.Int.{ints}
use Rattle.octagon_matrix.specs.Matrices.{MatrixValue, entry_of, IsMatrix}
use Rattle.octagon_matrix.proofs.Terms.{type_bound-most}
use Rattle.octagon_closure.proofs.HalfNumbers.{half-below, half-above}
use Rattle.c_tree.specs.Value.{IsInt}
use Rattle.leaf_domain.specs.Forms.{IsFormNumber}
use Rattle.octagon_leaf.specs.declared.shape.Edge.{Edge}
use Rattle.octagon_leaf.specs.declared.meets.Meet.{Meet}
use Rattle.octagon_leaf.specs.Shapes.{scaled, halved, at_most, at_least}
use Rattle.octagon_leaf.specs.Meeting.{IsSmall}

pub entry-small : (m : MatrixValue) (a b : ℕ) → IsMatrix m → a < 2 * m.variables → b < 2 * m.variables → IsSmall (entry_of m a b)
entry-small m a b k h l = record {
  low = omega (arith, ints, k.least a b h l);
  high = omega (arith, ints, k.most a b h l, type_bound-most a b);
}

pub halved-small : (d : Bool) (n : ℤ) → IsSmall n → IsSmall (halved d n)
halved-small true n h = record { low = omega (arith, ints, half-above n, h.low); high = omega (arith, ints, half-below n, h.high) }
halved-small false n h = h

scaled-small : (d : Bool) (n : ℤ) → neg_ℤ (pos (2 ^ 42)) ≤ℤ n → n ≤ℤ pos (2 ^ 42) → IsSmall (neg_ℤ (scaled d n))
scaled-small true n h k = record { low = omega (arith, ints); high = omega (arith, ints) }
scaled-small false n h k = record { low = omega (arith, ints); high = omega (arith, ints) }

pub at_most-small : (e : Edge) (n : ℤ) (m : Meet) → m ≡ at_most e n → IsFormNumber e.constant → IsFormNumber n → IsSmall m.bound
at_most-small e n m f h k = rw (f) (scaled-small e.is_double (e.constant +ℤ n) (omega (arith, ints, h.low, k.low)) (omega (arith, ints, h.high, k.high)))

pub at_least-small : (e : Edge) (n : ℤ) (m : Meet) → m ≡ at_least e n → IsFormNumber e.constant → IsFormNumber n → IsSmall m.bound
at_least-small e n m f h k = rw (f) (scaled-small e.is_double (n -ℤ e.constant) (omega (arith, ints, h.high, k.low)) (omega (arith, ints, h.low, k.high)))

pub one-form : IsFormNumber (pos 1)
one-form = record { low = omega (arith, ints); high = omega (arith, ints) }

-- a range within `int`, and one that a constant shifts
pub int-small : (n : ℤ) → IsInt n → IsSmall n
int-small n h = record { low = omega (arith, ints, h.low); high = omega (arith, ints, h.high) }

pub zero-form : IsFormNumber (pos 0)
zero-form = record { low = omega (arith, ints); high = omega (arith, ints) }
