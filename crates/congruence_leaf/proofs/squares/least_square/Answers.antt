use Rattle.std.proofs.Common.{◌≡◌, ◌*ℤ◌, to_z, of_z, w64, ap, ◌∙◌, arith}
use Rattle.std.specs.Int.{int_min}
use Rattle.std.proofs.lemmas.Int.{ints}
use Rattle.congruence_leaf.proofs.SquareStrides.{IsLesser, lesser, least_by_low, least_by_high, square_back}
use Rattle.congruence_leaf.proofs.squares.least_square.Goals as goal
use Rattle.congruence_leaf.proofs.squares.least_square.Goals.{else-low-le0-via-then-low-le0+else-high-ge0, else-low-le0-via-else-low-le0}

pub returns-else-low-le0-clause-value : goal.returns-else-low-le0-clause-value
returns-else-low-le0-clause-value c =
    let i : IsLesser c.square.result c.square-else-low-le0.result (to_z w64 (of_z w64 c.min.result)) =
    lesser c.square.result c.square-else-low-le0.result c.min.result c.square.ensures.low c.square.ensures.high c.square-else-low-le0.ensures.low c.square-else-low-le0.ensures.high c.min.ensures.value in
    let p = square_back c.args.low c.square.result c.requires.low c.square.ensures.value in
    let q = square_back c.args.high c.square-else-low-le0.result c.requires.high c.square-else-low-le0.ensures.value in
    let e : to_z w64 (of_z w64 c.min.result) ≡ int_min (c.args.low *ℤ c.args.low) (c.args.high *ℤ c.args.high) =
    i.is ∙ ap (λ x. int_min x c.square-else-low-le0.result) p ∙ ap (λ x. int_min (c.args.low *ℤ c.args.low) x) q in
    elim c.else-low-le0.branch [
      | else-low-le0-via-then-low-le0+else-high-ge0 w ↦ least_by_high c.args.low c.args.high (to_z w64 (of_z w64 c.min.result)) (omega (arith, ints, w.if-high-ge0)) e
      | else-low-le0-via-else-low-le0 w ↦ least_by_low c.args.low c.args.high (to_z w64 (of_z w64 c.min.result)) (omega (arith, ints, w.if-low-le0)) e
    ]

pub returns-else-low-le0-clause-low : goal.returns-else-low-le0-clause-low
returns-else-low-le0-clause-low c =
    let i : IsLesser c.square.result c.square-else-low-le0.result (to_z w64 (of_z w64 c.min.result)) =
    lesser c.square.result c.square-else-low-le0.result c.min.result c.square.ensures.low c.square.ensures.high c.square-else-low-le0.ensures.low c.square-else-low-le0.ensures.high c.min.ensures.value in
    i.low

pub returns-else-low-le0-clause-high : goal.returns-else-low-le0-clause-high
returns-else-low-le0-clause-high c =
    let i : IsLesser c.square.result c.square-else-low-le0.result (to_z w64 (of_z w64 c.min.result)) =
    lesser c.square.result c.square-else-low-le0.result c.min.result c.square.ensures.low c.square.ensures.high c.square-else-low-le0.ensures.low c.square-else-low-le0.ensures.high c.min.ensures.value in
    i.high
