use Rattle.std.proofs.Common.{◌≡◌, to_z, of_z, w64, ap, ◌∙◌, arith}
use Rattle.std.proofs.lemmas.Int.{ints}
use Rattle.strides.specs.Strided.{strided_at, best_part}
use Rattle.congruence_leaf.proofs.MetStrides.{met_first, met_second, met_other}
use Rattle.congruence_leaf.proofs.two_strides.met.Goals as goal

pub returns-then-lies_in : goal.returns-then-lies_in
returns-then-lies_in c = c.best_part.ensures ∙ ap best_part (met_first c.args.part c.args.stride c.lies_in.result c.lies_in.ensures c.if-lies_in.true)

pub returns-then-lies_in-2 : goal.returns-then-lies_in-2
returns-then-lies_in-2 c =
    let u : to_z w64 (of_z w64 c.args.part.low) ≡ c.args.part.low = omega (arith, ints) in
    let w : to_z w64 (of_z w64 c.args.part.high) ≡ c.args.part.high = omega (arith, ints) in
    c.best_part-then-lies_in-2.ensures ∙ ap best_part (
    ap (λ l. strided_at l (to_z w64 (of_z w64 c.args.part.high)) c.args.stride) u ∙ ap (λ h. strided_at c.args.part.low h c.args.stride) w
    ∙ met_second c.args.part c.args.stride c.lies_in.result c.lies_in-else-lies_in.result c.lies_in.ensures c.if-lies_in.false c.lies_in-else-lies_in.ensures c.if-lies_in-2.true
    )

pub returns-else-lies_in-2 : goal.returns-else-lies_in-2
returns-else-lies_in-2 c =
    c.met_apart.ensures ∙ ap best_part (met_other c.args.part c.args.stride c.lies_in.result c.lies_in-else-lies_in.result c.lies_in.ensures c.if-lies_in.false c.lies_in-else-lies_in.ensures c.if-lies_in-2.false)
