use Rattle.std.proofs.Common.{◌≡◌, ◌∙◌, pos, to_z, of_z, w64, ap}
use Rattle.strides.specs.Strides.{stride_at}
use Rattle.strides.specs.Strided.{strided_at, best_part}
use Rattle.product_leaf.specs.Laws.StrideLaws.{range_limited}
use Rattle.product_leaf.proofs.PartLemmas.{part_own, part_best}
use Rattle.product_leaf.proofs.Meanings.{int_back}
use Rattle.product_leaf.proofs.leaf.StrideLeafLeaf.set_range.Goals as goal

pub with-requires-clause-own : goal.with-requires-clause-own
with-requires-clause-own c =
    let u : to_z w64 (of_z w64 c.args.r.low) ≡ c.args.r.low = int_back c.args.r.low c.requires.r.low in
    let w : to_z w64 (of_z w64 c.args.r.high) ≡ c.args.r.high = int_back c.args.r.high c.requires.r.high in
    let e : c.best_part.result ≡ best_part (strided_at c.args.r.low c.args.r.high (stride_at 1 (pos 0))) =
    c.best_part.ensures ∙ ap (λ l. best_part (strided_at l (to_z w64 (of_z w64 c.args.r.high)) (stride_at 1 (pos 0)))) u ∙ ap (λ h. best_part (strided_at c.args.r.low h (stride_at 1 (pos 0)))) w in
    part_own (strided_at c.args.r.low c.args.r.high (stride_at 1 (pos 0))) c.best_part.result e (range_limited c.args.r c.requires.r)

pub with-requires-clause-best : goal.with-requires-clause-best
with-requires-clause-best c =
    let u : to_z w64 (of_z w64 c.args.r.low) ≡ c.args.r.low = int_back c.args.r.low c.requires.r.low in
    let w : to_z w64 (of_z w64 c.args.r.high) ≡ c.args.r.high = int_back c.args.r.high c.requires.r.high in
    let e : c.best_part.result ≡ best_part (strided_at c.args.r.low c.args.r.high (stride_at 1 (pos 0))) =
    c.best_part.ensures ∙ ap (λ l. best_part (strided_at l (to_z w64 (of_z w64 c.args.r.high)) (stride_at 1 (pos 0)))) u ∙ ap (λ h. best_part (strided_at c.args.r.low h (stride_at 1 (pos 0)))) w in
    part_best (strided_at c.args.r.low c.args.r.high (stride_at 1 (pos 0))) c.best_part.result e
