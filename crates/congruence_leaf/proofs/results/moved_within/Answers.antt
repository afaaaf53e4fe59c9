use Rattle.std.proofs.Common.{◌≡◌, ◌+ℤ◌, to_z, of_z, w64, ap, ◌∙◌, arith}
use Rattle.std.specs.Int.{int_min, int_max}
use Rattle.std.proofs.lemmas.Int.{ints, clamps}
use Rattle.c_tree.specs.Value.{least, greatest}
use Rattle.leaf_domain.specs.Ranges.{range_at}
use Rattle.congruence_leaf.proofs.results.moved_within.Goals as goal

pub returns-clause-value : goal.returns-clause-value
returns-clause-value c =
    let p : to_z w64 (of_z w64 c.max.result) ≡ int_max least (c.args.range.low +ℤ c.args.by) = omega (arith, ints, clamps) in
    let q : to_z w64 (of_z w64 c.min.result) ≡ int_min greatest (c.args.range.high +ℤ c.args.by) = omega (arith, ints, clamps) in
    ap (λ l. range_at l (to_z w64 (of_z w64 c.min.result))) p ∙ ap (λ h. range_at (int_max least (c.args.range.low +ℤ c.args.by)) h) q
