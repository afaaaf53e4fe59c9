use Rattle.std.proofs.Common.{◌≡◌, ℤ, pos, neg_ℤ, ◌≤ℤ◌, ◌-ℤ◌, to_z, of_z, w64, List, ap, ◌∙◌, subst, sym, arith}
use Rattle.std.proofs.lemmas.Int.{ints}
use Rattle.c_tree.specs.Value.{least}
use Rattle.leaf_domain.specs.declared.thresholds.Multiple.TheVariants.{MinusOne}
use Rattle.leaf_domain.specs.Thresholds.{scaled, nearest}
use Rattle.leaf_domain.specs.Ends.{low_step}
use Rattle.leaf_domain.proofs.EndLemmas.{low_step_covers, low_step_inside}
use Rattle.leaf_domain.proofs.ends.low_step.Goals as goal

-- a step from the low keeps within 64 bits, as the low does
record IsStep (ts : List ℤ) (l n : ℤ) : Type 0 where
  pub value : neg_ℤ n ≡ low_step ts l
  pub least_n : least ≤ℤ neg_ℤ n
  pub covers : neg_ℤ n ≤ℤ l

is_step_by : (ts : List ℤ) (l k n : ℤ) → least ≤ℤ l → k ≡ neg_ℤ l → n ≡ nearest (neg_ℤ least) (scaled MinusOne ts) k → IsStep ts l n
is_step_by ts l k n p f e =
    let v : neg_ℤ n ≡ low_step ts l = ap neg_ℤ (e ∙ ap (nearest (neg_ℤ least) (scaled MinusOne ts)) f) in
    record { value = v; least_n = subst (λ m. least ≤ℤ m) (sym v) (low_step_inside ts l); covers = subst (λ m. m ≤ℤ l) (sym v) (low_step_covers ts l p) }

pub overflow_sub-result : goal.overflow_sub-result
overflow_sub-result c =
    let b : IsStep c.args.thresholds.now c.args.low c.nearest.result = is_step_by _ _ _ _ c.requires (omega (arith, ints)) c.nearest.ensures in
    let p : least ≤ℤ neg_ℤ c.nearest.result = b.least_n in
    let q : neg_ℤ c.nearest.result ≤ℤ c.args.low = b.covers in
    omega (arith, ints)

pub returns : goal.returns
returns c =
    let b : IsStep c.args.thresholds.now c.args.low c.nearest.result = is_step_by _ _ _ _ c.requires (omega (arith, ints)) c.nearest.ensures in
    let p : least ≤ℤ neg_ℤ c.nearest.result = b.least_n in
    let q : neg_ℤ c.nearest.result ≤ℤ c.args.low = b.covers in
    let e : to_z w64 (of_z w64 (pos 0 -ℤ to_z w64 (of_z w64 c.nearest.result))) ≡ neg_ℤ c.nearest.result = omega (arith, ints) in
    e ∙ b.value
