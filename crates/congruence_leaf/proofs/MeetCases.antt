-- What a comparison with the result of an operation makes of a leaf: the leaf itself, Nothing, or the leaf with another part for one variable.
use Rattle.std.proofs.Common.{◌≡◌, ℕ, ◌<◌, ℤ, Bool, true, false, if◌then◌else◌, Option, Some, None, refl}
use Rattle.leaf_domain.specs.declared.operation.Operation.{Operation}
use Rattle.leaf_domain.specs.declared.range.Range.{Range}
use Rattle.leaf_domain.specs.declared.compare.Compare.{Compare}
use Rattle.leaf_domain.specs.Operations.{IsOperation}
use Rattle.leaf_domain.specs.Leaves.{LeafValue, nothing_of}
use Rattle.strides.specs.declared.strided.Strided.{Strided}
use Rattle.strides.specs.Strided.{range_of, best_part}
use Rattle.product_leaf.specs.StrideLeaves.{best_parts, stride_with}
use Rattle.congruence_leaf.specs.declared.functions.Function.{Function}
use Rattle.congruence_leaf.specs.declared.functions.Function.TheVariants.{Square, Quotient, Remainder}
use Rattle.congruence_leaf.specs.Remainders.{strided_cut}
use Rattle.congruence_leaf.specs.Congruences.{lone_variable, is_in_int, function_of, leaf_results, divided_part, divided_with, value_with, met_by, congruence_meet}
use Rattle.congruence_leaf.specs.Laws.Leaves.{lone_below}

-- what these keep, a comparison keeps
pub meet_cases : (R : LeafValue → Type 0) (v : LeafValue) (p : Operation) (op : Compare) (r : Range) → IsOperation v.variables p → R v → R (nothing_of v.variables)
    → ((x : ℕ) (m : ℤ) (b : Strided) → x < v.variables → R (stride_with v x (divided_part (best_parts v) x p.left.constant m b))) → R (congruence_meet v p op r)
meet_cases R v p op r o same nothing divided = by_function (function_of p) (leaf_results v p)
  where
    by_variable : (m : ℤ) (b : Strided) (x : Option ℕ) → lone_variable p.left.terms ≡ x → R (divided_with v x p.left.constant m b)
    by_variable m b None e = same
    by_variable m b (Some x) e = divided x m b (lone_below v.variables p.left x o.left e)

    by_cut : (b : Option Strided) (g : Function) → R (value_with v p.left b g)
    by_cut None g = nothing
    by_cut (Some b) Square = same
    by_cut (Some b) (Quotient m) = same
    by_cut (Some b) (Remainder m) = by_variable m b (lone_variable p.left.terms) refl

    by_test : (t : Bool) (b : Strided) (g : Function) → R (if t then value_with v p.left (best_part (strided_cut op b r)) g else v)
    by_test true b g = by_cut (best_part (strided_cut op b r)) g
    by_test false b g = same

    by_function : (g : Option Function) (b : Option Strided) → R (met_by v p.left g b op r)
    by_function None b = same
    by_function (Some g) None = same
    by_function (Some g) (Some b) = by_test (is_in_int (range_of b)) b g
