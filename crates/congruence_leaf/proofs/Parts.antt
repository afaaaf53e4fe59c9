-- What the code makes of the parts of a leaf is what the definitions say of the leaf.
use Rattle.std.proofs.Common.{◌≡◌, ℕ, ◌<◌, ◌≤◌, pos, List, length, map, None, refl, ap, sym, subst, arith}
use Rattle.leaf_domain.specs.declared.operation.Operation.{Operation}
use Rattle.leaf_domain.specs.Operations.{IsOperation}
use Rattle.leaf_domain.specs.Leaves.{LeafValue, nothing_of}
use Rattle.strides.specs.declared.strided.Strided.{Strided}
use Rattle.strides.specs.Strided.{reduced, point_at}
use Rattle.product_leaf.specs.StrideLeaves.{leaf_of, best_parts, part_at}
use Rattle.product_leaf.specs.View.{IsBestOf}
use Rattle.product_leaf.specs.Laws.Parts.{fours_numbers}
use Rattle.product_leaf.proofs.Meanings.{best_count}
use Rattle.congruence_leaf.specs.Congruences.{results_of, leaf_results}

-- Nothing has no part
pub none_part : (v : LeafValue) (x : ℕ) → v ≡ nothing_of v.variables → point_at (pos 0) ≡ part_at (best_parts v) x
none_part v x e = ap (λ (u : LeafValue). part_at (best_parts u) x) (sym e)

pub none_results : (v : LeafValue) (p : Operation) → v ≡ nothing_of v.variables → None ≡ leaf_results v p
none_results v p e = ap (λ (u : LeafValue). leaf_results u p) (sym e)

results_some : (v : LeafValue) (us bs : List Strided) (p : Operation) → v ≡ leaf_of us → bs ≡ map reduced us → results_of bs p ≡ leaf_results v p
results_some v us bs p e g = rw (g, e, fours_numbers us) refl

pub results_are : (v : LeafValue) (bs : List Strided) (p : Operation) → IsBestOf v bs → results_of bs p ≡ leaf_results v p
results_are v bs p h = results_some v h.parts bs p h.same h.best

pub few_parts : (v : LeafValue) (bs : List Strided) → IsBestOf v bs → v.variables ≤ 48 → length bs ≤ 48
few_parts v bs h k = omega (arith, best_count v bs h)

pub operation_over : (v : LeafValue) (bs : List Strided) (p : Operation) → IsBestOf v bs → IsOperation v.variables p → IsOperation (length bs) p
operation_over v bs p h o = subst (λ n. IsOperation n p) (sym (best_count v bs h)) o

pub part_below : (v : LeafValue) (bs : List Strided) (x : ℕ) → IsBestOf v bs → x < v.variables → x < length bs
part_below v bs x h l = omega (arith, best_count v bs h)
