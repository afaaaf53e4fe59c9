use Rattle.std.proofs.Common.{◌≡◌, ◌∙◌, ◌+ℤ◌, ◌-ℤ◌, ap, refl, to_z, of_z, w64, arith}
use Rattle.std.proofs.lemmas.Int.{ints}
use Rattle.octagon_matrix.specs.Matrices.{entry_of}
use Rattle.octagon_leaf.specs.Meeting.{IsSmall}
use Rattle.octagon_leaf.specs.Shapes.{halved}
use Rattle.octagon_leaf.proofs.Numbers.{entry-small}
use Rattle.octagon_leaf.proofs.shape.edge_range.Goals as goal

pub overflow_sub-result : goal.overflow_sub-result
overflow_sub-result c = let k = c.requires.edge.constant in let p = c.halved.ensures.small in omega (arith, ints, k.low, k.high, p.low, p.high)

pub overflow_add-result : goal.overflow_add-result
overflow_add-result c = let k = c.requires.edge.constant in let p = c.halved-2.ensures.small in omega (arith, ints, k.low, k.high, p.low, p.high)

pub returns-clause-known : goal.returns-clause-known
returns-clause-known c =
    let k = c.requires.edge.constant in
    let p = c.halved.ensures.small in
    let q = c.halved-2.ensures.small in
    record {
      low_least = omega (arith, ints, k.low, k.high, p.low, p.high);
      low_most = omega (arith, ints, k.low, k.high, p.low, p.high);
      high_least = omega (arith, ints, k.low, k.high, q.low, q.high);
      high_most = omega (arith, ints, k.low, k.high, q.low, q.high);
    }

pub returns-clause-value : goal.returns-clause-value
returns-clause-value c =
    let m = c.args.matrix.now in
    let e = c.args.e in
    let k = c.requires.edge.constant in
    let p = c.halved.ensures.small in
    let q = c.halved-2.ensures.small in
    let g : to_z w64 (of_z w64 c.entry.result) ≡ c.entry.result = omega (arith, ints, c.entry.type_inv) in
    let h : to_z w64 (of_z w64 c.entry-2.result) ≡ c.entry-2.result = omega (arith, ints, c.entry-2.type_inv) in
    let u : c.halved.result ≡ halved e.is_double (entry_of m e.second e.first) = c.halved.ensures.value ∙ ap (halved e.is_double) (g ∙ c.entry.ensures) in
    let v : c.halved-2.result ≡ halved e.is_double (entry_of m e.first e.second) = c.halved-2.ensures.value ∙ ap (halved e.is_double) (h ∙ c.entry-2.ensures) in
    let i : to_z w64 (of_z w64 (to_z w64 (of_z w64 e.constant) -ℤ to_z w64 (of_z w64 c.halved.result))) ≡ e.constant -ℤ halved e.is_double (entry_of m e.second e.first) = omega (arith, ints, k.low, k.high, p.low, p.high, u) in
    let j : to_z w64 (of_z w64 (to_z w64 (of_z w64 e.constant) +ℤ to_z w64 (of_z w64 c.halved-2.result))) ≡ e.constant +ℤ halved e.is_double (entry_of m e.first e.second) = omega (arith, ints, k.low, k.high, q.low, q.high, v) in
    rw (i, j) refl

pub halved-requires : goal.halved-requires
halved-requires c =
    let m = c.args.matrix.now in
    let e = c.args.e in
    let k : IsSmall (entry_of m e.second e.first) = entry-small m e.second e.first c.variables-variables.ensures.kept c.requires.edge.second c.requires.edge.first in
    record { low = omega (arith, ints, k.low, k.high, c.entry.ensures); high = omega (arith, ints, k.low, k.high, c.entry.ensures) }

pub halved-requires-2 : goal.halved-requires-2
halved-requires-2 c =
    let m = c.args.matrix.now in
    let e = c.args.e in
    let k : IsSmall (entry_of m e.first e.second) = entry-small m e.first e.second c.variables-variables.ensures.kept c.requires.edge.first c.requires.edge.second in
    record { low = omega (arith, ints, k.low, k.high, c.entry-2.ensures); high = omega (arith, ints, k.low, k.high, c.entry-2.ensures) }
