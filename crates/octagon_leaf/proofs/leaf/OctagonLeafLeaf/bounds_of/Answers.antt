use Rattle.std.proofs.Common.{◌≡◌, ◌<◌, ◌+◌, ◌*◌, ◌∙◌, ◌-ℤ◌, ap, sym, true, ℕ, pos, neg_ℤ, to_z, of_z, w64, arith}
use Rattle.std.proofs.lemmas.Int.{ints}
use Rattle.octagon_matrix.specs.Matrices.{entry_of}
use Rattle.octagon_closure.specs.Sweeps.{half}
use Rattle.octagon_leaf.specs.Shapes.{halved}
use Rattle.octagon_leaf.specs.Meeting.{IsSmall}
use Rattle.octagon_leaf.proofs.Numbers.{entry-small, halved-small}
use Rattle.octagon_leaf.proofs.Meanings.{bounds-is}
use Rattle.octagon_leaf.proofs.leaf.OctagonLeafLeaf.bounds_of.Goals as goal

pub overflow_sub-result : goal.overflow_sub-result
overflow_sub-result c =
    let m = c.in-Some.matrix.now in
    let x : ℕ = c.args.x in
    let i : 2 * x + 1 < 2 * m.variables = omega (arith, c.requires, c.in-Some.ensures.best.variables) in
    let j : 2 * x < 2 * m.variables = omega (arith, c.requires, c.in-Some.ensures.best.variables) in
    let k : IsSmall (halved true (entry_of m (2 * x + 1) (2 * x))) = halved-small true (entry_of m (2 * x + 1) (2 * x)) (entry-small m (2 * x + 1) (2 * x) c.in-Some.ensures.best.kept i j) in
    let g : to_z w64 (of_z w64 c.entry.result) ≡ c.entry.result = omega (arith, ints, c.entry.type_inv) in
    let h : c.half.result ≡ half (entry_of m (2 * x + 1) (2 * x)) = c.half.ensures ∙ ap half (g ∙ c.entry.ensures) in
    omega (arith, ints, h, k.low, k.high)

pub returns-in-Some : goal.returns-in-Some
returns-in-Some c =
    let m = c.in-Some.matrix.now in
    let x : ℕ = c.args.x in
    let i : 2 * x + 1 < 2 * m.variables = omega (arith, c.requires, c.in-Some.ensures.best.variables) in
    let j : 2 * x < 2 * m.variables = omega (arith, c.requires, c.in-Some.ensures.best.variables) in
    let k : IsSmall (halved true (entry_of m (2 * x + 1) (2 * x))) = halved-small true (entry_of m (2 * x + 1) (2 * x)) (entry-small m (2 * x + 1) (2 * x) c.in-Some.ensures.best.kept i j) in
    let l : IsSmall (halved true (entry_of m (2 * x) (2 * x + 1))) = halved-small true (entry_of m (2 * x) (2 * x + 1)) (entry-small m (2 * x) (2 * x + 1) c.in-Some.ensures.best.kept j i) in
    let g : to_z w64 (of_z w64 c.entry.result) ≡ c.entry.result = omega (arith, ints, c.entry.type_inv) in
    let h : c.half.result ≡ half (entry_of m (2 * x + 1) (2 * x)) = c.half.ensures ∙ ap half (g ∙ c.entry.ensures) in
    let o : to_z w64 (of_z w64 c.entry-in-Some.result) ≡ c.entry-in-Some.result = omega (arith, ints, c.entry-in-Some.type_inv) in
    let p : c.half-in-Some.result ≡ half (entry_of m (2 * x) (2 * x + 1)) = c.half-in-Some.ensures ∙ ap half (o ∙ c.entry-in-Some.ensures) in
    let u : to_z w64 (of_z w64 (pos 0 -ℤ to_z w64 (of_z w64 c.half.result))) ≡ neg_ℤ (half (entry_of m (2 * x + 1) (2 * x))) = omega (arith, ints, h, k.low, k.high) in
    let v : to_z w64 (of_z w64 c.half-in-Some.result) ≡ half (entry_of m (2 * x) (2 * x + 1)) = omega (arith, ints, p, l.low, l.high) in
    rw (u, v) (sym (bounds-is c.args.self.now m x c.in-Some.ensures.best))
