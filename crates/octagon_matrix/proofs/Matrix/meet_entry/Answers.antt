use Rattle.std.proofs.Common.{arith, ℕ, sym, subst, slice_set, to_z, of_z, w64}
use Rattle.octagon_matrix.specs.Matrices.{MatrixValue, IsMatrix, HasEntries, met_entry}
use Rattle.octagon_matrix.specs.View.{place_of, IsHalf}
use Rattle.octagon_matrix.proofs.Inside.{IsLowered, lowering, lowered-sound, lowered-value, value_of, value-matrix}
use Rattle.octagon_matrix.proofs.Places.{place-below}
use Rattle.octagon_matrix.proofs.Stores.{met-stores}
use Rattle.octagon_matrix.proofs.Matrix.meet_entry.Goals as goal

pub index-requires : goal.index-requires
index-requires c = omega (arith, place-below c.self.inside.variables c.args.a c.args.b (rw (← c.self.view_is) at c.requires.first) (rw (← c.self.view_is) at c.requires.second), c.place-at.ensures, c.self.invariant.size)

pub index_mut-requires : goal.index_mut-requires
index_mut-requires c = omega (arith, place-below c.self.inside.variables c.args.a c.args.b (rw (← c.self.view_is) at c.requires.first) (rw (← c.self.view_is) at c.requires.second), c.place-at.ensures, c.self.invariant.size)

pub invariant_of-self : goal.invariant_of-self
invariant_of-self c =
    let n : ℕ = c.self.inside.variables in
    let cells = c.self.inside.cells.items in
    let w = to_z w64 (of_z w64 c.lesser.result) in
    let l : IsLowered n cells c.args.a c.args.b c.args.bound w =
    lowering n cells c.args.a c.args.b c.place-at.result c.args.bound c.index.result.now c.lesser.result c.self.invariant (rw (← c.self.view_is) at c.requires.first) (rw (← c.self.view_is) at c.requires.second) c.requires.apart c.requires.least c.ranges.bound c.place-at.ensures c.index.ensures c.lesser.ensures in
    let P : ℕ → Type 0 = λ i. IsHalf n (slice_set cells i w) in
    subst P (sym c.place-at.ensures) (lowered-sound n cells c.args.a c.args.b c.args.bound w l)

pub returns-clause-entries : goal.returns-clause-entries
returns-clause-entries c =
    let n : ℕ = c.self.inside.variables in
    let cells = c.self.inside.cells.items in
    let w = to_z w64 (of_z w64 c.lesser.result) in
    let l : IsLowered n cells c.args.a c.args.b c.args.bound w =
    lowering n cells c.args.a c.args.b c.place-at.result c.args.bound c.index.result.now c.lesser.result c.self.invariant (rw (← c.self.view_is) at c.requires.first) (rw (← c.self.view_is) at c.requires.second) c.requires.apart c.requires.least c.ranges.bound c.place-at.ensures c.index.ensures c.lesser.ensures in
    let P : ℕ → MatrixValue → Type 0 = λ i m. HasEntries (value_of n (slice_set cells i w)) m.variables (met_entry m c.args.a c.args.b c.args.bound) in
    let Q : ℕ → Type 0 = λ i. P i (value_of n cells) in
    subst (P c.place-at.result) c.self.view_is (subst Q (sym c.place-at.ensures) (lowered-value n cells c.args.a c.args.b c.args.bound w l))

pub returns-clause-kept : goal.returns-clause-kept
returns-clause-kept c =
    let n : ℕ = c.self.inside.variables in
    let cells = c.self.inside.cells.items in
    let w = to_z w64 (of_z w64 c.lesser.result) in
    let l : IsLowered n cells c.args.a c.args.b c.args.bound w =
    lowering n cells c.args.a c.args.b c.place-at.result c.args.bound c.index.result.now c.lesser.result c.self.invariant (rw (← c.self.view_is) at c.requires.first) (rw (← c.self.view_is) at c.requires.second) c.requires.apart c.requires.least c.ranges.bound c.place-at.ensures c.index.ensures c.lesser.ensures in
    let P : ℕ → Type 0 = λ i. IsMatrix (value_of n (slice_set cells i w)) in
    subst P (sym c.place-at.ensures) (value-matrix n (slice_set cells (place_of c.args.a c.args.b) w) (lowered-sound n cells c.args.a c.args.b c.args.bound w l))

pub returns-clause-stores : goal.returns-clause-stores
returns-clause-stores c = λ s.
    met-stores _ _ c.args.a c.args.b c.args.bound s (returns-clause-entries c) c.requires.first c.requires.second
