use Rattle.std.proofs.Common.{arith, ◌≡◌, ◌<◌, ◌+◌, ◌*◌, ℤ, pos, ℕ, ◌/◌, subst, to_z, of_z, w64}
use Rattle.std.proofs.lemmas.Int.{ints}
use Rattle.octagon_matrix.specs.Matrices.{entry_of, HasEntries, met_entry}
use Rattle.octagon_closure.specs.Sweeps.{sums, bound_at}
use Rattle.octagon_closure.proofs.Octagons.{IsLowering}
use Rattle.octagon_closure.proofs.Rows.{entry-least, entry-most}
use Rattle.octagon_closure.proofs.Lowering.{matrix-coherent, lowering-met, lowering-skip, lowering-negative, lowering-row, lowering-end}
use Rattle.octagon_closure.proofs.meet_sums.Goals.{then-a-b, else-a-b}
use Rattle.octagon_closure.proofs.meet_sums.Goals as goal

pub overflow_add-bound : goal.overflow_add-bound
overflow_add-bound c =
    let m = c.loop-b.matrix in
    let l = c.loop-b.invariant in
    let h : c.loop-a.a < 2 * m.variables = rw (l.variables) (omega arith) in
    let k : c.loop-b.b < 2 * m.variables = rw (l.variables) (omega arith) in
    omega (arith, ints, c.sums-bound.ensures.least, c.sums-bound.ensures.most, c.entry.ensures, entry-least m c.loop-b.b c.loop-a.a l.kept k h, entry-most m c.loop-b.b c.loop-a.a l.kept k h)

pub returns-then-bound-entry-lt0-clause-empty : goal.returns-then-bound-entry-lt0-clause-empty
returns-then-bound-entry-lt0-clause-empty c = λ e.
    let m = c.loop-b.matrix in
    let l = c.loop-b.invariant in
    let h : c.loop-a.a < 2 * m.variables = rw (l.variables) (omega arith) in
    let k : c.loop-b.b < 2 * m.variables = rw (l.variables) (omega arith) in
    lowering-negative c.args.matrix.now.variables (entry_of c.args.matrix.now) (bound_at c.args.first.now) (bound_at c.args.second.now) m c.loop-a.a c.loop-b.b l (omega arith) (omega arith)
    (omega (arith, ints, c.if-bound-entry-lt0.true, c.sums-bound.ensures.value, c.sums-bound.ensures.least, c.sums-bound.ensures.most, c.entry.ensures, entry-least m c.loop-b.b c.loop-a.a l.kept k h, entry-most m c.loop-b.b c.loop-a.a l.kept k h))

pub meet_entry-requires-clause-least : goal.meet_entry-requires-clause-least
meet_entry-requires-clause-least c =
    let m = c.loop-b.matrix in
    let l = c.loop-b.invariant in
    let h : c.loop-a.a < 2 * m.variables = rw (l.variables) (omega arith) in
    let k : c.loop-b.b < 2 * m.variables = rw (l.variables) (omega arith) in
    omega (arith, ints, c.if-bound-entry-lt0.false, c.sums-bound.ensures.least, c.sums-bound.ensures.most, c.entry.ensures, entry-least m c.loop-b.b c.loop-a.a l.kept k h, entry-most m c.loop-b.b c.loop-a.a l.kept k h)

pub loop-b-preserved : goal.loop-b-preserved
loop-b-preserved c =
    let m = c.loop-b.matrix in
    let l = c.loop-b.invariant in
    let o = c.args.matrix.now in
    let f : ℕ → ℤ = bound_at c.args.first.now in
    let g : ℕ → ℤ = bound_at c.args.second.now in
    let q = matrix-coherent o c.variables-variables.ensures.kept in
    let h : c.loop-a.a < 2 * m.variables = rw (l.variables) (omega arith) in
    let k : c.loop-b.b < 2 * m.variables = rw (l.variables) (omega arith) in
    elim c.if-a-b.branch [
      | then-a-b w ↦
          let s : to_z w64 (of_z w64 c.sums-bound.result) ≡ sums f g c.loop-a.a c.loop-b.b = omega (arith, ints, c.sums-bound.ensures.value, c.sums-bound.ensures.least, c.sums-bound.ensures.most) in
          rw (w.matrix-is) (lowering-met o.variables (entry_of o) f g m w.meet_entry.new.self c.loop-a.a c.loop-b.b q l (omega arith) (omega arith) w.meet_entry.ensures.kept (let P : ℤ → Type 0 = λ v. HasEntries w.meet_entry.new.self m.variables (met_entry m c.loop-a.a c.loop-b.b v) in subst P s w.meet_entry.ensures.entries))
      | else-a-b w ↦
          let P : ℕ → Type 0 = λ d. entry_of m d c.loop-a.a ≡ pos 0 in
          let z : entry_of m c.loop-b.b c.loop-a.a ≡ pos 0 = subst P w.if-a-b.false (l.kept.zero_diagonal c.loop-a.a h) in
          rw (w.matrix-is) (lowering-skip o.variables (entry_of o) f g m c.loop-a.a c.loop-b.b q l w.if-a-b.false
          (omega (arith, ints, z, c.if-bound-entry-lt0.false, c.sums-bound.ensures.value, c.sums-bound.ensures.least, c.sums-bound.ensures.most, c.entry.ensures)))
    ]

pub loop-a-preserved : goal.loop-a-preserved
loop-a-preserved c =
    let o = c.args.matrix.now in
    lowering-row o.variables (entry_of o) (bound_at c.args.first.now) (bound_at c.args.second.now) c.loop-b.matrix c.loop-a.a
    (let e : c.loop-b.b ≡ 2 * (c.loop-a.a / 2) + 2 = omega arith in
    let P : ℕ → Type 0 = λ j. IsLowering o.variables (entry_of o) (bound_at c.args.first.now) (bound_at c.args.second.now) c.loop-b.matrix c.loop-a.a j in
    subst P e c.loop-b.invariant)

pub returns-clause-lowered : goal.returns-clause-lowered
returns-clause-lowered c = λ x.
    let o = c.args.matrix.now in
    let e : c.loop-a.a ≡ 2 * o.variables = omega arith in
    let P : ℕ → Type 0 = λ i. IsLowering o.variables (entry_of o) (bound_at c.args.first.now) (bound_at c.args.second.now) c.loop-a.matrix i 0 in
    lowering-end o.variables (entry_of o) (bound_at c.args.first.now) (bound_at c.args.second.now) c.loop-a.matrix (matrix-coherent o c.variables-variables.ensures.kept) (subst P e c.loop-a.invariant)
