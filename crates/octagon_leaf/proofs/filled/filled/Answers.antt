use Rattle.std.proofs.Common.{◌≡◌, ℕ, ℤ, ◌*◌, ◌/◌, ◌+◌, ◌<◌, ◌∙◌, subst, to_z, of_z, w64, arith}
use Rattle.std.proofs.lemmas.Int.{ints}
use Rattle.octagon_matrix.specs.Matrices.{HasEntries, met_entry}
use Rattle.octagon_leaf.proofs.Filling.{IsFilling, filling-met, filling-skip, filling-row, filling-end}
use Rattle.octagon_leaf.proofs.filled.filled.Goals.{then-a-b, else-a-b}
use Rattle.octagon_leaf.proofs.filled.filled.Goals as goal

pub loop-b-preserved : goal.loop-b-preserved
loop-b-preserved g c =
    elim c.if-a-b.branch [
      | then-a-b w ↦
          rw (w.matrix-is) (
            w.meet_entry.ensures.kept,
            w.meet_entry.ensures.entries.variables ∙ c.loop-b.invariant.1,
            λ f u p.
                let i : c.loop-a.a < 2 * c.args.variables = omega arith in
                let j : c.loop-b.b < 2 * c.args.variables = omega arith in
                let r : w.entry.result ≡ f c.loop-a.a c.loop-b.b = p c.loop-a.a c.loop-b.b w.entry.result i j w.if-a-b.true w.entry.ensures in
                let e : to_z w64 (of_z w64 w.entry.result) ≡ w.entry.result = omega (arith, ints, w.entry.type_inv) in
                let P : ℤ → Type 0 = λ v. HasEntries w.meet_entry.new.self c.loop-b.matrix.variables (met_entry c.loop-b.matrix c.loop-a.a c.loop-b.b v) in
                filling-met c.args.variables f c.loop-b.matrix w.meet_entry.new.self c.loop-a.a c.loop-b.b u (c.loop-b.invariant.2 f u p) i j w.meet_entry.ensures.kept (subst P (e ∙ r) w.meet_entry.ensures.entries),
          )
      | else-a-b w ↦
          rw (w.matrix-is)
          (c.loop-b.invariant.0, c.loop-b.invariant.1, λ f u p. filling-skip c.args.variables f c.loop-b.matrix c.loop-a.a c.loop-b.b u (c.loop-b.invariant.2 f u p) w.if-a-b.false)
    ]

pub loop-a-preserved : goal.loop-a-preserved
loop-a-preserved g c =
    let e : c.loop-b.b ≡ 2 * (c.loop-a.a / 2) + 2 = omega arith in (
      c.loop-b.invariant.0,
      c.loop-b.invariant.1,
      λ f u p.
          let P : ℕ → Type 0 = λ j. IsFilling c.args.variables f c.loop-b.matrix c.loop-a.a j in
          filling-row c.args.variables f c.loop-b.matrix c.loop-a.a (subst P e (c.loop-b.invariant.2 f u p)),
    )

pub returns-clause-entries : goal.returns-clause-entries
returns-clause-entries g c = λ f u p.
    let e : c.loop-a.a ≡ 2 * c.args.variables = omega arith in
    let P : ℕ → Type 0 = λ i. IsFilling c.args.variables f c.loop-a.matrix i 0 in
    filling-end c.args.variables f c.loop-a.matrix u (subst P e (c.loop-a.invariant.2 f u p))
