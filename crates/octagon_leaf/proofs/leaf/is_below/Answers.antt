use Rattle.std.proofs.Common.{arith, sym, subst, ℕ, ◌≡◌, ◌*◌}
use Rattle.std.proofs.lemmas.Int.{ints}
use Rattle.octagon_leaf.proofs.Below.{IsComparing, comparing-next, comparing-end, comparing-fails}
use Rattle.octagon_leaf.proofs.leaf.is_below.Goals as goal

pub returns-then-entry : goal.returns-then-entry
returns-then-entry c =
    sym (comparing-fails c.args.first.now c.args.second.now c.loop-a.a c.loop-b.b (omega (arith, c.variables-variables.ensures.value)) (omega (arith, c.variables-variables.ensures.value))
    (omega (arith, ints, c.if-entry.true, c.entry.ensures, c.entry-in-loop-b.ensures)))

pub loop-b-preserved : goal.loop-b-preserved
loop-b-preserved c =
    comparing-next c.args.first.now c.args.second.now c.loop-a.a c.loop-b.b (omega (arith, ints, c.if-entry.false, c.entry.ensures, c.entry-in-loop-b.ensures)) c.loop-b.invariant

pub returns : goal.returns
returns c =
    let e : c.loop-a.a ≡ 2 * c.args.first.now.variables = omega (arith, c.variables-variables.ensures.value) in
    let P : ℕ → Type 0 = λ i. IsComparing c.args.first.now c.args.second.now i 0 in
    sym (comparing-end c.args.first.now c.args.second.now c.variables-variables.ensures.kept c.variables-same.ensures.kept (sym c.requires) (subst P e c.loop-a.invariant))
