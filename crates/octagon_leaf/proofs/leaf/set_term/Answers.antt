use Rattle.std.proofs.Common.{◌≡◌, ◌∙◌, ◌++◌, ℤ, List, true, false, ap, subst, IfOk, to_z, of_z, w64, arith}
use Rattle.std.proofs.lemmas.Int.{ints}
use Rattle.std.proofs.lemmas.Bool.{eq-eqb, ne_eqb}
use Rattle.octagon_leaf.specs.declared.meets.Meet.{Meet}
use Rattle.octagon_leaf.specs.Octagons.{met_all, moved, dropped, has_variable}
use Rattle.octagon_leaf.specs.Shapes.{between, equal_to}
use Rattle.octagon_leaf.specs.Meeting.{IsSettled}
use Rattle.octagon_leaf.proofs.leaf.set_term.Goals as goal

pub returns-then-t-x : goal.returns-then-t-x
returns-then-t-x c =
    let m = c.args.matrix.now in
    let e : has_variable c.args.x c.args.t ≡ true = eq-eqb _ _ c.if-t-x.true in
    let g : to_z w64 (of_z w64 c.args.c) ≡ c.args.c = omega (arith, ints, c.requires.constant.low, c.requires.constant.high) in
    let P : ℤ → Type 0 = λ k. IfOk c.moved_within.result (λ set. IsSettled (met_all (moved m c.args.x c.args.t k) (between c.args.x c.args.r)) set) in
    rw (e) (subst P g c.moved_within.ensures)

pub returns-else-t-x : goal.returns-else-t-x
returns-else-t-x c =
    let m = c.args.matrix.now in
    let e : has_variable c.args.x c.args.t ≡ false = ne_eqb _ _ c.if-t-x.false in
    let g : to_z w64 (of_z w64 c.args.c) ≡ c.args.c = omega (arith, ints, c.requires.constant.low, c.requires.constant.high) in
    let f : c.equal_to.result ≡ equal_to c.args.x c.args.t c.args.c = c.equal_to.ensures ∙ ap (equal_to c.args.x c.args.t) g in
    let P : List Meet → Type 0 = λ es. IfOk c.set_met.result (λ set. IsSettled (met_all (dropped m c.args.x) (es ++ between c.args.x c.args.r)) set) in
    rw (e) (subst P f c.set_met.ensures)
