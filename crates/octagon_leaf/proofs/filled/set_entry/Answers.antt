use Rattle.std.proofs.Common.{◌≡◌, ℕ, ◌+ℤ◌, ◌∙◌, ◌||◌, ap, sym, refl, true, false, nat_eq, arith}
use Rattle.std.proofs.lemmas.Int.{ints}
use Rattle.std.proofs.lemmas.Bool.{ne_eqb}
use Rattle.leaf_domain.specs.declared.range.Range.{Range}
use Rattle.octagon_matrix.specs.Terms.{opposite}
use Rattle.octagon_matrix.specs.Matrices.{MatrixValue}
use Rattle.octagon_matrix.proofs.Terms.{opposite-below}
use Rattle.octagon_leaf.specs.Octagons.{has_variable}
use Rattle.octagon_leaf.specs.Filling.{greatest_set, set_entry}
use Rattle.octagon_leaf.proofs.filled.set_entry.Goals as goal

pub greatest-requires-then-has_either-clause-term : goal.greatest-requires-then-has_either-clause-term
greatest-requires-then-has_either-clause-term c = rw (c.opposite.ensures) (opposite-below c.args.matrix.now.variables c.args.b c.requires.second)

entry-is : (m : MatrixValue) (x : ℕ) (r : Range) (a b : ℕ) → nat_eq a b ≡ false → (has_variable x a || has_variable x b) ≡ true → set_entry m x r a b ≡ greatest_set m x r a +ℤ greatest_set m x r (opposite b)
entry-is m x r a b e f = rw (e, f) refl

pub returns-then-has_either : goal.returns-then-has_either
returns-then-has_either c =
    let m = c.args.matrix.now in
    let x : ℕ = c.args.x in
    let e : set_entry m x c.args.r c.args.a c.args.b ≡ greatest_set m x c.args.r c.args.a +ℤ greatest_set m x c.args.r (opposite c.args.b) =
    entry-is m x c.args.r c.args.a c.args.b (ne_eqb c.args.a c.args.b c.requires.apart) (sym c.has_either.ensures ∙ c.if-has_either.true) in
    let f : c.greatest-then-has_either.result ≡ greatest_set m x c.args.r (opposite c.args.b) = c.greatest-then-has_either.ensures.value ∙ ap (greatest_set m x c.args.r) c.opposite.ensures in
    let p = c.greatest.ensures.small in
    let q = c.greatest-then-has_either.ensures.small in
    omega (arith, ints, e, f, c.greatest.ensures.value, p.low, p.high, q.low, q.high)
