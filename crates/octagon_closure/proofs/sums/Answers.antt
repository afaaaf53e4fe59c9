use Rattle.std.proofs.Common.{arith, ◌<◌, ◌*◌}
use Rattle.std.proofs.lemmas.Int.{ints, clamps}
use Rattle.octagon_matrix.proofs.Terms.{opposite-below}
use Rattle.octagon_closure.specs.Sweeps.{bound_at}
use Rattle.octagon_closure.proofs.sums.Goals as goal

pub bounds-first-c : goal.bounds-first-c
bounds-first-c c = omega (arith, opposite-below c.args.variables c.args.a c.requires.first_term)

pub bounds-second-c : goal.bounds-second-c
bounds-second-c c = omega (arith, opposite-below c.args.variables c.args.a c.requires.first_term)

pub overflow_add-one : goal.overflow_add-one
unfolding bound_at
overflow_add-one c =
    let h : c.opposite-c.result < 2 * c.args.variables = omega (arith, opposite-below c.args.variables c.args.a c.requires.first_term) in
    let k = c.requires.second_term in
    omega (arith, ints, c.requires.first_row.least c.opposite-c.result h, c.requires.first_row.most c.opposite-c.result h, c.requires.second_row.least c.args.b k, c.requires.second_row.most c.args.b k)

pub overflow_add-other : goal.overflow_add-other
unfolding bound_at
overflow_add-other c =
    let h : c.opposite-c.result < 2 * c.args.variables = omega (arith, opposite-below c.args.variables c.args.a c.requires.first_term) in
    let k = c.requires.second_term in
    omega (arith, ints, c.requires.second_row.least c.opposite-c.result h, c.requires.second_row.most c.opposite-c.result h, c.requires.first_row.least c.args.b k, c.requires.first_row.most c.args.b k)

pub returns-clause-value : goal.returns-clause-value
unfolding bound_at
returns-clause-value c =
    let h : c.opposite-c.result < 2 * c.args.variables = omega (arith, opposite-below c.args.variables c.args.a c.requires.first_term) in
    let k = c.requires.second_term in
    rw (← c.opposite-c.ensures)
    (omega (arith, ints, clamps, c.lesser.ensures, c.requires.first_row.least c.opposite-c.result h, c.requires.first_row.most c.opposite-c.result h, c.requires.second_row.least c.args.b k, c.requires.second_row.most c.args.b k, c.requires.second_row.least c.opposite-c.result h, c.requires.second_row.most c.opposite-c.result h, c.requires.first_row.least c.args.b k, c.requires.first_row.most c.args.b k))

pub returns-clause-least : goal.returns-clause-least
unfolding bound_at
returns-clause-least c =
    let h : c.opposite-c.result < 2 * c.args.variables = omega (arith, opposite-below c.args.variables c.args.a c.requires.first_term) in
    let k = c.requires.second_term in
    omega (arith, ints, clamps, c.lesser.ensures, c.requires.first_row.least c.opposite-c.result h, c.requires.first_row.most c.opposite-c.result h, c.requires.second_row.least c.args.b k, c.requires.second_row.most c.args.b k, c.requires.second_row.least c.opposite-c.result h, c.requires.second_row.most c.opposite-c.result h, c.requires.first_row.least c.args.b k, c.requires.first_row.most c.args.b k)

pub returns-clause-most : goal.returns-clause-most
unfolding bound_at
returns-clause-most c =
    let h : c.opposite-c.result < 2 * c.args.variables = omega (arith, opposite-below c.args.variables c.args.a c.requires.first_term) in
    let k = c.requires.second_term in
    omega (arith, ints, clamps, c.lesser.ensures, c.requires.first_row.least c.opposite-c.result h, c.requires.first_row.most c.opposite-c.result h, c.requires.second_row.least c.args.b k, c.requires.second_row.most c.args.b k, c.requires.second_row.least c.opposite-c.result h, c.requires.second_row.most c.opposite-c.result h, c.requires.first_row.least c.args.b k, c.requires.first_row.most c.args.b k)
