use Rattle.std.proofs.Common.{arith, ◌<◌, ◌*◌, ℕ, pos, ◌+ℤ◌}
use Rattle.std.proofs.lemmas.Int.{ints}
use Rattle.octagon_matrix.specs.Terms.{opposite}
use Rattle.octagon_matrix.specs.Matrices.{entry_of}
use Rattle.octagon_matrix.proofs.Terms.{opposite-below}
use Rattle.octagon_closure.specs.Sweeps.{row_from, IsRow}
use Rattle.octagon_closure.proofs.Rows.{IsEntry, entry-is, sum-is, sum_twice-is, sum-small, sum_twice-small, entry_alone-small, plain-entry, row-own}
use Rattle.octagon_closure.proofs.Closing.{entries-same, negative-same}
use Rattle.octagon_closure.proofs.pass.Goals as goal

pub entry-requires-clause-first : goal.entry-requires-clause-first
entry-requires-clause-first c = omega (arith, opposite-below c.args.matrix.now.variables c.args.a c.requires.first)

pub entry-requires-2-clause-second : goal.entry-requires-2-clause-second
entry-requires-2-clause-second c = omega (arith, opposite-below c.args.matrix.now.variables c.args.b c.requires.second)

pub overflow_add-before : goal.overflow_add-before
overflow_add-before c =
    let m = c.args.matrix.now in
    let z = c.variables-variables.ensures.kept in
    let h : c.opposite-c.result < 2 * m.variables = omega (arith, opposite-below m.variables c.args.a c.requires.first) in
    let s : IsEntry c.entry.result = entry-is m c.opposite-c.result c.args.a c.entry.result z h c.requires.first c.entry.ensures in
    let t : IsEntry c.entry-step.result = entry-is m c.args.a c.args.b c.entry-step.result z c.requires.first c.requires.second c.entry-step.ensures in
    omega (arith, ints, s.least, s.most, t.least, t.most)

pub overflow_add-after : goal.overflow_add-after
overflow_add-after c =
    let m = c.args.matrix.now in
    let z = c.variables-variables.ensures.kept in
    let h : c.opposite-d.result < 2 * m.variables = omega (arith, opposite-below m.variables c.args.b c.requires.second) in
    let s : IsEntry c.entry-2.result = entry-is m c.args.b c.opposite-d.result c.entry-2.result z c.requires.second h c.entry-2.ensures in
    let t : IsEntry c.entry-step.result = entry-is m c.args.a c.args.b c.entry-step.result z c.requires.first c.requires.second c.entry-step.ensures in
    omega (arith, ints, s.least, s.most, t.least, t.most)

pub overflow_add-after-2 : goal.overflow_add-after-2
overflow_add-after-2 c =
    let m = c.args.matrix.now in
    let z = c.variables-variables.ensures.kept in
    let h : c.opposite-d.result < 2 * m.variables = omega (arith, opposite-below m.variables c.args.b c.requires.second) in
    let s : IsEntry c.entry-2.result = entry-is m c.args.b c.opposite-d.result c.entry-2.result z c.requires.second h c.entry-2.ensures in
    let t : IsEntry c.entry-step.result = entry-is m c.args.a c.args.b c.entry-step.result z c.requires.first c.requires.second c.entry-step.ensures in
    rw (sum-is c.entry-2.result c.entry-step.result s t) (omega (arith, ints, s.least, s.most, t.least, t.most))

pub row_from-first-requires-clause-first : goal.row_from-first-requires-clause-first
row_from-first-requires-clause-first c = omega (arith, opposite-below c.args.matrix.now.variables c.args.a c.requires.first)

pub row_from-first-requires-clause-far : goal.row_from-first-requires-clause-far
row_from-first-requires-clause-far c =
    let m = c.args.matrix.now in
    let z = c.variables-variables.ensures.kept in
    let h : c.opposite-c.result < 2 * m.variables = omega (arith, opposite-below m.variables c.args.a c.requires.first) in
    let s : IsEntry c.entry.result = entry-is m c.opposite-c.result c.args.a c.entry.result z h c.requires.first c.entry.ensures in
    let t : IsEntry c.entry-step.result = entry-is m c.args.a c.args.b c.entry-step.result z c.requires.first c.requires.second c.entry-step.ensures in
    rw (sum-is c.entry.result c.entry-step.result s t) (sum-small c.entry.result c.entry-step.result s t)

pub row_from-second-requires-clause-second : goal.row_from-second-requires-clause-second
row_from-second-requires-clause-second c = omega (arith, opposite-below c.args.matrix.now.variables c.args.a c.requires.first)

pub row_from-second-requires-clause-near : goal.row_from-second-requires-clause-near
row_from-second-requires-clause-near c =
    let m = c.args.matrix.now in
    let z = c.variables-variables.ensures.kept in
    let t : IsEntry c.entry-step.result = entry-is m c.args.a c.args.b c.entry-step.result z c.requires.first c.requires.second c.entry-step.ensures in
    rw (plain-entry c.entry-step.result t) (entry_alone-small c.entry-step.result t)

pub row_from-second-requires-clause-far : goal.row_from-second-requires-clause-far
row_from-second-requires-clause-far c =
    let m = c.args.matrix.now in
    let z = c.variables-variables.ensures.kept in
    let h : c.opposite-d.result < 2 * m.variables = omega (arith, opposite-below m.variables c.args.b c.requires.second) in
    let s : IsEntry c.entry-2.result = entry-is m c.args.b c.opposite-d.result c.entry-2.result z c.requires.second h c.entry-2.ensures in
    let t : IsEntry c.entry-step.result = entry-is m c.args.a c.args.b c.entry-step.result z c.requires.first c.requires.second c.entry-step.ensures in
    rw (sum_twice-is c.entry-2.result c.entry-step.result s t) (sum_twice-small c.entry-2.result c.entry-step.result s t)

pub meet_sums-requires-clause-first_row : goal.meet_sums-requires-clause-first_row
meet_sums-requires-clause-first_row c = row-own c.args.matrix.now.variables c.row_from-first.result _ c.row_from-first.ensures

pub meet_sums-requires-clause-second_row : goal.meet_sums-requires-clause-second_row
meet_sums-requires-clause-second_row c = row-own c.args.matrix.now.variables c.row_from-second.result _ c.row_from-second.ensures

pub returns-clause-lowered : goal.returns-clause-lowered
returns-clause-lowered c = λ e.
    let m = c.args.matrix.now in
    let n : ℕ = m.variables in
    let a : ℕ = c.args.a in
    let b : ℕ = c.args.b in
    let z = c.variables-variables.ensures.kept in
    let h : c.opposite-c.result < 2 * n = omega (arith, opposite-below n c.args.a c.requires.first) in
    let k : c.opposite-d.result < 2 * n = omega (arith, opposite-below n c.args.b c.requires.second) in
    let s : IsEntry c.entry.result = entry-is m c.opposite-c.result c.args.a c.entry.result z h c.requires.first c.entry.ensures in
    let u : IsEntry c.entry-2.result = entry-is m c.args.b c.opposite-d.result c.entry-2.result z c.requires.second k c.entry-2.ensures in
    let t : IsEntry c.entry-step.result = entry-is m c.args.a c.args.b c.entry-step.result z c.requires.first c.requires.second c.entry-step.ensures in
    let f : IsRow n c.row_from-first.result (row_from (entry_of m) (opposite a) (pos 0) b (entry_of m (opposite a) a +ℤ entry_of m a b)) =
    rw (sum-is c.entry.result c.entry-step.result s t, c.entry.ensures, c.entry-step.ensures, c.opposite-c.ensures) at c.row_from-first.ensures in
    let g : IsRow n c.row_from-second.result (row_from (entry_of m) b (entry_of m a b) (opposite a) ((entry_of m b (opposite b) +ℤ entry_of m a b) +ℤ entry_of m a b)) =
    rw (sum_twice-is c.entry-2.result c.entry-step.result u t, plain-entry c.entry-step.result t, c.entry-2.ensures, c.entry-step.ensures, c.opposite-c.ensures, c.opposite-d.ensures) at c.row_from-second.ensures in
    entries-same m c.meet_sums.new.matrix c.row_from-first.result c.row_from-second.result (row_from (entry_of m) (opposite a) (pos 0) b (entry_of m (opposite a) a +ℤ entry_of m a b)) (row_from (entry_of m) b (entry_of m a b) (opposite a) ((entry_of m b (opposite b) +ℤ entry_of m a b) +ℤ entry_of m a b)) f g (c.meet_sums.ensures.lowered e)

pub returns-clause-empty : goal.returns-clause-empty
returns-clause-empty c = λ e.
    let m = c.args.matrix.now in
    let n : ℕ = m.variables in
    let a : ℕ = c.args.a in
    let b : ℕ = c.args.b in
    let z = c.variables-variables.ensures.kept in
    let h : c.opposite-c.result < 2 * n = omega (arith, opposite-below n c.args.a c.requires.first) in
    let k : c.opposite-d.result < 2 * n = omega (arith, opposite-below n c.args.b c.requires.second) in
    let s : IsEntry c.entry.result = entry-is m c.opposite-c.result c.args.a c.entry.result z h c.requires.first c.entry.ensures in
    let u : IsEntry c.entry-2.result = entry-is m c.args.b c.opposite-d.result c.entry-2.result z c.requires.second k c.entry-2.ensures in
    let t : IsEntry c.entry-step.result = entry-is m c.args.a c.args.b c.entry-step.result z c.requires.first c.requires.second c.entry-step.ensures in
    let f : IsRow n c.row_from-first.result (row_from (entry_of m) (opposite a) (pos 0) b (entry_of m (opposite a) a +ℤ entry_of m a b)) =
    rw (sum-is c.entry.result c.entry-step.result s t, c.entry.ensures, c.entry-step.ensures, c.opposite-c.ensures) at c.row_from-first.ensures in
    let g : IsRow n c.row_from-second.result (row_from (entry_of m) b (entry_of m a b) (opposite a) ((entry_of m b (opposite b) +ℤ entry_of m a b) +ℤ entry_of m a b)) =
    rw (sum_twice-is c.entry-2.result c.entry-step.result u t, plain-entry c.entry-step.result t, c.entry-2.ensures, c.entry-step.ensures, c.opposite-c.ensures, c.opposite-d.ensures) at c.row_from-second.ensures in
    negative-same m c.row_from-first.result c.row_from-second.result (row_from (entry_of m) (opposite a) (pos 0) b (entry_of m (opposite a) a +ℤ entry_of m a b)) (row_from (entry_of m) b (entry_of m a b) (opposite a) ((entry_of m b (opposite b) +ℤ entry_of m a b) +ℤ entry_of m a b)) f g (c.meet_sums.ensures.empty e)
