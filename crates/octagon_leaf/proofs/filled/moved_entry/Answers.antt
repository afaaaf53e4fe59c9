use Rattle.std.proofs.Common.{◌≡◌, ℕ, ◌<◌, ◌*◌, ◌%◌, ◌*ℤ◌, ◌-ℤ◌, ◌∙◌, ap, nat_eq, to_z, of_z, w64, arith}
use Rattle.octagon_matrix.specs.Matrices.{entry_of}
use Rattle.std.proofs.lemmas.Int.{ints}
use Rattle.octagon_leaf.specs.Meeting.{IsSmall}
use Rattle.octagon_leaf.specs.Octagons.{has_variable, renamed, sign_of}
use Rattle.octagon_leaf.specs.Laws.Terms.{renamed-below, times_apart}
use Rattle.octagon_leaf.proofs.Numbers.{entry-small}
use Rattle.octagon_leaf.proofs.filled.moved_entry.Goals as goal

pub entry-entry-requires-clause-first : goal.entry-entry-requires-clause-first
entry-entry-requires-clause-first c = rw (c.renamed.ensures) (renamed-below c.args.matrix.now.variables c.args.x c.args.t c.args.a c.requires.term c.requires.first)

pub entry-entry-requires-clause-second : goal.entry-entry-requires-clause-second
entry-entry-requires-clause-second c = rw (c.renamed-2.ensures) (renamed-below c.args.matrix.now.variables c.args.x c.args.t c.args.b c.requires.term c.requires.second)

pub overflow_add-result : goal.overflow_add-result
overflow_add-result c =
    let m = c.args.matrix.now in
    let i : c.renamed.result < 2 * m.variables = rw (c.renamed.ensures) (renamed-below m.variables c.args.x c.args.t c.args.a c.requires.term c.requires.first) in
    let j : c.renamed-2.result < 2 * m.variables = rw (c.renamed-2.ensures) (renamed-below m.variables c.args.x c.args.t c.args.b c.requires.term c.requires.second) in
    let k : IsSmall (entry_of m c.renamed.result c.renamed-2.result) = entry-small m c.renamed.result c.renamed-2.result c.variables-variables.ensures.kept i j in
    let p = c.signed.ensures.small in
    let q = c.signed-2.ensures.small in
    omega (arith, ints, k.low, k.high, c.entry-entry.ensures, p.low, p.high, q.low, q.high)

pub returns : goal.returns
returns c =
    let m = c.args.matrix.now in
    let x : ℕ = c.args.x in
    let i : c.renamed.result < 2 * m.variables = rw (c.renamed.ensures) (renamed-below m.variables c.args.x c.args.t c.args.a c.requires.term c.requires.first) in
    let j : c.renamed-2.result < 2 * m.variables = rw (c.renamed-2.ensures) (renamed-below m.variables c.args.x c.args.t c.args.b c.requires.term c.requires.second) in
    let k : IsSmall (entry_of m c.renamed.result c.renamed-2.result) = entry-small m c.renamed.result c.renamed-2.result c.variables-variables.ensures.kept i j in
    let p = c.signed.ensures.small in
    let q = c.signed-2.ensures.small in
    let g : to_z w64 (of_z w64 c.args.c) ≡ c.args.c = omega (arith, ints, c.requires.constant.low, c.requires.constant.high) in
    let u : c.signed.result ≡ c.args.c *ℤ sign_of x c.args.a = c.signed.ensures.value ∙ ap (λ w. w *ℤ sign_of x c.args.a) g in
    let v : c.signed-2.result ≡ c.args.c *ℤ sign_of x c.args.b = c.signed-2.ensures.value ∙ ap (λ w. w *ℤ sign_of x c.args.b) g in
    let t : c.args.c *ℤ (sign_of x c.args.a -ℤ sign_of x c.args.b) ≡ (c.args.c *ℤ sign_of x c.args.a) -ℤ (c.args.c *ℤ sign_of x c.args.b) =
    times_apart c.args.c (has_variable x c.args.a) (nat_eq (c.args.a % 2) 0) (has_variable x c.args.b) (nat_eq (c.args.b % 2) 0) in
    let e : c.entry-entry.result ≡ entry_of m (renamed x c.args.t c.args.a) (renamed x c.args.t c.args.b) =
    c.entry-entry.ensures ∙ (ap (λ d. entry_of m d c.renamed-2.result) c.renamed.ensures ∙ ap (entry_of m (renamed x c.args.t c.args.a)) c.renamed-2.ensures) in
    let f = c.entry-entry.ensures in
    omega (arith, ints, k.low, k.high, e, f, u, v, t, p.low, p.high, q.low, q.high)
