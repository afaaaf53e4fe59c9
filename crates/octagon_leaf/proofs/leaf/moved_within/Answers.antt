use Rattle.std.proofs.Common.{◌≡◌, ◌-ℤ◌, to_z, of_z, w64, arith}
use Rattle.std.proofs.lemmas.Int.{ints}
use Rattle.octagon_closure.specs.Best.{IsBest}
use Rattle.octagon_leaf.specs.Shapes.{term_between}
use Rattle.octagon_leaf.proofs.Moving.{HeldMatrix, term-list, term-small, term-meets, held-of, unmet-of, moved-full, moved-made, moved-unmet}
use Rattle.octagon_leaf.proofs.leaf.moved_within.Goals as goal

pub met-requires-clause-meets : goal.met-requires-clause-meets
met-requires-clause-meets c =
    let m = c.args.matrix.now in
    let r = c.args.r in
    let e : c.term_between.result ≡ term_between c.args.t (r.low -ℤ c.args.c) (r.high -ℤ c.args.c) = term-list c.args.t r c.args.c c.term_between.result c.requires.int c.requires.constant c.term_between.ensures in
    rw (c.in_ok-copy.ensures, e) (term-meets m.variables c.args.t (r.low -ℤ c.args.c) (r.high -ℤ c.args.c) c.requires.term)

pub met-requires-clause-small : goal.met-requires-clause-small
met-requires-clause-small c =
    let r = c.args.r in
    let e : c.term_between.result ≡ term_between c.args.t (r.low -ℤ c.args.c) (r.high -ℤ c.args.c) = term-list c.args.t r c.args.c c.term_between.result c.requires.int c.requires.constant c.term_between.ensures in
    rw (e) (term-small c.args.t r c.args.c c.requires.int c.requires.constant)

pub moved-requires-clause-full : goal.moved-requires-clause-full
moved-requires-clause-full c =
    let m = c.args.matrix.now in
    let r = c.args.r in
    let e : c.term_between.result ≡ term_between c.args.t (r.low -ℤ c.args.c) (r.high -ℤ c.args.c) = term-list c.args.t r c.args.c c.term_between.result c.requires.int c.requires.constant c.term_between.ensures in
    let q : IsBest (HeldMatrix m c.args.t c.args.c r) c.in-Some.held = held-of m c.in_ok-copy.copy c.in-Some.held c.term_between.result (term_between c.args.t (r.low -ℤ c.args.c) (r.high -ℤ c.args.c)) c.in_ok-copy.ensures e c.in-Some.ensures.0 in
    let g : to_z w64 (of_z w64 c.args.c) ≡ c.args.c = omega (arith, ints, c.requires.constant.low, c.requires.constant.high) in
    (moved-full m c.in-Some.held c.args.x c.args.t c.args.c (to_z w64 (of_z w64 c.args.c)) r g c.variables-variables.ensures.kept q c.requires.x c.requires.term c.requires.own c.requires.int).0

pub moved-requires-clause-large : goal.moved-requires-clause-large
moved-requires-clause-large c =
    let m = c.args.matrix.now in
    let r = c.args.r in
    let e : c.term_between.result ≡ term_between c.args.t (r.low -ℤ c.args.c) (r.high -ℤ c.args.c) = term-list c.args.t r c.args.c c.term_between.result c.requires.int c.requires.constant c.term_between.ensures in
    let q : IsBest (HeldMatrix m c.args.t c.args.c r) c.in-Some.held = held-of m c.in_ok-copy.copy c.in-Some.held c.term_between.result (term_between c.args.t (r.low -ℤ c.args.c) (r.high -ℤ c.args.c)) c.in_ok-copy.ensures e c.in-Some.ensures.0 in
    let g : to_z w64 (of_z w64 c.args.c) ≡ c.args.c = omega (arith, ints, c.requires.constant.low, c.requires.constant.high) in
    (moved-full m c.in-Some.held c.args.x c.args.t c.args.c (to_z w64 (of_z w64 c.args.c)) r g c.variables-variables.ensures.kept q c.requires.x c.requires.term c.requires.own c.requires.int).1

pub returns-in-None : goal.returns-in-None
returns-in-None c = λ s h.
    let m = c.args.matrix.now in
    let r = c.args.r in
    let e : c.term_between.result ≡ term_between c.args.t (r.low -ℤ c.args.c) (r.high -ℤ c.args.c) = term-list c.args.t r c.args.c c.term_between.result c.requires.int c.requires.constant c.term_between.ensures in
    let (u, g) = moved-unmet m c.args.x c.args.t c.args.c r s c.variables-variables.ensures.kept c.requires.x c.requires.term c.requires.own h in
    unmet-of m c.in_ok-copy.copy c.term_between.result (term_between c.args.t (r.low -ℤ c.args.c) (r.high -ℤ c.args.c)) c.in_ok-copy.ensures e c.in-None.ensures u g

pub returns-in_ok-moved-in-Some : goal.returns-in_ok-moved-in-Some
returns-in_ok-moved-in-Some c =
    let m = c.args.matrix.now in
    let r = c.args.r in
    let e : c.term_between.result ≡ term_between c.args.t (r.low -ℤ c.args.c) (r.high -ℤ c.args.c) = term-list c.args.t r c.args.c c.term_between.result c.requires.int c.requires.constant c.term_between.ensures in
    let q : IsBest (HeldMatrix m c.args.t c.args.c r) c.in-Some.held = held-of m c.in_ok-copy.copy c.in-Some.held c.term_between.result (term_between c.args.t (r.low -ℤ c.args.c) (r.high -ℤ c.args.c)) c.in_ok-copy.ensures e c.in-Some.ensures.0 in
    let g : to_z w64 (of_z w64 c.args.c) ≡ c.args.c = omega (arith, ints, c.requires.constant.low, c.requires.constant.high) in
    let k = c.in_ok-moved-in-Some in
    (moved-made m c.in-Some.held k.field-0 c.args.x c.args.t c.args.c (to_z w64 (of_z w64 c.args.c)) r g c.variables-variables.ensures.kept q c.requires.x c.requires.term c.requires.own c.requires.int k.ensures.kept k.ensures.entries, k.ensures.kept)
