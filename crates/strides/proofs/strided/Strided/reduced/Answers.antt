use Rattle.std.proofs.Common.{◌≡◌, ◌≤ℤ◌, ◌<ℤ◌, to_z, of_z, w64, ap, ◌∙◌, arith}
use Rattle.std.specs.Int.{w128}
use Rattle.std.proofs.lemmas.Int.{ints}
use Rattle.strides.specs.Strides.{first_from, last_to}
use Rattle.strides.specs.Strided.{strided_at, point_at}
use Rattle.strides.proofs.WideLaws.{first_same, last_same, AreWithin, are_within, bare_kept, reduced_point, reduced_rest, back}
use Rattle.strides.proofs.strided.Strided.reduced.Goals as goal

pub overflow_cast-first : goal.overflow_cast-first
overflow_cast-first c =
    let u : to_z w64 (of_z w64 c.args.self.low) ≡ c.args.self.low = omega (arith, ints) in
    let w : to_z w64 (of_z w64 c.args.self.high) ≡ c.args.self.high = omega (arith, ints) in
    let f : c.first_from-first.result ≡ first_from c.args.self.low c.args.self.stride = first_same c.args.self.low c.args.self.stride _ _ c.first_from-first.result c.first_from-first.ensures u c.wide-stride.ensures in
    let l : c.last_to-last.result ≡ last_to c.args.self.high c.args.self.stride = last_same c.args.self.high c.args.self.stride _ _ c.last_to-last.result c.last_to-last.ensures w c.wide-stride.ensures in
    let o : c.first_from-first.result ≤ℤ c.last_to-last.result = omega (arith, ints) in
    let i : AreWithin c.args.self c.first_from-first.result c.last_to-last.result = are_within c.args.self c.first_from-first.result c.last_to-last.result f l o in
    let p : c.args.self.low ≤ℤ c.first_from-first.result = i.first_low in
    let q : c.first_from-first.result ≤ℤ c.args.self.high = i.first_high in
    omega (arith, ints)

pub returns-then-first-last : goal.returns-then-first-last
returns-then-first-last c =
    let u : to_z w64 (of_z w64 c.args.self.low) ≡ c.args.self.low = omega (arith, ints) in
    let w : to_z w64 (of_z w64 c.args.self.high) ≡ c.args.self.high = omega (arith, ints) in
    let f : c.first_from-first.result ≡ first_from c.args.self.low c.args.self.stride = first_same c.args.self.low c.args.self.stride _ _ c.first_from-first.result c.first_from-first.ensures u c.wide-stride.ensures in
    let l : c.last_to-last.result ≡ last_to c.args.self.high c.args.self.stride = last_same c.args.self.high c.args.self.stride _ _ c.last_to-last.result c.last_to-last.ensures w c.wide-stride.ensures in
    let o : c.first_from-first.result ≤ℤ c.last_to-last.result = omega (arith, ints) in
    let i : AreWithin c.args.self c.first_from-first.result c.last_to-last.result = are_within c.args.self c.first_from-first.result c.last_to-last.result f l o in
    let p : c.args.self.low ≤ℤ c.first_from-first.result = i.first_low in
    let q : c.first_from-first.result ≤ℤ c.args.self.high = i.first_high in
    let e : c.first_from-first.result ≡ c.last_to-last.result = omega (arith, ints) in
    let d : to_z w64 (of_z w64 (to_z w128 (of_z w128 c.first_from-first.result))) ≡ c.first_from-first.result = omega (arith, ints) in
    c.point.ensures ∙ ap point_at d ∙ reduced_point c.args.self c.first_from-first.result c.last_to-last.result f l e

pub returns-then-last-first : goal.returns-then-last-first
returns-then-last-first c =
    let u : to_z w64 (of_z w64 c.args.self.low) ≡ c.args.self.low = omega (arith, ints) in
    let w : to_z w64 (of_z w64 c.args.self.high) ≡ c.args.self.high = omega (arith, ints) in
    let f : c.first_from-first.result ≡ first_from c.args.self.low c.args.self.stride = first_same c.args.self.low c.args.self.stride _ _ c.first_from-first.result c.first_from-first.ensures u c.wide-stride.ensures in
    let l : c.last_to-last.result ≡ last_to c.args.self.high c.args.self.stride = last_same c.args.self.high c.args.self.stride _ _ c.last_to-last.result c.last_to-last.ensures w c.wide-stride.ensures in
    let o : c.last_to-last.result <ℤ c.first_from-first.result = omega (arith, ints) in
    bare_kept c.args.self c.first_from-first.result c.last_to-last.result f l o

pub overflow_cast-result : goal.overflow_cast-result
overflow_cast-result c =
    let u : to_z w64 (of_z w64 c.args.self.low) ≡ c.args.self.low = omega (arith, ints) in
    let w : to_z w64 (of_z w64 c.args.self.high) ≡ c.args.self.high = omega (arith, ints) in
    let f : c.first_from-first.result ≡ first_from c.args.self.low c.args.self.stride = first_same c.args.self.low c.args.self.stride _ _ c.first_from-first.result c.first_from-first.ensures u c.wide-stride.ensures in
    let l : c.last_to-last.result ≡ last_to c.args.self.high c.args.self.stride = last_same c.args.self.high c.args.self.stride _ _ c.last_to-last.result c.last_to-last.ensures w c.wide-stride.ensures in
    let o : c.first_from-first.result ≤ℤ c.last_to-last.result = omega (arith, ints) in
    let i : AreWithin c.args.self c.first_from-first.result c.last_to-last.result = are_within c.args.self c.first_from-first.result c.last_to-last.result f l o in
    let p : c.args.self.low ≤ℤ c.first_from-first.result = i.first_low in
    let q : c.first_from-first.result ≤ℤ c.args.self.high = i.first_high in
    omega (arith, ints)

pub overflow_cast-result-2 : goal.overflow_cast-result-2
overflow_cast-result-2 c =
    let u : to_z w64 (of_z w64 c.args.self.low) ≡ c.args.self.low = omega (arith, ints) in
    let w : to_z w64 (of_z w64 c.args.self.high) ≡ c.args.self.high = omega (arith, ints) in
    let f : c.first_from-first.result ≡ first_from c.args.self.low c.args.self.stride = first_same c.args.self.low c.args.self.stride _ _ c.first_from-first.result c.first_from-first.ensures u c.wide-stride.ensures in
    let l : c.last_to-last.result ≡ last_to c.args.self.high c.args.self.stride = last_same c.args.self.high c.args.self.stride _ _ c.last_to-last.result c.last_to-last.ensures w c.wide-stride.ensures in
    let o : c.first_from-first.result ≤ℤ c.last_to-last.result = omega (arith, ints) in
    let i : AreWithin c.args.self c.first_from-first.result c.last_to-last.result = are_within c.args.self c.first_from-first.result c.last_to-last.result f l o in
    let r : c.args.self.low ≤ℤ c.last_to-last.result = i.last_low in
    let s : c.last_to-last.result ≤ℤ c.args.self.high = i.last_high in
    omega (arith, ints)

pub returns : goal.returns
returns c =
    let u : to_z w64 (of_z w64 c.args.self.low) ≡ c.args.self.low = omega (arith, ints) in
    let w : to_z w64 (of_z w64 c.args.self.high) ≡ c.args.self.high = omega (arith, ints) in
    let f : c.first_from-first.result ≡ first_from c.args.self.low c.args.self.stride = first_same c.args.self.low c.args.self.stride _ _ c.first_from-first.result c.first_from-first.ensures u c.wide-stride.ensures in
    let l : c.last_to-last.result ≡ last_to c.args.self.high c.args.self.stride = last_same c.args.self.high c.args.self.stride _ _ c.last_to-last.result c.last_to-last.ensures w c.wide-stride.ensures in
    let o : c.first_from-first.result ≤ℤ c.last_to-last.result = omega (arith, ints) in
    let i : AreWithin c.args.self c.first_from-first.result c.last_to-last.result = are_within c.args.self c.first_from-first.result c.last_to-last.result f l o in
    let e : c.first_from-first.result <ℤ c.last_to-last.result = omega (arith, ints) in
    let d : to_z w64 (of_z w64 (to_z w128 (of_z w128 c.first_from-first.result))) ≡ c.first_from-first.result = back c.args.self.low c.args.self.high c.first_from-first.result u w i.first_low i.first_high in
    let k : to_z w64 (of_z w64 (to_z w128 (of_z w128 c.last_to-last.result))) ≡ c.last_to-last.result = back c.args.self.low c.args.self.high c.last_to-last.result u w i.last_low i.last_high in
    ap (λ x. strided_at x (to_z w64 (of_z w64 (to_z w128 (of_z w128 c.last_to-last.result)))) c.args.self.stride) d ∙ ap (λ x. strided_at c.first_from-first.result x c.args.self.stride) k ∙ reduced_rest c.args.self c.first_from-first.result c.last_to-last.result f l e
