use Rattle.std.proofs.Common.{◌≡◌, int_lt, to_z, of_z, w64, ap, ◌∙◌, arith}
use Rattle.std.specs.Int.{w128}
use Rattle.std.proofs.lemmas.Int.{ints}
use Rattle.strides.specs.Strides.{first_from, last_to}
use Rattle.strides.proofs.WideLaws.{first_same, last_same, bare_by}
use Rattle.strides.proofs.strided.Strided.is_bare.Goals as goal

pub returns : goal.returns
returns c =
    let u : to_z w64 (of_z w64 c.args.self.low) ≡ c.args.self.low = omega (arith, ints) in
    let w : to_z w64 (of_z w64 c.args.self.high) ≡ c.args.self.high = omega (arith, ints) in
    let f : c.first_from-first.result ≡ first_from c.args.self.low c.args.self.stride = first_same c.args.self.low c.args.self.stride _ _ c.first_from-first.result c.first_from-first.ensures u c.wide-stride.ensures in
    let l : c.last_to.result ≡ last_to c.args.self.high c.args.self.stride = last_same c.args.self.high c.args.self.stride _ _ c.last_to.result c.last_to.ensures w c.wide-stride.ensures in
    let p : to_z w128 (of_z w128 c.first_from-first.result) ≡ c.first_from-first.result = omega (arith, ints) in
    let q : to_z w128 (of_z w128 c.last_to.result) ≡ c.last_to.result = omega (arith, ints) in
    bare_by c.args.self _ c.first_from-first.result c.last_to.result f l (ap (λ x. int_lt x (to_z w128 (of_z w128 c.first_from-first.result))) q ∙ ap (int_lt c.last_to.result) p)
