use Rattle.std.proofs.Common.{ap}
use Rattle.std.specs.Hash.{fed_then, fed_along}
use Rattle.octagon_leaf.specs.Hashing as octagon
use Rattle.product_leaf.specs.Hashing as stride
use Rattle.paired_leaf.specs.Pairs.{first_of, second_of}
use Rattle.sharp_leaf.proofs.reduced.ReducedLeafHash.hash.Goals as goal

pub returns : goal.returns
returns g c =
    fed_then g.H.Hasher.write _ _ _ (octagon.fed_leaf (first_of c.args.self.now)) (stride.fed_leaf (second_of c.args.self.now))
    (fed_along g.H.Hasher.write _ _ (ap (λ v. octagon.fed_leaf v) c.octagon.ensures.value) c.hash.ensures)
    (fed_along g.H.Hasher.write _ _ (ap (λ v. stride.fed_leaf v) c.strides.ensures.value) c.hash-2.ensures)
