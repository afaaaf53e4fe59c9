use Rattle.std.proofs.Common.{◌≢◌, ◌<◌, pos, unsigned_abs, ◌≤◌, ap, sym, subst}
use Rattle.leaf_domain.specs.Leaves.{LeafValue}
use Rattle.strides.specs.declared.stride.Stride.{Stride}
use Rattle.strides.specs.Strides.{IsReduced}
use Rattle.product_leaf.proofs.Meanings.{int_back}
use Rattle.product_leaf.proofs.PartLemmas.{part_own, part_best}
use Rattle.congruence_leaf.specs.TwoStrides.{strided_met}
use Rattle.congruence_leaf.specs.Congruences.{divided_with}
use Rattle.congruence_leaf.specs.Laws.Remainders.{less_reduced}
use Rattle.congruence_leaf.specs.Laws.Leaves.{met_limited_by, lone_below}
use Rattle.congruence_leaf.proofs.DividedBy.{number_back, number_small}
use Rattle.congruence_leaf.proofs.MetStrides.{modulo_some, less_small}
use Rattle.congruence_leaf.proofs.leaf.CongruenceLeaf.divided.Goals as goal

pub stride_less-stride-requires-clause-k : goal.stride_less-stride-requires-clause-k
stride_less-stride-requires-clause-k c =
    subst (λ n. unsigned_abs n ≤ 1099511627776) (sym (number_back c.args.f.now.constant c.requires.f.constant)) (number_small c.args.f.now.constant c.requires.f.constant)

pub part-requires : goal.part-requires
part-requires c = lone_below c.args.self.variables c.args.f.now c.in-Some.x c.requires.f (sym c.in-Some.ensures)

pub met-requires-clause-small : goal.met-requires-clause-small
met-requires-clause-small c =
    let p : 0 < c.stride_modulo.result.modulus = subst (λ (t : Stride). 0 < t.modulus) (sym c.stride_modulo.ensures.value) (modulo_some _ c.args.left.stride (subst (λ m. m ≢ pos 0) (sym (int_back c.args.m c.requires.int)) c.requires.some)) in
    less_small _ c.stride_modulo.result c.stride_less-stride.result c.stride_less-stride.ensures p c.stride_modulo.ensures.modulus

pub with-requires-clause-x : goal.with-requires-clause-x
with-requires-clause-x c =
    let P : LeafValue → Type 0 = λ v. c.in-Some.x < v.variables in
    subst P (sym c.strides.ensures) (lone_below c.args.self.variables c.args.f.now c.in-Some.x c.requires.f (sym c.in-Some.ensures))

pub with-requires-clause-own : goal.with-requires-clause-own
with-requires-clause-own c =
    let r = subst IsReduced (sym c.stride_less-stride.ensures) (less_reduced _ c.stride_modulo.result) in
    part_own (strided_met c.part.result c.stride_less-stride.result) c.met.result c.met.ensures (met_limited_by c.part.result c.stride_less-stride.result c.part.ensures.own r)

pub with-requires-clause-best : goal.with-requires-clause-best
with-requires-clause-best c = part_best (strided_met c.part.result c.stride_less-stride.result) c.met.result c.met.ensures

pub returns-in-None : goal.returns-in-None
returns-in-None c = ap (λ o. divided_with c.args.self o c.args.f.now.constant c.args.m c.args.left) c.in-None.ensures
