use Rattle.std.proofs.Common.{ap, ◌∙◌, subst, sym, pos, arith}
use Rattle.std.proofs.lemmas.Int.{ints}
use Rattle.strides.specs.Strided.{IsOwn}
use Rattle.strides.proofs.StridedLaws.{point_own}
use Rattle.product_leaf.specs.StrideLeaves.{part_at}
use Rattle.product_leaf.specs.Laws.Parts.{read_own}
use Rattle.product_leaf.proofs.Meanings.{best_all_own, best_parts_are}
use Rattle.congruence_leaf.proofs.Parts.{none_part, part_below}
use Rattle.congruence_leaf.proofs.leaf.CongruenceLeaf.part.Goals as goal

pub returns-in-None-clause-value : goal.returns-in-None-clause-value
returns-in-None-clause-value c = c.point.ensures ∙ none_part c.args.self.now c.args.x c.in-None.ensures.nothing

pub returns-in-None-clause-own : goal.returns-in-None-clause-own
returns-in-None-clause-own c = subst IsOwn (sym c.point.ensures) (point_own (pos 0) (omega (arith, ints)) (omega (arith, ints)))

pub returns-in-Some-clause-value : goal.returns-in-Some-clause-value
returns-in-Some-clause-value c = ap (λ ps. part_at ps c.args.x) (best_parts_are _ _ c.in-Some.ensures.best)

pub returns-in-Some-clause-own : goal.returns-in-Some-clause-own
returns-in-Some-clause-own c =
    read_own c.in-Some.parts.now c.args.x (part_below c.args.self.now c.in-Some.parts.now c.args.x c.in-Some.ensures.best c.requires) (best_all_own _ _ c.in-Some.ensures.best)
