use Rattle.std.proofs.Common.{◌≡◌, ◌∙◌, List, map, ap, subst, sym}
use Rattle.strides.specs.declared.strided.Strided.{Strided}
use Rattle.strides.specs.Strided.{reduced}
use Rattle.product_leaf.specs.StrideLeaves.{AllOwn, leaf_of}
use Rattle.product_leaf.proofs.PartLemmas.{best_again}
use Rattle.product_leaf.proofs.Meanings.{best_all_own, best_is}
use Rattle.product_leaf.proofs.leaf.StrideLeafLeaf.best.Goals as goal

pub of_best-requires-clause-own : goal.of_best-requires-clause-own
of_best-requires-clause-own c = subst AllOwn (sym c.in_ok-copied-in-Some.ensures) (best_all_own _ _ c.in-Some.ensures.best)

pub of_best-requires-clause-best : goal.of_best-requires-clause-best
of_best-requires-clause-best c =
    let h = c.in-Some.ensures.best in
    let P = λ (xs : List Strided). xs ≡ map reduced xs in
    subst P (sym c.in_ok-copied-in-Some.ensures) (best_again h.parts c.in-Some.parts.now h.best h.own)

pub returns-in_ok-copied-in-Some : goal.returns-in_ok-copied-in-Some
returns-in_ok-copied-in-Some c = c.of_best.ensures ∙ ap leaf_of c.in_ok-copied-in-Some.ensures ∙ best_is _ _ c.in-Some.ensures.best
