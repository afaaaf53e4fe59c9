use Rattle.std.proofs.Common.{◌≡◌, ◌∙◌, List, Option, IfSome, map, ap, subst, sym}
use Rattle.leaf_domain.specs.Leaves.{nothing_of}
use Rattle.strides.specs.declared.strided.Strided.{Strided}
use Rattle.strides.specs.Strided.{reduced, IsOwn}
use Rattle.product_leaf.specs.StrideLeaves.{AllOwn, leaf_of}
use Rattle.product_leaf.proofs.PartLemmas.{best_again, set_again, set_own}
use Rattle.product_leaf.proofs.Meanings.{best_all_own, with_part_is, with_nothing_is}
use Rattle.product_leaf.proofs.leaf.StrideLeaf.with.Goals as goal

pub of_best-requires-clause-own : goal.of_best-requires-clause-own
of_best-requires-clause-own c =
    let P = λ (o : Option Strided). IfSome o IsOwn in
    let k : IsOwn c.in-Some-part.part = subst P c.in-Some-part.is c.requires.own in
    subst AllOwn (sym c.in_ok-replaced-in-Some-part.ensures) (set_own c.in-Some.parts.now c.args.x c.in-Some-part.part (best_all_own _ _ c.in-Some.ensures.best) k)

pub of_best-requires-clause-best : goal.of_best-requires-clause-best
of_best-requires-clause-best c =
    let h = c.in-Some.ensures.best in
    let P = λ (o : Option Strided). IfSome o (λ b. b ≡ reduced b) in
    let k : c.in-Some-part.part ≡ reduced c.in-Some-part.part = subst P c.in-Some-part.is c.requires.best in
    let Q = λ (xs : List Strided). xs ≡ map reduced xs in
    subst Q (sym c.in_ok-replaced-in-Some-part.ensures)
    (set_again c.in-Some.parts.now c.args.x c.in-Some-part.part (best_again h.parts c.in-Some.parts.now h.best h.own) k)

pub returns-in-None : goal.returns-in-None
returns-in-None c = λ b e.
    c.none-in-None.ensures ∙ ap nothing_of c.count-in-None.ensures.value
    ∙ with_nothing_is c.args.self.now c.in-Some.parts.now c.args.x b c.in-Some.ensures.best (sym c.in-None.is ∙ e)

pub returns-in_ok-replaced-in-Some-part : goal.returns-in_ok-replaced-in-Some-part
returns-in_ok-replaced-in-Some-part c = λ b e.
    c.of_best.ensures ∙ ap leaf_of c.in_ok-replaced-in-Some-part.ensures
    ∙ with_part_is c.args.self.now c.in-Some.parts.now c.args.x c.in-Some-part.part b c.in-Some.ensures.best (sym c.in-Some-part.is ∙ e)
