use Rattle.std.proofs.Common.{to_z, of_z, w64, int_div, ap, sym, subst, ◌∙◌}
use Rattle.std.specs.Ordering.{int_eq}
use Rattle.std.proofs.lemmas.Int.{to_z-of_z}
use Rattle.c_tree.specs.Value.{IsInt}
use Rattle.product_leaf.proofs.Meanings.{int_back}
use Rattle.congruence_leaf.proofs.Sizes.{own_in_int}
use Rattle.congruence_leaf.proofs.remainders.has_one_quotient.Goals as goal

pub quotient-low-requires-clause-n : goal.quotient-low-requires-clause-n
quotient-low-requires-clause-n c = let i = (own_in_int c.args.d c.requires.own).low in subst IsInt (sym (int_back c.args.d.low i)) i

pub quotient-high-requires-clause-n : goal.quotient-high-requires-clause-n
quotient-high-requires-clause-n c = let i = (own_in_int c.args.d c.requires.own).high in subst IsInt (sym (int_back c.args.d.high i)) i

pub returns : goal.returns
returns c =
    let i = own_in_int c.args.d c.requires.own in
    let mb = int_back c.args.m c.requires.int in
    let p = to_z-of_z w64 c.quotient-low.result c.quotient-low.ensures.fits ∙ c.quotient-low.ensures.value ∙ ap (λ x. int_div x (to_z w64 (of_z w64 c.args.m))) (int_back c.args.d.low i.low) ∙ ap (λ x. int_div c.args.d.low x) mb in
    let q = to_z-of_z w64 c.quotient-high.result c.quotient-high.ensures.fits ∙ c.quotient-high.ensures.value ∙ ap (λ x. int_div x (to_z w64 (of_z w64 c.args.m))) (int_back c.args.d.high i.high) ∙ ap (λ x. int_div c.args.d.high x) mb in
    c.is_same.ensures ∙ ap (λ x. int_eq x (to_z w64 (of_z w64 c.quotient-high.result))) p ∙ ap (λ x. int_eq (int_div c.args.d.low c.args.m) x) q
