use Rattle.std.proofs.Common.{◌<◌, length, to_z, of_z, w64, ap, sym, subst, ◌∙◌}
use Rattle.leaf_domain.specs.Ranges.{IsInInt}
use Rattle.leaf_domain.specs.Forms.{IsFormNumber}
use Rattle.strides.specs.Strided.{range_of}
use Rattle.product_leaf.specs.StrideLeaves.{part_at}
use Rattle.product_leaf.specs.Laws.Parts.{read_own}
use Rattle.congruence_leaf.specs.Congruences.{reach_by, moved_within}
use Rattle.congruence_leaf.specs.Laws.Leaves.{lone_below}
use Rattle.congruence_leaf.proofs.DividedBy.{number_back}
use Rattle.congruence_leaf.proofs.Sizes.{own_in_int}
use Rattle.congruence_leaf.proofs.results.reach.Goals as goal

pub bounds-parts-x : goal.bounds-parts-x
bounds-parts-x c = lone_below (length c.args.parts.now) c.args.f.now c.in-Some.x c.requires.form (sym c.in-Some.ensures)

pub moved_within-requires-clause-range : goal.moved_within-requires-clause-range
moved_within-requires-clause-range c =
    let l : c.in-Some.x < length c.args.parts.now = lone_below (length c.args.parts.now) c.args.f.now c.in-Some.x c.requires.form (sym c.in-Some.ensures) in
    subst IsInInt (sym c.range.ensures) (own_in_int (part_at c.args.parts.now c.in-Some.x) (read_own c.args.parts.now c.in-Some.x l c.requires.own))

pub moved_within-requires-clause-by : goal.moved_within-requires-clause-by
moved_within-requires-clause-by c = subst IsFormNumber (sym (number_back c.args.f.now.constant c.requires.form.constant)) c.requires.form.constant

pub returns-in-None-clause-value : goal.returns-in-None-clause-value
returns-in-None-clause-value c = ap (λ o. reach_by c.args.parts.now o c.args.f.now.constant) c.in-None.ensures

pub returns-in-Some-clause-value : goal.returns-in-Some-clause-value
returns-in-Some-clause-value c =
    c.moved_within.ensures.value ∙ ap (λ r. moved_within (to_z w64 (of_z w64 c.args.f.now.constant)) r) c.range.ensures
    ∙ ap (λ n. moved_within n (range_of (part_at c.args.parts.now c.in-Some.x))) (number_back c.args.f.now.constant c.requires.form.constant)
    ∙ ap (λ o. reach_by c.args.parts.now o c.args.f.now.constant) c.in-Some.ensures
