use Rattle.std.proofs.Common.{◌≡◌, ◌∙◌, length, true, false, ap, subst, sym, IfOk}
use Rattle.std.specs.List.{list_any}
use Rattle.leaf_domain.specs.Leaves.{LeafValue, nothing_of}
use Rattle.strides.specs.Strided.{is_bare, narrowed}
use Rattle.product_leaf.specs.StrideLeaves.{stride_parts, AllOwn}
use Rattle.leaf_domain.proofs.Variables.{length_zipped}
use Rattle.nonrelational_leaf.proofs.PartLists.{narrowed_own}
use Rattle.product_leaf.specs.Laws.StrideLaws.{stride_part_laws}
use Rattle.product_leaf.proofs.Meanings.{own_count, best_count, best_all_own, few_zipped, narrow_is, settled_bare, settled_full}
use Rattle.product_leaf.proofs.leaf.StrideLeafLeaf.narrow.Goals as goal

pub narrowed-requires-clause-same : goal.narrowed-requires-clause-same
narrowed-requires-clause-same c = own_count _ _ c.in-Some.ensures.standing ∙ c.requires ∙ sym (best_count _ _ c.in-Some-best_parts.ensures.best)

pub narrowed-requires-clause-own : goal.narrowed-requires-clause-own
narrowed-requires-clause-own c = c.in-Some.ensures.standing.own

pub standing_as-requires-clause-few : goal.standing_as-requires-clause-few
standing_as-requires-clause-few c =
    few_zipped (narrowed c.args.thresholds.now) c.in-Some.parts.now c.in-Some-best_parts.others.now _ c.args.self.now.variables
    (own_count _ _ c.in-Some.ensures.standing) (best_count _ _ c.in-Some-best_parts.ensures.best ∙ sym c.requires)
    c.in-Some.ensures.few c.in_ok-narrowed.ensures

pub standing_as-requires-clause-own : goal.standing_as-requires-clause-own
standing_as-requires-clause-own c =
    let e : list_any is_bare c.in_ok-narrowed.narrowed.items ≡ false = ap (list_any is_bare) (sym c.deref.ensures.value) ∙ sym c.has_bare.ensures ∙ c.if-has_bare.false in
    subst AllOwn (sym c.in_ok-narrowed.ensures)
    (narrowed_own stride_parts stride_part_laws _ _ _ c.in-Some.ensures.standing.own (best_all_own _ _ c.in-Some-best_parts.ensures.best) (ap (list_any is_bare) (sym c.in_ok-narrowed.ensures) ∙ e))

pub returns-then-has_bare : goal.returns-then-has_bare
returns-then-has_bare c =
    let e : list_any is_bare c.in_ok-narrowed.narrowed.items ≡ true = ap (list_any is_bare) (sym c.deref.ensures.value) ∙ sym c.has_bare.ensures ∙ c.if-has_bare.true in
    let p : length c.in-Some.parts.now ≡ c.args.self.now.variables = own_count _ _ c.in-Some.ensures.standing in
    let q : length c.in-Some-best_parts.others.now ≡ c.args.other.now.variables = best_count _ _ c.in-Some-best_parts.ensures.best in
    let l : length c.in_ok-narrowed.narrowed.items ≡ c.args.self.now.variables =
    ap length c.in_ok-narrowed.ensures ∙ length_zipped (narrowed c.args.thresholds.now) c.in-Some.parts.now c.in-Some-best_parts.others.now (p ∙ c.requires ∙ sym q) ∙ p in
    c.none.ensures ∙ ap nothing_of c.count.ensures.value ∙ settled_bare c.in_ok-narrowed.narrowed.items c.args.self.now.variables e l
    ∙ narrow_is c.args.thresholds.now c.args.self.now c.args.other.now _ _ c.in_ok-narrowed.narrowed.items c.in-Some.ensures.standing c.in-Some-best_parts.ensures.best c.in_ok-narrowed.ensures

pub returns-else-has_bare : goal.returns-else-has_bare
returns-else-has_bare c =
    let e : list_any is_bare c.in_ok-narrowed.narrowed.items ≡ false = ap (list_any is_bare) (sym c.deref.ensures.value) ∙ sym c.has_bare.ensures ∙ c.if-has_bare.false in
    let P : LeafValue → Type 0 = λ u. IfOk c.standing_as.result (λ leaf. leaf ≡ u) in
    subst P
    (settled_full c.in_ok-narrowed.narrowed.items e ∙ narrow_is c.args.thresholds.now c.args.self.now c.args.other.now _ _ c.in_ok-narrowed.narrowed.items c.in-Some.ensures.standing c.in-Some-best_parts.ensures.best c.in_ok-narrowed.ensures)
    c.standing_as.ensures
