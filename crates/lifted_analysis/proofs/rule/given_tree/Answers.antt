use Rattle.std.proofs.Common.{◌≡◌, ◌+◌, ◌-◌, ◌<◌, ap, sym, subst, ◌∙◌, inr, refl, length, drop, get_or, arith, rules, List, ℕ, Some}
use Rattle.std.specs.Prelude.{slice_get}
use Rattle.std.proofs.lemmas.List.{drop_all}
use Rattle.std.proofs.lemmas.Option.{slice_get_read}
use Rattle.cpp_conditions.specs.View.{formula}
use Rattle.decision_tree.specs.View.{numbered, plain}
use Rattle.tree_unify.specs.Formulas.{HasNumber}
use Rattle.lifted_analysis.specs.declared.lines.LoopLine.{LoopLine}
use Rattle.lifted_analysis.specs.States.{IsLifted}
use Rattle.lifted_analysis.proofs.LineIndexLemmas.{position_within}
use Rattle.lifted_analysis.proofs.RuleLemmas.{region_in, given_by, one_position, all_positions}
use Rattle.lifted_analysis.proofs.rule.given_tree.Goals as goal

pub loop-k-init : goal.loop-k-init
loop-k-init g c =
    let lines = c.args.family.now.lines.now in
    let ks = c.at-positions.result.now in
    subst (λ (xs : List ℕ). IsLifted g.L.Leaf.value c.args.family.now c.args.tables.now.leaves c.stepped.new.tables.leaves (λ v d. given_by g.L.Leaf.meaning lines xs v d) (plain c.args.start.now) (numbered c.in_ok-made.made))
    (sym (drop_all (length ks) ks (omega arith))) c.in_ok-made.ensures

pub bounds-family-position : goal.bounds-family-position
bounds-family-position g c =
    let ks = c.at-positions.result.now in
    let i = c.loop-k.k - 1 in
    let lt : i < length ks = omega (arith, c.loop-k.auto.k, c.loop-k-test.true) in
    position_within c.args.family.now.lines.now ks c.args.place i (c.at-positions.ensures ∙ c.requires.index c.args.place) lt

pub offset_bounds-family-position : goal.offset_bounds-family-position
offset_bounds-family-position g c =
    let lines = c.args.family.now.lines.now in
    let ks = c.at-positions.result.now in
    let i = c.loop-k.k - 1 in
    let lt : i < length ks = omega (arith, c.loop-k.auto.k, c.loop-k-test.true) in
    let within : get_or ks i 0 < length lines = position_within lines ks c.args.place i (c.at-positions.ensures ∙ c.requires.index c.args.place) lt in
    search rules

pub region_tree-requires-clause-region : goal.region_tree-requires-clause-region
region_tree-requires-clause-region g c =
    let ks = c.at-positions.result.now in
    let i = c.loop-k.k - 1 in
    let lt : i < length ks = omega (arith, c.loop-k.auto.k, c.loop-k-test.true) in
    c.requires.family.regions (get_or ks i 0) c.index-family-position.result (position_within c.args.family.now.lines.now ks c.args.place i (c.at-positions.ensures ∙ c.requires.index c.args.place) lt)

pub region_tree-requires-clause-bounds : goal.region_tree-requires-clause-bounds
region_tree-requires-clause-bounds g c =
    let ks = c.at-positions.result.now in
    let i = c.loop-k.k - 1 in
    let lt : i < length ks = omega (arith, c.loop-k.auto.k, c.loop-k-test.true) in
    c.requires.family.bounds (get_or ks i 0) c.index-family-position.result (position_within c.args.family.now.lines.now ks c.args.place i (c.at-positions.ensures ∙ c.requires.index c.args.place) lt)

pub region_tree-requires-clause-tests : goal.region_tree-requires-clause-tests
region_tree-requires-clause-tests g c =
    let lines = c.args.family.now.lines.now in
    let ks = c.at-positions.result.now in
    let i = c.loop-k.k - 1 in
    let p = get_or ks i 0 in
    let lt : i < length ks = omega (arith, c.loop-k.auto.k, c.loop-k-test.true) in
    let within : p < length lines = position_within lines ks c.args.place i (c.at-positions.ensures ∙ c.requires.index c.args.place) lt in
    λ k w. inr (inr (region_in k lines p c.index-family-position.result within c.index-family-position.is (subst (λ (l : LoopLine). HasNumber k (formula l.region)) (sym c.index-family-position.is) w)))

pub loop-k-preserved : goal.loop-k-preserved
loop-k-preserved g c =
    let value = g.L.Leaf.value in
    let M = g.L.Leaf.meaning in
    let family = c.args.family.now in
    let lines = family.lines.now in
    let ks = c.at-positions.result.now in
    let a = c.args.tables.now.leaves in
    let b = c.loop-k.tables.leaves in
    let i = c.loop-k.k - 1 in
    let p = get_or ks i 0 in
    let line = get_or lines p c.index-family-position.result in
    let lt : i < length ks = omega (arith, c.loop-k.auto.k, c.loop-k-test.true) in
    let within : p < length lines = position_within lines ks c.args.place i (c.at-positions.ensures ∙ c.requires.index c.args.place) lt in
    let e : line ≡ get_or lines p line = ap (λ d. get_or lines p d) c.index-family-position.is in
    let there : slice_get lines p ≡ Some line = slice_get_read lines (length lines) p line refl within e in
    let back : i + 1 ≡ c.loop-k.k = omega (arith, c.loop-k-test.true) in
    one_position value M family a b c.region_tree.new.tables.leaves lines ks i p line (plain c.args.start.now) (numbered c.loop-k.made) (numbered c.in_ok-made-2.made) lt refl there
    (subst (λ n. IsLifted value family a b (λ v d. given_by M lines (drop n ks) v d) (plain c.args.start.now) (numbered c.loop-k.made)) (sym back) c.loop-k.invariant)
    c.in_ok-made-2.ensures

pub returns : goal.returns
returns g c =
    let value = g.L.Leaf.value in
    let M = g.L.Leaf.meaning in
    let family = c.args.family.now in
    let lines = family.lines.now in
    let ks = c.at-positions.result.now in
    let a = c.args.tables.now.leaves in
    let b = c.loop-k.tables.leaves in
    let none : c.loop-k.k ≡ 0 = omega (arith, c.loop-k-test.false) in
    all_positions value M family a b lines ks c.args.place (plain c.args.start.now) (numbered c.loop-k.made) (c.at-positions.ensures ∙ c.requires.index c.args.place)
    (subst (λ n. IsLifted value family a b (λ v d. given_by M lines (drop n ks) v d) (plain c.args.start.now) (numbered c.loop-k.made)) none c.loop-k.invariant)
