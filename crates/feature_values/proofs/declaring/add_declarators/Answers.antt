use Rattle.std.proofs.Common.{rules, ◌≡◌, ℕ, ◌+◌, ◌<◌, ◌≤◌, unsigned_abs, length, ap, sym, subst, ◌∙◌, w64, FitsSigned, ℤ, to_z, of_z, arith}
use Rattle.std.proofs.lemmas.Int.{ints, to_z-of_z}
use Rattle.std.proofs.lemmas.List.Elements.{All-head, All-tail}
use Rattle.feature_values.specs.declared.feature_uses.Use.{Use}
use Rattle.feature_values.specs.Values.{AreUses, width_at, test_count}
use Rattle.feature_values.proofs.Stepping.{use_more}
use Rattle.feature_values.proofs.Ranges.{IsRange, range_of, width_of}
use Rattle.feature_values.proofs.declaring.add_declarators.Goals as goal

pub width-count-requires-clause-range : goal.width-count-requires-clause-range
width-count-requires-clause-range c =
    let l = All-head (λ (u : Use). u.feature < length c.args.features.now) _ _ (subst (AreUses c.args.features.now) c.in-Some.ensures c.uses.invariant.uses) in
    (range_of c.args.features.now c.in-Some.used.now.feature c.index-features-used.result c.requires.ranges l c.index-features-used.is).range

pub width-count-requires-clause-low : goal.width-count-requires-clause-low
width-count-requires-clause-low c =
    let l = All-head (λ (u : Use). u.feature < length c.args.features.now) _ _ (subst (AreUses c.args.features.now) c.in-Some.ensures c.uses.invariant.uses) in
    (range_of c.args.features.now c.in-Some.used.now.feature c.index-features-used.result c.requires.ranges l c.index-features-used.is).low

pub width-count-requires-clause-high : goal.width-count-requires-clause-high
width-count-requires-clause-high c =
    let l = All-head (λ (u : Use). u.feature < length c.args.features.now) _ _ (subst (AreUses c.args.features.now) c.in-Some.ensures c.uses.invariant.uses) in
    (range_of c.args.features.now c.in-Some.used.now.feature c.index-features-used.result c.requires.ranges l c.index-features-used.is).high

pub add_values_above-requires-clause-numbers : goal.add_values_above-requires-clause-numbers
add_values_above-requires-clause-numbers c =
    let l = All-head (λ (u : Use). u.feature < length c.args.features.now) _ _ (subst (AreUses c.args.features.now) c.in-Some.ensures c.uses.invariant.uses) in
    let t : test_count c.args.features.now c.uses.rest.now ≡ width_at c.args.features.now c.in-Some.used.now.feature + test_count c.args.features.now c.in-Some.behind.now = ap (test_count c.args.features.now) c.in-Some.ensures in
    let k : c.width-count.result ≡ width_at c.args.features.now c.in-Some.used.now.feature = c.width-count.ensures.exact ∙ sym (width_of c.args.features.now c.in-Some.used.now.feature c.index-features-used.result l c.index-features-used.is) in
    omega arith

pub add_values_above-requires-clause-low : goal.add_values_above-requires-clause-low
add_values_above-requires-clause-low c =
    let l = All-head (λ (u : Use). u.feature < length c.args.features.now) _ _ (subst (AreUses c.args.features.now) c.in-Some.ensures c.uses.invariant.uses) in
    let f : FitsSigned w64 c.index-features-used.result.low = search rules in
    subst (λ (z : ℤ). unsigned_abs z ≤ 1048576) (sym (to_z-of_z w64 c.index-features-used.result.low f))
    (range_of c.args.features.now c.in-Some.used.now.feature c.index-features-used.result c.requires.ranges l c.index-features-used.is).low

pub overflow_add-number : goal.overflow_add-number
overflow_add-number c =
    let l = All-head (λ (u : Use). u.feature < length c.args.features.now) _ _ (subst (AreUses c.args.features.now) c.in-Some.ensures c.uses.invariant.uses) in
    let t : test_count c.args.features.now c.uses.rest.now ≡ width_at c.args.features.now c.in-Some.used.now.feature + test_count c.args.features.now c.in-Some.behind.now = ap (test_count c.args.features.now) c.in-Some.ensures in
    let k : c.width-count.result ≡ width_at c.args.features.now c.in-Some.used.now.feature = c.width-count.ensures.exact ∙ sym (width_of c.args.features.now c.in-Some.used.now.feature c.index-features-used.result l c.index-features-used.is) in
    omega arith

pub uses-preserved : goal.uses-preserved
uses-preserved c =
    let l = All-head (λ (u : Use). u.feature < length c.args.features.now) _ _ (subst (AreUses c.args.features.now) c.in-Some.ensures c.uses.invariant.uses) in
    let t : test_count c.args.features.now c.uses.rest.now ≡ width_at c.args.features.now c.in-Some.used.now.feature + test_count c.args.features.now c.in-Some.behind.now = ap (test_count c.args.features.now) c.in-Some.ensures in
    let k : c.width-count.result ≡ width_at c.args.features.now c.in-Some.used.now.feature = c.width-count.ensures.exact ∙ sym (width_of c.args.features.now c.in-Some.used.now.feature c.index-features-used.result l c.index-features-used.is) in
    let f : FitsSigned w64 c.index-features-used.result.low = search rules in
    record {
      made = use_more c.uses.number c.width-count.result c.args.features.now c.in-Some.used.now c.index-features-used.result _ _ c.from_vec.result c.uses.made.items c.push.new.self.items c.add_values_above.new.made.items _ c.uses.rest.now c.in-Some.behind.now
          c.in-Some.ensures l c.index-features-used.is c.width-count.ensures.exact c.in_ok-push.ensures.items c.in_ok-add_values_above.ensures c.uses.invariant.made (c.from_vec.ensures ∙ c.new.ensures.items) (omega (arith, ints)) (omega (arith, ints));
      numbers = omega arith;
      uses = All-tail (λ (u : Use). u.feature < length c.args.features.now) _ _ (subst (AreUses c.args.features.now) c.in-Some.ensures c.uses.invariant.uses);
    }
