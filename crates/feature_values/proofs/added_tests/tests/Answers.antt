use Rattle.std.proofs.Common.{rules, ◌<◌, ◌≤◌, unsigned_abs, length, sym, subst, w64, FitsSigned, ℤ, to_z, of_z, arith}
use Rattle.std.proofs.lemmas.Int.{ints, to_z-of_z}
use Rattle.std.proofs.lemmas.List.Elements.{All-head, All-tail}
use Rattle.feature_values.specs.declared.feature_uses.Use.{Use}
use Rattle.feature_values.specs.Values.{AreUses}
use Rattle.feature_values.proofs.Stepping.{use_tested}
use Rattle.feature_values.proofs.Ranges.{range_of}
use Rattle.feature_values.proofs.added_tests.tests.Goals as goal

pub width-requires-clause-range : goal.width-requires-clause-range
width-requires-clause-range c =
    let l = All-head (λ (u : Use). u.feature < length c.args.features.now) _ _ (subst (AreUses c.args.features.now) c.in-Some.ensures c.uses.invariant.uses) in
    (range_of c.args.features.now c.in-Some.used.now.feature c.index-features-used.result c.requires.ranges l c.index-features-used.is).range

pub width-requires-clause-low : goal.width-requires-clause-low
width-requires-clause-low c =
    let l = All-head (λ (u : Use). u.feature < length c.args.features.now) _ _ (subst (AreUses c.args.features.now) c.in-Some.ensures c.uses.invariant.uses) in
    (range_of c.args.features.now c.in-Some.used.now.feature c.index-features-used.result c.requires.ranges l c.index-features-used.is).low

pub width-requires-clause-high : goal.width-requires-clause-high
width-requires-clause-high c =
    let l = All-head (λ (u : Use). u.feature < length c.args.features.now) _ _ (subst (AreUses c.args.features.now) c.in-Some.ensures c.uses.invariant.uses) in
    (range_of c.args.features.now c.in-Some.used.now.feature c.index-features-used.result c.requires.ranges l c.index-features-used.is).high

pub add_tests_above-requires : goal.add_tests_above-requires
add_tests_above-requires c =
    let l = All-head (λ (u : Use). u.feature < length c.args.features.now) _ _ (subst (AreUses c.args.features.now) c.in-Some.ensures c.uses.invariant.uses) in
    let f : FitsSigned w64 c.index-features-used.result.low = search rules in
    record {
      low = subst (λ (z : ℤ). unsigned_abs z ≤ 1048576) (sym (to_z-of_z w64 c.index-features-used.result.low f)) (range_of c.args.features.now c.in-Some.used.now.feature c.index-features-used.result c.requires.ranges l c.index-features-used.is).low;
    }

pub uses-preserved : goal.uses-preserved
uses-preserved c =
    let l = All-head (λ (u : Use). u.feature < length c.args.features.now) _ _ (subst (AreUses c.args.features.now) c.in-Some.ensures c.uses.invariant.uses) in
    let f : FitsSigned w64 c.index-features-used.result.low = search rules in
    record {
      made = use_tested c.width.result c.args.features.now c.in-Some.used.now c.index-features-used.result _ _ _ _ c.uses.rest.now c.in-Some.behind.now
          c.in-Some.ensures l c.index-features-used.is c.width.ensures.exact c.in_ok-add_tests_above.ensures c.uses.invariant.made (omega (arith, ints));
      uses = All-tail (λ (u : Use). u.feature < length c.args.features.now) _ _ (subst (AreUses c.args.features.now) c.in-Some.ensures c.uses.invariant.uses);
    }
