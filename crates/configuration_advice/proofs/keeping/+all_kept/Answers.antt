use Rattle.std.proofs.Common.{◌≡◌, ◌+◌, ◌≤◌, suc, length, unsigned_abs, ap, subst, arith, w64, to_z, of_z}
use Rattle.std.proofs.lemmas.Int.{ints}
use Rattle.linear_atoms.specs.Atoms.{AreValues}
use Rattle.cpp_conditions.specs.View.{formula}
use Rattle.configuration_advice.specs.Changes.{SaysKept}
use Rattle.configuration_advice.proofs.KeptTests.{told_all, all_below}
use Rattle.configuration_advice.proofs.keeping.+all_kept.Goals as goal

pub returns-clause-changes : goal.returns-clause-changes
returns-clause-changes t c =
    let value = c.in-Some-Some.value.now in
    let small : unsigned_abs value ≤ 1048576 = (subst AreValues c.in-Some-Some.ensures' c.requires.values).0 in
    let same : to_z w64 (of_z w64 value) ≡ value = omega (arith, ints, small) in
    let says = subst (λ g. SaysKept c.kept.new.atoms.items c.in-Some-Some.feature.now c.args.number g (formula c.in_ok-one.one)) same c.in_ok-one.ensures.says in
    told_all c.args.features.now c.args.given.now c.in-Some-Some.feature.now c.in-Some-Some.behind.now c.in-Some-Some.value.now c.in-Some-Some.others.now c.args.number
    c.kept.new.atoms.items c.all_kept.new.atoms.items c.in_ok-one.one c.in_ok-all.all.items c.push.new.self.items
    c.in-Some-Some.ensures c.in-Some-Some.ensures' c.in_ok-push.ensures.items c.in_ok-all.ensures.extends c.in_ok-one.ensures.below says c.in_ok-all.ensures.changes

pub returns-clause-below : goal.returns-clause-below
returns-clause-below t c =
    all_below c.kept.new.atoms.items c.all_kept.new.atoms.items c.in_ok-one.one c.in_ok-all.all.items c.push.new.self.items
    c.in_ok-push.ensures.items c.in_ok-all.ensures.extends c.in_ok-one.ensures.below c.in_ok-all.ensures.below

pub returns-clause-fits : goal.returns-clause-fits
returns-clause-fits t c = λ count fit room.
    let e : length c.args.given.now ≡ suc (length c.in-Some-Some.others.now) = ap length c.in-Some-Some.ensures' in
    c.in_ok-all.ensures.fits count (c.in_ok-one.ensures.fits count fit (omega (arith, e, room))) (omega (arith, e, room))
