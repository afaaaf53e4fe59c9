use Rattle.std.proofs.Common.{subst, w64}
use Rattle.std.proofs.lemmas.Int.{to_z-of_z}
use Rattle.atom_solver.specs.Facts.{IsSum, IsTimes}
use Rattle.atom_solver.proofs.Refuted.{mixed_is}
use Rattle.atom_solver.proofs.refuting.mixed.Goals as goal

pub returns : goal.returns
returns c =
    let a = c.args.left.now in
    let b = c.args.right.now in
    let p : IsTimes a c.args.by c.in-Some.first = subst (λ x. IsTimes a x c.in-Some.first) (to_z-of_z w64 c.args.by c.ranges.by) (rw c.in-Some.is at c.in_ok-times.ensures) in
    let q : IsTimes b c.args.with c.in-Some-2.second = subst (λ x. IsTimes b x c.in-Some-2.second) (to_z-of_z w64 c.args.with c.ranges.with) (rw c.in-Some-2.is at c.in_ok-times-in-Some.ensures) in
    let s : IsSum c.in-Some.first c.in-Some-2.second c.in-Some-3.made = rw c.in-Some-3.is at c.in_ok-sum-in-Some-2.ensures in
    mixed_is a b c.in-Some.first c.in-Some-2.second c.in-Some-3.made c.args.by c.args.with c.requires.by c.requires.with p q s
