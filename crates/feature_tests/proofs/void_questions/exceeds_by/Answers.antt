use Rattle.std.proofs.Common.{◌≤◌, unsigned_abs, ◌∙◌, subst, sym, arith, w64, to_z, of_z}
use Rattle.std.proofs.lemmas.Int.{to_z-of_z}
use Rattle.feature_tests.proofs.Tested.{gap}
use Rattle.feature_tests.proofs.void_questions.exceeds_by.Goals as goal

pub returns : goal.returns
returns c =
    let h : unsigned_abs c.args.least ≤ 1048576 = c.requires.least in
    let k : unsigned_abs (to_z w64 (of_z w64 c.args.least)) ≤ 2147483649 = subst (λ x. unsigned_abs x ≤ 2147483649) (sym (to_z-of_z w64 c.args.least c.ranges.least)) (omega arith) in
    gap 5 c.args.left c.args.right _ (to_z w64 (of_z w64 c.args.least)) k (c.in_ok-terms.ensures ∙ c.in_ok-form.ensures) c.requires.order c.requires.right
