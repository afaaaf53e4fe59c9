use Rattle.std.proofs.Common.{pos, ◌-ℤ◌, subst, w64, FitsSigned, rules, to_z, of_z}
use Rattle.std.proofs.lemmas.Int.{to_z-of_z}
use Rattle.atom_solver.specs.Facts.{IsLine}
use Rattle.atom_solver.proofs.Ended.{low_met}
use Rattle.atom_solver.proofs.end_forms.above_low.Goals as goal

pub returns-in-Some : goal.returns-in-Some
returns-in-Some c =
    let t = c.range_at-span.result in
    let f = c.in-Some.form in
    let fits : FitsSigned w64 t.low = search rules in
    let few : FitsSigned w64 (pos 0 -ℤ t.low) = search rules in
    let l : IsLine c.args.place (pos 1) (pos 0 -ℤ t.low) f = subst (λ x. IsLine c.args.place (pos 1) x f) (to_z-of_z w64 (pos 0 -ℤ t.low) few)
    (subst (λ y. IsLine c.args.place (pos 1) (to_z w64 (of_z w64 (pos 0 -ℤ y))) f) (to_z-of_z w64 t.low fits) (rw c.in-Some.is at c.in_ok-line.ensures)) in
    low_met c.args.spans.now c.args.place t f c.requires.place c.range_at-span.ensures.value l
