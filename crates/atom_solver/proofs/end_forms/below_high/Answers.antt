use Rattle.std.proofs.Common.{negsuc, subst, w64, FitsSigned, rules}
use Rattle.std.proofs.lemmas.Int.{to_z-of_z}
use Rattle.atom_solver.specs.Facts.{IsLine}
use Rattle.atom_solver.proofs.Ended.{high_met}
use Rattle.atom_solver.proofs.end_forms.below_high.Goals as goal

pub returns-in-Some : goal.returns-in-Some
returns-in-Some c =
    let t = c.range_at-span.result in
    let f = c.in-Some.form in
    let fits : FitsSigned w64 (t.high) = search rules in
    let l : IsLine c.args.place (negsuc 0) (t.high) f = subst (λ x. IsLine c.args.place (negsuc 0) x f) (to_z-of_z w64 (t.high) fits) (rw c.in-Some.is at c.in_ok-line.ensures) in
    high_met c.args.spans.now c.args.place t f c.requires.place c.range_at-span.ensures.value l
