use Rattle.std.proofs.lemmas.Result.{IfOk-weaker}
use Rattle.std.proofs.Common.{◌≡◌, ℤ, pos, ◌≤ℤ◌, List, Bool, true}
use Rattle.linear_atoms.specs.Forms.{form_at}
use Rattle.cpp_conditions.specs.Numbering.{vector_at}
use Rattle.atom_solver.specs.Facts.{AreMet, IsNumber}
use Rattle.atom_solver.specs.Truths.{Knows}
use Rattle.atom_solver.proofs.Refuted.{from_zero}
use Rattle.atom_solver.proofs.refuting.is_clash.Goals as goal

pub returns : goal.returns
returns c =
    let ends = c.args.ends.now in
    let atoms = c.args.atoms.now in
    let known = c.args.known.now in
    let z : IsNumber (pos 0) c.in-Some.zero = rw c.in-Some.is at c.in_ok-number.ensures in
    IfOk-weaker c.adds_up.result (λ (answer : Bool). answer ≡ true → (values : List ℤ) → AreMet values ends → Knows known (vector_at atoms values) → pos 0 ≤ℤ form_at c.in-Some.zero values → ⊥)
    (λ (answer : Bool). answer ≡ true → (values : List ℤ) → AreMet values ends → Knows known (vector_at atoms values) → ⊥)
    (λ answer k done vs m w. k done vs m w (from_zero c.in-Some.zero vs z))
    c.adds_up.ensures
