use Rattle.std.proofs.lemmas.Result.{IfOk-weaker}
use Rattle.std.proofs.Common.{◌≡◌, ℕ, Bool, List, true, false, not, get_or, sym, subst}
use Rattle.atom_solver.specs.Clauses.{IsVoid}
use Rattle.atom_solver.specs.Truths.{Knows}
use Rattle.atom_solver.proofs.Claused.{void_both}
use Rattle.atom_solver.proofs.branching.+is_refuted.Goals as goal

pub returns : goal.returns
returns t c =
    let case = c.args.case.now in
    let ends = case.ends.now in
    let atoms = case.atoms.now in
    let fs = case.clauses.now in
    let old = c.args.known.now in
    let new = c.is_void.new.known in
    let n = c.in-Some.number in
    let truth = c.preferred-first.result in
    let one = c.deref_mut.result.now in
    let other = c.deref_mut-2.result.now in
    let f : (v : List Bool) → Knows new v → get_or v n false ≡ truth → Knows one v = λ v k e. subst (λ x. Knows x v) (sym c.deref_mut.ensures.value) (c.in_ok-one.ensures v k e) in
    let g : (v : List Bool) → Knows new v → get_or v n false ≡ not truth → Knows other v = λ v k e. subst (λ x. Knows x v) (sym c.deref_mut-2.ensures.value) (c.in_ok-other.ensures v k e) in
    IfOk-weaker c.is_refuted-2.result (λ (answer : Bool × ℕ). answer.0 ≡ true → IsVoid ends atoms other fs) (λ (answer : Bool × ℕ). answer.0 ≡ true → IsVoid ends atoms old fs)
    (λ answer k done. void_both ends atoms old new one other fs n truth c.is_void.ensures.knows f g (c.in_ok-is_out.ensures c.if-not-is_out.false) (k done))
    c.is_refuted-2.ensures
