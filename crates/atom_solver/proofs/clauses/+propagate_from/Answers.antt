use Rattle.std.proofs.lemmas.Result.{IfOk-weaker}
use Rattle.std.proofs.Common.{◌≡◌, Bool, true}
use Rattle.atom_solver.specs.Clauses.{IsDeniedWhere}
use Rattle.atom_solver.proofs.Claused.{denied_again}
use Rattle.atom_solver.proofs.clauses.+propagate_from.Goals as goal

pub returns-clause-out : goal.returns-clause-out
returns-clause-out t c =
    let atoms = c.args.atoms.now in
    let old = c.args.known.now in
    let mid = c.round_from.new.known in
    let fs = c.args.clauses.now in
    IfOk-weaker c.propagate_from.result (λ (is_out : Bool). is_out ≡ true → IsDeniedWhere atoms mid fs) (λ (is_out : Bool). is_out ≡ true → IsDeniedWhere atoms old fs)
    (λ is_out d done. denied_again atoms old mid fs c.round_from.ensures.knows (d done))
    c.propagate_from.ensures.out
