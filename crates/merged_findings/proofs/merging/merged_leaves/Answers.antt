use Rattle.std.proofs.Common.{refl}
use Rattle.decision_tree.specs.View.{plain}
use Rattle.merged_findings.proofs.Made.{merged_made}
use Rattle.merged_findings.proofs.merging.merged_leaves.Goals as goal

pub returns-clause-merged : goal.returns-clause-merged
returns-clause-merged g c =
    let decides = c.equality_is_exact.ensures.decides in
    merged_made c.restrict_in.result _ (λ a b h. (decides a b).0 h) (λ x. (decides x x).1 refl) (plain c.args.t.now) (plain c.in_ok-own.own) (plain c.args.care.now) c.in_ok-own.ensures.same c.restrict_in.ensures.restricted
