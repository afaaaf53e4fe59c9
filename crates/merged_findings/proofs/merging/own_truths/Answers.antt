use Rattle.std.proofs.Common.{rules}
use Rattle.merged_findings.proofs.Made.{same_mapped}
use Rattle.merged_findings.proofs.merging.own_truths.Goals as goal

pub returns-clause-same : goal.returns-clause-same
returns-clause-same g c =
    same_mapped c.map_in.result _ c.args.t.now c.map_in.new.forest (λ a b h. let k = h.says in let e = h.shows in search rules) c.requires c.map_in.ensures.mapped c.map_in.ensures.tree
