use Rattle.merged_findings.proofs.Leading.{one_leads}
use Rattle.merged_findings.proofs.laws.one_trees_lead.Goals as goal

pub returns : goal.returns
returns g c = λ m f plausible t is. one_leads m f plausible t is
