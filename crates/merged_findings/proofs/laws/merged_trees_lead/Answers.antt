use Rattle.merged_findings.proofs.Leading.{merged_leads}
use Rattle.merged_findings.proofs.laws.merged_trees_lead.Goals as goal

pub returns : goal.returns
returns g c = λ m f plausible t is. merged_leads m f plausible t is
