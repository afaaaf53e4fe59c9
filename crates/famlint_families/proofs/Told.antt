-- Where the trees that are told lead.
use Rattle.std.specs.Prelude.{ℕ, Bool, List}
use Rattle.linear_atoms.specs.declared.regions.Regions.{Regions}
use Rattle.linear_atoms.specs.declared.regions.Regions.TheVariants.{Paths, Merged}
use Rattle.cpp_conditions.specs.Propositions.{Proposition}
use Rattle.decision_tree.specs.Plain.{Plain}
use Rattle.merged_findings.specs.Merged.{IsTreeWhere}
use Rattle.merged_findings.proofs.Leading.{merged_leads, one_leads}
use Rattle.famlint_families.specs.Told.{IsToldTree}

pub told_leads : {A : Type 0} (r : Regions) (m : ℕ) (f : List Bool → A) (p : Proposition ℕ) (t : Plain A) → IsToldTree r m f p t → IsTreeWhere m f p t
told_leads Paths m f p t h = one_leads m f p t h
told_leads Merged m f p t h = merged_leads m f p t h
