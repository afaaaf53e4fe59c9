-- The trees that a report is told by: the one tree of each function, or, merged, that tree restricted to what is plausible.
use Rattle.std.specs.Prelude.{ℕ, Bool, List}
use Rattle.linear_atoms.specs.declared.regions.Regions.{Regions}
use Rattle.linear_atoms.specs.declared.regions.Regions.TheVariants.{Paths, Merged}
use Rattle.cpp_conditions.specs.Propositions.{Proposition}
use Rattle.decision_tree.specs.Plain.{Plain}
use Rattle.lifted_analysis.specs.Canon.{IsTreeOf}
use Rattle.merged_findings.specs.Merged.{IsMergedTree}

-- the tree of f over m tests
abbrev pub IsToldTree : {A : Type 0} → Regions → ℕ → (List Bool → A) → Proposition ℕ → Plain A → Type 0
IsToldTree Paths m f plausible t = IsTreeOf m f t
IsToldTree Merged m f plausible t = IsMergedTree m f plausible t
