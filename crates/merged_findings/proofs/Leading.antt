-- Where merged trees lead.
use Rattle.std.proofs.Common.{◌≡◌, ◌∙◌, ℕ, Bool, List, length, sym}
use Rattle.cpp_conditions.specs.Propositions.{Proposition}
use Rattle.decision_tree.specs.Plain.{Plain, HasLeaf}
use Rattle.decision_tree.proofs.Reached.{reached}
use Rattle.lifted_analysis.specs.Canon.{IsTreeOf}
use Rattle.merged_findings.specs.Merged.{IsMergedTree, IsTreeWhere}
use Rattle.merged_findings.proofs.Restricting.{restricted_leads, restricted_below, restricted_leaves}

module _ {A : Type 0} (m : ℕ) (f : List Bool → A) (plausible : Proposition ℕ) where
  leaves_of : (t : Plain A) → IsTreeOf m f t → (x : A) → HasLeaf x t → (v : List Bool) × (length v ≡ m) × (f v ≡ x)
  leaves_of t h x at = let there = reached m t x h.reduced h.tests at in (there.0, there.1, sym (h.leads there.0 there.1) ∙ there.2)

  pub one_leads : (t : Plain A) → IsTreeOf m f t → IsTreeWhere m f plausible t
  one_leads t h = record { tests = h.tests; leads = λ v long is. h.leads v long; leaves = leaves_of t h }

  pub merged_leads : (t : Plain A) → IsMergedTree m f plausible t → IsTreeWhere m f plausible t
  merged_leads t h = record {
    tests = restricted_below m h.whole h.care t h.whole_is.tests h.merged;
    leads = λ v long is. restricted_leads v h.whole h.care t (h.care_is.leads v long ∙ is) h.merged ∙ h.whole_is.leads v long;
    leaves = λ x at. leaves_of h.whole h.whole_is x (restricted_leaves h.whole h.care t h.merged x at);
  }
