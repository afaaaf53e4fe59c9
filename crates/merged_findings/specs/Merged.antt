-- The trees that merged regions are made of: those of an analysis, restricted to what is plausible.
use Rattle.std.specs.Prelude.{◌≡◌, ℕ, Bool, true, List, length}
use Rattle.decision_tree.specs.Plain.{Plain, leaf_of, HasLeaf, TestsBelow}
use Rattle.cpp_conditions.specs.Propositions.{Proposition, true_on}
use Rattle.lifted_analysis.specs.Canon.{IsTreeOf}
use Rattle.merged_findings.specs.Restricting.{IsRestrictedTo}

-- the one tree of f over m tests, restricted to that of what is plausible
pub record IsMergedTree {A : Type 0} (m : ℕ) (f : List Bool → A) (plausible : Proposition ℕ) (t : Plain A) : Type 0 where
  pub whole : Plain A
  pub care : Plain Bool
  pub whole_is : IsTreeOf m f whole
  pub care_is : IsTreeOf m (λ v. true_on v plausible) care
  pub merged : IsRestrictedTo whole care t

-- what such a tree and the one tree of f both have: their tests are below m, they lead each vector that is plausible to what f gives
-- there, and each of their leaves is what f gives somewhere
pub record IsTreeWhere {A : Type 0} (m : ℕ) (f : List Bool → A) (plausible : Proposition ℕ) (t : Plain A) : Type 0 where
  pub tests : TestsBelow m t
  pub leads : (v : List Bool) → length v ≡ m → true_on v plausible ≡ true → leaf_of t v ≡ f v
  pub leaves : (x : A) → HasLeaf x t → (v : List Bool) × (length v ≡ m) × (f v ≡ x)
