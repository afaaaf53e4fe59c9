-- Two lists side by side, and the trees of two findings.
use Rattle.std.specs.Prelude.{◌≡◌, ℕ, Bool, List, [], ◌∷◌}
use Rattle.cpp_conditions.specs.Propositions.{Proposition}
use Rattle.decision_tree.specs.Plain.{Plain}
use Rattle.decision_tree.specs.View.{plain}
use Rattle.lifted_analysis.specs.declared.findings.AlarmTree.{AlarmTree}
use Rattle.lifted_analysis.specs.declared.findings.FamilyFindings.{FamilyFindings}
use Rattle.lifted_analysis.specs.declared.findings.PlaceTree.{PlaceTree}
use Rattle.tree_unify.specs.Formulas.{IsTreeOf}
use Rattle.merged_findings.specs.Restricting.{IsRestrictedTo}

-- as many of one list as of the other, each in the relation to that at its place
abbrev pub ArePairs : {X Y : Type 0} → (X → Y → Type 0) → List X → List Y → Type 0
ArePairs R [] [] = Unit {0}
ArePairs R [] (y ∷ ys) = ⊥
ArePairs R (x ∷ xs) [] = ⊥
ArePairs R (x ∷ xs) (y ∷ ys) = R x y × ArePairs R xs ys

-- the tree of the same place, restricted to where the care is true
pub record IsMergedPlace {L : Type 0} (care : Plain Bool) (p q : PlaceTree L) : Type 0 where
  pub place : q.place ≡ p.place
  pub tree : IsRestrictedTo (plain p.tree) care (plain q.tree)

-- the tree of the same place and kind, restricted to where the care is true
pub record IsMergedAlarm (care : Plain Bool) (a b : AlarmTree) : Type 0 where
  pub place : b.place ≡ a.place
  pub kind : b.kind ≡ a.kind
  pub tree : IsRestrictedTo (plain a.tree) care (plain b.tree)

-- all trees, each restricted to where the formula is true
pub record AreMerged {L : Type 0} (plausible : Proposition ℕ) (old new : FamilyFindings L) : Type 0 where
  pub care : Plain Bool
  pub care_is : IsTreeOf plausible care
  pub places : ArePairs (IsMergedPlace care) old.places.items new.places.items
  pub alarms : ArePairs (IsMergedAlarm care) old.alarms.items new.alarms.items
