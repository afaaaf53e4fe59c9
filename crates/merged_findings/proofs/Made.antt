-- What the calls for one tree have answered.
use Rattle.std.proofs.Common.{◌≡◌, Bool, true, List, subst, sym}
use Rattle.std.specs.Prelude.{Result, Ok, Err, IfOk}
use Rattle.decision_tree.specs.declared.tree.Tree.{Tree}
use Rattle.decision_tree.specs.Listed.{IsNumberedTree, IsTreeIn}
use Rattle.decision_tree.specs.Plain.{Plain, IsExact, leaf_of}
use Rattle.decision_tree.specs.View.{numbered, plain}
use Rattle.decision_tree.proofs.Canon.{same_from_agreeing}
use Rattle.tree_unify.specs.Leafwise.{IsMapped}
use Rattle.tree_restrict.specs.Restricted.{restricted}
use Rattle.merged_findings.specs.Restricting.{IsRestrictedTo}
use Rattle.merged_findings.proofs.Restricting.{restricted_is}

-- a tree with equal leaves everywhere is the same
pub same_mapped : {A E : Type 0} (made : Result (Tree A) E) (P : A → A → Type 0) (t : Tree A) (forest : List (Plain A)) → ((a b : A) → P a b → b ≡ a) → IsNumberedTree 0 320 (numbered t)
    → IfOk made (λ r. IsMapped P (plain t) (plain r)) → IfOk made (λ r. IsTreeIn 0 320 forest (numbered r)) → IfOk made (λ r. plain r ≡ plain t)
same_mapped (Ok r) P t forest same h mapped own =
    same_from_agreeing (plain r) (plain t) 320 own.reduced h.reduced own.small h.small (λ v long. same (leaf_of (plain t) v) (leaf_of (plain r) v) (mapped.at_each v))
same_mapped (Err e) P t forest same h mapped own = tt

-- what the function answers is so by the relation
pub merged_made : {A E : Type 0} (made : Result (Tree A) E) (eq : A → A → Bool) (exact : IsExact eq) (reflexive : (x : A) → eq x x ≡ true) (t own : Plain A) (care : Plain Bool) → own ≡ t
    → IfOk made (λ r. plain r ≡ restricted eq own care) → IfOk made (λ r. IsRestrictedTo t care (plain r))
merged_made (Ok r) eq exact reflexive t own care same is =
    subst (λ u. IsRestrictedTo u care (plain r)) same (subst (IsRestrictedTo own care) (sym is) (restricted_is eq exact reflexive own care))
merged_made (Err e) eq exact reflexive t own care same is = tt
