-- What calls answer of one tree, put together.
use Rattle.std.proofs.Common.{◌≡◌, List, Bool, Result, IfOk}
use Rattle.decision_tree.specs.declared.tree.Tree.{Tree}
use Rattle.decision_tree.specs.Plain.{Plain, leaf_of}
use Rattle.decision_tree.specs.Numbered.{Numbered, erase}
use Rattle.decision_tree.specs.View.{numbered}
use Rattle.leaf_domain.specs.Leaves.{LeafValue}
use Rattle.lifted_analysis.specs.declared.family_context.FamilyContext.{FamilyContext}
use Rattle.lifted_analysis.specs.States.{IsState, IsLifted}
use Rattle.lifted_analysis.proofs.StateLemmas.{if_ok_by, lifted_same, lifted_then, lifted_as}

module _ {L : Type 0} (value : L → LeafValue) (family : FamilyContext) where
  -- the same tree, for a function that changes no leaf of it
  pub shared_made : {E : Type 0} (made : Result (Tree L) E) (forest : List (Plain L)) (f : List Bool → LeafValue → LeafValue) (t : Numbered L)
      → IsState value family forest t → ((v : List Bool) → value (leaf_of (erase t) v) ≡ f v (value (leaf_of (erase t) v)))
      → IfOk made (λ r. numbered r ≡ t) → IfOk made (λ r. IsLifted value family forest forest f (erase t) (numbered r))
  shared_made made forest f t s e h =
      if_ok_by made (λ r. numbered r ≡ t) (λ r. IsLifted value family forest forest f (erase t) (numbered r))
      (λ r k. lifted_as value family forest forest (λ v x. x) f (erase t) (numbered r) e (lifted_same value family forest t (numbered r) k s)) h

  -- a step after a step
  pub then_made : {E : Type 0} (made : Result (Tree L) E) (a b c : List (Plain L)) (f g h : List Bool → LeafValue → LeafValue) (t : Plain L) (r : Numbered L)
      → IsLifted value family a b f t r → ((v : List Bool) → g v (f v (value (leaf_of t v))) ≡ h v (value (leaf_of t v)))
      → IfOk made (λ s. IsLifted value family b c g (erase r) (numbered s)) → IfOk made (λ s. IsLifted value family a c h t (numbered s))
  then_made made a b c f g h t r i e j =
      if_ok_by made (λ s. IsLifted value family b c g (erase r) (numbered s)) (λ s. IsLifted value family a c h t (numbered s))
      (λ s k. lifted_as value family a c (λ v x. g v (f v x)) h t (numbered s) e (lifted_then value family a b c f g t r (numbered s) i k)) j

  -- a step by another name
  pub as_made : {E : Type 0} (made : Result (Tree L) E) (a b : List (Plain L)) (f g : List Bool → LeafValue → LeafValue) (t : Plain L)
      → ((v : List Bool) → f v (value (leaf_of t v)) ≡ g v (value (leaf_of t v)))
      → IfOk made (λ r. IsLifted value family a b f t (numbered r)) → IfOk made (λ r. IsLifted value family a b g t (numbered r))
  as_made made a b f g t e h =
      if_ok_by made (λ r. IsLifted value family a b f t (numbered r)) (λ r. IsLifted value family a b g t (numbered r))
      (λ r k. lifted_as value family a b f g t (numbered r) e k) h
