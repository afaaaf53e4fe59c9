-- Trees of leaves: the states of all variants at once.
use Rattle.std.specs.Prelude.{◌≡◌, ◌⊎◌, ◌≤◌, ℕ, Bool, false, List, [], ◌∷◌, map, Some, slice_get}
use Rattle.std.specs.List.{All}
use Rattle.cpp_conditions.specs.View.{formula}
use Rattle.decision_tree.specs.declared.tree.Tree.{Tree}
use Rattle.decision_tree.specs.Plain.{Plain, leaf_of, HasTest, HasLeaf}
use Rattle.decision_tree.specs.Numbered.{Numbered, kept, erase}
use Rattle.decision_tree.specs.Listed.{IsNumberedTree, IsTreeIn, Keeps}
use Rattle.decision_tree.specs.View.{numbered, plain}
use Rattle.leaf_domain.specs.Leaves.{LeafValue}
use Rattle.plain_analysis.specs.declared.ways.Ways as rust
use Rattle.plain_analysis.specs.Ways.{Ways}
use Rattle.tree_unify.specs.Formulas.{HasNumber}
use Rattle.lifted_analysis.specs.declared.family_context.FamilyContext.{FamilyContext}
use Rattle.lifted_analysis.specs.declared.lines.LoopLine.{LoopLine}
use Rattle.lifted_analysis.specs.Lines.{AreVariableBounds, AreRegionsBelow}

-- the truths of the conditions at a vector
abbrev pub truths_in : List (Tree Bool) → List Bool → List Bool
truths_in choices v = map (λ c. leaf_of (plain c) v) choices

-- k is a test of one of the trees
abbrev pub HasTestIn : ℕ → List (Tree Bool) → Type 0
HasTestIn k [] = ⊥
HasTestIn k (c ∷ cs) = HasTest k (plain c) ⊎ HasTestIn k cs

-- k is a number of the region of one of the lines
abbrev pub HasRegionNumber : ℕ → List LoopLine → Type 0
HasRegionNumber k [] = ⊥
HasRegionNumber k (l ∷ ls) = HasNumber k (formula l.region) ⊎ HasRegionNumber k ls

-- k is a test of the conditions, of what is plausible, or of a region
abbrev pub IsTest : FamilyContext → ℕ → Type 0
IsTest family k = HasTest k (plain family.plausible.now) ⊎ (HasTestIn k family.choices.now ⊎ HasRegionNumber k family.lines.now)

-- at most 48 variables, trees of conditions that are reduced and numbered, the tree that is false everywhere, and lines whose
-- numbers are below 320, with bounds for all variables
pub record IsFamily (family : FamilyContext) : Type 0 where
  pub few : family.variables ≤ 48
  pub never : (x : ℕ) × (numbered family.never.now ≡ kept x false)
  pub regions : AreRegionsBelow 320 family.lines.now
  pub bounds : All (λ (l : LoopLine). AreVariableBounds family.variables l.bounds) family.lines.now
  pub choices : (i : ℕ) (c : Tree Bool) → slice_get family.choices.now i ≡ Some c → IsNumberedTree 0 320 (numbered c)

-- a tree of truths whose tests are the family's
pub record IsTruth (family : FamilyContext) (t : Numbered Bool) : Type 0 where
  pub tree : IsNumberedTree 0 320 t
  pub tests : (k : ℕ) → HasTest k (erase t) → IsTest family k

-- what stands at a vector, of the four trees of what was passed
abbrev pub ways_at : {L : Type 0} → (L → LeafValue) → rust.Ways (Tree L) → List Bool → Ways
ways_at value w v = record {
  behind = value (leaf_of (plain w.behind) v);
  broke = value (leaf_of (plain w.broke) v);
  continued = value (leaf_of (plain w.continued) v);
  returned = value (leaf_of (plain w.returned) v);
}

module _ {L : Type 0} (value : L → LeafValue) (family : FamilyContext) where
  -- a reduced tree of the forest whose tests are the family's, and whose leaves are over its variables
  pub record IsState (forest : List (Plain L)) (t : Numbered L) : Type 0 where
    pub tree : IsTreeIn 0 320 forest t
    pub tests : (k : ℕ) → HasTest k (erase t) → IsTest family k
    pub leaves : (x : L) → HasLeaf x (erase t) → (value x).variables ≡ family.variables

  -- the same of any forest
  pub record IsSized (t : Numbered L) : Type 0 where
    pub tree : IsNumberedTree 0 320 t
    pub tests : (k : ℕ) → HasTest k (erase t) → IsTest family k
    pub leaves : (x : L) → HasLeaf x (erase t) → (value x).variables ≡ family.variables

  -- a state that has, at every vector, what f makes of the leaf of t there; the forest keeps what it had
  pub record IsLifted (before after : List (Plain L)) (f : List Bool → LeafValue → LeafValue) (t : Plain L) (r : Numbered L) : Type 0 where
    pub state : IsState after r
    pub keeps : Keeps before after
    pub at_each : (v : List Bool) → value (leaf_of (erase r) v) ≡ f v (value (leaf_of t v))

  -- the same of the leaves of two trees
  pub record IsJoint (before after : List (Plain L)) (f : List Bool → LeafValue → LeafValue → LeafValue) (t u : Plain L) (r : Numbered L) : Type 0 where
    pub state : IsState after r
    pub keeps : Keeps before after
    pub at_each : (v : List Bool) → value (leaf_of (erase r) v) ≡ f v (value (leaf_of t v)) (value (leaf_of u v))

  -- a state that has, at every vector, what G has there; the forest keeps what it had
  pub record IsMade (before after : List (Plain L)) (G : List Bool → LeafValue) (r : Numbered L) : Type 0 where
    pub state : IsState after r
    pub keeps : Keeps before after
    pub at_each : (v : List Bool) → value (leaf_of (erase r) v) ≡ G v

  -- all four trees of what was passed are states
  pub record AreStates (forest : List (Plain L)) (w : rust.Ways (Tree L)) : Type 0 where
    pub behind : IsState forest (numbered w.behind)
    pub broke : IsState forest (numbered w.broke)
    pub continued : IsState forest (numbered w.continued)
    pub returned : IsState forest (numbered w.returned)

  -- states that are, at every vector, what G has there; the forest keeps what it had
  pub record AreMade (before after : List (Plain L)) (G : List Bool → Ways) (r : rust.Ways (Tree L)) : Type 0 where
    pub states : AreStates after r
    pub keeps : Keeps before after
    pub at_each : (v : List Bool) → ways_at value r v ≡ G v
