-- The start of the analysis of a family.
use Rattle.std.specs.Prelude.{◌≡◌, ℕ, ℤ, Bool, List, All, length, slice_set, if◌then◌else◌}
use Rattle.c_tree.specs.declared.lists.Declared.{Declared}
use Rattle.c_tree.specs.Project.{guards_hold, projected_start}
use Rattle.c_tree.specs.Value.{IsInt}
use Rattle.leaf_domain.specs.Leaves.{LeafValue, LeafMeaning, nothing_of}
use Rattle.decision_tree.specs.Plain.{leaf_of, HasTest}
use Rattle.decision_tree.specs.declared.tree.Tree.{Tree}
use Rattle.decision_tree.specs.Listed.{IsNumberedTree}
use Rattle.decision_tree.specs.View.{numbered, plain}
use Rattle.lifted_analysis.specs.declared.family_context.FamilyContext.{FamilyContext}
use Rattle.lifted_analysis.specs.declared.start.Beginning.{Beginning}
use Rattle.lifted_analysis.specs.declared.start.Beginning.TheVariants.{Nothing, Values}
use Rattle.lifted_analysis.specs.declared.start.HeldGuards.{HeldGuards}
use Rattle.lifted_analysis.specs.States.{IsTest, truths_in}

-- a numbered tree whose tests are the family's, and which has at every vector the value of f
pub record IsTreeAt {A : Type 0} (family : FamilyContext) (f : List Bool → A) (t : Tree A) : Type 0 where
  pub tree : IsNumberedTree 0 320 (numbered t)
  pub tests : (k : ℕ) → HasTest k (plain t) → IsTest family k
  pub at_each : (v : List Bool) → leaf_of (plain t) v ≡ f v

-- the tree is true where all the guards hold
abbrev pub AreHeld : FamilyContext → HeldGuards → Type 0
AreHeld family held = IsTreeAt family (λ v. guards_hold (truths_in family.choices.now v) held.guards.now) held.tree

-- the values with that of a variable set, where the truth holds
abbrev pub set_where : Bool → ℕ → ℤ → List ℤ → List ℤ
set_where truth x n values = if truth then slice_set values x n else values

-- what a variant begins with after a declarator
abbrev pub declared_by : Bool → ℕ → ℤ → Beginning → Beginning
declared_by truth x n Nothing = Nothing
declared_by truth x n (Values values) = Values (set_where truth x n values)

-- these values where a variant is plausible
abbrev pub begins_with : List ℤ → Bool → Beginning
begins_with values is_plausible = if is_plausible then Values values else Nothing

-- what the variant at a vector begins with
abbrev pub begins_at : FamilyContext → List ℤ → List Declared → List Bool → Beginning
begins_at family start declared v = begins_with (projected_start (truths_in family.choices.now v) declared start) (leaf_of (plain family.plausible.now) v)

-- as many values as variables, within `int`
abbrev pub IsBeginningOf : ℕ → Beginning → Type 0
IsBeginningOf n Nothing = Unit {0}
IsBeginningOf n (Values values) = (length values ≡ n) × All IsInt values

-- the leaf of the values, or Nothing
abbrev pub leaf_with : LeafMeaning → ℕ → Beginning → LeafValue
leaf_with M n Nothing = nothing_of n
leaf_with M n (Values values) = M.start values

-- the leaf of the start values at a vector, where it is plausible, and Nothing elsewhere
abbrev pub start_at : LeafMeaning → FamilyContext → List ℤ → List Declared → List Bool → LeafValue
start_at M family start declared v =
    if leaf_of (plain family.plausible.now) v then M.start (projected_start (truths_in family.choices.now v) declared start) else nothing_of family.variables
