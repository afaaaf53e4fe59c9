-- The trees of conditions.
use Rattle.std.specs.Prelude.{◌≡◌, ℕ, Bool, false, List, [], ◌∷◌}
use Rattle.cpp_conditions.specs.declared.formulas.Formula.{Formula}
use Rattle.cpp_conditions.specs.View.{formula}
use Rattle.decision_tree.specs.declared.tree.Tree.{Tree}
use Rattle.decision_tree.specs.Listed.{IsNumberedTree}
use Rattle.decision_tree.specs.Numbered.{kept}
use Rattle.decision_tree.specs.View.{numbered, plain}
use Rattle.tree_unify.specs.Formulas.{IsTreeOf}
use Rattle.lifted_analysis.specs.declared.conditions.FamilyTrees.{FamilyTrees}

-- each tree is the numbered tree of the formula at its place, and there are as many
abbrev pub AreTreesOf : List Formula → List (Tree Bool) → Type 0
AreTreesOf [] [] = Unit {0}
AreTreesOf (c ∷ cs) (t ∷ ts) = IsTreeOf (formula c) (plain t) × IsNumberedTree 0 320 (numbered t) × AreTreesOf cs ts
AreTreesOf [] (t ∷ ts) = ⊥
AreTreesOf (c ∷ cs) [] = ⊥

-- the trees of a family's conditions, the numbered tree of what is plausible, and the tree that is false everywhere
pub record AreFamilyTrees (cs : List Formula) (pl : Formula) (t : FamilyTrees) : Type 0 where
  pub choices : AreTreesOf cs t.choices.items
  pub plausible : IsTreeOf (formula pl) (plain t.plausible)
  pub tree : IsNumberedTree 0 320 (numbered t.plausible)
  pub never : (x : ℕ) × (numbered t.never ≡ kept x false)
