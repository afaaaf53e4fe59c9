-- The head of a loop in the analysis of a family.
use Rattle.std.specs.Prelude.{◌≡◌, Bool, List}
use Rattle.decision_tree.specs.Plain.{Plain, leaf_of}
use Rattle.decision_tree.specs.View.{numbered, plain}
use Rattle.leaf_domain.specs.Leaves.{LeafValue, LeafMeaning}
use Rattle.plain_analysis.specs.declared.loops.Loop.{Loop}
use Rattle.plain_analysis.specs.Statements.{Heads}
use Rattle.plain_analysis.specs.View.{parts_of}
use Rattle.lifted_analysis.specs.declared.after.Head.{Head}
use Rattle.lifted_analysis.specs.declared.family_context.FamilyContext.{FamilyContext}
use Rattle.lifted_analysis.specs.Rules.{head_with}
use Rattle.lifted_analysis.specs.States.{IsState}
use Rattle.lifted_analysis.specs.Steps.{turn_at, lap_at, final_at}

-- what comes in at the head of a loop at a vector, where it is entered with the tree's leaf there, by the leaf that the head has
abbrev pub turns_over : {L : Type 0} → (L → LeafValue) → LeafMeaning → FamilyContext → Loop → Plain L → List Bool → LeafValue → LeafValue
turns_over value M family l t v = turn_at M family (parts_of l.parts) v (value (leaf_of t v))

-- what a lap of a loop makes of the head's leaf
abbrev pub lap_over : LeafMeaning → FamilyContext → Loop → List Bool → LeafValue → LeafValue
lap_over M family l = lap_at M family (parts_of l.parts)

-- the final leaf of a loop, and its head where loops have these heads
abbrev pub final_over : LeafMeaning → FamilyContext → Loop → List Bool → LeafValue → LeafValue
final_over M family l = final_at M family (parts_of l.parts)

abbrev pub head_over : LeafMeaning → FamilyContext → (List Bool → Heads) → Loop → List Bool → LeafValue → LeafValue
head_over M family H l = head_with M family H l.place (parts_of l.parts)

-- a tree, and the tree of what comes in with its leaves
pub record IsHeadOf {L : Type 0} (value : L → LeafValue) (family : FamilyContext) (forest : List (Plain L)) (G : List Bool → LeafValue → LeafValue) (head : Head L) : Type 0 where
  pub at_state : IsState value family forest (numbered head.at)
  pub next_state : IsState value family forest (numbered head.next)
  pub next : (v : List Bool) → value (leaf_of (plain head.next) v) ≡ G v (value (leaf_of (plain head.at) v))
