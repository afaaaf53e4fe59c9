-- What a certificate is written of: names, and the trees of loops and stops.
use Rattle.std.specs.Prelude.{◌≡◌, ◌≢◌, ℕ, List, length}
use Rattle.std.specs.List.{AllByRecursion}
use Rattle.decision_tree.specs.Plain.{Plain, leaf, node, TestsBelow}
use Rattle.leaf_domain.specs.Leaves.{LeafValue, LeafMeaning}
use Rattle.alarm_report.specs.Alarms.{PlainAlarmTree}
use Rattle.alarm_report.specs.Invariants.{LeafTree}
use Rattle.certificate_format.specs.Lines.{IsPlace}

-- no newline stands in the text
abbrev pub IsOneLine : List ℕ → Type 0
IsOneLine text = AllByRecursion (λ b. b ≢ 10) text

-- each leaf is so
abbrev pub AllLeaves : {L : Type 0} → (L → Type 0) → Plain L → Type 0
AllLeaves P (leaf x) = P x
AllLeaves P (node test low high) = AllLeaves P low × AllLeaves P high

-- a leaf of the kind, over as many variables as there are names
pub record IsLeafOver (M : LeafMeaning) (names : List (List ℕ)) (v : LeafValue) : Type 0 where
  pub valid : M.valid v
  pub variables : v.variables ≡ length names

-- the tree of a loop, with tests of so many atoms
pub record IsLoopTree (M : LeafMeaning) (count : ℕ) (names : List (List ℕ)) (t : LeafTree) : Type 0 where
  pub place : IsPlace t.place
  pub tests : TestsBelow count t.tree
  pub leaves : AllLeaves (IsLeafOver M names) t.tree

-- the tree of a stop, with tests of so many atoms
pub record IsAlarmTree (count : ℕ) (t : PlainAlarmTree) : Type 0 where
  pub place : IsPlace t.place
  pub tests : TestsBelow count t.tree
