-- What an analysis of a family remembers of its loops.
use Rattle.std.specs.Prelude.{◌≡◌, Bool, List, ◌==◌, ◌&&◌}
use Rattle.std.specs.List.{AllByRecursion}
use Rattle.c_tree.specs.View.{whole}
use Rattle.decision_tree.specs.declared.tree.Tree.{Tree}
use Rattle.decision_tree.specs.Listed.{IsOf}
use Rattle.decision_tree.specs.Numbered.{Numbered, erase, root}
use Rattle.decision_tree.specs.Plain.{Plain, leaf_of}
use Rattle.decision_tree.specs.View.{numbered, plain}
use Rattle.leaf_domain.specs.Leaves.{LeafValue, LeafMeaning}
use Rattle.plain_analysis.specs.Stated.{IsLoopAt}
use Rattle.plain_analysis.specs.Statements.{LoopParts}
use Rattle.lifted_analysis.specs.declared.family_context.FamilyContext.{FamilyContext}
use Rattle.lifted_analysis.specs.declared.finals.Entered.{Entered}
use Rattle.lifted_analysis.specs.declared.finals.Finals.{Finals}
use Rattle.lifted_analysis.specs.States.{IsState}
use Rattle.lifted_analysis.specs.Steps.{final_at}

-- the same place, and the same number
abbrev pub same_entered : Entered → Entered → Bool
same_entered a b = (a.place.line == b.place.line && a.place.column == b.place.column) && a.number == b.number

-- the final tree of the family's loop at the place, where it is entered with the forest's tree of the number
pub record IsFinal {L : Type 0} (value : L → LeafValue) (M : LeafMeaning) (family : FamilyContext) (forest : List (Plain L)) (k : Entered) (last : Tree L) : Type 0 where
  pub entered : Numbered L
  pub number : root entered ≡ k.number
  pub own : IsOf forest entered
  pub state : IsState value family forest (numbered last)
  pub final : (l : LoopParts) → IsLoopAt (whole family.program.now) k.place l
      → (v : List Bool) → value (leaf_of (plain last) v) ≡ final_at M family l v (value (leaf_of (erase entered) v))

-- all that is remembered is so
pub record Remembers {L : Type 0} (value : L → LeafValue) (M : LeafMeaning) (family : FamilyContext) (forest : List (Plain L)) (f : Finals L) : Type 0 where
  pub each : AllByRecursion (λ (e : Entered × Tree L). IsFinal value M family forest e.0 e.1) f.entries.entries
