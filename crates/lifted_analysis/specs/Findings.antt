-- What is found of a family, over its trees of conditions.
use Rattle.std.specs.Prelude.{◌≡◌, ℕ, Bool, false, List, [], ◌∷◌, ◌++◌, map}
use Rattle.std.specs.List.{All}
use Rattle.fam_outer.specs.declared.faults.Place.{Place}
use Rattle.c_tree.specs.declared.tree.Kind.{Kind}
use Rattle.c_tree.specs.declared.tree.Kind.TheVariants.{Overflow, ZeroDivisor, Assertion}
use Rattle.c_tree.specs.Tree.{Whole}
use Rattle.c_tree.specs.Places.{program_places}
use Rattle.c_tree.specs.Project.{projected, projected_program}
use Rattle.cpp_conditions.specs.declared.formulas.Formula.{Formula}
use Rattle.decision_tree.specs.Plain.{Plain, leaf_of, HasTest, IsReduced, TestsBelow}
use Rattle.decision_tree.specs.Listed.{IsNumberedTree}
use Rattle.decision_tree.specs.View.{numbered, plain}
use Rattle.leaf_domain.specs.Leaves.{LeafValue, LeafMeaning}
use Rattle.plain_analysis.specs.declared.options.Options.{Options}
use Rattle.plain_analysis.specs.Places.{at_by, alarm_by}
use Rattle.plain_analysis.specs.Statements.{Heads}
use Rattle.plain_analysis.specs.Ways.{enter}
use Rattle.lifted_analysis.specs.declared.noted.Noted.{Noted}
use Rattle.lifted_analysis.specs.declared.noted.TurnTree.{TurnTree}
use Rattle.lifted_analysis.specs.declared.family_context.FamilyContext.{FamilyContext}
use Rattle.lifted_analysis.specs.declared.findings.AlarmTree.{AlarmTree}
use Rattle.lifted_analysis.specs.declared.findings.FamilyFindings.{FamilyFindings}
use Rattle.lifted_analysis.specs.declared.findings.PlaceTree.{PlaceTree}
use Rattle.lifted_analysis.specs.Canon.{IsTreeOf}
use Rattle.lifted_analysis.specs.Entries.{leaf_there, stop_there, turn_there, AreReduced, AreReducedStops, AreSized}
use Rattle.lifted_analysis.specs.Promises.{leaf_at, stop_at, by_kind, valued, Occurs, AreBelow}
use Rattle.lifted_analysis.specs.Start.{start_at}
use Rattle.lifted_analysis.specs.States.{truths_in}
use Rattle.lifted_analysis.specs.Turns.{turns_by, is_inductive, inductive_in, loop_places}

-- the last place with its tree, and three alarm trees that are true nowhere
pub record HasEnded {L : Type 0} (value : L → LeafValue) (family : FamilyContext) (place : Place) (t : Plain L) (before now : Noted L) : Type 0 where
  pub leaves : (v : List Bool) → map (leaf_there value v) now.places.items ≡ map (leaf_there value v) before.places.items ++ (place, value (leaf_of t v)) ∷ []
  pub stops : (v : List Bool) → map (stop_there v) now.alarms.items
      ≡ map (stop_there v) before.alarms.items ++ (((place, Overflow), false) ∷ (((place, ZeroDivisor), false) ∷ (((place, Assertion), false) ∷ [])))
  pub turns : now.turns.items ≡ before.turns.items
  pub trees : AreReduced family before.places.items → AreReduced family now.places.items
  pub alarm_trees : AreReducedStops family before.alarms.items → AreReducedStops family now.alarms.items

-- at every vector the leaves, the alarms and the loops of the pass over its program with these heads, in reduced trees
pub record HasNoted {L : Type 0} (value : L → LeafValue) (M : LeafMeaning) (family : FamilyContext) (p : Whole) (H : List Bool → Heads) (f : Noted L) : Type 0 where
  pub leaves : (v : List Bool) → map (leaf_there value v) f.places.items
      ≡ map (λ (q : Place). (q, at_by M family.options.now.mode (H v) (projected_program (truths_in family.choices.now v) p) (start_at M family p.start p.declared v) q)) (program_places p)
  pub stops : (v : List Bool) → map (stop_there v) f.alarms.items
      ≡ map (λ (q : Place × Kind). (q, alarm_by M family.options.now.mode (H v) (projected_program (truths_in family.choices.now v) p) (start_at M family p.start p.declared v) q.0 q.1)) (by_kind (program_places p))
  pub turns : (v : List Bool) → map {B = Place × Bool} (λ (t : TurnTree L). (t.place, is_inductive M (turn_there value v t))) f.turns.items
      ≡ map (λ (q : Place). (q, inductive_in M (turns_by M family.options.now.mode (H v) (projected (truths_in family.choices.now v) p.body) (enter (start_at M family p.start p.declared v))) q)) (loop_places p.body)
  pub trees : AreReduced family f.places.items
  pub alarm_trees : AreReducedStops family f.alarms.items
  pub sized : AreSized value family f.turns.items

-- what `analyse_family` promises of what it finds
pub record AreFindings {L : Type 0} (value : L → LeafValue) (M : LeafMeaning) (o : Options) (p : Whole) (conditions : List Formula) (plausible : Formula) (f : FamilyFindings L) : Type 0 where
  pub places : map (λ (x : PlaceTree L). x.place) f.places.items ≡ program_places p
  pub trees : (m : ℕ) → AreBelow m conditions plausible → All (λ (x : PlaceTree L). IsTreeOf m (leaf_at M o p conditions plausible x.place) (valued value (plain x.tree))) f.places.items
  pub kinds : map (λ (a : AlarmTree). (a.place, a.kind)) f.alarms.items ≡ by_kind (program_places p)
  pub alarms : (m : ℕ) → AreBelow m conditions plausible → All (λ (a : AlarmTree). IsTreeOf m (stop_at M o p conditions plausible (a.place, a.kind)) (plain a.tree)) f.alarms.items
  pub places_numbered : All (λ (x : PlaceTree L). IsNumberedTree 0 320 (numbered x.tree)) f.places.items
  pub alarms_numbered : All (λ (a : AlarmTree). IsNumberedTree 0 320 (numbered a.tree)) f.alarms.items
  pub reduced : All (λ (x : PlaceTree L). IsReduced (plain x.tree)) f.places.items
  pub below : (m : ℕ) → AreBelow m conditions plausible → All (λ (x : PlaceTree L). TestsBelow m (plain x.tree)) f.places.items
  pub tests : All (λ (x : PlaceTree L). (k : ℕ) → HasTest k (plain x.tree) → Occurs conditions plausible k) f.places.items
  pub alarm_tests : All (λ (a : AlarmTree). (k : ℕ) → HasTest k (plain a.tree) → Occurs conditions plausible k) f.alarms.items
