-- What a pass over a family promises.
use Rattle.std.specs.Prelude.{◌≡◌, ℕ, Bool, List, map}
use Rattle.std.specs.List.{All}
use Rattle.fam_outer.specs.declared.faults.Place.{Place}
use Rattle.c_tree.specs.declared.tree.Kind.{Kind}
use Rattle.c_tree.specs.declared.tree.Mode.{Mode}
use Rattle.c_tree.specs.Places.{program_places}
use Rattle.c_tree.specs.Tree.{Whole}
use Rattle.cpp_conditions.specs.declared.formulas.Formula.{Formula}
use Rattle.decision_tree.specs.Plain.{leaf_of}
use Rattle.decision_tree.specs.Listed.{IsNumberedTree}
use Rattle.decision_tree.specs.View.{numbered, plain}
use Rattle.leaf_domain.specs.Leaves.{LeafValue, LeafMeaning}
use Rattle.lifted_analysis.specs.declared.findings.AlarmTree.{AlarmTree}
use Rattle.lifted_analysis.specs.declared.findings.LoopTree.{LoopTree}
use Rattle.lifted_analysis.specs.declared.findings.PassFindings.{PassFindings}
use Rattle.lifted_analysis.specs.declared.findings.PlaceTree.{PlaceTree}
use Rattle.lifted_analysis.specs.declared.lines.LoopLine.{LoopLine}
use Rattle.lifted_analysis.specs.Canon.{IsTreeOf}
use Rattle.lifted_analysis.specs.Lines.{given_heads, AreRegionsBelow}
use Rattle.lifted_analysis.specs.Promises.{variant_at, begin_at, by_kind, valued, AreBelow}
use Rattle.lifted_analysis.specs.Turns.{Turn, turns_by, inductive_in, loop_places}
use Rattle.plain_analysis.specs.Places.{at_by, alarm_by}
use Rattle.plain_analysis.specs.Statements.{Heads}
use Rattle.plain_analysis.specs.Ways.{enter}

-- the heads of loops at a vector
abbrev pub heads_at : LeafMeaning → Whole → List Formula → Formula → List LoopLine → List Bool → Heads
heads_at M p conditions plausible lines v = given_heads M lines v (begin_at M p conditions plausible v)

-- the leaf at a place in the pass over a vector's program, which is Nothing where that program has no such place
abbrev pub passed_at : LeafMeaning → Mode → Whole → List Formula → Formula → List LoopLine → Place → List Bool → LeafValue
passed_at M mode p conditions plausible lines place v =
    at_by M mode (heads_at M p conditions plausible lines v) (variant_at p conditions v) (begin_at M p conditions plausible v) place

-- whether that pass has an alarm of a kind at a place
abbrev pub pass_stop_at : LeafMeaning → Mode → Whole → List Formula → Formula → List LoopLine → Place × Kind → List Bool → Bool
pass_stop_at M mode p conditions plausible lines at v =
    alarm_by M mode (heads_at M p conditions plausible lines v) (variant_at p conditions v) (begin_at M p conditions plausible v) at.0 at.1

-- the loops of that pass
abbrev pub turns_at_vector : LeafMeaning → Mode → Whole → List Formula → Formula → List LoopLine → List Bool → List Turn
turns_at_vector M mode p conditions plausible lines v =
    turns_by M mode (heads_at M p conditions plausible lines v) (variant_at p conditions v).body (enter (begin_at M p conditions plausible v))

-- whether the loop at a place is inductive in that pass
abbrev pub inductive_at : LeafMeaning → Mode → Whole → List Formula → Formula → List LoopLine → Place → List Bool → Bool
inductive_at M mode p conditions plausible lines place v = inductive_in M (turns_at_vector M mode p conditions plausible lines v) place

-- what a loop's tree says of a vector
abbrev pub loop_there : List Bool → LoopTree → Place × Bool
loop_there v l = (l.place, leaf_of (plain l.tree) v)

-- what `pass_family` promises of what it finds
pub record ArePassFindings {L : Type 0} (value : L → LeafValue) (M : LeafMeaning) (mode : Mode) (p : Whole) (conditions : List Formula) (plausible : Formula) (lines : List LoopLine) (f : PassFindings L) : Type 0 where
  pub places : map (λ (x : PlaceTree L). x.place) f.places.items ≡ program_places p
  pub trees : (m : ℕ) → AreBelow m conditions plausible → AreRegionsBelow m lines → All (λ (x : PlaceTree L). IsTreeOf m (passed_at M mode p conditions plausible lines x.place) (valued value (plain x.tree))) f.places.items
  pub kinds : map (λ (a : AlarmTree). (a.place, a.kind)) f.alarms.items ≡ by_kind (program_places p)
  pub alarms : (m : ℕ) → AreBelow m conditions plausible → AreRegionsBelow m lines → All (λ (a : AlarmTree). IsTreeOf m (pass_stop_at M mode p conditions plausible lines (a.place, a.kind)) (plain a.tree)) f.alarms.items
  pub loops : map (λ (l : LoopTree). l.place) f.loops.items ≡ loop_places p.body
  pub inductive : (m : ℕ) → AreBelow m conditions plausible → AreRegionsBelow m lines → All (λ (l : LoopTree). IsTreeOf m (inductive_at M mode p conditions plausible lines l.place) (plain l.tree)) f.loops.items
  pub alarms_numbered : All (λ (a : AlarmTree). IsNumberedTree 0 320 (numbered a.tree)) f.alarms.items
  pub loops_numbered : All (λ (l : LoopTree). IsNumberedTree 0 320 (numbered l.tree)) f.loops.items
