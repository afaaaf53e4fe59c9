-- What a check answers of a certificate that says what an analysis found.
use Rattle.std.specs.Prelude.{◌≡◌, ℕ, ℤ, true, false, List, length}
use Rattle.c_tree.specs.Tree.{Whole}
use Rattle.c_tree.specs.Whole.{IsProgram}
use Rattle.linear_atoms.specs.declared.atoms.Atom.{Atom}
use Rattle.cpp_conditions.specs.declared.formulas.Formula.{Formula}
use Rattle.cpp_conditions.specs.declared.models.Model.{Model}
use Rattle.cpp_conditions.specs.Numbering.{vector_at}
use Rattle.cpp_conditions.specs.Propositions.{true_on}
use Rattle.cpp_conditions.specs.Validity.{plain, IsValid}
use Rattle.cpp_conditions.specs.View.{formula}
use Rattle.leaf_domain.specs.Leaves.{LeafValue, LeafMeaning, Alike, IsLeafLike, is_nothing_of}
use Rattle.lifted_analysis.specs.Lines.{set_from}
use Rattle.lifted_analysis.specs.Promises.{leaf_at, stop_at}
use Rattle.lifted_analysis.specs.Turns.{loop_places}
use Rattle.merged_findings.specs.Merged.{IsTreeWhere}
use Rattle.plain_analysis.specs.declared.options.Options.{Options}
use Rattle.alarm_report.specs.declared.alarms.FamilyAlarm.{FamilyAlarm}
use Rattle.alarm_report.specs.Alarms.{PlainAlarmTree, AreAlarms}
use Rattle.alarm_report.specs.Invariants.{LeafTree, Invariant, AreInvariants}
use Rattle.alarm_report.specs.Trees.{AreTreesOfPlaces, AreTreesOfKinds}
use Rattle.certificate_format.specs.declared.certificates.Certificate.{Certificate}
use Rattle.certificate_format.specs.Loops.{trees_at}
use Rattle.invariant_certificate.specs.declared.verdicts.Verdict.{Verdict}
use Rattle.invariant_certificate.specs.declared.verdicts.Verdict.TheVariants.{Yes}
use Rattle.invariant_certificate.specs.Verdicts.{IsVerdict}
use Rattle.certificate_laws.specs.ReadBack.{bounds_from, IsReadBack}

-- ---- kinds of leaves

-- a leaf that holds a store, over variables with such names
pub record IsSome (M : LeafMeaning) (names : List (List ℕ)) (v : LeafValue) : Type 0 where
  pub valid : M.valid v
  pub holds : is_nothing_of v ≡ false
  pub count : v.variables ≡ length names

-- setting each variable of one such leaf to its bounds in another makes the other: a leaf is what its bounds say
abbrev pub AreToldByBounds : LeafMeaning → Type 0
AreToldByBounds M = (names : List (List ℕ)) (d v : LeafValue) → IsSome M names d → IsSome M names v → set_from M 0 (bounds_from M v 0 names) d ≡ v

-- what has a join below it has both leaves below it
abbrev pub AreBelowJoins : LeafMeaning → Type 0
AreBelowJoins M = (a b x : LeafValue) → Alike M a b → IsLeafLike M a x → M.leq (M.join a b) x ≡ true → (M.leq a x ≡ true) × (M.leq b x ≡ true)

-- ---- analyses and their certificates

module _ (M : LeafMeaning) (o : Options) (model : Model) (p : Whole) (conditions : List Formula) (atoms : List Atom) where
  -- a tree of each place in the analysis of a family with these options, that leads where it should wherever the formula is true, as it
  -- is at the vector of each valid configuration
  pub record AreLeaves (places : List LeafTree) : Type 0 where
    pub plausible : Formula
    pub valid : (values : List ℤ) → IsValid (plain model) values → true_on (vector_at atoms values) (formula plausible) ≡ true
    pub trees : AreTreesOfPlaces p (λ (t : LeafTree). IsTreeWhere (length atoms) (leaf_at M o p conditions plausible t.place) (formula plausible) t.tree) places

  -- the same of each place and kind
  pub record AreAlarmTrees (stops : List PlainAlarmTree) : Type 0 where
    pub plausible : Formula
    pub valid : (values : List ℤ) → IsValid (plain model) values → true_on (vector_at atoms values) (formula plausible) ≡ true
    pub trees : AreTreesOfKinds p (λ (t : PlainAlarmTree). IsTreeWhere (length atoms) (stop_at M o p conditions plausible (t.place, t.kind)) (formula plausible) t.tree) stops

  -- the certificate says the invariants of the loops and the alarms of such an analysis
  pub record IsOfAnalysis (c : Certificate) : Type 0 where
    pub places : List LeafTree
    pub stops : List PlainAlarmTree
    pub invariants : List Invariant
    pub alarms : List FamilyAlarm
    pub leaves_are : AreLeaves places
    pub stops_are : AreAlarmTrees stops
    pub loops_are : AreInvariants model atoms (trees_at (loop_places p.body) places) invariants
    pub alarms_are : AreAlarms model atoms stops alarms
    pub read : IsReadBack M model atoms p.names o.mode invariants alarms c

-- a check answers yes of a certificate of an analysis of a family
abbrev pub AnalysesAreAccepted : LeafMeaning → Type 0
AnalysesAreAccepted M =
    (o : Options) (model : Model) (p : Whole) (conditions : List Formula) (atoms : List Atom) (c : Certificate) (verdict : Verdict)
    → IsProgram p → IsOfAnalysis M o model p conditions atoms c → IsVerdict M model p conditions atoms c verdict → verdict ≡ Yes
