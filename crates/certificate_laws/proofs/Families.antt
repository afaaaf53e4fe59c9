-- The certificates of families are read back.
use Rattle.std.proofs.Common.{ℕ, Bool, true, false, List, [], ◌∷◌, map, length, sym, subst}
use Rattle.std.specs.Prelude.{if◌then◌else◌}
use Rattle.std.specs.List.{AllByRecursion}
use Rattle.std.proofs.lemmas.List.Elements.{recursion_from_All, All-from_recursion}
use Rattle.fam_outer.specs.declared.dialect.Dialect.{Dialect}
use Rattle.fam_outer.specs.declared.faults.Place.{Place}
use Rattle.c_tree.specs.declared.tree.Kind.{Kind}
use Rattle.c_tree.specs.declared.tree.Mode.{Mode}
use Rattle.c_tree.specs.Places.{program_places}
use Rattle.c_tree.specs.View.{whole}
use Rattle.c_parser.specs.declared.family.Family.{Family}
use Rattle.cpp_conditions.specs.declared.formulas.Formula.{Formula}
use Rattle.cpp_conditions.specs.declared.models.Model.{Model}
use Rattle.interval_leaf.specs.Intervals.{intervals}
use Rattle.interval_leaf.specs.Laws.{interval_laws}
use Rattle.leaf_domain.specs.Soundness.{TransferAnswers}
use Rattle.lifted_analysis.specs.Promises.{by_kind}
use Rattle.plain_analysis.specs.declared.options.Options.{Options}
use Rattle.plain_analysis.specs.Places.{is_same_place}
use Rattle.alarm_report.specs.Alarms.{PlainAlarmTree}
use Rattle.alarm_report.specs.Invariants.{LeafTree}
use Rattle.certificate_format.specs.Lines.{IsPlace}
use Rattle.certificate_format.specs.Loops.{trees_at}
use Rattle.certificate_laws.specs.Laws.{IsFamilyOver, IsLeafTree, IsAlarmTreeOf, FamilyCertificatesAreReadBack}
use Rattle.certificate_laws.specs.Written.{IsLoopTree, IsAlarmTree}
use Rattle.certificate_laws.proofs.Intervals.{intervals_are_read_back}
use Rattle.certificate_laws.proofs.LeavesOver.{tree_over}
use Rattle.certificate_laws.proofs.Programs.{family_told}

-- ---- the trees of loops

some_trees : (P : LeafTree → Type 0) (qs : List Place) (ts : List LeafTree) → AllByRecursion P ts → AllByRecursion P (trees_at qs ts)
some_trees P [] ts h = tt
some_trees P (q ∷ qs) [] h = tt
some_trees P (q ∷ qs) (t ∷ ts) h = either (some_trees P qs ts h.1) (some_trees P (q ∷ qs) ts h.1) (is_same_place t.place q)
  where
    either : AllByRecursion P (trees_at qs ts) → AllByRecursion P (trees_at (q ∷ qs) ts) → (b : Bool) → AllByRecursion P (if b then t ∷ trees_at qs ts else trees_at (q ∷ qs) ts)
    either next same true = (h.0, next)
    either next same false = same

module _ (A : (m : Mode) → TransferAnswers intervals m) (dialect : Dialect) (model : Model) (text : List ℕ) (f : Family) (over : IsFamilyOver dialect model text f) (o : Options) (plausible : Formula) where
  loop_trees : (ts : List LeafTree) → AllByRecursion IsPlace (map (λ (t : LeafTree). t.place) ts) → AllByRecursion (IsLeafTree o f plausible) ts → AllByRecursion (IsLoopTree intervals (length f.atoms) (whole f.code).names) ts
  loop_trees [] h k = tt
  loop_trees (t ∷ ts) h k = (
    record {
      place = h.0;
      tests = k.0.tests;
      leaves = tree_over intervals interval_laws o (A o.mode) (whole f.code) over.program f.conditions plausible (length f.atoms) t.place t.tree k.0;
    },
    loop_trees ts h.1 k.1,
  )

  -- ---- the trees of stops

  alarm_trees : (ts : List PlainAlarmTree) → AllByRecursion (λ (k : Place × Kind). IsPlace k.0) (map (λ (t : PlainAlarmTree). (t.place, t.kind)) ts) → AllByRecursion (IsAlarmTreeOf o f plausible) ts → AllByRecursion (IsAlarmTree (length f.atoms)) ts
  alarm_trees [] h k = tt
  alarm_trees (t ∷ ts) h k = (record { place = h.0; tests = k.0.tests }, alarm_trees ts h.1 k.1)

kinds_placed : (places : List Place) → AllByRecursion IsPlace places → AllByRecursion (λ (k : Place × Kind). IsPlace k.0) (by_kind places)
kinds_placed [] h = tt
kinds_placed (p ∷ places) h = (h.0, (h.0, (h.0, kinds_placed places h.1)))

-- ---- certificates

pub families_are_read_back : ((m : Mode) → TransferAnswers intervals m) → FamilyCertificatesAreReadBack
families_are_read_back A regions dialect model text f o loops mode is alarms bytes result over a text_is short answers =
    let told = family_told dialect model text f over.spelled in
    let placed = recursion_from_All IsPlace (program_places (whole f.code)) told.placed in
    let leaves = loop_trees A dialect model text f over o a.plausible a.places (subst (AllByRecursion IsPlace) (sym a.leaf_trees.keys) placed) (recursion_from_All (IsLeafTree o f a.plausible) a.places a.leaf_trees.are) in
    let own = IsLoopTree intervals (length f.atoms) (whole f.code).names in
    let kinds = subst (AllByRecursion (λ (k : Place × Kind). IsPlace k.0)) (sym a.stop_trees.keys) (kinds_placed (program_places (whole f.code)) placed) in
    let stops = alarm_trees A dialect model text f over o a.plausible a.stops kinds (recursion_from_All (IsAlarmTreeOf o f a.plausible) a.stops a.stop_trees.are) in
    intervals_are_read_back regions model f.atoms (whole f.code).names mode is alarms bytes result
    (record { named = over.named; distinct = over.distinct; well = over.atoms; lines = told.lines })
    (record {
      loops = trees_at loops a.places;
      stops = a.stops;
      loop_trees = All-from_recursion own (trees_at loops a.places) (some_trees own loops a.places leaves);
      alarm_trees = All-from_recursion (IsAlarmTree (length f.atoms)) a.stops stops;
      invariants_are = a.invariants_are;
      alarms_are = a.alarms_are;
    }) text_is short answers
