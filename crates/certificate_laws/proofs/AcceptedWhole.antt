-- What is written of an analysis by intervals is read and accepted.
use Rattle.std.proofs.Common.{◌≡◌, ◌≤◌, ℕ, List, [], ◌∷◌, map, length, Result, Ok, Err, refl, ap, sym, subst, ◌∙◌}
use Rattle.std.specs.List.{All, AllByRecursion}
use Rattle.std.proofs.lemmas.List.Elements.{All-from_recursion, recursion_from_All}
use Rattle.fam_outer.specs.declared.faults.Place.{Place}
use Rattle.fam_outer.specs.declared.refusal.Refusal.{Refusal}
use Rattle.fam_outer.specs.declared.refusal.Refusal.TheVariants.{NoMemory, Fault}
use Rattle.c_tree.specs.declared.tree.Kind.{Kind}
use Rattle.c_tree.specs.declared.tree.Mode.{Mode}
use Rattle.c_tree.specs.Places.{program_places}
use Rattle.c_tree.specs.Tree.{Whole}
use Rattle.c_tree.specs.Whole.{IsProgram}
use Rattle.linear_atoms.specs.declared.atoms.Atom.{Atom}
use Rattle.cpp_conditions.specs.declared.formulas.Formula.{Formula}
use Rattle.cpp_conditions.specs.declared.models.Model.{Model}
use Rattle.cpp_conditions.specs.View.{formula}
use Rattle.leaf_domain.specs.Soundness.{TransferAnswers}
use Rattle.interval_leaf.specs.Intervals.{intervals}
use Rattle.interval_leaf.specs.Laws.{interval_laws}
use Rattle.merged_findings.specs.Merged.{IsTreeWhere}
use Rattle.lifted_analysis.specs.Promises.{leaf_at, stop_at, by_kind}
use Rattle.lifted_analysis.specs.Turns.{loop_places}
use Rattle.plain_analysis.specs.declared.options.Options.{Options}
use Rattle.alarm_report.specs.Alarms.{PlainAlarmTree}
use Rattle.alarm_report.specs.Invariants.{LeafTree}
use Rattle.certificate_format.specs.declared.certificates.Certificate.{Certificate}
use Rattle.certificate_format.specs.declared.certificates.CertificateFault.{CertificateFault}
use Rattle.fam_outer.specs.Limits.{certificate_bytes}
use Rattle.certificate_format.specs.Certificates.{IsCertificateRead}
use Rattle.certificate_format.specs.Lines.{IsPlace}
use Rattle.certificate_format.specs.Regions.{piece_of}
use Rattle.certificate_format.specs.Loops.{trees_at}
use Rattle.certificate_laws.specs.Certified.{IsWrittenOf, IsReadAndAccepted}
use Rattle.certificate_laws.specs.Laws.{AreNames, AreOfTrees, AnswersBack}
use Rattle.certificate_laws.specs.Written.{IsLoopTree, IsAlarmTree}
use Rattle.certificate_laws.proofs.AcceptedIntervals.{intervals_told, interval_joins}
use Rattle.certificate_laws.proofs.AcceptedTrees.{place_of, kept_trees}
use Rattle.certificate_laws.proofs.AcceptedVerdict.{answers_yes}
use Rattle.certificate_laws.proofs.Intervals.{intervals_are_read_back}
use Rattle.certificate_laws.proofs.LeavesOver.{tree_over}

-- ---- places

module _ {X : Type 0} (f : X → Place) where
  mapped_places : (xs : List X) (ps : List Place) → map f xs ≡ ps → AllByRecursion IsPlace ps → AllByRecursion (λ x. IsPlace (f x)) xs
  mapped_places [] ps e h = tt
  mapped_places (x ∷ xs) [] e h = cc
  mapped_places (x ∷ xs) (q ∷ ps) e h =
      let first : f x ≡ q = cc in
      let rest : map f xs ≡ ps = cc in
      (subst IsPlace (sym first) h.0, mapped_places xs ps rest h.1)

kinds_placed : (ps : List Place) → AllByRecursion IsPlace ps → AllByRecursion IsPlace (map (λ (k : Place × Kind). k.0) (by_kind ps))
kinds_placed [] h = tt
kinds_placed (x ∷ ps) h = (h.0, (h.0, (h.0, kinds_placed ps h.1)))

map_map : {X Y Z : Type 0} (f : X → Y) (g : Y → Z) (xs : List X) → map g (map f xs) ≡ map (λ x. g (f x)) xs
map_map f g [] = refl
map_map f g (x ∷ xs) = ap (λ l. g (f x) ∷ l) (map_map f g xs)

joined : {X : Type 0} (P Q R : X → Type 0) → ((x : X) → P x → Q x → R x) → (xs : List X) → AllByRecursion P xs → AllByRecursion Q xs → AllByRecursion R xs
joined P Q R f [] h k = tt
joined P Q R f (x ∷ xs) h k = (f x h.0 k.0, joined P Q R f xs h.1 k.1)

-- ---- the whole way

module _ (transfer : (m : Mode) → TransferAnswers intervals m) (o : Options) (model : Model) (p : Whole) (conditions : List Formula) (atoms : List Atom) (bytes : List ℕ)
    (program : IsProgram p) (at : All IsPlace (program_places p)) (names : AreNames model atoms p.names) (h : IsWrittenOf o model p conditions atoms bytes) (short : length bytes ≤ certificate_bytes) where
  abbrev IsLeafTree : LeafTree → Type 0
  IsLeafTree t = IsTreeWhere (length atoms) (λ v. leaf_at intervals o p conditions h.leaves_are.plausible t.place v) (formula h.leaves_are.plausible) t.tree

  places_at : AllByRecursion IsPlace (program_places p)
  places_at = recursion_from_All IsPlace (program_places p) at

  all_trees : AllByRecursion (IsLoopTree intervals (length atoms) p.names) h.places
  all_trees =
      joined (λ (t : LeafTree). IsPlace t.place) IsLeafTree (IsLoopTree intervals (length atoms) p.names)
      (λ t k l. record { place = k; tests = l.tests; leaves = tree_over intervals interval_laws o (transfer o.mode) p program conditions h.leaves_are.plausible (length atoms) t.place t.tree l }) h.places
      (mapped_places place_of h.places (program_places p) h.leaves_are.trees.keys places_at) (recursion_from_All IsLeafTree h.places h.leaves_are.trees.are)

  abbrev IsAlarmTreeOf : PlainAlarmTree → Type 0
  IsAlarmTreeOf t = IsTreeWhere (length atoms) (λ v. stop_at intervals o p conditions h.stops_are.plausible (t.place, t.kind) v) (formula h.stops_are.plausible) t.tree

  stop_trees : AllByRecursion (IsAlarmTree (length atoms)) h.stops
  stop_trees =
      joined (λ (t : PlainAlarmTree). IsPlace t.place) IsAlarmTreeOf (IsAlarmTree (length atoms)) (λ t k l. record { place = k; tests = l.tests }) h.stops
      (mapped_places (λ (t : PlainAlarmTree). t.place) h.stops (map (λ (k : Place × Kind). k.0) (by_kind (program_places p)))
      (sym (map_map (λ (t : PlainAlarmTree). (t.place, t.kind)) (λ (k : Place × Kind). k.0) h.stops) ∙ ap (map (λ (k : Place × Kind). k.0)) h.stops_are.trees.keys)
      (kinds_placed (program_places p) places_at))
      (recursion_from_All IsAlarmTreeOf h.stops h.stops_are.trees.are)

  of_trees : AreOfTrees model atoms p.names h.invariants h.alarms
  of_trees = record {
    loops = trees_at (loop_places p.body) h.places;
    stops = h.stops;
    loop_trees = All-from_recursion (IsLoopTree intervals (length atoms) p.names) (trees_at (loop_places p.body) h.places) (kept_trees (IsLoopTree intervals (length atoms) p.names) (loop_places p.body) h.places all_trees);
    alarm_trees = All-from_recursion (IsAlarmTree (length atoms)) h.stops stop_trees;
    invariants_are = h.loops_are;
    alarms_are = h.alarms_are;
  }

  accepted : (result : Result Certificate (Refusal CertificateFault)) → AnswersBack intervals model atoms p.names o.mode h.invariants h.alarms result → IsReadAndAccepted model p conditions atoms result
  accepted (Ok c) k = λ verdict answered.
      answers_yes intervals interval_laws transfer intervals_told interval_joins o model p conditions atoms c program
      (record { places = h.places; stops = h.stops; invariants = h.invariants; alarms = h.alarms; leaves_are = h.leaves_are; stops_are = h.stops_are; loops_are = h.loops_are; alarms_are = h.alarms_are; read = k }) verdict answered
  accepted (Err NoMemory) k = tt
  accepted (Err (Fault fault)) k = k

  pub read_and_accepted : (result : Result Certificate (Refusal CertificateFault)) → IsCertificateRead (piece_of model.features atoms) p.names bytes result → IsReadAndAccepted model p conditions atoms result
  read_and_accepted result answered =
      accepted result (intervals_are_read_back h.regions model atoms p.names o.mode h.invariants h.alarms bytes result names of_trees h.text short answered)
