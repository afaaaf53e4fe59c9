-- The states that runs reach, and the invariants of places and of loops.
use Rattle.std.proofs.Common.{◌≡◌, ℕ, zero, suc, ℤ, Bool, true, false, List, [], ◌∷◌, cond, map, length, take, refl, ap, subst, ◌∙◌, arith}
use Rattle.std.proofs.lemmas.List.{take_all}
use Rattle.std.proofs.lemmas.List.Elements.{All-from_recursion, recursion_from_All}
use Rattle.std.proofs.lemmas.Option.{none-some, same_Some}
use Rattle.std.specs.Prelude.{slice_get, slice_index_or, Some}
use Rattle.std.specs.List.{All}
use Rattle.fam_outer.specs.declared.faults.Place.{Place}
use Rattle.c_tree.specs.Places.{places_of, program_places}
use Rattle.c_tree.specs.Run.{End, AtEnd, StoppedEnd, WaitingEnd, EndedEnd, run_of}
use Rattle.c_tree.specs.Tree.{Whole}
use Rattle.c_tree.specs.Value.{IsInt}
use Rattle.c_tree.specs.View.{whole}
use Rattle.linear_atoms.specs.declared.atoms.Atom.{Atom}
use Rattle.linear_atoms.specs.declared.regions.Regions.{Regions}
use Rattle.cpp_conditions.specs.declared.models.Model.{Model}
use Rattle.cpp_conditions.specs.Numbering.{vector_at}
use Rattle.cpp_conditions.specs.Validity.{plain, IsValid}
use Rattle.cpp_conditions.specs.View.{formula}
use Rattle.decision_tree.specs.Plain.{Plain, leaf, node, leaf_of}
use Rattle.leaf_domain.specs.Leaves.{LeafValue, LeafMeaning, LeafLaws}
use Rattle.leaf_domain.specs.Soundness.{TransferAnswers}
use Rattle.lifted_analysis.specs.declared.findings.FamilyFindings.{FamilyFindings}
use Rattle.lifted_analysis.specs.Promises.{leaf_at}
use Rattle.lifted_analysis.specs.Turns.{loop_places}
use Rattle.merged_findings.specs.Merged.{IsTreeWhere}
use Rattle.plain_analysis.specs.declared.alarm.Alarm.{Alarm}
use Rattle.plain_analysis.specs.declared.options.Options.{Options}
use Rattle.plain_analysis.specs.Places.{at_of, alarms_of}
use Rattle.plain_analysis.specs.Promises.{IsForeseen}
use Rattle.c_parser.specs.Variants.{VariantsAreRead, projection, truths_in}
use Rattle.alarm_report.specs.Invariants.{LeafTree, leaf_tree, Invariant, AreInvariants, ArePlaced, CoversPlaces, HasOnce}
use Rattle.alarm_report.specs.LeafTexts.{leaf_text}
use Rattle.certificate_format.specs.Loops.{trees_at}
use Rattle.invariant_certificate.proofs.Looped.{loops_placed}
use Rattle.invariant_certificate.proofs.Sublists.{Within, at_left, rising_some}
use Rattle.certificate_laws.specs.Written.{AllLeaves, IsLeafOver}
use Rattle.certificate_laws.proofs.AcceptedTrees.{kept_trees, trees_placed}
use Rattle.certificate_laws.proofs.LeavesOver.{tree_over}
use Rattle.report_laws.specs.Stores.{TellsStore, LeafTextsTellStores}
use Rattle.famlint_loads.specs.declared.product_line.ProductLine.{ProductLine}
use Rattle.famlint_loads.specs.ProductLines.{IsUsableLine}
use Rattle.famlint_loads.proofs.Selecting.{is_program_at}
use Rattle.famlint_families.specs.FamilyReports.{IsLeafTree}
use Rattle.famlint_families.specs.Findings.{IsFound, AreGoodInvariants, AreGoodLoops}
use Rattle.famlint_families.specs.Headline.{HasState, ShowsState, Reaches, AtLoops, AreItsInvariants, AreItsLoops}
use Rattle.famlint_families.proofs.Foretold.{begins, long, foreseen}
use Rattle.famlint_families.proofs.Told.{told_leads}
use Rattle.famlint_programs.proofs.Keys.{all_at, placed, place_there, leaf_tree_there}
use Rattle.famlint_programs.proofs.Reached.{leaf_there}

-- ---- trees at places

abbrev place_of : LeafTree → Place
place_of t = t.place

placed_at : (ts : List LeafTree) (n : ℕ) (t : LeafTree) → slice_get ts n ≡ Some t → slice_get (map place_of ts) n ≡ Some t.place
placed_at [] n t e = absurd (none-some t e)
placed_at (x ∷ ts) zero t e = ap (λ (y : LeafTree). Some y.place) (same_Some x t e)
placed_at (x ∷ ts) (suc n) t e = placed_at ts n t e

-- what holds of each leaf of a tree holds of the leaf at a vector
one_leaf : {L : Type 0} (P : L → Type 0) (t : Plain L) (v : List Bool) → AllLeaves P t → P (leaf_of t v)
one_leaf P (leaf x) v h = h
one_leaf P (node k low high) v h =
    elim (slice_index_or v k false) as (λ b. P (cond b (leaf_of high v) (leaf_of low v))) [ true ↦ one_leaf P high v h.1 | false ↦ one_leaf P low v h.0 ]

-- a text over the names of as many variables as there are
all_told : (names : List (List ℕ)) (n : ℕ) (store : List ℤ) (text : List ℕ) → n ≡ length names → TellsStore (take n names) store text → TellsStore names store text
all_told names n store text e h =
    let all : take n names ≡ names = take_all n names (omega (arith, e)) in
    subst (λ (ns : List (List ℕ)). TellsStore ns store text) all h

-- ---- what was found

module _ {L : Type 0} (value : L → LeafValue) (M : LeafMeaning) (laws : LeafLaws M) (o : Options) (r : Regions) (l : ProductLine) (u : IsUsableLine l) (law : VariantsAreRead)
    (answers : TransferAnswers M o.mode) (texts : LeafTextsTellStores M) (f : FamilyFindings L) (found : IsFound value M o r l f) where
  abbrev vector : List ℤ → List Bool
  vector values = vector_at l.family.atoms values

  abbrev program : List ℤ → Whole
  program values = projection l.family (truths_in l.family values)

  abbrev start : List ℤ → LeafValue
  start values = M.start (program values).start

  -- the leaf at a place in the analysis of the variant
  abbrev at : List ℤ → Place → LeafValue
  at values place = at_of M o (program values) (start values) place

  abbrev names : List (List ℕ)
  names = (whole l.family.code).names

  -- ---- of trees of some places

  module _ (trees : List LeafTree) (places : List Place) (keys : map place_of trees ≡ places) (are : All (IsLeafTree M o r l found.plausible) trees) where
    tree_where : (n : ℕ) (t : LeafTree) → slice_get trees n ≡ Some t
        → IsTreeWhere (length l.family.atoms) (leaf_at M o (whole l.family.code) l.family.conditions found.plausible t.place) (formula found.plausible) t.tree
    tree_where n t there =
        told_leads r (length l.family.atoms) (leaf_at M o (whole l.family.code) l.family.conditions found.plausible t.place) (formula found.plausible) t.tree
        (all_at (IsLeafTree M o r l found.plausible) trees n t are there)

    leaf_says : (values : List ℤ) → IsValid (plain l.model) values → (n : ℕ) (t : LeafTree) → slice_get trees n ≡ Some t → leaf_of t.tree (vector values) ≡ at values t.place
    leaf_says values valid n t there =
        (tree_where n t there).leads (vector values) (long value M laws o r l f found u.family.program.rising law u.spelled values) (found.valid values valid)
        ∙ ap (λ d. at_of M o (program values) d t.place) (begins value M laws o r l f found u.family.program.rising law u.spelled values valid)

    leaf_over : (values : List ℤ) → IsValid (plain l.model) values → (n : ℕ) (place : Place) → slice_get places n ≡ Some place → IsLeafOver M names (at values place)
    leaf_over values valid n place h =
        let there = leaf_tree_there trees places keys n place h in
        let t = there.one in
        subst (λ p. IsLeafOver M names (at values p)) there.place_is
        (subst (IsLeafOver M names) (leaf_says values valid there.index t there.there)
        (one_leaf (IsLeafOver M names) t.tree (vector values)
        (tree_over M laws o answers (whole l.family.code) u.family.program l.family.conditions found.plausible (length l.family.atoms) t.place t.tree (tree_where there.index t there.there))))

    module _ (invariants : List Invariant) (cover : CoversPlaces l.model l.family.atoms trees invariants) where
      has_once : (values : List ℤ) → IsValid (plain l.model) values → (n : ℕ) (place : Place) → slice_get places n ≡ Some place → HasOnce invariants place (at values place) values
      has_once values valid n place h =
          let there = leaf_tree_there trees places keys n place h in
          let t = there.one in
          subst (λ p. HasOnce invariants p (at values p) values) there.place_is
          (subst (λ v. HasOnce invariants t.place v values) (leaf_says values valid there.index t there.there) (cover.one values there.index t valid there.there))

      has_state : (values : List ℤ) → IsValid (plain l.model) values → (n : ℕ) (place : Place) (store : List ℤ) → slice_get places n ≡ Some place → M.holds (at values place) store
          → HasState M o invariants values (program values) place store
      has_state values valid n place store here h = record { once = has_once values valid n place here; holds = h }

      shows_state : (values : List ℤ) → IsValid (plain l.model) values → (n : ℕ) (place : Place) (store : List ℤ) → slice_get places n ≡ Some place → M.holds (at values place) store
          → ShowsState M names invariants values place store
      shows_state values valid n place store here h =
          let over = leaf_over values valid n place here in
          record {
            leaf = at values place;
            once = has_once values valid n place here;
            tells = all_told names (at values place).variables store (leaf_text M names (at values place)) over.variables
                (texts names (at values place) store over.valid h (omega (arith, over.variables)));
          }

      only_places : (i : ℕ) (one : Invariant) → slice_get invariants i ≡ Some one → (n : ℕ) × (slice_get places n ≡ Some one.place)
      only_places i one there =
          let known = cover.known i one there in (
            known.index,
            subst (λ (ps : List Place). slice_get ps known.index ≡ Some one.place) keys
                (placed_at trees known.index known.one known.there ∙ ap (λ (p : Place). Some p) known.place_is),
          )

  -- ---- what a run reaches

  reaches : (IsSo : Place → List ℤ → Type 0) (values : List ℤ) → IsValid (plain l.model) values → ((place : Place) (store : List ℤ) → M.holds (at values place) store → IsSo place store)
      → (alarms : List Alarm) (e : End) → IsForeseen M (at values) (program values).end alarms e → Reaches IsSo (program values).end e
  reaches IsSo values valid so alarms (AtEnd place store) h = so place store h
  reaches IsSo values valid so alarms (WaitingEnd place store) h = so place store h
  reaches IsSo values valid so alarms (EndedEnd store) h = so (program values).end store h
  reaches IsSo values valid so alarms (StoppedEnd place kind) h = tt

  reached : (IsSo : Place → List ℤ → Type 0) (values : List ℤ) → IsValid (plain l.model) values → ((place : Place) (store : List ℤ) → M.holds (at values place) store → IsSo place store)
      → (inputs : List ℤ) (n : ℕ) → All IsInt inputs → Reaches IsSo (program values).end (run_of (program values) inputs n o.mode)
  reached IsSo values valid so inputs n ints =
      reaches IsSo values valid so (alarms_of M o (program values) (start values)) (run_of (program values) inputs n o.mode)
      (foreseen value M laws o r l f found u.family.program.rising law u.spelled values valid inputs n ints)

  -- ---- the invariants of all places

  abbrev leaves : List LeafTree
  leaves = map (leaf_tree value) f.places.items

  abbrev all_places : List Place
  all_places = program_places (whole l.family.code)

  module _ (invariants : List Invariant) (cover : CoversPlaces l.model l.family.atoms leaves invariants) where
    here : (values : List ℤ) (place : Place) (store : List ℤ) → M.holds (at values place) store → (n : ℕ) × (slice_get all_places n ≡ Some place)
    here values place store h = place_there all_places place (leaf_there M o (whole l.family.code) (truths_in l.family values) (start values) laws place store h)

    its_invariants : (values : List ℤ) → IsValid (plain l.model) values → AreItsInvariants M o (whole l.family.code) invariants values (program values)
    its_invariants values valid = record {
      states = reached (HasState M o invariants values (program values)) values valid
          (λ place store h. let k = here values place store h in has_state leaves all_places found.leaves.keys found.leaves.are invariants cover values valid k.0 place store k.1 h);
      shown = reached (ShowsState M names invariants values) values valid
          (λ place store h. let k = here values place store h in shows_state leaves all_places found.leaves.keys found.leaves.are invariants cover values valid k.0 place store k.1 h);
      leaves = has_once leaves all_places found.leaves.keys found.leaves.are invariants cover values valid;
      places = only_places leaves all_places found.leaves.keys found.leaves.are invariants cover;
    }

    good_invariants : AreInvariants l.model l.family.atoms leaves invariants → AreGoodInvariants M o r l invariants
    good_invariants regions = record {
      are = record { plausible = found.plausible; plausible_is = found.plausible_is; trees = leaves; told = found.leaves; tells = regions };
      all = λ values valid. (program values, is_program_at law l values (program values) u.spelled valid refl, its_invariants values valid);
    }

  leaves_placed : ArePlaced leaves
  leaves_placed = placed leaves all_places found.leaves.keys u.family.program.rising

  -- ---- the invariants of the loops

  abbrev loops : List Place
  loops = loop_places (whole l.family.code).body

  abbrev loop_leaves : List LeafTree
  loop_leaves = trees_at loops leaves

  loops_within : Within loops all_places
  loops_within = at_left loops (places_of (whole l.family.code).body) ((whole l.family.code).end ∷ []) (loops_placed (whole l.family.code).body)

  loop_keys : map place_of loop_leaves ≡ loops
  loop_keys = trees_placed loops all_places loops_within leaves found.leaves.keys u.family.program.rising

  loop_trees : All (IsLeafTree M o r l found.plausible) loop_leaves
  loop_trees =
      All-from_recursion (IsLeafTree M o r l found.plausible) loop_leaves
      (kept_trees (IsLeafTree M o r l found.plausible) loops leaves (recursion_from_All (IsLeafTree M o r l found.plausible) leaves found.leaves.are))

  loops_apart : ArePlaced loop_leaves
  loops_apart = placed loop_leaves loops loop_keys (rising_some loops all_places loops_within u.family.program.rising)

  module _ (invariants : List Invariant) (cover : CoversPlaces l.model l.family.atoms loop_leaves invariants) where
    its_loops : (values : List ℤ) → IsValid (plain l.model) values → AreItsLoops M o (whole l.family.code) invariants values (program values)
    its_loops values valid = record {
      states = reached (AtLoops (whole l.family.code) (HasState M o invariants values (program values))) values valid
          (λ place store h n k. has_state loop_leaves loops loop_keys loop_trees invariants cover values valid n place store k h);
      shown = reached (AtLoops (whole l.family.code) (ShowsState M names invariants values)) values valid
          (λ place store h n k. shows_state loop_leaves loops loop_keys loop_trees invariants cover values valid n place store k h);
      leaves = has_once loop_leaves loops loop_keys loop_trees invariants cover values valid;
      places = only_places loop_leaves loops loop_keys loop_trees invariants cover;
    }

    good_loops : AreInvariants l.model l.family.atoms loop_leaves invariants → AreGoodLoops M o r l invariants
    good_loops regions = record {
      are = record { plausible = found.plausible; plausible_is = found.plausible_is; trees = leaves; told = found.leaves; tells = regions };
      all = λ values valid. (program values, is_program_at law l values (program values) u.spelled valid refl, its_loops values valid);
    }

-- ---- what a call has answered, over the atoms of the product line

pub record AreInvariantsFrom (model : Model) (atoms : List Atom) (trees : List LeafTree) (invariants : List Invariant) : Type 0 where
  pub regions : AreInvariants model atoms trees invariants
  pub cover : ArePlaced trees → CoversPlaces model atoms trees invariants

from_here : (model given : Model) (atoms xs : List Atom) (trees ts : List LeafTree) (invariants : List Invariant) → model ≡ given → atoms ≡ xs → trees ≡ ts
    → AreInvariantsFrom model atoms trees invariants → AreInvariantsFrom given xs ts invariants
from_here model given atoms xs trees ts invariants same_model same_atoms same_trees from =
    subst (λ (m : Model). AreInvariantsFrom m xs ts invariants) same_model
    (subst (λ (ys : List Atom). AreInvariantsFrom model ys ts invariants) same_atoms (subst (λ (ys : List LeafTree). AreInvariantsFrom model atoms ys invariants) same_trees from))

module _ {L : Type 0} (value : L → LeafValue) (M : LeafMeaning) (laws : LeafLaws M) (l : ProductLine) (u : IsUsableLine l) (law : VariantsAreRead) (texts : LeafTextsTellStores M)
    (f : FamilyFindings L) (model : Model) (atoms : List Atom) (same_model : model ≡ l.model) (same_atoms : atoms ≡ l.family.atoms) (trees : List LeafTree)
    (invariants : List Invariant) (from : AreInvariantsFrom model atoms trees invariants) (o : Options) (r : Regions) (answers : TransferAnswers M o.mode) (found : IsFound value M o r l f) where
  pub invariants_from : trees ≡ map (leaf_tree value) f.places.items → AreGoodInvariants M o r l invariants
  invariants_from same =
      let here : AreInvariantsFrom l.model l.family.atoms (map (leaf_tree value) f.places.items) invariants =
      from_here model l.model atoms l.family.atoms trees (map (leaf_tree value) f.places.items) invariants same_model same_atoms same from in
      good_invariants value M laws o r l u law answers texts f found invariants (here.cover (leaves_placed value M laws o r l u law answers texts f found)) here.regions

  pub loops_from : trees ≡ trees_at (loop_places (whole l.family.code).body) (map (leaf_tree value) f.places.items) → AreGoodLoops M o r l invariants
  loops_from same =
      let here : AreInvariantsFrom l.model l.family.atoms (trees_at (loop_places (whole l.family.code).body) (map (leaf_tree value) f.places.items)) invariants =
      from_here model l.model atoms l.family.atoms trees (trees_at (loop_places (whole l.family.code).body) (map (leaf_tree value) f.places.items)) invariants same_model same_atoms same from in
      good_loops value M laws o r l u law answers texts f found invariants (here.cover (loops_apart value M laws o r l u law answers texts f found)) here.regions
