-- What the analysis of all variants promises of its trees is what the report on them needs.
use Rattle.std.proofs.Common.{◌≡◌, ◌≤◌, ℕ, ℤ, Bool, true, List, [], ◌∷◌, map, length, refl, ap, ◌∙◌, arith}
use Rattle.std.specs.Prelude.{slice_index_or, Result, Ok, Err, IfOk}
use Rattle.std.specs.List.{All, AllByRecursion}
use Rattle.std.proofs.lemmas.List.Elements.{All-from_recursion, recursion_from_All}
use Rattle.fam_outer.specs.declared.faults.Place.{Place}
use Rattle.c_tree.specs.declared.tree.Kind.{Kind}
use Rattle.c_tree.specs.Places.{program_places}
use Rattle.c_tree.specs.View.{whole}
use Rattle.cpp_conditions.specs.declared.formulas.Formula.{Formula}
use Rattle.cpp_conditions.specs.Numbering.{vector_at}
use Rattle.cpp_conditions.specs.Propositions.{Proposition, Const, Test, Not, And, Or, IsBelow, true_on}
use Rattle.cpp_conditions.specs.Validity.{plain, IsValid}
use Rattle.cpp_conditions.specs.View.{formula}
use Rattle.linear_atoms.specs.declared.atoms.Atom.{Atom}
use Rattle.linear_atoms.specs.declared.regions.Regions.TheVariants.{Paths, Merged}
use Rattle.decision_tree.specs.Plain.{Plain, leaf, node, TestsBelow}
use Rattle.decision_tree.specs.View as tree
use Rattle.atom_solver.specs.Plausible.{IsPlausible}
use Rattle.leaf_domain.specs.Leaves.{LeafValue, LeafMeaning}
use Rattle.lifted_analysis.specs.declared.findings.AlarmTree.{AlarmTree}
use Rattle.lifted_analysis.specs.declared.findings.FamilyFindings.{FamilyFindings}
use Rattle.lifted_analysis.specs.declared.findings.PlaceTree.{PlaceTree}
use Rattle.lifted_analysis.specs.Canon.{IsTreeOf}
use Rattle.lifted_analysis.specs.Promises.{variant_at, begin_at, leaf_at, stop_at, by_kind, valued, AreBelow}
use Rattle.plain_analysis.specs.declared.options.Options.{Options}
use Rattle.plain_analysis.specs.Promises.{RunsForeseen}
use Rattle.alarm_report.specs.Alarms.{PlainAlarmTree, plain_alarm_tree}
use Rattle.alarm_report.specs.Invariants.{LeafTree, leaf_tree}
use Rattle.famlint_loads.specs.declared.product_line.ProductLine.{ProductLine}
use Rattle.merged_findings.specs.Merged.{IsMergedTree}
use Rattle.merged_findings.proofs.Leading.{merged_leads}
use Rattle.famlint_families.specs.FamilyReports.{IsAlarmTreeOf, IsLeafTree}
use Rattle.famlint_families.specs.Findings.{IsFound, AreTested}
use Rattle.famlint_loads.specs.ProductLines.{IsUsableLine}

-- ---- what is asked of a product line

more_tests : (m n : ℕ) → m ≤ n → (p : Proposition ℕ) → IsBelow m p → IsBelow n p
more_tests m n le (Const b) h = tt
more_tests m n le (Test x) h = omega (arith, le, h)
more_tests m n le (Not p) h = more_tests m n le p h
more_tests m n le (And p q) h = (more_tests m n le p h.0, more_tests m n le q h.1)
more_tests m n le (Or p q) h = (more_tests m n le p h.0, more_tests m n le q h.1)

-- all numbers are below the count of atoms, and so below 320
pub below_count : (l : ProductLine) → IsUsableLine l → (p : Formula) → IsBelow (length l.family.atoms) (formula p) → AreBelow (length l.family.atoms) l.family.conditions p
below_count l u p h = record { each = u.family.below; last = h }

pub below_most : (l : ProductLine) → IsUsableLine l → (p : Formula) → IsBelow (length l.family.atoms) (formula p) → AreBelow 320 l.family.conditions p
below_most l u p h = record {
  each = λ k d lt. more_tests (length l.family.atoms) 320 u.family.few (formula (slice_index_or l.family.conditions k d)) (u.family.below k d lt);
  last = more_tests (length l.family.atoms) 320 u.family.few (formula p) h;
}

-- ---- the trees

-- what is known of an analysis over these atoms and conditions
pub record IsAnalysed {L : Type 0} (value : L → LeafValue) (M : LeafMeaning) (o : Options) (l : ProductLine) (p : Formula) (f : FamilyFindings L) (atoms : List Atom) (cs : List Formula) : Type 0 where
  pub plausible : IsPlausible l.model.constraints atoms (formula p)
  pub below : IsBelow (length atoms) (formula p)
  pub valid : (values : List ℤ) → IsValid (plain l.model) values → true_on (vector_at atoms values) (formula p) ≡ true
  pub places : map (λ (x : PlaceTree L). x.place) f.places.items ≡ program_places (whole l.family.code)
  pub trees : (m : ℕ) → AreBelow m cs p → All (λ (x : PlaceTree L). IsTreeOf m (leaf_at M o (whole l.family.code) cs p x.place) (valued value (tree.plain x.tree))) f.places.items
  pub kinds : map (λ (a : AlarmTree). (a.place, a.kind)) f.alarms.items ≡ by_kind (program_places (whole l.family.code))
  pub alarms : (m : ℕ) → AreBelow m cs p → All (λ (a : AlarmTree). IsTreeOf m (stop_at M o (whole l.family.code) cs p (a.place, a.kind)) (tree.plain a.tree)) f.alarms.items
  pub tests : (m : ℕ) → AreBelow m cs p → All (λ (x : PlaceTree L). TestsBelow m (tree.plain x.tree)) f.places.items
  pub runs : (v : List Bool) → RunsForeseen M o (variant_at (whole l.family.code) cs v) (begin_at M (whole l.family.code) cs p v)

map_map : {X Y Z : Type 0} (f : X → Y) (g : Y → Z) (xs : List X) → map g (map f xs) ≡ map (λ x. g (f x)) xs
map_map f g [] = refl
map_map f g (x ∷ xs) = ap (λ l. g (f x) ∷ l) (map_map f g xs)

mapped_by : {X Y : Type 0} (P : Y → Type 0) (f : X → Y) (xs : List X) → AllByRecursion (λ x. P (f x)) xs → AllByRecursion P (map f xs)
mapped_by P f [] h = tt
mapped_by P f (x ∷ xs) h = (h.0, mapped_by P f xs h.1)

all_mapped : {X Y : Type 0} (P : Y → Type 0) (f : X → Y) (xs : List X) → All (λ x. P (f x)) xs → All P (map f xs)
all_mapped P f xs h = All-from_recursion P (map f xs) (mapped_by P f xs (recursion_from_All (λ x. P (f x)) xs h))

module _ {L : Type 0} (value : L → LeafValue) (M : LeafMeaning) (o : Options) (l : ProductLine) (u : IsUsableLine l) (p : Formula) (f : FamilyFindings L)
    (h : IsAnalysed value M o l p f l.family.atoms l.family.conditions) where
  count_below : AreBelow (length l.family.atoms) l.family.conditions p
  count_below = below_count l u p h.below

  pub is_found : IsFound value M o Paths l f
  is_found = record {
    plausible = p;
    plausible_is = h.plausible;
    valid = h.valid;
    stops = record {
      keys = map_map plain_alarm_tree (λ (t : PlainAlarmTree). (t.place, t.kind)) f.alarms.items ∙ h.kinds;
      are = all_mapped (IsAlarmTreeOf M o Paths l p) plain_alarm_tree f.alarms.items (h.alarms (length l.family.atoms) count_below);
    };
    leaves = record {
      keys = map_map (leaf_tree value) (λ (t : LeafTree). t.place) f.places.items ∙ h.places;
      are = all_mapped (IsLeafTree M o Paths l p) (leaf_tree value) f.places.items (h.trees (length l.family.atoms) count_below);
    };
    runs = h.runs;
  }

  pub are_tested : AreTested l f
  are_tested = record {
    stops = λ k d lt. (h.alarms (length l.family.atoms) count_below k d lt).tests;
    leaves = h.tests (length l.family.atoms) count_below;
  }

-- ---- the same trees, merged

-- what merging answers of findings
pub record IsMergedOf {L : Type 0} (value : L → LeafValue) (p : Formula) (f made : FamilyFindings L) : Type 0 where
  pub place_keys : map (λ (x : PlaceTree L). x.place) made.places.items ≡ map (λ (x : PlaceTree L). x.place) f.places.items
  pub alarm_keys : map {B = Place × Kind} (λ (a : AlarmTree). (a.place, a.kind)) made.alarms.items ≡ map {B = Place × Kind} (λ (a : AlarmTree). (a.place, a.kind)) f.alarms.items
  pub trees : (m : ℕ) (g : Place → List Bool → LeafValue) → IsBelow m (formula p) → All (λ (x : PlaceTree L). IsTreeOf m (g x.place) (valued value (tree.plain x.tree))) f.places.items
      → All (λ (x : PlaceTree L). IsMergedTree m (g x.place) (formula p) (valued value (tree.plain x.tree))) made.places.items
  pub alarm_trees : (m : ℕ) (g : Place × Kind → List Bool → Bool) → IsBelow m (formula p) → All (λ (a : AlarmTree). IsTreeOf m (g (a.place, a.kind)) (tree.plain a.tree)) f.alarms.items
      → All (λ (a : AlarmTree). IsMergedTree m (g (a.place, a.kind)) (formula p) (tree.plain a.tree)) made.alarms.items

valued_below : {L : Type 0} (value : L → LeafValue) (m : ℕ) (t : Plain L) → TestsBelow m (valued value t) → TestsBelow m t
valued_below value m (leaf x) h = tt
valued_below value m (node k low high) h = (h.0, valued_below value m low h.1, valued_below value m high h.2)

module _ {L : Type 0} (value : L → LeafValue) (M : LeafMeaning) (o : Options) (l : ProductLine) (u : IsUsableLine l) (p : Formula) (f made : FamilyFindings L)
    (h : IsAnalysed value M o l p f l.family.atoms l.family.conditions) (k : IsMergedOf value p f made) where
  abbrev count : ℕ
  count = length l.family.atoms

  below : AreBelow count l.family.conditions p
  below = below_count l u p h.below

  stops : All (λ (a : AlarmTree). IsMergedTree count (stop_at M o (whole l.family.code) l.family.conditions p (a.place, a.kind)) (formula p) (tree.plain a.tree)) made.alarms.items
  stops = k.alarm_trees count (stop_at M o (whole l.family.code) l.family.conditions p) h.below (h.alarms count below)

  leaves : All (λ (x : PlaceTree L). IsMergedTree count (leaf_at M o (whole l.family.code) l.family.conditions p x.place) (formula p) (valued value (tree.plain x.tree))) made.places.items
  leaves = k.trees count (leaf_at M o (whole l.family.code) l.family.conditions p) h.below (h.trees count below)

  pub merged_found : IsFound value M o Merged l made
  merged_found = record {
    plausible = p;
    plausible_is = h.plausible;
    valid = h.valid;
    stops = record {
      keys = map_map plain_alarm_tree (λ (t : PlainAlarmTree). (t.place, t.kind)) made.alarms.items ∙ (k.alarm_keys ∙ h.kinds);
      are = all_mapped (IsAlarmTreeOf M o Merged l p) plain_alarm_tree made.alarms.items stops;
    };
    leaves = record {
      keys = map_map (leaf_tree value) (λ (t : LeafTree). t.place) made.places.items ∙ (k.place_keys ∙ h.places);
      are = all_mapped (IsLeafTree M o Merged l p) (leaf_tree value) made.places.items leaves;
    };
    runs = h.runs;
  }

  pub merged_tested : AreTested l made
  merged_tested = record {
    stops = λ i d lt. restricted_tests (stops i d lt);
    leaves = λ i d lt. valued_below value count (tree.plain (slice_index_or made.places.items i d).tree) (restricted_tests (leaves i d lt));
  } where
    restricted_tests : {A : Type 0} {g : List Bool → A} {t : Plain A} → IsMergedTree count g (formula p) t → TestsBelow count t
    restricted_tests {A} {g} {t} is = (merged_leads count g (formula p) t is).tests

-- ---- what a call of it has answered

pub record IsMergedFound {L : Type 0} (value : L → LeafValue) (M : LeafMeaning) (o : Options) (l : ProductLine) (made : FamilyFindings L) : Type 0 where
  pub found : IsFound value M o Merged l made
  pub tested : AreTested l made

pub merged_all : {L E : Type 0} (value : L → LeafValue) (M : LeafMeaning) (o : Options) (l : ProductLine) (u : IsUsableLine l) (p : Formula) (f : FamilyFindings L) (h : IsAnalysed value M o l p f l.family.atoms l.family.conditions)
    (result : Result (FamilyFindings L) E) → IfOk result (IsMergedOf value p f) → IfOk result (IsMergedFound value M o l)
merged_all value M o l u p f h (Ok made) k = record { found = merged_found value M o l u p f made h k; tested = merged_tested value M o l u p f made h k }
merged_all value M o l u p f h (Err e) k = tt

pub merged_of : {L E : Type 0} (value : L → LeafValue) (p : Formula) (f : FamilyFindings L) (result : Result (FamilyFindings L) E)
    → IfOk result (λ made. map (λ (x : PlaceTree L). x.place) made.places.items ≡ map (λ (x : PlaceTree L). x.place) f.places.items)
    → IfOk result (λ made. map {B = Place × Kind} (λ (a : AlarmTree). (a.place, a.kind)) made.alarms.items ≡ map {B = Place × Kind} (λ (a : AlarmTree). (a.place, a.kind)) f.alarms.items)
    → IfOk result (λ made. (m : ℕ) (g : Place → List Bool → LeafValue) → IsBelow m (formula p) → All (λ (x : PlaceTree L). IsTreeOf m (g x.place) (valued value (tree.plain x.tree))) f.places.items
    → All (λ (x : PlaceTree L). IsMergedTree m (g x.place) (formula p) (valued value (tree.plain x.tree))) made.places.items)
    → IfOk result (λ made. (m : ℕ) (g : Place × Kind → List Bool → Bool) → IsBelow m (formula p) → All (λ (a : AlarmTree). IsTreeOf m (g (a.place, a.kind)) (tree.plain a.tree)) f.alarms.items
    → All (λ (a : AlarmTree). IsMergedTree m (g (a.place, a.kind)) (formula p) (tree.plain a.tree)) made.alarms.items)
    → IfOk result (IsMergedOf value p f)
merged_of value p f (Ok made) a b c d = record { place_keys = a; alarm_keys = b; trees = c; alarm_trees = d }
merged_of value p f (Err e) a b c d = tt

pub found_by : {L E : Type 0} (value : L → LeafValue) (M : LeafMeaning) (o : Options) (l : ProductLine) (result : Result (FamilyFindings L) E) → IfOk result (IsMergedFound value M o l) → IfOk result (λ made. IsFound value M o Merged l made)
found_by value M o l (Ok made) h = h.found
found_by value M o l (Err e) h = tt

pub tested_by : {L E : Type 0} (value : L → LeafValue) (M : LeafMeaning) (o : Options) (l : ProductLine) (result : Result (FamilyFindings L) E) → IfOk result (IsMergedFound value M o l) → IfOk result (λ made. AreTested l made)
tested_by value M o l (Ok made) h = h.tested
tested_by value M o l (Err e) h = tt
