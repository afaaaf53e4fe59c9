-- The invariants of trees cover the trees.
use Rattle.std.proofs.Common.{◌≡◌, ◌<◌, ◌+◌, ℕ, zero, suc, ℤ, Bool, true, List, [], ◌∷◌, ◌++◌, length, map, refl, sym, subst, ap, ◌∙◌, arith, inl, inr, slice_index_or}
use Rattle.std.specs.Prelude.{Some, None, slice_get, option_map}
use Rattle.std.specs.List.{All}
use Rattle.std.proofs.lemmas.List.Elements.{All-head, All-tail, All-cons, All-nil}
use Rattle.std.proofs.lemmas.List.{append-nil, append_assoc}
use Rattle.std.proofs.lemmas.Option.{slice_get-map}
use Rattle.fam_outer.specs.declared.faults.Place.{Place}
use Rattle.linear_atoms.specs.declared.atoms.Atom.{Atom}
use Rattle.linear_atoms.specs.Atoms.{AreAtoms, AreLiterals}
use Rattle.cpp_conditions.specs.declared.models.Model.{Model}
use Rattle.cpp_conditions.specs.Numbering.{vector_at}
use Rattle.cpp_conditions.specs.Validity.{plain, IsValid}
use Rattle.decision_tree.specs.Paths.{paths_of, Takes, TakesOne}
use Rattle.decision_tree.specs.Plain.{Plain, leaf_of, TestsBelow}
use Rattle.decision_tree.specs.Shown.{shown}
use Rattle.decision_tree.specs.View as shared
use Rattle.decision_tree.specs.declared.paths.Path.{Path}
use Rattle.decision_tree.proofs.OnePath.{takes_one}
use Rattle.decision_tree.proofs.Places.{kept_at, later_at, parted_at, mapped_at}
use Rattle.atom_solver.specs.Solutions.{all_hold}
use Rattle.leaf_domain.specs.Leaves.{LeafValue}
use Rattle.lifted_analysis.specs.declared.findings.PlaceTree.{PlaceTree}
use Rattle.alarm_report.specs.declared.invariants.FamilyInvariant.{FamilyInvariant}
use Rattle.alarm_report.specs.declared.region.Region.{Region}
use Rattle.alarm_report.specs.Adding.{AddsPath}
use Rattle.alarm_report.specs.Invariants.{LeafTree, Invariant, leaf_tree, invariant, AreOfPaths, AreInvariants, ArePlaced, HasOnce, HasPlace, CoversPlaces}
use Rattle.alarm_report.specs.Invariants as invs
use Rattle.alarm_report.specs.Regions.{literals_of, IsRegionOf, AreRegionsOf, AreRegions, paths_to_true, Meets, MeetsOne, Covers}
use Rattle.alarm_report.specs.Regions as of
use Rattle.alarm_report.proofs.Covering.{AreBelow, all_below, to_true, stands_same}
use Rattle.alarm_report.proofs.Fitting.{got}
use Rattle.alarm_report.proofs.Leading.{everywhere, everywhere_from, as_true, true_there, below_everywhere, below_valued, all_to_true}
use Rattle.alarm_report.proofs.Meeting.{covers, taken_all}
use Rattle.alarm_report.proofs.Wellformed.{region_fits}

abbrev pub LeafPaths : Type 0
LeafPaths = List (List (ℕ × Bool) × LeafValue)

abbrev pub placed : Place → Region → LeafValue → Invariant
placed place r x = record { place = place; region = r; leaf = x }

-- ---- one path more, and one tree more

no_more : (model : Model) (atoms : List Atom) (place : Place) (path : List (ℕ × Bool) × LeafValue) (paths : LeafPaths) (is : List Invariant)
    → AreOfPaths model atoms place paths is → IsRegionOf model atoms path.0 None → AreOfPaths model atoms place (paths ++ path ∷ []) is
no_more model atoms place path _ _ invs.no_path k = invs.void path [] [] k invs.no_path
no_more model atoms place path _ is (invs.void p ps xs v h) k = invs.void p (ps ++ path ∷ []) is v (no_more model atoms place path ps is h k)
no_more model atoms place path _ _ (invs.region p ps r xs v h) k = invs.region p (ps ++ path ∷ []) r xs v (no_more model atoms place path ps xs h k)

one_more : (model : Model) (atoms : List Atom) (place : Place) (path : List (ℕ × Bool) × LeafValue) (paths : LeafPaths) (is : List Invariant) (r : Region)
    → AreOfPaths model atoms place paths is → IsRegionOf model atoms path.0 (Some r) → AreOfPaths model atoms place (paths ++ path ∷ []) (is ++ placed place r path.1 ∷ [])
one_more model atoms place path _ _ r invs.no_path k = invs.region path [] r [] k invs.no_path
one_more model atoms place path _ is r (invs.void p ps xs v h) k = invs.void p (ps ++ path ∷ []) (is ++ placed place r path.1 ∷ []) v (one_more model atoms place path ps is r h k)
one_more model atoms place path _ _ r (invs.region p ps q xs v h) k =
    invs.region p (ps ++ path ∷ []) q (xs ++ placed place r path.1 ∷ []) v (one_more model atoms place path ps xs r h k)

pub void_added : (model : Model) (atoms : List Atom) (place : Place) (path : List (ℕ × Bool) × LeafValue) (is : List Invariant) → IsRegionOf model atoms path.0 None
    → AddsPath model atoms place path is is
void_added model atoms place path is k = λ paths h. no_more model atoms place path paths is h k

pub region_added : (model : Model) (atoms : List Atom) (place : Place) (path : List (ℕ × Bool) × LeafValue) (is : List Invariant) (r : Region) → IsRegionOf model atoms path.0 (Some r)
    → AddsPath model atoms place path is (is ++ placed place r path.1 ∷ [])
region_added model atoms place path is r k = λ paths h. one_more model atoms place path paths is r h k

pub invariants_more : (model : Model) (atoms : List Atom) (ts : List LeafTree) (is : List Invariant) (t : LeafTree) (own : List Invariant)
    → AreInvariants model atoms ts is → AreOfPaths model atoms t.place (paths_of t.tree) own → AreInvariants model atoms (ts ++ t ∷ []) (is ++ own)
invariants_more model atoms _ _ t own invs.no_tree k = subst (λ xs. AreInvariants model atoms (t ∷ []) xs) (append-nil own) (invs.tree t [] own [] k invs.no_tree)
invariants_more model atoms _ _ t own (invs.tree u us is more h rest) k =
    subst (λ xs. AreInvariants model atoms (u ∷ (us ++ t ∷ [])) xs) (sym (append_assoc is more own))
    (invs.tree u (us ++ t ∷ []) is (more ++ own) h (invariants_more model atoms us more t own rest k))

-- ---- the paths of a tree of leaves

pub leaf_paths_below : {L : Type 0} (m : ℕ) (t : Plain L) → TestsBelow m t → (i : ℕ) (p : List (ℕ × Bool) × L) → slice_get (paths_of t) i ≡ Some p → AreBelow m p.0
leaf_paths_below {L} m t below i p e =
    let f : List (ℕ × Bool) × L → List (ℕ × Bool) × Bool = as_true in
    let seen : slice_get (paths_of (everywhere t)) i ≡ Some (f p) = ap (λ xs. slice_get xs i) (everywhere_from [] t) ∙ slice_get-map f (paths_of t) i ∙ ap (option_map f) e in
    all_below m (everywhere t) (below_everywhere m t below) i (f p) seen

-- the turns of a path among those that are shown
pub leaf_path_below : {L : Type 0} (m : ℕ) (t : Plain L) (items all : List (Path L)) (i : ℕ) (x : Path L) → TestsBelow m t → items ≡ all → shown all ≡ paths_of t → i < length items
    → x ≡ slice_index_or items i x → AreBelow m x.turns
leaf_path_below {L} m t items all i x below same are within is =
    let f : Path L → List (ℕ × Bool) × L = λ p. (p.turns, p.leaf.value.value) in
    let there : slice_get items i ≡ Some x = got items i x within ∙ ap (λ y. Some y) (sym is) in
    let seen : slice_get (shown items) i ≡ Some (f x) = slice_get-map f items i ∙ ap (option_map f) there in
    leaf_paths_below m t below i (f x) (ap (λ ps. slice_get ps i) (sym (ap shown same ∙ are)) ∙ seen)

-- ---- the regions of its paths

regions_of : (model : Model) (atoms : List Atom) (place : Place) (ps : LeafPaths) (is : List Invariant) → AreOfPaths model atoms place ps is
    → AreRegionsOf model atoms (map (λ (p : List (ℕ × Bool) × LeafValue). p.0) ps) (map (λ (i : Invariant). i.region) is)
regions_of model atoms place _ _ invs.no_path = of.no_path
regions_of model atoms place _ is (invs.void p ps xs v h) = of.void p.0 _ _ v (regions_of model atoms place ps is h)
regions_of model atoms place _ _ (invs.region p ps r xs v h) = of.region p.0 _ r _ v (regions_of model atoms place ps xs h)

-- where an invariant is from
record Origin (model : Model) (atoms : List Atom) (place : Place) (ps : LeafPaths) (one : Invariant) : Type 0 where
  pub index : ℕ
  pub path : List (ℕ × Bool) × LeafValue
  pub there : slice_get ps index ≡ Some path
  pub region_is : IsRegionOf model atoms path.0 (Some one.region)
  pub leaf_is : one.leaf ≡ path.1
  pub place_is : one.place ≡ place

later_origin : (model : Model) (atoms : List Atom) (place : Place) (p : List (ℕ × Bool) × LeafValue) (ps : LeafPaths) (one : Invariant) → Origin model atoms place ps one
    → Origin model atoms place (p ∷ ps) one
later_origin model atoms place p ps one o = record { index = suc o.index; path = o.path; there = o.there; region_is = o.region_is; leaf_is = o.leaf_is; place_is = o.place_is }

origin : (model : Model) (atoms : List Atom) (place : Place) (ps : LeafPaths) (is : List Invariant) → AreOfPaths model atoms place ps is
    → (i : ℕ) (one : Invariant) → slice_get is i ≡ Some one → Origin model atoms place ps one
origin model atoms place _ _ invs.no_path i one e = cc
origin model atoms place _ is (invs.void p ps xs v h) i one e = later_origin model atoms place p ps one (origin model atoms place ps is h i one e)
origin model atoms place _ _ (invs.region p ps r xs v h) zero one e =
    let f : placed place r p.1 ≡ one = cc in
    record {
      index = 0;
      path = p;
      there = refl;
      region_is = subst (λ (x : Invariant). IsRegionOf model atoms p.0 (Some x.region)) f v;
      leaf_is = sym (ap (λ (x : Invariant). x.leaf) f);
      place_is = sym (ap (λ (x : Invariant). x.place) f);
    }
origin model atoms place _ _ (invs.region p ps r xs v h) (suc i) one e = later_origin model atoms place p ps one (origin model atoms place ps xs h i one e)

-- ---- one tree

same_path : (ps : LeafPaths) (i j : ℕ) (p q : List (ℕ × Bool) × LeafValue) → slice_get ps i ≡ Some p → slice_get ps j ≡ Some q → i ≡ j → p ≡ q
same_path ps i j p q e f g = let h : Some p ≡ Some q = sym e ∙ ap (slice_get ps) g ∙ f in cc

module _ (model : Model) (atoms : List Atom) where
  abbrev leaf_there : LeafTree → List ℤ → LeafValue
  leaf_there t values = leaf_of t.tree (vector_at atoms values)

  -- the leaf of a path that is met
  leads : (t : LeafTree) (one : Invariant) (values : List ℤ) → TestsBelow (length atoms) t.tree → IsValid (plain model) values
      → (o : Origin model atoms t.place (paths_of t.tree) one) → Meets one.region values → o.path.1 ≡ leaf_there t values
  leads t one values below valid o m =
      let w = vector_at atoms values in
      let met : all_hold (literals_of atoms o.path.0) values ≡ true = stands_same model [] (literals_of atoms o.path.0) one.region.literals o.region_is.0 values valid ∙ m in
      let taken : Takes w o.path.0 = taken_all atoms o.path.0 values (leaf_paths_below (length atoms) t.tree below o.index o.path o.there) met in
      let k : TakesOne w (leaf_of t.tree w) (paths_of t.tree) = takes_one t.tree w in
      let same : o.path ≡ (k.turns, leaf_of t.tree w) = same_path (paths_of t.tree) o.index k.place o.path (k.turns, leaf_of t.tree w) o.there k.there (k.alone o.index o.path o.there taken) in
      ap (λ (p : List (ℕ × Bool) × LeafValue). p.1) same

  tree_covers : (t : LeafTree) (is : List Invariant) → TestsBelow (length atoms) t.tree → AreOfPaths model atoms t.place (paths_of t.tree) is
      → Covers model atoms (everywhere t.tree) (map (λ (i : Invariant). i.region) is)
  tree_covers t is below h =
      let u = everywhere t.tree in
      let all : paths_to_true u ≡ map (λ (p : List (ℕ × Bool) × LeafValue). p.0) (paths_of t.tree) = ap to_true (everywhere_from [] t.tree) ∙ all_to_true (paths_of t.tree) in
      let are : AreRegions model atoms u (map (λ (i : Invariant). i.region) is) =
      subst (λ ps. AreRegionsOf model atoms ps (map (λ (i : Invariant). i.region) is)) (sym all) (regions_of model atoms t.place (paths_of t.tree) is h) in
      covers model atoms u (map (λ (i : Invariant). i.region) is) (all_below (length atoms) u (below_everywhere (length atoms) t.tree below)) (takes_one u) are

  has_of : (t : LeafTree) (is : List Invariant) (values : List ℤ) → TestsBelow (length atoms) t.tree → AreOfPaths model atoms t.place (paths_of t.tree) is
      → IsValid (plain model) values → (o : MeetsOne (map (λ (i : Invariant). i.region) is) values)
      → (one : Invariant) → slice_get is o.place ≡ Some one → one.region ≡ o.region → HasOnce is t.place (leaf_there t values) values
  has_of t is values below h valid o one there same =
      let from = origin model atoms t.place (paths_of t.tree) is h o.place one there in
      let met : Meets one.region values = subst (λ r. Meets r values) (sym same) o.met in
      record {
        index = o.place;
        one = one;
        there = there;
        place_is = from.place_is;
        met = met;
        leaf_is = from.leaf_is ∙ leads t one values below valid from met;
        alone = λ i other e p m. o.alone i other.region (slice_get-map (λ (x : Invariant). x.region) is i ∙ ap (option_map (λ (x : Invariant). x.region)) e) m;
      }

  pub has_once : (t : LeafTree) (is : List Invariant) (values : List ℤ) → TestsBelow (length atoms) t.tree → AreOfPaths model atoms t.place (paths_of t.tree) is
      → IsValid (plain model) values → HasOnce is t.place (leaf_there t values) values
  has_once t is values below h valid =
      let o : MeetsOne (map (λ (i : Invariant). i.region) is) values = (tree_covers t is below h).one values valid (true_there t.tree (vector_at atoms values)) in
      let k = mapped_at (λ (i : Invariant). i.region) is o.place o.region o.there in
      has_of t is values below h valid o k.0 k.1 k.2

-- ---- all trees

abbrev HasPlaces : List LeafTree → List Invariant → Type 0
HasPlaces ts is = (i : ℕ) (one : Invariant) → slice_get is i ≡ Some one → HasPlace ts one.place

abbrev AreAt : Place → List Invariant → Type 0
AreAt p is = (i : ℕ) (one : Invariant) → slice_get is i ≡ Some one → one.place ≡ p

placed_tail : (t : LeafTree) (ts : List LeafTree) → ArePlaced (t ∷ ts) → ArePlaced ts
placed_tail t ts h = λ i j a b e f g. let s : suc i ≡ suc j = h (suc i) (suc j) a b e f g in omega (arith, s)

elsewhere : (t u : LeafTree) (ts : List LeafTree) (n : ℕ) → ArePlaced (t ∷ ts) → slice_get ts n ≡ Some u → t.place ≡ u.place → ⊥
elsewhere t u ts n apart e p = let s : 0 ≡ suc n = apart 0 (suc n) t u refl e p in absurd (omega (arith, s))

front_alone : (p : Place) (x : LeafValue) (is more : List Invariant) (values : List ℤ) → ((i : ℕ) (one : Invariant) → slice_get more i ≡ Some one → one.place ≡ p → ⊥)
    → (o : HasOnce is p x values) → (i : ℕ) (other : Invariant) → slice_get (is ++ more) i ≡ Some other → other.place ≡ p → Meets other.region values → i ≡ o.index
front_alone p x is more values none o i other e q m =
    elim (parted_at is more i other e) [ inl k ↦ o.alone i other k q m | inr k ↦ absurd (none k.0 other k.1 q) ]

front_has : (p : Place) (x : LeafValue) (is more : List Invariant) (values : List ℤ) → ((i : ℕ) (one : Invariant) → slice_get more i ≡ Some one → one.place ≡ p → ⊥)
    → HasOnce is p x values → HasOnce (is ++ more) p x values
front_has p x is more values none o = record {
  index = o.index;
  one = o.one;
  there = kept_at is more o.index o.one o.there;
  place_is = o.place_is;
  met = o.met;
  leaf_is = o.leaf_is;
  alone = λ i other e q m. front_alone p x is more values none o i other e q m;
}

later_alone : (p : Place) (x : LeafValue) (is more : List Invariant) (values : List ℤ) → ((i : ℕ) (one : Invariant) → slice_get is i ≡ Some one → one.place ≡ p → ⊥)
    → (o : HasOnce more p x values) → (i : ℕ) (other : Invariant) → slice_get (is ++ more) i ≡ Some other → other.place ≡ p → Meets other.region values → i ≡ length is + o.index
later_alone p x is more values none o i other e q m =
    elim (parted_at is more i other e) [ inl k ↦ absurd (none i other k q) | inr k ↦ k.2 ∙ ap (λ n. length is + n) (o.alone k.0 other k.1 q m) ]

later_has : (p : Place) (x : LeafValue) (is more : List Invariant) (values : List ℤ) → ((i : ℕ) (one : Invariant) → slice_get is i ≡ Some one → one.place ≡ p → ⊥)
    → HasOnce more p x values → HasOnce (is ++ more) p x values
later_has p x is more values none o = record {
  index = length is + o.index;
  one = o.one;
  there = later_at is more o.index o.one o.there;
  place_is = o.place_is;
  met = o.met;
  leaf_is = o.leaf_is;
  alone = λ i other e q m. later_alone p x is more values none o i other e q m;
}

module _ (model : Model) (atoms : List Atom) where
  abbrev pub AreLeavesBelow : List LeafTree → Type 0
  AreLeavesBelow ts = All (λ (t : LeafTree). TestsBelow (length atoms) t.tree) ts

  abbrev IsLeafBelow : LeafTree → Type 0
  IsLeafBelow t = TestsBelow (length atoms) t.tree

  own_places : (t : LeafTree) (is : List Invariant) → AreOfPaths model atoms t.place (paths_of t.tree) is → AreAt t.place is
  own_places t is h = λ i one e. let o = origin model atoms t.place (paths_of t.tree) is h i one e in o.place_is

  one_has : (t : LeafTree) (ts : List LeafTree) (is more : List Invariant) → ArePlaced (t ∷ ts) → TestsBelow (length atoms) t.tree
      → AreOfPaths model atoms t.place (paths_of t.tree) is → CoversPlaces model atoms ts more
      → (n : ℕ) (values : List ℤ) (u : LeafTree) → IsValid (plain model) values → slice_get (t ∷ ts) n ≡ Some u
      → HasOnce (is ++ more) u.place (leaf_of u.tree (vector_at atoms values)) values
  one_has t ts is more apart below h q zero values u valid e =
      let same : t ≡ u = cc in
      let none : (i : ℕ) (one : Invariant) → slice_get more i ≡ Some one → one.place ≡ t.place → ⊥ =
      λ i one f p. (let k : HasPlace ts one.place = q.known i one f in elsewhere t k.one ts k.index apart k.there (sym p ∙ sym k.place_is)) in
      subst (λ (x : LeafTree). HasOnce (is ++ more) x.place (leaf_of x.tree (vector_at atoms values)) values) same
      (front_has t.place (leaf_of t.tree (vector_at atoms values)) is more values none (has_once model atoms t is values below h valid))
  one_has t ts is more apart below h q (suc n) values u valid e =
      later_has u.place (leaf_of u.tree (vector_at atoms values)) is more values
      (λ i one f p. elsewhere t u ts n apart e (sym (own_places t is h i one f) ∙ p)) (q.one values n u valid e)

  known_in : (t : LeafTree) (ts : List LeafTree) (is more : List Invariant) → AreAt t.place is → HasPlaces ts more → HasPlaces (t ∷ ts) (is ++ more)
  known_in t ts is more own known = λ i one e.
      elim (parted_at is more i one e) [
        | inl k ↦ record { index = 0; one = t; there = refl; place_is = sym (own i one k) }
        | inr k ↦ (let h : HasPlace ts one.place = known k.0 one k.1 in record { index = suc h.index; one = h.one; there = h.there; place_is = h.place_is })
      ]

  pub covers_places : (ts : List LeafTree) (is : List Invariant) → AreLeavesBelow ts → ArePlaced ts → AreInvariants model atoms ts is → CoversPlaces model atoms ts is
  covers_places _ _ below apart invs.no_tree = record {
    one = λ values n t valid e. cc;
    known = λ i one e. cc;
  }
  covers_places _ _ below apart (invs.tree t ts is more h rest) =
      let q : CoversPlaces model atoms ts more = covers_places ts more (All-tail IsLeafBelow t ts below) (placed_tail t ts apart) rest in
      record {
        one = λ values n u valid e. one_has t ts is more apart (All-head IsLeafBelow t ts below) h q n values u valid e;
        known = known_in t ts is more (own_places t is h) q.known;
      }

-- ---- well-formed literals

abbrev pub InvariantFits : ℕ → Invariant → Type 0
InvariantFits n i = AreLiterals n i.region.literals

paths_fit : (model : Model) (atoms : List Atom) (n : ℕ) (place : Place) (ps : LeafPaths) (is : List Invariant) → AreAtoms n atoms
    → ((i : ℕ) (p : List (ℕ × Bool) × LeafValue) → slice_get ps i ≡ Some p → AreBelow (length atoms) p.0) → AreOfPaths model atoms place ps is → All (InvariantFits n) is
paths_fit model atoms n place _ _ fit below invs.no_path = All-nil (InvariantFits n)
paths_fit model atoms n place _ is fit below (invs.void p ps xs v h) = paths_fit model atoms n place ps is fit (λ i q e. below (suc i) q e) h
paths_fit model atoms n place _ _ fit below (invs.region p ps r xs v h) =
    All-cons (InvariantFits n) (placed place r p.1) xs (region_fits model atoms n p.0 r fit (below 0 p refl) v) (paths_fit model atoms n place ps xs fit (λ i q e. below (suc i) q e) h)

all_joined : {X : Type 0} (P : X → Type 0) (xs ys : List X) → All P xs → All P ys → All P (xs ++ ys)
all_joined P [] ys h k = k
all_joined P (x ∷ xs) ys h k = All-cons P x (xs ++ ys) (All-head P x xs h) (all_joined P xs ys (All-tail P x xs h) k)

pub invariants_fit : (model : Model) (atoms : List Atom) (n : ℕ) (ts : List LeafTree) (is : List Invariant) → AreAtoms n atoms → AreLeavesBelow model atoms ts
    → AreInvariants model atoms ts is → All (InvariantFits n) is
invariants_fit model atoms n _ _ fit below invs.no_tree = All-nil (InvariantFits n)
invariants_fit model atoms n _ _ fit below (invs.tree t ts is more h rest) =
    let P : LeafTree → Type 0 = λ x. TestsBelow (length atoms) x.tree in
    all_joined (InvariantFits n) is more
    (paths_fit model atoms n t.place (paths_of t.tree) is fit (leaf_paths_below (length atoms) t.tree (All-head P t ts below)) h)
    (invariants_fit model atoms n ts more fit (All-tail P t ts below) rest)

-- the lists as a contract has them
pub seen_leaves_below : {L : Type 0} (value : L → LeafValue) (m : ℕ) (ts : List (PlaceTree L)) → All (λ (t : PlaceTree L). TestsBelow m (shared.plain t.tree)) ts
    → All (λ (t : LeafTree). TestsBelow m t.tree) (map (leaf_tree value) ts)
seen_leaves_below value m [] h = All-nil (λ (t : LeafTree). TestsBelow m t.tree)
seen_leaves_below {L} value m (t ∷ ts) h =
    let P : PlaceTree L → Type 0 = λ x. TestsBelow m (shared.plain x.tree) in
    All-cons (λ (x : LeafTree). TestsBelow m x.tree) (leaf_tree value t) (map (leaf_tree value) ts)
    (below_valued value m (shared.plain t.tree) (All-head P t ts h)) (seen_leaves_below value m ts (All-tail P t ts h))

pub seen_fit : {L : Type 0} (value : L → LeafValue) (n : ℕ) (xs : List (FamilyInvariant L)) → All (InvariantFits n) (map (invariant value) xs)
    → All (λ (i : FamilyInvariant L). AreLiterals n i.region.literals) xs
seen_fit {L} value n [] h = All-nil (λ (i : FamilyInvariant L). AreLiterals n i.region.literals)
seen_fit {L} value n (x ∷ xs) h =
    All-cons (λ (i : FamilyInvariant L). AreLiterals n i.region.literals) x xs
    (All-head (InvariantFits n) (invariant value x) (map (invariant value) xs) h) (seen_fit value n xs (All-tail (InvariantFits n) (invariant value x) (map (invariant value) xs) h))
