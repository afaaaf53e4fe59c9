-- The invariants of a family, with their regions.
use Rattle.std.specs.Prelude.{◌≡◌, ℕ, ℤ, Bool, List, [], ◌∷◌, ◌++◌, slice_get, Some, None}
use Rattle.fam_outer.specs.declared.faults.Place.{Place}
use Rattle.linear_atoms.specs.declared.atoms.Atom.{Atom}
use Rattle.cpp_conditions.specs.declared.models.Model.{Model}
use Rattle.cpp_conditions.specs.Numbering.{vector_at}
use Rattle.cpp_conditions.specs.Validity.{plain, IsValid}
use Rattle.decision_tree.specs.Paths.{paths_of}
use Rattle.decision_tree.specs.Plain.{Plain, leaf_of}
use Rattle.decision_tree.specs.View as shared
use Rattle.leaf_domain.specs.Leaves.{LeafValue}
use Rattle.lifted_analysis.specs.declared.findings.PlaceTree.{PlaceTree}
use Rattle.lifted_analysis.specs.Promises.{valued}
use Rattle.alarm_report.specs.declared.invariants.FamilyInvariant.{FamilyInvariant}
use Rattle.alarm_report.specs.declared.region.Region.{Region}
use Rattle.alarm_report.specs.Regions.{IsRegionOf, Meets}

-- ---- trees of leaves, and the invariants of their paths

-- the leaf at a place, at every vector
pub record LeafTree : Type 0 where
  pub place : Place
  pub tree : Plain LeafValue

-- the leaf at a place, in a region
pub record Invariant : Type 0 where
  pub place : Place
  pub region : Region
  pub leaf : LeafValue

abbrev pub leaf_tree : {L : Type 0} → (L → LeafValue) → PlaceTree L → LeafTree
leaf_tree value p = record { place = p.place; tree = valued value (shared.plain p.tree) }

abbrev pub invariant : {L : Type 0} → (L → LeafValue) → FamilyInvariant L → Invariant
invariant value i = record { place = i.place; region = i.region; leaf = value i.leaf.value.value }

-- of each path that some valid configuration meets, in their order, its region and its leaf
pub data AreOfPaths (model : Model) (atoms : List Atom) (place : Place) : List (List (ℕ × Bool) × LeafValue) → List Invariant → Type 0 where
  no_path : AreOfPaths model atoms place [] []
  void : (path : List (ℕ × Bool) × LeafValue) (paths : List (List (ℕ × Bool) × LeafValue)) (is : List Invariant) → IsRegionOf model atoms path.0 None
      → AreOfPaths model atoms place paths is → AreOfPaths model atoms place (path ∷ paths) is
  region : (path : List (ℕ × Bool) × LeafValue) (paths : List (List (ℕ × Bool) × LeafValue)) (r : Region) (is : List Invariant) → IsRegionOf model atoms path.0 (Some r)
      → AreOfPaths model atoms place paths is → AreOfPaths model atoms place (path ∷ paths) (record { place = place; region = r; leaf = path.1 } ∷ is)

-- of each tree, in their order, those of its paths
pub data AreInvariants (model : Model) (atoms : List Atom) : List LeafTree → List Invariant → Type 0 where
  no_tree : AreInvariants model atoms [] []
  tree : (t : LeafTree) (ts : List LeafTree) (is more : List Invariant) → AreOfPaths model atoms t.place (paths_of t.tree) is
      → AreInvariants model atoms ts more → AreInvariants model atoms (t ∷ ts) (is ++ more)

-- ---- what invariants are good for

-- no two trees have one place
abbrev pub ArePlaced : List LeafTree → Type 0
ArePlaced ts = (i j : ℕ) (t u : LeafTree) → slice_get ts i ≡ Some t → slice_get ts j ≡ Some u → t.place ≡ u.place → i ≡ j

-- exactly one invariant of a place has a region that the configuration meets, and it has this leaf
pub record HasOnce (is : List Invariant) (place : Place) (leaf : LeafValue) (values : List ℤ) : Type 0 where
  pub index : ℕ
  pub one : Invariant
  pub there : slice_get is index ≡ Some one
  pub place_is : one.place ≡ place
  pub met : Meets one.region values
  pub leaf_is : one.leaf ≡ leaf
  pub alone : (i : ℕ) (other : Invariant) → slice_get is i ≡ Some other → other.place ≡ place → Meets other.region values → i ≡ index

-- some tree has this place
pub record HasPlace (ts : List LeafTree) (place : Place) : Type 0 where
  pub index : ℕ
  pub one : LeafTree
  pub there : slice_get ts index ≡ Some one
  pub place_is : one.place ≡ place

-- a valid configuration meets exactly one invariant of each tree's place, with the tree's leaf there, and no invariant has
-- another place
pub record CoversPlaces (model : Model) (atoms : List Atom) (ts : List LeafTree) (is : List Invariant) : Type 0 where
  pub one : (values : List ℤ) (n : ℕ) (t : LeafTree) → IsValid (plain model) values → slice_get ts n ≡ Some t
      → HasOnce is t.place (leaf_of t.tree (vector_at atoms values)) values
  pub known : (i : ℕ) (one : Invariant) → slice_get is i ≡ Some one → HasPlace ts one.place
