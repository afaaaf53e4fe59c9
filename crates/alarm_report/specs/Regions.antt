-- Regions of decision trees: for each path that some valid configuration meets, the literals that say so, and the least
-- such configuration.
use Rattle.std.specs.Prelude.{◌≡◌, ℕ, ℤ, pos, Bool, true, false, List, [], ◌∷◌, ◌++◌, map, slice_get, slice_index_or, Option, Some, None}
use Rattle.std.specs.List.{filter}
use Rattle.linear_atoms.specs.declared.atoms.Atom.{Atom}
use Rattle.linear_atoms.specs.declared.atoms.Literal.{Literal}
use Rattle.cpp_conditions.specs.declared.models.Model.{Model}
use Rattle.cpp_conditions.specs.Numbering.{vector_at}
use Rattle.cpp_conditions.specs.Validity.{plain, IsValid}
use Rattle.decision_tree.specs.Paths.{paths_of}
use Rattle.decision_tree.specs.Plain.{Plain, leaf_of}
use Rattle.atom_solver.specs.Solutions.{IsFirst, IsImplied, all_hold}
use Rattle.alarm_report.specs.declared.region.Region.{Region}

-- ---- the literals of a path

-- the literal of a turn: the atom with the number of its test, or its negation
abbrev pub literal_of : List Atom → ℕ × Bool → Literal
literal_of atoms turn = record { atom = slice_index_or atoms turn.0 (record { terms = []; bound = pos 0 }); positive = turn.1 }

abbrev pub literals_of : List Atom → List (ℕ × Bool) → List Literal
literals_of atoms turns = map (literal_of atoms) turns

-- from the first literal of the second list on, each is dropped that the others still standing imply; those of the first list
-- stand before them
pub data AreStanding (model : Model) : List Literal → List Literal → List Literal → Type 0 where
  seen : (before : List Literal) → AreStanding model before [] before
  drops : (before : List Literal) (l : Literal) (ls standing : List Literal) → IsImplied model (before ++ ls) l true
      → AreStanding model before ls standing → AreStanding model before (l ∷ ls) standing
  keeps : (before : List Literal) (l : Literal) (ls standing : List Literal) → IsImplied model (before ++ ls) l false
      → AreStanding model (before ++ l ∷ []) ls standing → AreStanding model before (l ∷ ls) standing

-- ---- regions

-- the region of a path, if some valid configuration meets it: the literals that stand, and the least that meets them
abbrev pub IsRegionOf : Model → List Atom → List (ℕ × Bool) → Option Region → Type 0
IsRegionOf model atoms turns None = (values : List ℤ) → IsValid (plain model) values → all_hold (literals_of atoms turns) values ≡ false
IsRegionOf model atoms turns (Some r) = AreStanding model [] (literals_of atoms turns) r.literals × IsFirst model (all_hold r.literals) r.example.values

-- the regions of these paths, in their order
pub data AreRegionsOf (model : Model) (atoms : List Atom) : List (List (ℕ × Bool)) → List Region → Type 0 where
  no_path : AreRegionsOf model atoms [] []
  void : (turns : List (ℕ × Bool)) (paths : List (List (ℕ × Bool))) (rs : List Region) → IsRegionOf model atoms turns None
      → AreRegionsOf model atoms paths rs → AreRegionsOf model atoms (turns ∷ paths) rs
  region : (turns : List (ℕ × Bool)) (paths : List (List (ℕ × Bool))) (r : Region) (rs : List Region) → IsRegionOf model atoms turns (Some r)
      → AreRegionsOf model atoms paths rs → AreRegionsOf model atoms (turns ∷ paths) (r ∷ rs)

-- the paths of a tree to true
abbrev pub paths_to_true : Plain Bool → List (List (ℕ × Bool))
paths_to_true t = map (λ (p : List (ℕ × Bool) × Bool). p.0) (filter (λ (p : List (ℕ × Bool) × Bool). p.1) (paths_of t))

abbrev pub AreRegions : Model → List Atom → Plain Bool → List Region → Type 0
AreRegions model atoms t rs = AreRegionsOf model atoms (paths_to_true t) rs

-- ---- what regions are good for

-- the configuration meets the region
abbrev pub Meets : Region → List ℤ → Type 0
Meets r values = all_hold r.literals values ≡ true

-- exactly one region is met
pub record MeetsOne (rs : List Region) (values : List ℤ) : Type 0 where
  pub place : ℕ
  pub region : Region
  pub there : slice_get rs place ≡ Some region
  pub met : Meets region values
  pub alone : (i : ℕ) (r : Region) → slice_get rs i ≡ Some r → Meets r values → i ≡ place

-- a valid configuration meets exactly one region where the tree is true, and else none; each region's example is the least of
-- the valid configurations that meet it
pub record Covers (model : Model) (atoms : List Atom) (t : Plain Bool) (rs : List Region) : Type 0 where
  pub one : (values : List ℤ) → IsValid (plain model) values → leaf_of t (vector_at atoms values) ≡ true → MeetsOne rs values
  pub only : (values : List ℤ) (i : ℕ) (r : Region) → IsValid (plain model) values → slice_get rs i ≡ Some r → Meets r values
      → leaf_of t (vector_at atoms values) ≡ true
  pub least : (i : ℕ) (r : Region) → slice_get rs i ≡ Some r → IsFirst model (all_hold r.literals) r.example.values
