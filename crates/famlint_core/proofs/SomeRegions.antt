-- Over each model, trees have a list of regions, and so of alarms and of invariants.
use Rattle.std.proofs.Common.{◌≡◌, ℕ, Bool, true, false, not, ◌&&◌, List, [], ◌∷◌, ◌++◌, map, Option, Some, None, refl, ◌∙◌}
use Rattle.fam_outer.specs.declared.faults.Place.{Place}
use Rattle.linear_atoms.specs.declared.atoms.Atom.{Atom}
use Rattle.linear_atoms.specs.declared.atoms.Config.{Config}
use Rattle.linear_atoms.specs.declared.atoms.Literal.{Literal}
use Rattle.linear_atoms.specs.Atoms.{literal_holds}
use Rattle.cpp_conditions.specs.declared.models.Model.{Model}
use Rattle.atom_solver.specs.Solutions.{Finds, IsImplied, all_hold}
use Rattle.decision_tree.specs.Paths.{paths_of}
use Rattle.leaf_domain.specs.Leaves.{LeafValue}
use Rattle.alarm_report.specs.declared.alarms.FamilyAlarm.{FamilyAlarm}
use Rattle.alarm_report.specs.declared.region.Region.{Region}
use Rattle.alarm_report.specs.Alarms.{PlainAlarmTree, AreAlarms, alarm_in}
use Rattle.alarm_report.specs.Alarms as stops
use Rattle.alarm_report.specs.Invariants.{LeafTree, Invariant, AreOfPaths, AreInvariants}
use Rattle.alarm_report.specs.Invariants as invs
use Rattle.alarm_report.specs.Regions.{literals_of, AreStanding, IsRegionOf, AreRegionsOf, paths_to_true}
use Rattle.alarm_report.specs.Regions as of
use Rattle.alarm_report.proofs.Covering.{stands_same}
use Rattle.reading_laws.specs.Answered.{FirstConfigurationsAreFound}

-- ---- truths

so_left : (a b : Bool) → (a && not b) ≡ true → a ≡ true
so_left true b e = refl
so_left false b e = e

not_right : (a b : Bool) → (a && not b) ≡ true → b ≡ false
not_right true false e = refl
not_right true true e = cc
not_right false b e = cc

so_right : (a b : Bool) → (a && not b) ≡ false → a ≡ true → b ≡ true
so_right true true e h = refl
so_right true false e h = cc
so_right false b e h = cc

-- ---- regions

module _ (first : FirstConfigurationsAreFound) (model : Model) where
  implied_by : (ls : List Literal) (l : Literal) (found : Option Config) → Finds model (λ values. all_hold ls values && not (literal_holds l values)) found → (b : Bool) × IsImplied model ls l b
  implied_by ls l None h = (true, λ values valid met. so_right (all_hold ls values) (literal_holds l values) (h values valid) met)
  implied_by ls l (Some config) h = (
    false,
    (config.values, h.valid, so_left (all_hold ls config.values) (literal_holds l config.values) h.met, not_right (all_hold ls config.values) (literal_holds l config.values) h.met),
  )

  some_implied : (ls : List Literal) (l : Literal) → (b : Bool) × IsImplied model ls l b
  some_implied ls l = let found = first model (λ values. all_hold ls values && not (literal_holds l values)) in implied_by ls l found.0 found.1

  abbrev Stand : List Literal → List Literal → Type 0
  Stand before ls = (standing : List Literal) × AreStanding model before ls standing

  standing_by : (before : List Literal) (l : Literal) (ls : List Literal) (b : Bool) → IsImplied model (before ++ ls) l b → ((front : List Literal) → Stand front ls) → Stand before (l ∷ ls)
  standing_by before l ls true h go = let standing = go before in (standing.0, of.drops before l ls standing.0 h standing.1)
  standing_by before l ls false h go = let standing = go (before ++ l ∷ []) in (standing.0, of.keeps before l ls standing.0 h standing.1)

  some_standing : (ls before : List Literal) → Stand before ls
  some_standing [] before = (before, of.seen before)
  some_standing (l ∷ ls) before = let implied = some_implied (before ++ ls) l in standing_by before l ls implied.0 implied.1 (some_standing ls)

  module _ (atoms : List Atom) where
    region_by : (turns : List (ℕ × Bool)) (standing : List Literal) → AreStanding model [] (literals_of atoms turns) standing → (found : Option Config) → Finds model (all_hold standing) found
        → (r : Option Region) × IsRegionOf model atoms turns r
    region_by turns standing h None none = (None, λ values valid. stands_same model [] (literals_of atoms turns) standing h values valid ∙ none values valid)
    region_by turns standing h (Some config) one = (Some (record { literals = standing; example = config }), (h, one))

    some_region : (turns : List (ℕ × Bool)) → (r : Option Region) × IsRegionOf model atoms turns r
    some_region turns =
        let standing = some_standing (literals_of atoms turns) [] in
        let found = first model (all_hold standing.0) in
        region_by turns standing.0 standing.1 found.0 found.1

    listed : (turns : List (ℕ × Bool)) (paths : List (List (ℕ × Bool))) (r : Option Region) → IsRegionOf model atoms turns r → (rs : List Region) × AreRegionsOf model atoms paths rs
        → (rs : List Region) × AreRegionsOf model atoms (turns ∷ paths) rs
    listed turns paths None h rs = (rs.0, of.void turns paths rs.0 h rs.1)
    listed turns paths (Some r) h rs = (r ∷ rs.0, of.region turns paths r rs.0 h rs.1)

    some_list : (paths : List (List (ℕ × Bool))) → (rs : List Region) × AreRegionsOf model atoms paths rs
    some_list [] = ([], of.no_path)
    some_list (turns ∷ paths) = let r = some_region turns in listed turns paths r.0 r.1 (some_list paths)

    -- ---- alarms and invariants

    pub some_alarms : (ts : List PlainAlarmTree) → (alarms : List FamilyAlarm) × AreAlarms model atoms ts alarms
    some_alarms [] = ([], stops.no_tree)
    some_alarms (t ∷ ts) =
        let rs = some_list (paths_to_true t.tree) in
        let alarms = some_alarms ts in
        (map (alarm_in t.place t.kind) rs.0 ++ alarms.0, stops.tree t ts rs.0 alarms.0 rs.1 alarms.1)

    with_path : (place : Place) (path : List (ℕ × Bool) × LeafValue) (paths : List (List (ℕ × Bool) × LeafValue)) (r : Option Region) → IsRegionOf model atoms path.0 r
        → (is : List Invariant) × AreOfPaths model atoms place paths is → (is : List Invariant) × AreOfPaths model atoms place (path ∷ paths) is
    with_path place path paths None h is = (is.0, invs.void path paths is.0 h is.1)
    with_path place path paths (Some r) h is = (record { place = place; region = r; leaf = path.1 } ∷ is.0, invs.region path paths r is.0 h is.1)

    some_of_paths : (place : Place) (paths : List (List (ℕ × Bool) × LeafValue)) → (is : List Invariant) × AreOfPaths model atoms place paths is
    some_of_paths place [] = ([], invs.no_path)
    some_of_paths place (path ∷ paths) = let r = some_region path.0 in with_path place path paths r.0 r.1 (some_of_paths place paths)

    pub some_invariants : (ts : List LeafTree) → (is : List Invariant) × AreInvariants model atoms ts is
    some_invariants [] = ([], invs.no_tree)
    some_invariants (t ∷ ts) =
        let own = some_of_paths t.place (paths_of t.tree) in
        let behind = some_invariants ts in
        (own.0 ++ behind.0, invs.tree t ts own.0 behind.0 own.1 behind.1)
