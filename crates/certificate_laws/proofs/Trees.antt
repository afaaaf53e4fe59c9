-- The invariants and the alarms of trees are over the atoms.
use Rattle.std.proofs.Common.{ℕ, zero, suc, ◌<◌, Bool, true, false, List, [], ◌∷◌, ◌++◌, inl, inr, length, map, refl, sym, subst, arith, slice_index_or, append_assoc, append-nil}
use Rattle.std.specs.Prelude.{Some}
use Rattle.std.specs.List.{AllByRecursion, filter}
use Rattle.fam_outer.specs.declared.faults.Place.{Place}
use Rattle.c_tree.specs.declared.tree.Kind.{Kind}
use Rattle.linear_atoms.specs.declared.atoms.Atom.{Atom}
use Rattle.linear_atoms.specs.declared.atoms.Literal.{Literal}
use Rattle.cpp_conditions.specs.declared.models.Model.{Model}
use Rattle.cpp_conditions.specs.Numbering.{IsAmong}
use Rattle.decision_tree.specs.Paths.{paths_from, paths_of}
use Rattle.decision_tree.specs.Plain.{Plain, leaf, node, TestsBelow}
use Rattle.leaf_domain.specs.Leaves.{LeafValue, LeafMeaning}
use Rattle.alarm_report.specs.declared.alarms.FamilyAlarm.{FamilyAlarm}
use Rattle.alarm_report.specs.declared.region.Region.{Region}
use Rattle.alarm_report.specs.Alarms.{PlainAlarmTree, alarm_in, AreAlarms}
use Rattle.alarm_report.specs.Alarms as alarms
use Rattle.alarm_report.specs.Invariants.{LeafTree, Invariant, AreOfPaths, AreInvariants}
use Rattle.alarm_report.specs.Invariants as invariants
use Rattle.alarm_report.specs.Regions.{literals_of, AreStanding, IsRegionOf, AreRegionsOf}
use Rattle.alarm_report.specs.Regions as regions
use Rattle.certificate_format.specs.Lines.{IsPlace}
use Rattle.certificate_laws.specs.Written.{AllLeaves, IsLeafOver, IsLoopTree, IsAlarmTree}
use Rattle.certificate_laws.proofs.Writable.{AreOver, IsLoopWritten, IsAlarmWritten}

-- ---- literals that stand

among_at : (atoms : List Atom) (n : ℕ) (d : Atom) → n < length atoms → IsAmong (slice_index_or atoms n d) atoms
among_at [] n d h = absurd (omega (arith, h))
among_at (a ∷ atoms) zero d h = inl refl
among_at (a ∷ atoms) (suc n) d h = inr (among_at atoms n d (omega (arith, h)))

-- the turns' tests are below a count
abbrev TurnsBelow : ℕ → List (ℕ × Bool) → Type 0
TurnsBelow m turns = AllByRecursion (λ (t : ℕ × Bool). t.0 < m) turns

turns_over : (atoms : List Atom) (turns : List (ℕ × Bool)) → TurnsBelow (length atoms) turns → AreOver atoms (literals_of atoms turns)
turns_over atoms [] h = tt
turns_over atoms (t ∷ turns) h = (among_at atoms t.0 _ h.0, turns_over atoms turns h.1)

over_without : (atoms : List Atom) (before : List Literal) (l : Literal) (ls : List Literal) → AreOver atoms (before ++ l ∷ ls) → AreOver atoms (before ++ ls)
over_without atoms [] l ls h = h.1
over_without atoms (b ∷ before) l ls h = (h.0, over_without atoms before l ls h.1)

standing_over : (model : Model) (atoms : List Atom) (before ls standing : List Literal) → AreStanding model before ls standing → AreOver atoms (before ++ ls) → AreOver atoms standing
standing_over model atoms before _ _ (regions.seen b) h = subst (AreOver atoms) (append-nil before) h
standing_over model atoms before _ standing (regions.drops b l ls s implied rest) h = standing_over model atoms before ls standing rest (over_without atoms before l ls h)
standing_over model atoms before _ standing (regions.keeps b l ls s implied rest) h =
    standing_over model atoms (before ++ l ∷ []) ls standing rest (subst (AreOver atoms) (sym (append_assoc before (l ∷ []) ls)) h)

region_over : (model : Model) (atoms : List Atom) (turns : List (ℕ × Bool)) (r : Region) → TurnsBelow (length atoms) turns → IsRegionOf model atoms turns (Some r) → AreOver atoms r.literals
region_over model atoms turns r h k = standing_over model atoms [] (literals_of atoms turns) r.literals k.0 (turns_over atoms turns h)

-- ---- paths

pub all_both : {X : Type 0} (P : X → Type 0) (xs ys : List X) → AllByRecursion P xs → AllByRecursion P ys → AllByRecursion P (xs ++ ys)
all_both P [] ys h k = k
all_both P (x ∷ xs) ys h k = (h.0, all_both P xs ys h.1 k)

-- a path of a tree with tests below a count, to a leaf that is so
record IsPath {L : Type 0} (m : ℕ) (P : L → Type 0) (p : List (ℕ × Bool) × L) : Type 0 where
  turns : TurnsBelow m p.0
  at : P p.1

one_more : (m : ℕ) (turns : List (ℕ × Bool)) (test : ℕ) (side : Bool) → TurnsBelow m turns → test < m → TurnsBelow m (turns ++ (test, side) ∷ [])
one_more m [] test side h k = (k, tt)
one_more m (t ∷ turns) test side h k = (h.0, one_more m turns test side h.1 k)

module _ {L : Type 0} (m : ℕ) (P : L → Type 0) where
  are_paths : (turns : List (ℕ × Bool)) (t : Plain L) → TurnsBelow m turns → TestsBelow m t → AllLeaves P t → AllByRecursion (IsPath m P) (paths_from turns t)
  are_paths turns (leaf x) h k l = (record { turns = h; at = l }, tt)
  are_paths turns (node test low high) h k l =
      all_both (IsPath m P) (paths_from (turns ++ (test, false) ∷ []) low) (paths_from (turns ++ (test, true) ∷ []) high)
      (are_paths (turns ++ (test, false) ∷ []) low (one_more m turns test false h k.0) k.1 l.0)
      (are_paths (turns ++ (test, true) ∷ []) high (one_more m turns test true h k.0) k.2 l.1)

-- ---- loops

module _ (M : LeafMeaning) (model : Model) (atoms : List Atom) (names : List (List ℕ)) where
  paths_written : (place : Place) (paths : List (List (ℕ × Bool) × LeafValue)) (is : List Invariant) → IsPlace place → AllByRecursion (IsPath (length atoms) (IsLeafOver M names)) paths → AreOfPaths model atoms place paths is
      → AllByRecursion (IsLoopWritten M atoms names) is
  paths_written place [] _ p h invariants.no_path = tt
  paths_written place (path ∷ paths) is p h (invariants.void q qs xs none rest) = paths_written place paths is p h.1 rest
  paths_written place (path ∷ paths) _ p h (invariants.region q qs r xs region rest) =
      (record { place = p; over = region_over model atoms path.0 r h.0.turns region; valid = h.0.at.valid; variables = h.0.at.variables }, paths_written place paths xs p h.1 rest)

  -- the invariants of trees of loops can be written
  pub loops_written : (ts : List LeafTree) (is : List Invariant) → AllByRecursion (IsLoopTree M (length atoms) names) ts → AreInvariants model atoms ts is → AllByRecursion (IsLoopWritten M atoms names) is
  loops_written [] _ h invariants.no_tree = tt
  loops_written (t ∷ ts) _ h (invariants.tree u us is more paths rest) =
      all_both (IsLoopWritten M atoms names) is more
      (paths_written t.place (paths_of t.tree) is h.0.place (are_paths (length atoms) (IsLeafOver M names) [] t.tree tt h.0.tests h.0.leaves) paths) (loops_written ts more h.1 rest)

-- ---- alarms

abbrev IsAny : Bool → Type 0
IsAny b = Unit {0}

any_leaves : (t : Plain Bool) → AllLeaves IsAny t
any_leaves (leaf x) = tt
any_leaves (node test low high) = (any_leaves low, any_leaves high)

abbrev to_true : List (List (ℕ × Bool) × Bool) → List (List (ℕ × Bool))
to_true ps = map (λ (p : List (ℕ × Bool) × Bool). p.0) (filter (λ (p : List (ℕ × Bool) × Bool). p.1) ps)

module _ (model : Model) (atoms : List Atom) (place : Place) (kind : Kind) (is_place : IsPlace place) where
  regions_written : (ps : List (List (ℕ × Bool) × Bool)) (rs : List Region) → AllByRecursion (IsPath (length atoms) IsAny) ps → AreRegionsOf model atoms (to_true ps) rs
      → AllByRecursion (IsAlarmWritten atoms) (map (alarm_in place kind) rs)
  regions_written [] _ h regions.no_path = tt
  regions_written ((turns, false) ∷ ps) rs h k = regions_written ps rs h.1 k
  regions_written ((turns, true) ∷ ps) rs h (regions.void t qs xs none rest) = regions_written ps rs h.1 rest
  regions_written ((turns, true) ∷ ps) _ h (regions.region t qs r xs region rest) =
      (record { place = is_place; over = region_over model atoms turns r h.0.turns region }, regions_written ps xs h.1 rest)

-- the alarms of trees of stops can be written
pub alarms_written : (model : Model) (atoms : List Atom) (ts : List PlainAlarmTree) (made : List FamilyAlarm) → AllByRecursion (IsAlarmTree (length atoms)) ts → AreAlarms model atoms ts made → AllByRecursion (IsAlarmWritten atoms) made
alarms_written model atoms [] _ h alarms.no_tree = tt
alarms_written model atoms (t ∷ ts) _ h (alarms.tree u us rs more covered rest) =
    all_both (IsAlarmWritten atoms) (map (alarm_in t.place t.kind) rs) more
    (regions_written model atoms t.place t.kind h.0.place (paths_of t.tree) rs (are_paths (length atoms) IsAny [] t.tree tt h.0.tests (any_leaves t.tree)) covered) (alarms_written model atoms ts more h.1 rest)
