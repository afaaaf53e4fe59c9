-- Over models with the same features and constraints, trees have one list of regions, and so of alarms and of invariants.
use Rattle.std.proofs.Common.{◌≡◌, ℕ, ℤ, Bool, true, false, true≢false, List, [], ◌∷◌, ◌++◌, map, refl, sym, ap₂, subst, ◌∙◌, inl, inr, arith}
use Rattle.std.specs.Prelude.{◌<ℤ◌, Some, None}
use Rattle.std.proofs.lemmas.Int.{ints}
use Rattle.fam_outer.specs.declared.faults.Place.{Place}
use Rattle.linear_atoms.specs.declared.atoms.Atom.{Atom}
use Rattle.linear_atoms.specs.declared.atoms.Feature.{Feature}
use Rattle.linear_atoms.specs.declared.atoms.Literal.{Literal}
use Rattle.linear_atoms.specs.Atoms.{IsWithin}
use Rattle.cpp_conditions.specs.declared.models.Model.{Model}
use Rattle.cpp_conditions.specs.Validity.{Plain, plain, IsValid}
use Rattle.cpp_conditions.proofs.Within.{valid_parts}
use Rattle.atom_solver.specs.Solutions.{IsBefore, IsFirst, IsImplied, all_hold}
use Rattle.decision_tree.specs.Paths.{paths_of}
use Rattle.leaf_domain.specs.Leaves.{LeafValue}
use Rattle.alarm_report.specs.declared.alarms.FamilyAlarm.{FamilyAlarm}
use Rattle.alarm_report.specs.declared.region.Region.{Region}
use Rattle.alarm_report.specs.Alarms.{PlainAlarmTree, AreAlarms, alarm_in}
use Rattle.alarm_report.specs.Alarms as stops
use Rattle.alarm_report.specs.Invariants.{LeafTree, Invariant, AreOfPaths, AreInvariants}
use Rattle.alarm_report.specs.Invariants as invs
use Rattle.alarm_report.specs.Regions.{literals_of, AreStanding, IsRegionOf, AreRegionsOf, paths_to_true}
use Rattle.alarm_report.specs.Regions as of
use Rattle.alarm_report.proofs.Covering.{stands_same}

-- ---- the first configuration

equal : (v w : ℤ) → (v <ℤ w → ⊥) → (w <ℤ v → ⊥) → v ≡ w
equal v w h k = grind (arith, ints)

-- of two configurations over the same features one is before the other, or they are one
same_values : (fs : List Feature) (vs ws : List ℤ) → IsWithin fs vs → IsWithin fs ws → (IsBefore vs ws → ⊥) → (IsBefore ws vs → ⊥) → vs ≡ ws
same_values [] [] [] h k b c = refl
same_values [] [] (w ∷ ws) h k b c = absurd k
same_values [] (v ∷ vs) ws h k b c = absurd h
same_values (f ∷ fs) [] ws h k b c = absurd h
same_values (f ∷ fs) (v ∷ vs) [] h k b c = absurd k
same_values (f ∷ fs) (v ∷ vs) (w ∷ ws) h k b c =
    let e : v ≡ w = equal v w (λ l. b (inl l)) (λ l. c (inl l)) in
    ap₂ (λ (x : ℤ) (xs : List ℤ). x ∷ xs) e (same_values fs vs ws h.2 k.2 (λ l. b (inr (e, l))) (λ l. c (inr (sym e, l))))

-- ---- what one model says and another does not

valid_too : (a b : Model) → plain a ≡ plain b → (values : List ℤ) → IsValid (plain a) values → IsValid (plain b) values
valid_too a b e values h = subst (λ (m : Plain). IsValid m values) e h

not_both : (x : Bool) → x ≡ true → x ≡ false → ⊥
not_both x h k = true≢false (sym h ∙ k)

implied_or_not : (a b : Model) → plain a ≡ plain b → (ls : List Literal) (l : Literal) → IsImplied a ls l true → IsImplied b ls l false → ⊥
implied_or_not a b e ls l h (values, valid, met, unmet) = not_both _ (h values (valid_too b a (sym e) values valid) met) unmet

met_or_not : (a b : Model) → plain a ≡ plain b → (atoms : List Atom) (turns : List (ℕ × Bool)) (r : Region) → IsRegionOf a atoms turns None → IsRegionOf b atoms turns (Some r) → ⊥
met_or_not a b e atoms turns r h (standing, first) =
    let values = r.example.values in
    not_both _ (stands_same b [] (literals_of atoms turns) r.literals standing values first.valid ∙ first.met) (h values (valid_too b a (sym e) values first.valid))

-- ---- regions

module _ (a b : Model) (e : plain a ≡ plain b) where
  pub one_first : (holds : List ℤ → Bool) (vs ws : List ℤ) → IsFirst a holds vs → IsFirst b holds ws → vs ≡ ws
  one_first holds vs ws h k =
      let mine : IsValid (plain b) vs = valid_too a b e vs h.valid in
      same_values b.features vs ws (valid_parts (plain b) vs mine).0 (valid_parts (plain b) ws k.valid).0 (λ l. k.first vs mine h.met l) (λ l. h.first ws (valid_too b a (sym e) ws k.valid) k.met l)

  one_standing : (before ls r s : List Literal) → AreStanding a before ls r → AreStanding b before ls s → r ≡ s
  one_standing before [] r s (of.seen x) (of.seen y) = refl
  one_standing before (l ∷ ls) r s (of.drops x m ms u i h) (of.drops y n ns v j k) = one_standing before ls r s h k
  one_standing before (l ∷ ls) r s (of.drops x m ms u i h) (of.keeps y n ns v j k) = absurd (implied_or_not a b e (before ++ ls) l i j)
  one_standing before (l ∷ ls) r s (of.keeps x m ms u i h) (of.drops y n ns v j k) = absurd (implied_or_not b a (sym e) (before ++ ls) l j i)
  one_standing before (l ∷ ls) r s (of.keeps x m ms u i h) (of.keeps y n ns v j k) = one_standing (before ++ l ∷ []) ls r s h k

  module _ (atoms : List Atom) where
    one_region : (turns : List (ℕ × Bool)) (r s : Region) → IsRegionOf a atoms turns (Some r) → IsRegionOf b atoms turns (Some s) → r ≡ s
    one_region turns r s h k =
        let literals : r.literals ≡ s.literals = one_standing [] (literals_of atoms turns) r.literals s.literals h.0 k.0 in
        let values : r.example.values ≡ s.example.values =
        one_first (all_hold s.literals) r.example.values s.example.values (subst (λ (ls : List Literal). IsFirst a (all_hold ls) r.example.values) literals h.1) k.1 in
        ap₂ (λ (ls : List Literal) (vs : List ℤ). let region : Region = record { literals = ls; example = record { values = vs } } in region) literals values

    one_list : (paths : List (List (ℕ × Bool))) (rs ss : List Region) → AreRegionsOf a atoms paths rs → AreRegionsOf b atoms paths ss → rs ≡ ss
    one_list [] rs ss of.no_path of.no_path = refl
    one_list (turns ∷ paths) rs ss (of.void t ts vs n h) (of.void u us ws m k) = one_list paths rs ss h k
    one_list (turns ∷ paths) rs ss (of.void t ts vs n h) (of.region u us s ws m k) = absurd (met_or_not a b e atoms turns s n m)
    one_list (turns ∷ paths) rs ss (of.region t ts r vs n h) (of.void u us ws m k) = absurd (met_or_not b a (sym e) atoms turns r m n)
    one_list (turns ∷ paths) rs ss (of.region t ts r vs n h) (of.region u us s ws m k) =
        ap₂ (λ (x : Region) (xs : List Region). x ∷ xs) (one_region turns r s n m) (one_list paths vs ws h k)

    -- ---- alarms and invariants

    pub one_alarms : (ts : List PlainAlarmTree) (xs ys : List FamilyAlarm) → AreAlarms a atoms ts xs → AreAlarms b atoms ts ys → xs ≡ ys
    one_alarms [] xs ys stops.no_tree stops.no_tree = refl
    one_alarms (t ∷ ts) xs ys (stops.tree u us rs vs h i) (stops.tree v more ss ws k j) =
        ap₂ (λ (own : List Region) (behind : List FamilyAlarm). map (alarm_in t.place t.kind) own ++ behind) (one_list (paths_to_true t.tree) rs ss h k) (one_alarms ts vs ws i j)

    one_of_paths : (place : Place) (paths : List (List (ℕ × Bool) × LeafValue)) (xs ys : List Invariant) → AreOfPaths a atoms place paths xs → AreOfPaths b atoms place paths ys → xs ≡ ys
    one_of_paths place [] xs ys invs.no_path invs.no_path = refl
    one_of_paths place (path ∷ paths) xs ys (invs.void t ts vs n h) (invs.void u us ws m k) = one_of_paths place paths xs ys h k
    one_of_paths place (path ∷ paths) xs ys (invs.void t ts vs n h) (invs.region u us s ws m k) = absurd (met_or_not a b e atoms path.0 s n m)
    one_of_paths place (path ∷ paths) xs ys (invs.region t ts r vs n h) (invs.void u us ws m k) = absurd (met_or_not b a (sym e) atoms path.0 r m n)
    one_of_paths place (path ∷ paths) xs ys (invs.region t ts r vs n h) (invs.region u us s ws m k) =
        ap₂ (λ (x : Region) (behind : List Invariant). let first : Invariant = record { place = place; region = x; leaf = path.1 } in first ∷ behind) (one_region path.0 r s n m) (one_of_paths place paths vs ws h k)

    pub one_invariants : (ts : List LeafTree) (xs ys : List Invariant) → AreInvariants a atoms ts xs → AreInvariants b atoms ts ys → xs ≡ ys
    one_invariants [] xs ys invs.no_tree invs.no_tree = refl
    one_invariants (t ∷ ts) xs ys (invs.tree u us rs vs h i) (invs.tree v more ss ws k j) =
        ap₂ (λ (own behind : List Invariant). own ++ behind) (one_of_paths t.place (paths_of t.tree) rs ss h k) (one_invariants ts vs ws i j)
