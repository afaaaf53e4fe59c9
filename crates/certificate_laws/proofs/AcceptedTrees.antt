-- What the invariants and the alarms of an analysis's trees say of a configuration.
use Rattle.std.proofs.Common.{◌≡◌, ℕ, ℤ, true, false, if◌then◌else◌, List, [], ◌∷◌, ◌++◌, map, length, refl, ap, sym, subst, ◌∙◌, inl, inr}
use Rattle.std.specs.Prelude.{Some, slice_get}
use Rattle.std.specs.List.{AllByRecursion}
use Rattle.fam_outer.specs.declared.faults.Place.{Place}
use Rattle.c_tree.specs.declared.tree.Kind.{Kind}
use Rattle.c_tree.specs.Whole.{IsBeforeAll, IsRising}
use Rattle.linear_atoms.specs.declared.atoms.Atom.{Atom}
use Rattle.cpp_conditions.specs.declared.models.Model.{Model}
use Rattle.cpp_conditions.specs.Numbering.{vector_at}
use Rattle.cpp_conditions.specs.Validity.{plain, IsValid}
use Rattle.decision_tree.specs.Paths.{paths_of}
use Rattle.decision_tree.specs.Plain.{leaf_of, TestsBelow}
use Rattle.decision_tree.proofs.OnePath.{takes_one}
use Rattle.leaf_domain.specs.Leaves.{LeafValue}
use Rattle.plain_analysis.specs.Places.{is_same_place}
use Rattle.plain_analysis.proofs.Located.{same_place_self, before_other}
use Rattle.alarm_report.specs.declared.alarms.FamilyAlarm.{FamilyAlarm}
use Rattle.alarm_report.specs.Alarms.{PlainAlarmTree, alarm_in, AreAlarms}
use Rattle.alarm_report.specs.Alarms as stops
use Rattle.alarm_report.specs.Invariants.{LeafTree, Invariant, AreOfPaths, AreInvariants, HasOnce}
use Rattle.alarm_report.specs.Invariants as invs
use Rattle.alarm_report.specs.Regions.{Meets, MeetsOne, Covers}
use Rattle.alarm_report.proofs.Covering.{all_below}
use Rattle.alarm_report.proofs.Meeting.{covers}
use Rattle.alarm_report.proofs.Placed.{has_once, LeafPaths}
use Rattle.certificate_format.specs.Loops.{trees_at}
use Rattle.invariant_certificate.proofs.Sublists.{IsIn, Within, none, takes, skips, in_more}
use Rattle.certificate_laws.proofs.AcceptedLists.{all_both, all_by_index, all_at, in_left, in_right, in_at, in_map}

-- ---- the trees of loops

abbrev pub place_of : LeafTree → Place
place_of t = t.place

-- what holds of all trees holds of those at some places
pub kept_trees : (P : LeafTree → Type 0) (qs : List Place) (ts : List LeafTree) → AllByRecursion P ts → AllByRecursion P (trees_at qs ts)
kept_trees P [] ts h = tt
kept_trees P (q ∷ qs) [] h = tt
kept_trees P (q ∷ qs) (t ∷ ts) h =
    elim (is_same_place t.place q) as (λ b. AllByRecursion P (if b then t ∷ trees_at qs ts else trees_at (q ∷ qs) ts)) [
      | true ↦ (h.0, kept_trees P qs ts h.1)
      | false ↦ kept_trees P (q ∷ qs) ts h.1
    ]

before_in : (p q : Place) (ps : List Place) → IsBeforeAll p ps → IsIn q ps → is_same_place p q ≡ false
before_in p q [] b i = absurd i
before_in p q (x ∷ ps) b (inl e) = subst (λ y. is_same_place p y ≡ false) e (before_other p x b.0)
before_in p q (x ∷ ps) b (inr i) = before_in p q ps b.1 i

taken : (q : Place) (qs : List Place) (t : LeafTree) (ts : List LeafTree) → t.place ≡ q → map place_of (trees_at qs ts) ≡ qs → map place_of (trees_at (q ∷ qs) (t ∷ ts)) ≡ q ∷ qs
taken q qs t ts e h =
    ap (λ b. map place_of (if b then t ∷ trees_at qs ts else trees_at (q ∷ qs) ts)) (subst (λ x. is_same_place x q ≡ true) (sym e) (same_place_self q))
    ∙ (ap (λ x. x ∷ map place_of (trees_at qs ts)) e ∙ ap (λ l. q ∷ l) h)

skipped : (qs : List Place) (t : LeafTree) (ts : List LeafTree) → IsBeforeAll t.place (map place_of ts) → Within qs (map place_of ts) → map place_of (trees_at qs ts) ≡ qs
    → map place_of (trees_at qs (t ∷ ts)) ≡ qs
skipped [] t ts b w h = refl
skipped (q ∷ qs) t ts b w h =
    ap (λ x. map place_of (if x then t ∷ trees_at qs ts else trees_at (q ∷ qs) ts)) (before_in t.place q (map place_of ts) b (in_more q (q ∷ qs) (map place_of ts) w (inl refl))) ∙ h

-- each of these places has its tree
pub trees_placed : (qs ps : List Place) → Within qs ps → (ts : List LeafTree) → map place_of ts ≡ ps → IsRising ps → map place_of (trees_at qs ts) ≡ qs
trees_placed _ _ none ts e r = refl
trees_placed _ _ (takes x qs ps w) [] e r = cc
trees_placed _ _ (takes x qs ps w) (t ∷ ts) e r =
    let first : t.place ≡ x = cc in
    let rest : map place_of ts ≡ ps = cc in
    taken x qs t ts first (trees_placed qs ps w ts rest r.1)
trees_placed _ _ (skips y qs ps w) [] e r = cc
trees_placed _ _ (skips y qs ps w) (t ∷ ts) e r =
    let first : t.place ≡ y = cc in
    let rest : map place_of ts ≡ ps = cc in
    skipped qs t ts (subst (λ x. IsBeforeAll x (map place_of ts)) (sym first) (subst (IsBeforeAll y) (sym rest) r.0)) (subst (Within qs) (sym rest) w)
    (trees_placed qs ps w ts rest r.1)

module _ (model : Model) (atoms : List Atom) (values : List ℤ) (valid : IsValid (plain model) values) where
  -- ---- invariants

  placed_paths : (place : Place) (ps : LeafPaths) (is : List Invariant) → AreOfPaths model atoms place ps is → AllByRecursion (λ (i : Invariant). i.place ≡ place) is
  placed_paths place _ _ invs.no_path = tt
  placed_paths place _ is (invs.void p ps xs v h) = placed_paths place ps is h
  placed_paths place _ _ (invs.region p ps r xs v h) = (refl, placed_paths place ps xs h)

  same_at : (is : List Invariant) (i j : ℕ) (x y : Invariant) → slice_get is i ≡ Some x → slice_get is j ≡ Some y → i ≡ j → x ≡ y
  same_at is i j x y e f g = let h : Some x ≡ Some y = sym e ∙ ap (slice_get is) g ∙ f in cc

  abbrev IsBelow : LeafTree → Type 0
  IsBelow t = TestsBelow (length atoms) t.tree

  abbrev leaf_there : LeafTree → LeafValue
  leaf_there t = leaf_of t.tree (vector_at atoms values)

  module _ (F : Place → LeafValue) where
    abbrev IsRightHere : Invariant → Type 0
    IsRightHere i = Meets i.region values → i.leaf ≡ F i.place

    right_tree : (t : LeafTree) (is : List Invariant) → IsBelow t → leaf_there t ≡ F t.place → AreOfPaths model atoms t.place (paths_of t.tree) is → AllByRecursion IsRightHere is
    right_tree t is below e h =
        let o : HasOnce is t.place (leaf_there t) values = has_once model atoms t is values below h valid in
        let at = placed_paths t.place (paths_of t.tree) is h in
        all_by_index IsRightHere is (λ i x there met.
        let place : x.place ≡ t.place = all_at (λ (y : Invariant). y.place ≡ t.place) is i x at there in
        ap (λ (y : Invariant). y.leaf) (same_at is i o.index x o.one there o.there (o.alone i x there place met)) ∙ (o.leaf_is ∙ (e ∙ ap F (sym place))))

    pub all_right_here : (ts : List LeafTree) (is : List Invariant) → AreInvariants model atoms ts is → AllByRecursion IsBelow ts → AllByRecursion (λ (t : LeafTree). leaf_there t ≡ F t.place) ts
        → AllByRecursion IsRightHere is
    all_right_here _ _ invs.no_tree below e = tt
    all_right_here _ _ (invs.tree t ts is more h rest) below e =
        all_both IsRightHere is more (right_tree t is below.0 e.0 h) (all_right_here ts more rest below.1 e.1)

  abbrev IsMetAt : Place → List Invariant → Type 0
  IsMetAt q is = (i : Invariant) × IsIn i is × (i.place ≡ q) × Meets i.region values

  -- one of the invariants of each tree is met
  pub met_here : (ts : List LeafTree) (is : List Invariant) → AreInvariants model atoms ts is → AllByRecursion IsBelow ts → (t : LeafTree) → IsIn t ts → IsMetAt t.place is
  met_here _ _ invs.no_tree below t i = absurd i
  met_here _ _ (invs.tree u ts is more h rest) below t (inl e) =
      let o : HasOnce is u.place (leaf_there u) values = has_once model atoms u is values below.0 h valid in
      subst (λ (x : LeafTree). IsMetAt x.place (is ++ more)) e (o.one, in_left o.one is more (in_at o.one is o.index o.there), o.place_is, o.met)
  met_here _ _ (invs.tree u ts is more h rest) below t (inr i) =
      let k = met_here ts more rest below.1 t i in (k.0, in_right k.0 is more k.1, k.2, k.3)

  -- ---- alarms

  abbrev IsStopBelow : PlainAlarmTree → Type 0
  IsStopBelow t = TestsBelow (length atoms) t.tree

  abbrev IsToldAt : Place → Kind → List FamilyAlarm → Type 0
  IsToldAt place kind alarms = (a : FamilyAlarm) × IsIn a alarms × (a.place ≡ place) × (a.kind ≡ kind) × Meets a.region values

  -- one of the alarms of each tree that is true is met
  pub told_here : (ts : List PlainAlarmTree) (alarms : List FamilyAlarm) → AreAlarms model atoms ts alarms → AllByRecursion IsStopBelow ts → (t : PlainAlarmTree) → IsIn t ts
      → leaf_of t.tree (vector_at atoms values) ≡ true → IsToldAt t.place t.kind alarms
  told_here _ _ stops.no_tree below t i g = absurd i
  told_here _ _ (stops.tree u ts rs alarms h rest) below t (inl e) g =
      let c : Covers model atoms u.tree rs = covers model atoms u.tree rs (all_below (length atoms) u.tree below.0) (takes_one u.tree) h in
      let m : MeetsOne rs values = c.one values valid (subst (λ (x : PlainAlarmTree). leaf_of x.tree (vector_at atoms values) ≡ true) (sym e) g) in
      let a = alarm_in u.place u.kind m.region in
      subst (λ (x : PlainAlarmTree). IsToldAt x.place x.kind (map (alarm_in u.place u.kind) rs ++ alarms)) e
      (a, in_left a (map (alarm_in u.place u.kind) rs) alarms (in_map (alarm_in u.place u.kind) m.region rs (in_at m.region rs m.place m.there)), refl, refl, m.met)
  told_here _ _ (stops.tree u ts rs alarms h rest) below t (inr i) g =
      let k = told_here ts alarms rest below.1 t i g in (k.0, in_right k.0 (map (alarm_in u.place u.kind) rs) alarms k.1, k.2, k.3, k.4)
