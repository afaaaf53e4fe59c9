-- The alarms of trees cover the trees.
use Rattle.std.proofs.Common.{◌≡◌, ◌+◌, ℕ, zero, suc, ℤ, true, List, [], ◌∷◌, ◌++◌, length, map, refl, sym, subst, ap, ◌∙◌, arith, inl, inr}
use Rattle.std.specs.Prelude.{Some, slice_get, option_map}
use Rattle.std.specs.List.{All}
use Rattle.std.proofs.lemmas.List.Elements.{All-head, All-tail, All-cons, All-nil}
use Rattle.std.proofs.lemmas.List.{append-nil, append_assoc}
use Rattle.std.proofs.lemmas.Option.{slice_get-map}
use Rattle.fam_outer.specs.declared.faults.Place.{Place}
use Rattle.c_tree.specs.declared.tree.Kind.{Kind}
use Rattle.linear_atoms.specs.declared.atoms.Atom.{Atom}
use Rattle.linear_atoms.specs.Atoms.{AreAtoms, AreLiterals}
use Rattle.cpp_conditions.specs.declared.models.Model.{Model}
use Rattle.cpp_conditions.specs.Numbering.{vector_at}
use Rattle.cpp_conditions.specs.Validity.{plain, IsValid}
use Rattle.decision_tree.specs.Paths.{paths_of}
use Rattle.decision_tree.specs.Plain.{leaf_of, TestsBelow}
use Rattle.decision_tree.specs.View as shared
use Rattle.decision_tree.proofs.OnePath.{takes_one}
use Rattle.decision_tree.proofs.Places.{kept_at, later_at, parted_at, mapped_at}
use Rattle.atom_solver.specs.Solutions.{IsFirst, all_hold}
use Rattle.lifted_analysis.specs.declared.findings.AlarmTree.{AlarmTree}
use Rattle.alarm_report.specs.declared.alarms.FamilyAlarm.{FamilyAlarm}
use Rattle.alarm_report.specs.declared.region.Region.{Region}
use Rattle.alarm_report.specs.Alarms.{PlainAlarmTree, plain_alarm_tree, alarm_in, AreAlarms, AreKeyed, Tells, TellsOnce, HasKey, CoversStops}
use Rattle.alarm_report.specs.Alarms as stops
use Rattle.alarm_report.specs.Regions.{AreRegions, Meets, MeetsOne, Covers}
use Rattle.alarm_report.proofs.Covering.{all_below}
use Rattle.alarm_report.proofs.Meeting.{covers}
use Rattle.alarm_report.proofs.Wellformed.{regions_fit}

-- ---- one tree more

pub alarms_more : (model : Model) (atoms : List Atom) (ts : List PlainAlarmTree) (alarms : List FamilyAlarm) (t : PlainAlarmTree) (rs : List Region)
    → AreAlarms model atoms ts alarms → AreRegions model atoms t.tree rs → AreAlarms model atoms (ts ++ t ∷ []) (alarms ++ map (alarm_in t.place t.kind) rs)
alarms_more model atoms _ _ t rs stops.no_tree k =
    subst (λ xs. AreAlarms model atoms (t ∷ []) xs) (append-nil (map (alarm_in t.place t.kind) rs)) (stops.tree t [] rs [] k stops.no_tree)
alarms_more model atoms _ _ t rs (stops.tree u us qs bs h rest) k =
    subst (λ xs. AreAlarms model atoms (u ∷ (us ++ t ∷ [])) xs) (sym (append_assoc (map (alarm_in u.place u.kind) qs) bs (map (alarm_in t.place t.kind) rs)))
    (stops.tree u (us ++ t ∷ []) qs (bs ++ map (alarm_in t.place t.kind) rs) h (alarms_more model atoms us bs t rs rest k))

-- ---- keys

keyed_tail : (t : PlainAlarmTree) (ts : List PlainAlarmTree) → AreKeyed (t ∷ ts) → AreKeyed ts
keyed_tail t ts h = λ i j a b e f g k. let s : suc i ≡ suc j = h (suc i) (suc j) a b e f g k in omega (arith, s)

-- a later tree has another place or kind than the first
differs : (t u : PlainAlarmTree) (ts : List PlainAlarmTree) (n : ℕ) → AreKeyed (t ∷ ts) → slice_get ts n ≡ Some u → t.place ≡ u.place → t.kind ≡ u.kind → ⊥
differs t u ts n keyed e p k = let s : 0 ≡ suc n = keyed 0 (suc n) t u refl e p k in absurd (omega (arith, s))

abbrev pub AreKnown : List PlainAlarmTree → List FamilyAlarm → Type 0
AreKnown ts alarms = (i : ℕ) (a : FamilyAlarm) → slice_get alarms i ≡ Some a → HasKey ts a.place a.kind

-- so no alarm of the later ones is told for it
unkeyed : (t : PlainAlarmTree) (ts : List PlainAlarmTree) (alarms : List FamilyAlarm) → AreKeyed (t ∷ ts) → AreKnown ts alarms
    → (i : ℕ) (a : FamilyAlarm) (values : List ℤ) → slice_get alarms i ≡ Some a → Tells a t.place t.kind values → ⊥
unkeyed t ts alarms keyed known i a values e w =
    let h : HasKey ts a.place a.kind = known i a e in
    differs t h.one ts h.index keyed h.there (sym w.place_is ∙ sym h.place_is) (sym w.kind_is ∙ sym h.kind_is)

-- ---- the alarms of the first tree

region_of_alarm : (p : Place) (k : Kind) (r : Region) (a : FamilyAlarm) (values : List ℤ) → alarm_in p k r ≡ a → Meets a.region values → Meets r values
region_of_alarm p k r a values e m = subst (λ (x : FamilyAlarm). Meets x.region values) (sym e) m

front_alone : (t : PlainAlarmTree) (rs : List Region) (alarms : List FamilyAlarm) (values : List ℤ)
    → ((i : ℕ) (a : FamilyAlarm) → slice_get alarms i ≡ Some a → Tells a t.place t.kind values → ⊥) → (o : MeetsOne rs values)
    → (i : ℕ) (a : FamilyAlarm) → slice_get (map (alarm_in t.place t.kind) rs ++ alarms) i ≡ Some a → Tells a t.place t.kind values → i ≡ o.place
front_alone t rs alarms values none o i a e w =
    elim (parted_at (map (alarm_in t.place t.kind) rs) alarms i a e) [
      | inl k ↦ (let m = mapped_at (alarm_in t.place t.kind) rs i a k in o.alone i m.0 m.1 (region_of_alarm t.place t.kind m.0 a values m.2 w.met))
      | inr k ↦ absurd (none k.0 a k.1 w)
    ]

front_once : (t : PlainAlarmTree) (rs : List Region) (alarms : List FamilyAlarm) (values : List ℤ)
    → ((i : ℕ) (a : FamilyAlarm) → slice_get alarms i ≡ Some a → Tells a t.place t.kind values → ⊥) → MeetsOne rs values
    → TellsOnce (map (alarm_in t.place t.kind) rs ++ alarms) t.place t.kind values
front_once t rs alarms values none o =
    let f : Region → FamilyAlarm = alarm_in t.place t.kind in
    let here : slice_get (map f rs) o.place ≡ Some (f o.region) = slice_get-map f rs o.place ∙ ap (option_map f) o.there in
    record {
      index = o.place;
      alarm = f o.region;
      there = kept_at (map f rs) alarms o.place (f o.region) here;
      tells = record { place_is = refl; kind_is = refl; met = o.met };
      alone = λ i a e w. front_alone t rs alarms values none o i a e w;
    }

-- ---- the alarms of the later trees

later_alone : (t u : PlainAlarmTree) (rs : List Region) (alarms : List FamilyAlarm) (values : List ℤ) → (t.place ≡ u.place → t.kind ≡ u.kind → ⊥)
    → (o : TellsOnce alarms u.place u.kind values) → (i : ℕ) (a : FamilyAlarm) → slice_get (map (alarm_in t.place t.kind) rs ++ alarms) i ≡ Some a
    → Tells a u.place u.kind values → i ≡ length (map (alarm_in t.place t.kind) rs) + o.index
later_alone t u rs alarms values other o i a e w =
    elim (parted_at (map (alarm_in t.place t.kind) rs) alarms i a e) [
      | inl k ↦ (let m = mapped_at (alarm_in t.place t.kind) rs i a k in
          absurd (other (ap (λ (x : FamilyAlarm). x.place) m.2 ∙ w.place_is) (ap (λ (x : FamilyAlarm). x.kind) m.2 ∙ w.kind_is)))
      | inr k ↦ k.2 ∙ ap (λ n. length (map (alarm_in t.place t.kind) rs) + n) (o.alone k.0 a k.1 w)
    ]

later_once : (t u : PlainAlarmTree) (rs : List Region) (alarms : List FamilyAlarm) (values : List ℤ) → (t.place ≡ u.place → t.kind ≡ u.kind → ⊥)
    → TellsOnce alarms u.place u.kind values → TellsOnce (map (alarm_in t.place t.kind) rs ++ alarms) u.place u.kind values
later_once t u rs alarms values other o = record {
  index = length (map (alarm_in t.place t.kind) rs) + o.index;
  alarm = o.alarm;
  there = later_at (map (alarm_in t.place t.kind) rs) alarms o.index o.alarm o.there;
  tells = o.tells;
  alone = λ i a e w. later_alone t u rs alarms values other o i a e w;
}

-- ---- all

module _ (model : Model) (atoms : List Atom) where
  abbrev IsTrueAt : PlainAlarmTree → List ℤ → Type 0
  IsTrueAt t values = leaf_of t.tree (vector_at atoms values) ≡ true

  one_told : (t : PlainAlarmTree) (ts : List PlainAlarmTree) (rs : List Region) (alarms : List FamilyAlarm) → AreKeyed (t ∷ ts) → Covers model atoms t.tree rs → CoversStops model atoms ts alarms
      → (n : ℕ) (values : List ℤ) (u : PlainAlarmTree) → IsValid (plain model) values → slice_get (t ∷ ts) n ≡ Some u → IsTrueAt u values
      → TellsOnce (map (alarm_in t.place t.kind) rs ++ alarms) u.place u.kind values
  one_told t ts rs alarms keyed c q zero values u valid e g =
      let same : t ≡ u = cc in
      let here : IsTrueAt t values = subst (λ (x : PlainAlarmTree). IsTrueAt x values) (sym same) g in
      subst (λ (x : PlainAlarmTree). TellsOnce (map (alarm_in t.place t.kind) rs ++ alarms) x.place x.kind values) same
      (front_once t rs alarms values (λ i a f w. unkeyed t ts alarms keyed q.known i a values f w) (c.one values valid here))
  one_told t ts rs alarms keyed c q (suc n) values u valid e g =
      later_once t u rs alarms values (λ p k. differs t u ts n keyed e p k) (q.one values n u valid e g)

  only_front : (t : PlainAlarmTree) (ts : List PlainAlarmTree) (rs : List Region) → AreKeyed (t ∷ ts) → Covers model atoms t.tree rs
      → (n : ℕ) (values : List ℤ) (u : PlainAlarmTree) (i : ℕ) (a : FamilyAlarm) (r : Region) → IsValid (plain model) values → slice_get (t ∷ ts) n ≡ Some u
      → slice_get rs i ≡ Some r → alarm_in t.place t.kind r ≡ a → Tells a u.place u.kind values → IsTrueAt u values
  only_front t ts rs keyed c zero values u i a r valid e f g w =
      let same : t ≡ u = cc in
      subst (λ (x : PlainAlarmTree). IsTrueAt x values) same (c.only values i r valid f (region_of_alarm t.place t.kind r a values g w.met))
  only_front t ts rs keyed c (suc n) values u i a r valid e f g w =
      absurd (differs t u ts n keyed e (ap (λ (x : FamilyAlarm). x.place) g ∙ w.place_is) (ap (λ (x : FamilyAlarm). x.kind) g ∙ w.kind_is))

  only_later : (t : PlainAlarmTree) (ts : List PlainAlarmTree) (alarms : List FamilyAlarm) → AreKeyed (t ∷ ts) → CoversStops model atoms ts alarms
      → (n : ℕ) (values : List ℤ) (u : PlainAlarmTree) (i : ℕ) (a : FamilyAlarm) → IsValid (plain model) values → slice_get (t ∷ ts) n ≡ Some u
      → slice_get alarms i ≡ Some a → Tells a u.place u.kind values → IsTrueAt u values
  only_later t ts alarms keyed q zero values u i a valid e f w =
      let same : t ≡ u = cc in
      absurd (unkeyed t ts alarms keyed q.known i a values f (subst (λ (x : PlainAlarmTree). Tells a x.place x.kind values) (sym same) w))
  only_later t ts alarms keyed q (suc n) values u i a valid e f w = q.only values n u i a valid e f w

  only_told : (t : PlainAlarmTree) (ts : List PlainAlarmTree) (rs : List Region) (alarms : List FamilyAlarm) → AreKeyed (t ∷ ts) → Covers model atoms t.tree rs → CoversStops model atoms ts alarms
      → (n : ℕ) (values : List ℤ) (u : PlainAlarmTree) (i : ℕ) (a : FamilyAlarm) → IsValid (plain model) values → slice_get (t ∷ ts) n ≡ Some u
      → slice_get (map (alarm_in t.place t.kind) rs ++ alarms) i ≡ Some a → Tells a u.place u.kind values → IsTrueAt u values
  only_told t ts rs alarms keyed c q n values u i a valid e f w =
      elim (parted_at (map (alarm_in t.place t.kind) rs) alarms i a f) [
        | inl k ↦ (let m = mapped_at (alarm_in t.place t.kind) rs i a k in only_front t ts rs keyed c n values u i a m.0 valid e m.1 m.2 w)
        | inr k ↦ only_later t ts alarms keyed q n values u k.0 a valid e k.1 w
      ]

  known_in : (t : PlainAlarmTree) (ts : List PlainAlarmTree) (rs : List Region) (alarms : List FamilyAlarm) → AreKnown ts alarms → AreKnown (t ∷ ts) (map (alarm_in t.place t.kind) rs ++ alarms)
  known_in t ts rs alarms known = λ i a e.
      elim (parted_at (map (alarm_in t.place t.kind) rs) alarms i a e) [
        | inl k ↦ (let m = mapped_at (alarm_in t.place t.kind) rs i a k in
            record { index = 0; one = t; there = refl; place_is = ap (λ (x : FamilyAlarm). x.place) m.2; kind_is = ap (λ (x : FamilyAlarm). x.kind) m.2 })
        | inr k ↦ (let h : HasKey ts a.place a.kind = known k.0 a k.1 in
            record { index = suc h.index; one = h.one; there = h.there; place_is = h.place_is; kind_is = h.kind_is })
      ]

  abbrev IsLeast : FamilyAlarm → Type 0
  IsLeast a = IsFirst model (all_hold a.region.literals) a.region.example.values

  least_in : (t : PlainAlarmTree) (ts : List PlainAlarmTree) (rs : List Region) (alarms : List FamilyAlarm) → Covers model atoms t.tree rs → CoversStops model atoms ts alarms
      → (i : ℕ) (a : FamilyAlarm) → slice_get (map (alarm_in t.place t.kind) rs ++ alarms) i ≡ Some a → IsLeast a
  least_in t ts rs alarms c q i a e =
      elim (parted_at (map (alarm_in t.place t.kind) rs) alarms i a e) [
        | inl k ↦ (let m = mapped_at (alarm_in t.place t.kind) rs i a k in subst (λ (x : FamilyAlarm). IsLeast x) m.2 (c.least i m.0 m.1))
        | inr k ↦ q.least k.0 a k.1
      ]

  -- the trees' tests are numbers of the atoms
  abbrev pub AreBelow : List PlainAlarmTree → Type 0
  AreBelow ts = All (λ (t : PlainAlarmTree). TestsBelow (length atoms) t.tree) ts

  abbrev IsBelow : PlainAlarmTree → Type 0
  IsBelow t = TestsBelow (length atoms) t.tree

  pub covers_stops : (ts : List PlainAlarmTree) (alarms : List FamilyAlarm) → AreBelow ts → AreKeyed ts → AreAlarms model atoms ts alarms → CoversStops model atoms ts alarms
  covers_stops _ _ below keyed stops.no_tree = record {
    one = λ values n t valid e g. cc;
    only = λ values n t i a valid e f w. cc;
    known = λ i a e. cc;
    least = λ i a e. cc;
  }
  covers_stops _ _ below keyed (stops.tree t ts rs alarms h rest) =
      let c : Covers model atoms t.tree rs = covers model atoms t.tree rs (all_below (length atoms) t.tree (All-head IsBelow t ts below)) (takes_one t.tree) h in
      let q : CoversStops model atoms ts alarms = covers_stops ts alarms (All-tail IsBelow t ts below) (keyed_tail t ts keyed) rest in
      record {
        one = λ values n u valid e g. one_told t ts rs alarms keyed c q n values u valid e g;
        only = λ values n u i a valid e f w. only_told t ts rs alarms keyed c q n values u i a valid e f w;
        known = known_in t ts rs alarms q.known;
        least = λ i a e. least_in t ts rs alarms c q i a e;
      }

-- ---- well-formed literals

abbrev pub Fits : ℕ → FamilyAlarm → Type 0
Fits n a = AreLiterals n a.region.literals

fit_joined : (n : ℕ) (p : Place) (k : Kind) (rs : List Region) (alarms : List FamilyAlarm) → All (λ (r : Region). AreLiterals n r.literals) rs → All (Fits n) alarms
    → All (Fits n) (map (alarm_in p k) rs ++ alarms)
fit_joined n p k [] alarms h g = g
fit_joined n p k (r ∷ rs) alarms h g =
    let P : Region → Type 0 = λ x. AreLiterals n x.literals in
    All-cons (Fits n) (alarm_in p k r) (map (alarm_in p k) rs ++ alarms) (All-head P r rs h) (fit_joined n p k rs alarms (All-tail P r rs h) g)

pub alarms_fit : (model : Model) (atoms : List Atom) (n : ℕ) (ts : List PlainAlarmTree) (alarms : List FamilyAlarm) → AreAtoms n atoms → AreBelow model atoms ts
    → AreAlarms model atoms ts alarms → All (Fits n) alarms
alarms_fit model atoms n _ _ fit below stops.no_tree = All-nil (Fits n)
alarms_fit model atoms n _ _ fit below (stops.tree t ts rs alarms h rest) =
    let P : PlainAlarmTree → Type 0 = λ x. TestsBelow (length atoms) x.tree in
    fit_joined n t.place t.kind rs alarms
    (regions_fit model atoms n (paths_of t.tree) rs fit (all_below (length atoms) t.tree (All-head P t ts below)) h)
    (alarms_fit model atoms n ts alarms fit (All-tail P t ts below) rest)

-- the trees as a contract has them
pub seen_below : (m : ℕ) (ts : List AlarmTree) → All (λ (t : AlarmTree). TestsBelow m (shared.plain t.tree)) ts → All (λ (t : PlainAlarmTree). TestsBelow m t.tree) (map plain_alarm_tree ts)
seen_below m [] h = All-nil (λ (t : PlainAlarmTree). TestsBelow m t.tree)
seen_below m (t ∷ ts) h =
    let P : AlarmTree → Type 0 = λ x. TestsBelow m (shared.plain x.tree) in
    All-cons (λ (x : PlainAlarmTree). TestsBelow m x.tree) (plain_alarm_tree t) (map plain_alarm_tree ts) (All-head P t ts h) (seen_below m ts (All-tail P t ts h))
