-- What is promised of the alarms and the invariants of all variants holds of those of the trees that were found.
use Rattle.std.proofs.Common.{◌≡◌, ◌⊎◌, ◌≤◌, ◌<◌, ℕ, zero, suc, not, ◌&&◌, ℤ, Bool, true, false, List, [], ◌∷◌, ◌++◌, map, length, if◌then◌else◌, refl, ap, sym, subst, ◌∙◌, inl, inr, arith}
use Rattle.std.proofs.lemmas.Bool.{lt-ltb}
use Rattle.std.proofs.lemmas.List.{length-map}
use Rattle.std.proofs.lemmas.List.Elements.{Contains-append_cases}
use Rattle.std.proofs.lemmas.Option.{none-some, same_Some}
use Rattle.std.specs.Prelude.{slice_get, Option, Some, None}
use Rattle.std.specs.List.{All, Contains}
use Rattle.fam_outer.specs.declared.faults.Place.{Place}
use Rattle.c_tree.specs.declared.tree.Kind.{Kind}
use Rattle.c_tree.specs.declared.tree.Kind.TheVariants.{Overflow, ZeroDivisor, Assertion}
use Rattle.c_tree.specs.Places.{program_places}
use Rattle.c_tree.specs.Run.{StoppedEnd, run_of}
use Rattle.c_tree.specs.Tree.{Whole}
use Rattle.c_tree.specs.Value.{IsInt}
use Rattle.c_tree.specs.View.{whole}
use Rattle.c_tree.specs.Whole.{IsRising}
use Rattle.linear_atoms.specs.declared.atoms.Atom.{Atom}
use Rattle.linear_atoms.specs.declared.regions.Regions.{Regions}
use Rattle.linear_atoms.specs.Atoms.{AreLiterals}
use Rattle.linear_atoms.specs.declared.regions.Regions.TheVariants.{Paths}
use Rattle.cpp_conditions.specs.declared.models.Model.{Model}
use Rattle.cpp_conditions.specs.Numbering.{vector_at}
use Rattle.cpp_conditions.specs.Validity.{plain, IsValid}
use Rattle.cpp_conditions.specs.View.{formula}
use Rattle.decision_tree.specs.Plain.{Plain, leaf_of}
use Rattle.leaf_domain.specs.Leaves.{LeafValue, LeafMeaning, LeafLaws, nothing_of}
use Rattle.lifted_analysis.specs.declared.findings.AlarmTree.{AlarmTree}
use Rattle.lifted_analysis.specs.declared.findings.FamilyFindings.{FamilyFindings}
use Rattle.lifted_analysis.specs.Promises.{begin_at, stop_at, by_kind}
use Rattle.plain_analysis.specs.declared.alarm.Alarm.{Alarm}
use Rattle.plain_analysis.specs.declared.options.Options.{Options}
use Rattle.plain_analysis.specs.Places.{at_of, alarm_of, alarms_of, alarm_where, alarms_at, alarms_over}
use Rattle.plain_analysis.specs.Promises.{IsForeseen, RunsForeseen}
use Rattle.c_parser.specs.FamilyReading.{IsFamilyOf}
use Rattle.c_parser.specs.Variants.{VariantsAreRead, projection, truths_in}
use Rattle.alarm_report.specs.declared.alarms.FamilyAlarm.{FamilyAlarm}
use Rattle.alarm_report.specs.Alarms.{PlainAlarmTree, plain_alarm_tree, AreAlarms, AreKeyed, CoversStops, Tells, TellsOnce}
use Rattle.configuration_advice.specs.declared.comparing.Advice.{Advice}
use Rattle.configuration_advice.specs.Nearest.{differing, are_false, is_quiet, Advises}
use Rattle.famlint_loads.specs.declared.product_line.ProductLine.{ProductLine}
use Rattle.famlint_families.specs.Advised.{HasAlarmAt, HasNoAlarmAt, IsNearestWithoutAlarms, IsGood, trees_of}
use Rattle.famlint_programs.specs.Report.{NeverStops}
use Rattle.famlint_requests.specs.declared.request.FamilyTask.{FamilyTask}
use Rattle.famlint_requests.specs.declared.request.FamilyTask.TheVariants as tasks
use Rattle.famlint_families.specs.FamilyReports.{IsAlarmTreeOf, IsFamilyDone, family_status}
use Rattle.famlint_families.specs.Findings.{IsFound, AreAlarmsWithLiterals, AreGoodAlarms, IsGoodText}
use Rattle.famlint_families.specs.Headline.{AreItsAlarms, AreAlarmsOfAll, PromisedOfAll}
use Rattle.famlint_loads.specs.ProductLines.{IsUsableLine}
use Rattle.famlint_families.proofs.Told.{told_leads}
use Rattle.famlint_programs.proofs.Keys.{all_at, key, keyed, alarm_tree_there}
use Rattle.famlint_programs.proofs.Reached.{alarm_there}
use Rattle.famlint_loads.proofs.Selecting.{is_program_at}

-- ---- an alarm that is listed is one

alarm_is : (b : Bool) (place : Place) (kind : Kind) (x : Alarm) → Contains (alarm_where b place kind) x → (b ≡ true) × (place ≡ x.place) × (kind ≡ x.kind)
alarm_is true place kind x (zero, lt, e) = (refl, ap (λ (a : Alarm). a.place) e, ap (λ (a : Alarm). a.kind) e)
alarm_is true place kind x (suc k, lt, e) = absurd (omega (arith, lt))
alarm_is false place kind x (k, lt, e) = absurd (omega (arith, lt))

kind_is : (f : Kind → Bool) (place : Place) (kind : Kind) (x : Alarm) → Contains (alarm_where (f kind) place kind) x → (f x.kind ≡ true) × (place ≡ x.place)
kind_is f place kind x h = let found = alarm_is (f kind) place kind x h in (subst (λ k. f k ≡ true) found.2 found.0, found.1)

last_two : (f : Kind → Bool) (place : Place) (x : Alarm) → Contains (alarm_where (f ZeroDivisor) place ZeroDivisor) x ⊎ Contains (alarm_where (f Assertion) place Assertion) x
    → (f x.kind ≡ true) × (place ≡ x.place)
last_two f place x (inl h) = kind_is f place ZeroDivisor x h
last_two f place x (inr h) = kind_is f place Assertion x h

all_three : (f : Kind → Bool) (place : Place) (x : Alarm)
    → Contains (alarm_where (f Overflow) place Overflow) x ⊎ Contains (alarm_where (f ZeroDivisor) place ZeroDivisor ++ alarm_where (f Assertion) place Assertion) x
    → (f x.kind ≡ true) × (place ≡ x.place)
all_three f place x (inl h) = kind_is f place Overflow x h
all_three f place x (inr h) =
    last_two f place x (Contains-append_cases (alarm_where (f ZeroDivisor) place ZeroDivisor) (alarm_where (f Assertion) place Assertion) x h)

listed_by : (f : Place → Kind → Bool) (p : Place) (ps : List Place) (x : Alarm) → (Contains (alarms_over f ps) x → f x.place x.kind ≡ true)
    → Contains (alarms_at (f p) p) x ⊎ Contains (alarms_over f ps) x → f x.place x.kind ≡ true
listed_by f p ps x rest (inl h) =
    let found = all_three (f p) p x (Contains-append_cases (alarm_where (f p Overflow) p Overflow) (alarm_where (f p ZeroDivisor) p ZeroDivisor ++ alarm_where (f p Assertion) p Assertion) x h) in
    subst (λ q. f q x.kind ≡ true) found.1 found.0
listed_by f p ps x rest (inr h) = rest h

listed_is : (f : Place → Kind → Bool) (ps : List Place) (x : Alarm) → Contains (alarms_over f ps) x → f x.place x.kind ≡ true
listed_is f [] x h = absurd (omega (arith, h.1))
listed_is f (p ∷ ps) x h = listed_by f p ps x (listed_is f ps x) (Contains-append_cases (alarms_at (f p) p) (alarms_over f ps) x h)

some_status : (a : FamilyAlarm) (others : List FamilyAlarm) → family_status (a ∷ others) ≡ 1
some_status a others = ap (λ (b : Bool). let n : ℕ = if b then 1 else 0 in n) (lt-ltb 0 (length (a ∷ others)) (omega arith))

-- ---- truths

both_first : (a b : Bool) → (a && b) ≡ true → a ≡ true
both_first true b h = refl
both_first false b h = h

both_second : (a b : Bool) → (a && b) ≡ true → b ≡ true
both_second true b h = h
both_second false b h = cc

not_true : (a : Bool) → not a ≡ true → a ≡ false
not_true true h = sym h
not_true false h = refl

never_both : (a : Bool) → a ≡ true → a ≡ false → ⊥
never_both a h k = cc

never_false : true ≡ false → ⊥
never_false h = cc

not_so_false : (a : Bool) → (a ≡ true → ⊥) → a ≡ false
not_so_false true h = absurd (h refl)
not_so_false false h = refl

not_fewer : (n m : ℕ) → n < m → m ≤ n → ⊥
not_fewer n m h k = omega arith

-- ---- keys

keyed_at : (ts : List PlainAlarmTree) (n : ℕ) (t : PlainAlarmTree) → slice_get ts n ≡ Some t → slice_get (map key ts) n ≡ Some (t.place, t.kind)
keyed_at [] n t e = absurd (none-some t e)
keyed_at (x ∷ ts) zero t e = ap (λ (y : PlainAlarmTree). Some (key y)) (same_Some x t e)
keyed_at (x ∷ ts) (suc n) t e = keyed_at ts n t e

here_place : (p : Place) (kind : Kind) (k : Place × Kind) → Some (let x : Place × Kind = (p, kind) in x) ≡ Some k → Some p ≡ Some k.0
here_place p kind k e = ap (λ (x : Place × Kind). Some x.0) (same_Some _ k e)

-- a key has one of the places
kind_place : (ps : List Place) (n : ℕ) (k : Place × Kind) → slice_get (by_kind ps) n ≡ Some k → (m : ℕ) × (slice_get ps m ≡ Some k.0)
kind_place [] n k e = absurd (none-some k e)
kind_place (p ∷ ps) zero k e = (zero, here_place p Overflow k e)
kind_place (p ∷ ps) (suc zero) k e = (zero, here_place p ZeroDivisor k e)
kind_place (p ∷ ps) (suc (suc zero)) k e = (zero, here_place p Assertion k e)
kind_place (p ∷ ps) (suc (suc (suc n))) k e = let later = kind_place ps n k e in (suc later.0, later.1)

-- a tree of the list that is true at the vector
record IsTrueAt (trees : List PlainAlarmTree) (v : List Bool) : Type 0 where
  index : ℕ
  one : PlainAlarmTree
  there : slice_get trees index ≡ Some one
  truth : leaf_of one.tree v ≡ true

-- ---- one variant

module _ {L : Type 0} (value : L → LeafValue) (M : LeafMeaning) (laws : LeafLaws M) (o : Options) (r : Regions) (l : ProductLine) (f : FamilyFindings L) (found : IsFound value M o r l f)
    (rising : IsRising (program_places (whole l.family.code))) (law : VariantsAreRead) (spelled : IsFamilyOf l.dialect l.model l.text l.family) where
  abbrev stops : List PlainAlarmTree
  stops = map plain_alarm_tree f.alarms.items

  abbrev vector : List ℤ → List Bool
  vector values = vector_at l.family.atoms values

  abbrev program : List ℤ → Whole
  program values = projection l.family (truths_in l.family values)

  abbrev start : List ℤ → LeafValue
  start values = M.start (program values).start

  pub begins : (values : List ℤ) → IsValid (plain l.model) values → begin_at M (whole l.family.code) l.family.conditions found.plausible (vector values) ≡ start values
  begins values valid = ap (λ b. if b then start values else nothing_of (length (whole l.family.code).names)) (found.valid values valid)

  pub long : (values : List ℤ) → length (vector values) ≡ length l.family.atoms
  long values = length-map l.family.atoms _

  stop_says : (values : List ℤ) → IsValid (plain l.model) values → (n : ℕ) (t : PlainAlarmTree) → slice_get stops n ≡ Some t
      → leaf_of t.tree (vector values) ≡ alarm_of M o (program values) (start values) t.place t.kind
  stop_says values valid n t there =
      (told_leads r (length l.family.atoms) (stop_at M o (whole l.family.code) l.family.conditions found.plausible (t.place, t.kind)) (formula found.plausible) t.tree
      (all_at (IsAlarmTreeOf M o r l found.plausible) stops n t found.stops.are there)).leads (vector values) (long values) (found.valid values valid)
      ∙ ap (λ d. alarm_of M o (program values) d t.place t.kind) (begins values valid)

  pub foreseen : (values : List ℤ) → IsValid (plain l.model) values → (inputs : List ℤ) (n : ℕ) → All IsInt inputs
      → IsForeseen M (at_of M o (program values) (start values)) (program values).end (alarms_of M o (program values) (start values)) (run_of (program values) inputs n o.mode)
  foreseen values valid inputs n ints =
      let runs : RunsForeseen M o (program values) (start values) = subst (λ d. RunsForeseen M o (program values) d) (begins values valid) (found.runs (vector values)) in
      runs (program values).start inputs n ((laws.start_holds (program values).start (program values).start).1 refl) ints

  -- ---- alarms

  module _ (alarms : List FamilyAlarm) (cover : CoversStops l.model l.family.atoms stops alarms) where
    told_once : (values : List ℤ) → IsValid (plain l.model) values → (place : Place) (kind : Kind)
        → alarm_of M o (program values) (start values) place kind ≡ true → TellsOnce alarms place kind values
    told_once values valid place kind h =
        let there = alarm_tree_there stops (program_places (whole l.family.code)) found.stops.keys place kind
        (alarm_there M o (whole l.family.code) (truths_in l.family values) (start values) place kind h) in
        let t = there.one in
        let at_tree : alarm_of M o (program values) (start values) t.place t.kind ≡ true =
        ap (λ p. alarm_of M o (program values) (start values) p t.kind) there.place_is ∙ (ap (λ k. alarm_of M o (program values) (start values) place k) there.kind_is ∙ h) in
        subst (λ k. TellsOnce alarms place k values) there.kind_is
        (subst (λ p. TellsOnce alarms p t.kind values) there.place_is
        (cover.one values there.index t valid there.there (stop_says values valid there.index t there.there ∙ at_tree)))

    told_only : (values : List ℤ) → IsValid (plain l.model) values → (place : Place) (kind : Kind) (i : ℕ) (a : FamilyAlarm) → slice_get alarms i ≡ Some a
        → Tells a place kind values → alarm_of M o (program values) (start values) place kind ≡ true
    told_only values valid place kind i a there tells =
        let known = cover.known i a there in
        let n = known.index in
        let t = known.one in
        let tells_tree : Tells a t.place t.kind values = record { place_is = sym known.place_is; kind_is = sym known.kind_is; met = tells.met } in
        let holds = sym (stop_says values valid n t known.there) ∙ cover.only values n t i a valid known.there there tells_tree in
        ap (λ p. alarm_of M o (program values) (start values) p kind) (sym (known.place_is ∙ tells.place_is))
        ∙ (ap (λ k. alarm_of M o (program values) (start values) t.place k) (sym (known.kind_is ∙ tells.kind_is)) ∙ holds)

    told_stops : (values : List ℤ) → IsValid (plain l.model) values → (inputs : List ℤ) (n : ℕ) (place : Place) (kind : Kind) → All IsInt inputs
        → run_of (program values) inputs n o.mode ≡ StoppedEnd place kind → TellsOnce alarms place kind values
    told_stops values valid inputs n place kind ints stopped =
        let at = at_of M o (program values) (start values) in
        let listed : Contains (alarms_of M o (program values) (start values)) (record { place = place; kind = kind }) =
        subst (IsForeseen M at (program values).end (alarms_of M o (program values) (start values))) stopped (foreseen values valid inputs n ints) in
        told_once values valid place kind (listed_is (alarm_of M o (program values) (start values)) (program_places (program values)) (record { place = place; kind = kind }) listed)

    none_told : (others : List FamilyAlarm) (place : Place) (kind : Kind) (values : List ℤ) → family_status others ≡ 0 → TellsOnce others place kind values → ⊥
    none_told [] place kind values e once = none-some once.alarm once.there
    none_told (a ∷ others) place kind values e once = let k : (let n : ℕ = 1 in n) ≡ 0 = sym (some_status a others) ∙ e in absurd (omega (arith, k))

    its_alarms : (values : List ℤ) → IsValid (plain l.model) values → AreItsAlarms M o alarms (family_status alarms) values (program values)
    its_alarms values valid = record {
      stops = told_stops values valid;
      safe = λ none inputs n place kind ints stopped. none_told alarms place kind values none (told_stops values valid inputs n place kind ints stopped);
      once = told_once values valid;
      only = told_only values valid;
    }

    told_places : (i : ℕ) (a : FamilyAlarm) → slice_get alarms i ≡ Some a → (n : ℕ) × (slice_get (program_places (whole l.family.code)) n ≡ Some a.place)
    told_places i a there =
        let known = cover.known i a there in
        let key_there : slice_get (by_kind (program_places (whole l.family.code))) known.index ≡ Some (known.one.place, known.one.kind) =
        subst (λ (ks : List (Place × Kind)). slice_get ks known.index ≡ Some (known.one.place, known.one.kind)) found.stops.keys (keyed_at stops known.index known.one known.there) in
        let place = kind_place (program_places (whole l.family.code)) known.index (known.one.place, known.one.kind) key_there in
        (place.0, place.1 ∙ ap (λ (p : Place). Some p) known.place_is)

    pub good_alarms : AreAlarms l.model l.family.atoms stops alarms → AreAlarmsWithLiterals l alarms → AreGoodAlarms M o r l alarms
    good_alarms regions fit = record {
      are = record { plausible = found.plausible; plausible_is = found.plausible_is; trees = stops; told = found.stops; tells = regions };
      all = record {
        variants = λ values valid. (program values, is_program_at law l values (program values) spelled valid refl, its_alarms values valid);
        examples = cover.least;
        literals = λ i a there. all_at (λ (x : FamilyAlarm). AreLiterals (length l.model.features) x.region.literals) alarms i a fit there;
        places = told_places;
      };
    }

  -- ---- advice

  false_at : (trees : List PlainAlarmTree) (v : List Bool) → are_false (trees_of trees) v ≡ true → (n : ℕ) (t : PlainAlarmTree) → slice_get trees n ≡ Some t → leaf_of t.tree v ≡ false
  false_at [] v h n t e = absurd (none-some t e)
  false_at (x ∷ trees) v h zero t e = let f : x ≡ t = cc in subst (λ (y : PlainAlarmTree). leaf_of y.tree v ≡ false) f (not_true (leaf_of x.tree v) (both_first _ _ h))
  false_at (x ∷ trees) v h (suc n) t e = false_at trees v (both_second (not (leaf_of x.tree v)) _ h) n t e

  some_by : (x : PlainAlarmTree) (trees : List PlainAlarmTree) (v : List Bool) (b : Bool) → leaf_of x.tree v ≡ b → (not b && are_false (trees_of trees) v) ≡ false → (are_false (trees_of trees) v ≡ false → IsTrueAt trees v) → IsTrueAt (x ∷ trees) v
  some_by x trees v true e h k = record { index = 0; one = x; there = refl; truth = e }
  some_by x trees v false e h k = let r = k h in record { index = suc r.index; one = r.one; there = r.there; truth = r.truth }

  some_true : (trees : List PlainAlarmTree) (v : List Bool) → are_false (trees_of trees) v ≡ false → IsTrueAt trees v
  some_true [] v h = absurd (never_false h)
  some_true (x ∷ trees) v h = some_by x trees v (leaf_of x.tree v) refl h (some_true trees v)

  never_alarms : (values : List ℤ) → IsValid (plain l.model) values → is_quiet l.family.atoms (trees_of stops) values ≡ true → (place : Place) (kind : Kind)
      → alarm_of M o (program values) (start values) place kind ≡ true → ⊥
  never_alarms values valid quiet place kind alarm =
      let there = alarm_tree_there stops (program_places (whole l.family.code)) found.stops.keys place kind
      (alarm_there M o (whole l.family.code) (truths_in l.family values) (start values) place kind alarm) in
      let t = there.one in
      let at_tree : alarm_of M o (program values) (start values) t.place t.kind ≡ true =
      ap (λ p. alarm_of M o (program values) (start values) p t.kind) there.place_is ∙ (ap (λ k. alarm_of M o (program values) (start values) place k) there.kind_is ∙ alarm) in
      never_both (leaf_of t.tree (vector values)) (stop_says values valid there.index t there.there ∙ at_tree) (false_at stops (vector values) quiet there.index t there.there)

  no_alarm : (values : List ℤ) → IsValid (plain l.model) values → is_quiet l.family.atoms (trees_of stops) values ≡ true → HasNoAlarmAt M o l values
  no_alarm values valid quiet = record {
    program = program values;
    is = is_program_at law l values (program values) spelled valid refl;
    none = λ place kind. not_so_false (alarm_of M o (program values) (start values) place kind) (never_alarms values valid quiet place kind);
  }

  never_stops : (values : List ℤ) → IsValid (plain l.model) values → is_quiet l.family.atoms (trees_of stops) values ≡ true → NeverStops o.mode (program values)
  never_stops values valid quiet = λ inputs n place kind ints stopped.
      let at = at_of M o (program values) (start values) in
      let listed : Contains (alarms_of M o (program values) (start values)) (record { place = place; kind = kind }) =
      subst (IsForeseen M at (program values).end (alarms_of M o (program values) (start values))) stopped (foreseen values valid inputs n ints) in
      never_alarms values valid quiet place kind
      (listed_is (alarm_of M o (program values) (start values)) (program_places (program values)) (record { place = place; kind = kind }) listed)

  has_alarm : (values : List ℤ) → IsValid (plain l.model) values → is_quiet l.family.atoms (trees_of stops) values ≡ false → HasAlarmAt M o l values
  has_alarm values valid loud =
      let one = some_true stops (vector values) loud in
      record {
        program = program values;
        is = is_program_at law l values (program values) spelled valid refl;
        place = one.one.place;
        kind = one.one.kind;
        alarm = sym (stop_says values valid one.index one.one one.there) ∙ one.truth;
      }

  loud_by : (values : List ℤ) → (is_quiet l.family.atoms (trees_of stops) values ≡ true → ⊥) → is_quiet l.family.atoms (trees_of stops) values ≡ false
  loud_by values h = not_so_false (is_quiet l.family.atoms (trees_of stops) values) h

  pub good_advice : (given : List ℤ) (advice : Option Advice) → Advises l.model l.family.atoms (trees_of stops) given advice → IsGood M o l given advice
  good_advice given None h = λ values valid. has_alarm values valid (h values valid)
  good_advice given (Some advice) h = record {
    valid = h.valid;
    safe = record { program = program advice.config.values; is = is_program_at law l advice.config.values (program advice.config.values) spelled h.valid refl; safe = never_stops advice.config.values h.valid h.quiet };
    quiet = no_alarm advice.config.values h.valid h.quiet;
    changed = h.changed;
    fewer = λ others valid less. has_alarm others valid (loud_by others (λ quiet. not_fewer (differing given others) advice.changed less (h.fewest others valid quiet)));
    before = λ others valid same earlier. has_alarm others valid (loud_by others (λ quiet. h.first others valid quiet same earlier));
  }

  pub stops_keyed : AreKeyed stops
  stops_keyed = keyed stops (program_places (whole l.family.code)) found.stops.keys rising

-- ---- what a call has answered, over the atoms of the product line

pub record AreAlarmsFrom (model : Model) (atoms : List Atom) (trees : List AlarmTree) (alarms : List FamilyAlarm) : Type 0 where
  pub regions : AreAlarms model atoms (map plain_alarm_tree trees) alarms
  pub cover : AreKeyed (map plain_alarm_tree trees) → CoversStops model atoms (map plain_alarm_tree trees) alarms
  pub fit : All (λ (a : FamilyAlarm). AreLiterals (length model.features) a.region.literals) alarms

module _ {L : Type 0} (value : L → LeafValue) (M : LeafMeaning) (laws : LeafLaws M) (l : ProductLine) (u : IsUsableLine l) (law : VariantsAreRead) (f : FamilyFindings L)
    (model : Model) (atoms : List Atom) (same_model : model ≡ l.model) (same_atoms : atoms ≡ l.family.atoms) where
  pub alarms_from : (trees : List AlarmTree) → trees ≡ f.alarms.items → (alarms : List FamilyAlarm) → AreAlarmsFrom model atoms trees alarms
      → (o : Options) (r : Regions) → IsFound value M o r l f → AreGoodAlarms M o r l alarms
  alarms_from trees same alarms from o r found =
      let here : AreAlarmsFrom l.model l.family.atoms f.alarms.items alarms =
      subst (λ m. AreAlarmsFrom m l.family.atoms f.alarms.items alarms) same_model
      (subst (λ xs. AreAlarmsFrom model xs f.alarms.items alarms) same_atoms (subst (λ ts. AreAlarmsFrom model atoms ts alarms) same from)) in
      good_alarms value M laws o r l f found u.family.program.rising law u.spelled alarms (here.cover (stops_keyed value M laws o r l f found u.family.program.rising law u.spelled)) here.regions here.fit

-- ---- advice

pub record IsAdvised (M : LeafMeaning) (o : Options) (l : ProductLine) (given : List ℤ) (advice : Option Advice) : Type 0 where
  pub answer : IsNearestWithoutAlarms M o l given advice
  pub good : IsGood M o l given advice

pub advised : {L : Type 0} (value : L → LeafValue) (M : LeafMeaning) (laws : LeafLaws M) (o : Options) (l : ProductLine) (f : FamilyFindings L) → IsFound value M o Paths l f → IsUsableLine l → VariantsAreRead
    → (model : Model) (atoms : List Atom) (trees : List (Plain Bool)) (given : List ℤ) (advice : Option Advice) → model ≡ l.model → atoms ≡ l.family.atoms → trees ≡ trees_of (map plain_alarm_tree f.alarms.items)
    → Advises model atoms trees given advice → IsAdvised M o l given advice
advised value M laws o l f found u law model atoms trees given advice same_model same_atoms same_trees h =
    let here : Advises l.model l.family.atoms (trees_of (map plain_alarm_tree f.alarms.items)) given advice =
    subst (λ m. Advises m l.family.atoms (trees_of (map plain_alarm_tree f.alarms.items)) given advice) same_model
    (subst (λ xs. Advises model xs (trees_of (map plain_alarm_tree f.alarms.items)) given advice) same_atoms (subst (λ ts. Advises model atoms ts given advice) same_trees h)) in
    record {
      answer = record { plausible = found.plausible; plausible_is = found.plausible_is; trees = map plain_alarm_tree f.alarms.items; told = found.stops; tells = here };
      good = good_advice value M laws o Paths l f found u.family.program.rising law u.spelled given advice here;
    }

-- ---- the whole report

pub done_as : (M : LeafMeaning) (o : Options) (r : Regions) (task : FamilyTask) (l : ProductLine) (alarms : List FamilyAlarm) (text : List ℕ) (status : ℕ)
    → AreGoodAlarms M o r l alarms → IsGoodText M o r task l alarms text → status ≡ family_status alarms → IsFamilyDone M o r task l (record { text = text; status = status })
done_as M o r tasks.Analyse l alarms text status good is e = (alarms, good.are, rw (is, e) refl)
done_as M o r tasks.Invariants l alarms text status good is e = (is.invariants, alarms, is.good.are, good.are, rw (is.is, e) refl)
done_as M o r tasks.Certify l alarms text status good is e = (is.loops, alarms, is.good.are, good.are, rw (is.is, e) refl)
done_as M o r tasks.Generate l alarms text status good is e = (alarms, good.are, rw (is, e) refl)

pub promised_as : (M : LeafMeaning) (o : Options) (r : Regions) (task : FamilyTask) (l : ProductLine) (alarms : List FamilyAlarm) (text : List ℕ) (status : ℕ)
    → AreGoodAlarms M o r l alarms → IsGoodText M o r task l alarms text → status ≡ family_status alarms → PromisedOfAll M o r task l status text
promised_as M o r tasks.Analyse l alarms text status good is e = (alarms, is, subst (λ n. AreAlarmsOfAll M o l alarms n) (sym e) good.all)
promised_as M o r tasks.Invariants l alarms text status good is e =
    (is.invariants, alarms, is.is, is.good.all, subst (λ n. AreAlarmsOfAll M o l alarms n) (sym e) good.all)
promised_as M o r tasks.Certify l alarms text status good is e =
    (is.loops, alarms, is.is, is.good.all, subst (λ n. AreAlarmsOfAll M o l alarms n) (sym e) good.all)
promised_as M o r tasks.Generate l alarms text status good is e = (alarms, is, subst (λ n. AreAlarmsOfAll M o l alarms n) (sym e) good.all)
