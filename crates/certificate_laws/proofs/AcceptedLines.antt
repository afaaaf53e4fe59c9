-- What the lines of a certificate give loops, and which stops they list.
use Rattle.std.proofs.Common.{◌≡◌, ℕ, ℤ, Bool, true, false, ◌&&◌, ◌||◌, if◌then◌else◌, List, ◌∷◌, Option, refl, ap, sym, subst, ◌∙◌, inl, inr, arith}
use Rattle.std.specs.List.{AllByRecursion}
use Rattle.fam_outer.specs.declared.faults.Place.{Place}
use Rattle.c_tree.specs.declared.tree.Kind.{Kind}
use Rattle.c_tree.specs.declared.tree.Kind.TheVariants.{Overflow, ZeroDivisor, Assertion}
use Rattle.linear_atoms.specs.declared.atoms.Atom.{Atom}
use Rattle.cpp_conditions.specs.declared.models.Model.{Model}
use Rattle.cpp_conditions.specs.Numbering.{vector_at}
use Rattle.cpp_conditions.specs.Propositions.{true_on}
use Rattle.cpp_conditions.specs.Validity.{plain, IsValid}
use Rattle.cpp_conditions.specs.View.{formula}
use Rattle.leaf_domain.specs.declared.range.Range.{Range}
use Rattle.leaf_domain.specs.Leaves.{LeafValue, LeafMeaning}
use Rattle.lifted_analysis.specs.declared.lines.LoopLine.{LoopLine}
use Rattle.lifted_analysis.specs.Lines.{bounded_by, given_at}
use Rattle.plain_analysis.specs.Places.{is_same_place}
use Rattle.plain_analysis.proofs.Located.{same_place_self}
use Rattle.alarm_report.specs.declared.alarms.FamilyAlarm.{FamilyAlarm}
use Rattle.alarm_report.specs.Invariants.{Invariant}
use Rattle.alarm_report.specs.Regions.{Meets}
use Rattle.certificate_format.specs.declared.certificates.AlarmLine.{AlarmLine}
use Rattle.invariant_certificate.specs.Passes.{is_same_kind, lists, is_listed}
use Rattle.invariant_certificate.proofs.Sublists.{IsIn}
use Rattle.certificate_laws.specs.ReadBack.{IsBoundsOf, SaysInvariant, SaysAlarm, SayInvariants, SayAlarms, no_line, line}
use Rattle.certificate_laws.proofs.AcceptedLists.{both_true, parts_true}

same_place : (a b : Place) → is_same_place a b ≡ true → a ≡ b
same_place a b h = grind arith

same_kind_self : (kind : Kind) → is_same_kind kind kind ≡ true
same_kind_self Overflow = refl
same_kind_self ZeroDivisor = refl
same_kind_self Assertion = refl

left_or : (a b : Bool) → a ≡ true → (a || b) ≡ true
left_or true b e = refl
left_or false b e = cc

right_or : (a b : Bool) → b ≡ true → (a || b) ≡ true
right_or true b e = refl
right_or false b e = e

module _ (model : Model) (atoms : List Atom) (values : List ℤ) (valid : IsValid (plain model) values) where
  abbrev v : List Bool
  v = vector_at atoms values

  -- ---- loops

  module _ (M : LeafMeaning) (names : List (List ℕ)) (F : Place → LeafValue) where
    -- where the configuration meets the invariant's region, its leaf is that of its place
    abbrev pub IsRight : Invariant → Type 0
    IsRight i = Meets i.region values → i.leaf ≡ F i.place

    -- one of the invariants stands at the place, and the configuration meets its region
    abbrev pub HasMet : Place → List Invariant → Type 0
    HasMet q is = (i : Invariant) × IsIn i is × (i.place ≡ q) × Meets i.region values

    abbrev Says : Invariant → LoopLine → Type 0
    Says i l = SaysInvariant M model atoms names i l

    -- the line of an invariant at the place that is met is for the place
    chosen : (i : Invariant) (l : LoopLine) (q : Place) → Says i l → i.place ≡ q → Meets i.region values → (is_same_place l.place q && true_on v (formula l.region)) ≡ true
    chosen i l q s at met =
        both_true (is_same_place l.place q) (true_on v (formula l.region))
        (subst (λ x. is_same_place x q ≡ true) (sym (s.place_is ∙ at)) (same_place_self q)) (s.region_is values valid ∙ met)

    later_met : (i : Invariant) (is : List Invariant) (l : LoopLine) (q : Place) → Says i l → (is_same_place l.place q && true_on v (formula l.region)) ≡ false
        → (j : Invariant) → IsIn j (i ∷ is) → j.place ≡ q → Meets j.region values → HasMet q is
    later_met i is l q s e j (inl same) at met =
        let h : true ≡ false =
        sym (chosen i l q s (ap (λ (x : Invariant). x.place) same ∙ at) (subst (λ (x : Invariant). Meets x.region values) (sym same) met)) ∙ e in
        cc
    later_met i is l q s e j (inr more) at met = (j, more, at, met)

    module _ (d : LeafValue) (q : Place) (told : (b : Option (List Range)) → IsBoundsOf M names (F q) b → bounded_by M b d ≡ F q) where
      pub given_by : (is : List Invariant) (ls : List LoopLine) → SayInvariants M model atoms names is ls → AllByRecursion IsRight is → HasMet q is → given_at M ls v d q ≡ F q
      given_by _ _ no_line right has = absurd has.1
      given_by _ _ (line i is l ls s rest) right has = by_test (is_same_place l.place q && true_on v (formula l.region)) refl (λ k. given_by is ls rest right.1 k)
        where
          by_test : (t : Bool) → (is_same_place l.place q && true_on v (formula l.region)) ≡ t → (HasMet q is → given_at M ls v d q ≡ F q)
              → (if t then bounded_by M l.bounds d else given_at M ls v d q) ≡ F q
          by_test true e more =
              let parts = parts_true (is_same_place l.place q) (true_on v (formula l.region)) e in
              let at : i.place ≡ q = sym s.place_is ∙ same_place l.place q parts.0 in
              let leaf : i.leaf ≡ F q = right.0 (sym (s.region_is values valid) ∙ parts.1) ∙ ap F at in
              told l.bounds (subst (λ x. IsBoundsOf M names x l.bounds) leaf s.bounds_are)
          by_test false e more = more (later_met i is l q s e has.0 has.1 has.2 has.3)

  -- ---- stops

  -- one of the alarms is for the place and the kind, and the configuration meets its region
  abbrev pub HasAlarm : Place → Kind → List FamilyAlarm → Type 0
  HasAlarm place kind alarms = (a : FamilyAlarm) × IsIn a alarms × (a.place ≡ place) × (a.kind ≡ kind) × Meets a.region values

  line_lists : (a : FamilyAlarm) (l : AlarmLine) (place : Place) (kind : Kind) → SaysAlarm model atoms a l → a.place ≡ place → a.kind ≡ kind → Meets a.region values
      → lists l (place, kind) v ≡ true
  line_lists a l place kind s at of met =
      both_true (is_same_place l.place place && is_same_kind l.kind kind) (true_on v (formula l.region))
      (both_true (is_same_place l.place place) (is_same_kind l.kind kind)
      (subst (λ x. is_same_place x place ≡ true) (sym (s.place_is ∙ at)) (same_place_self place))
      (subst (λ x. is_same_kind x kind ≡ true) (sym (s.kind_is ∙ of)) (same_kind_self kind)))
      (s.region_is values valid ∙ met)

  alarm_listed : (place : Place) (kind : Kind) (a : FamilyAlarm) → a.place ≡ place → a.kind ≡ kind → Meets a.region values
      → (alarms : List FamilyAlarm) (ls : List AlarmLine) → SayAlarms model atoms alarms ls → IsIn a alarms → is_listed ls (place, kind) v ≡ true
  alarm_listed place kind a at of met _ _ no_line i = absurd i
  alarm_listed place kind a at of met _ _ (line b alarms l ls s rest) (inl e) =
      left_or (lists l (place, kind) v) (is_listed ls (place, kind) v)
      (line_lists a l place kind (subst (λ (x : FamilyAlarm). SaysAlarm model atoms x l) e s) at of met)
  alarm_listed place kind a at of met _ _ (line b alarms l ls s rest) (inr i) =
      right_or (lists l (place, kind) v) (is_listed ls (place, kind) v) (alarm_listed place kind a at of met alarms ls rest i)

  pub listed : (place : Place) (kind : Kind) (alarms : List FamilyAlarm) (ls : List AlarmLine) → SayAlarms model atoms alarms ls → HasAlarm place kind alarms
      → is_listed ls (place, kind) v ≡ true
  listed place kind alarms ls s h = alarm_listed place kind h.0 h.2 h.3 h.4 alarms ls s h.1
