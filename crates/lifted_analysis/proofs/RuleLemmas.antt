-- What lines give loops, over the trees of start values.
use Rattle.std.proofs.Common.{◌≡◌, ℕ, zero, suc, arith, ◌+◌, ◌<◌, List, [], ◌∷◌, length, drop, get_or, Bool, true, false, ◌&&◌, if◌then◌else◌, Option, Some, None, refl, ap, sym, ◌∙◌, inl, inr, subst, Result, Ok, Err, IfOk}
use Rattle.std.specs.Prelude.{slice_get}
use Rattle.std.proofs.lemmas.List.{drop_more}
use Rattle.fam_outer.specs.declared.faults.Place.{Place}
use Rattle.cpp_conditions.specs.Propositions.{true_on}
use Rattle.cpp_conditions.specs.View.{formula}
use Rattle.decision_tree.specs.declared.tree.Tree.{Tree}
use Rattle.decision_tree.specs.Plain.{Plain, leaf_of}
use Rattle.decision_tree.specs.Numbered.{Numbered, erase}
use Rattle.decision_tree.specs.View.{numbered}
use Rattle.decision_tree.proofs.Numbers.{keeps_both}
use Rattle.std.specs.List.{All}
use Rattle.leaf_domain.specs.Leaves.{LeafValue, LeafMeaning, LeafLaws, nothing_of}
use Rattle.leaf_domain.specs.Ranges.{IsInInt}
use Rattle.plain_analysis.specs.Places.{is_same_place}
use Rattle.tree_unify.specs.Formulas.{HasNumber}
use Rattle.lifted_analysis.specs.declared.family_context.FamilyContext.{FamilyContext}
use Rattle.lifted_analysis.specs.declared.lines.LoopLine.{LoopLine}
use Rattle.leaf_domain.specs.declared.range.Range.{Range}
use Rattle.lifted_analysis.specs.LineIndex.{positions_from}
use Rattle.lifted_analysis.specs.Lines.{set_from, bounded_by, given_at}
use Rattle.lifted_analysis.specs.States.{IsLifted, IsJoint, HasRegionNumber}

-- the numbers of a line's region are the family's
pub region_in : (k : ℕ) (ls : List LoopLine) (i : ℕ) (l : LoopLine) → i < length ls → l ≡ get_or ls i l → HasNumber k (formula l.region) → HasRegionNumber k ls
region_in k [] i l h e w = absurd (omega arith)
region_in k (x ∷ ls) zero l h e w = inl (subst (λ (y : LoopLine). HasNumber k (formula y.region)) e w)
region_in k (x ∷ ls) (suc i) l h e w = inr (region_in k ls i l (omega arith) e w)

-- what a line gives where its region holds, and a leaf elsewhere
abbrev pub given_line : LeafMeaning → Option LoopLine → List Bool → LeafValue → LeafValue → LeafValue
given_line M None v d other = other
given_line M (Some l) v d other = if true_on v (formula l.region) then bounded_by M l.bounds d else other

-- what the lines at these positions give
abbrev pub given_by : LeafMeaning → List LoopLine → List ℕ → List Bool → LeafValue → LeafValue
given_by M lines [] v d = nothing_of d.variables
given_by M lines (k ∷ ks) v d = given_line M (slice_get lines k) v d (given_by M lines ks v d)

given_head : (M : LeafMeaning) (lines : List LoopLine) (l : LoopLine) (k : ℕ) (ks : List ℕ) (v : List Bool) (d other : LeafValue) (b : Bool) → slice_get lines k ≡ Some l → given_by M lines ks v d ≡ other
    → given_by M lines (if b then k ∷ ks else ks) v d ≡ (if b && true_on v (formula l.region) then bounded_by M l.bounds d else other)
given_head M lines l k ks v d other true there e = ap (λ o. given_line M o v d (given_by M lines ks v d)) there ∙ ap (given_line M (Some l) v d) e
given_head M lines l k ks v d other false there e = e

-- those at the positions of a place give what all lines give the loop there
given_same : (M : LeafMeaning) (lines ls : List LoopLine) (k : ℕ) (q : Place) (v : List Bool) (d : LeafValue) → ((i : ℕ) → slice_get lines (k + i) ≡ slice_get ls i)
    → given_by M lines (positions_from k ls q) v d ≡ given_at M ls v d q
given_same M lines [] k q v d h = refl
given_same M lines (l ∷ ls) k q v d h =
    let first : k + 0 ≡ k = omega arith in
    given_head M lines l k (positions_from (k + 1) ls q) v d (given_at M ls v d q) (is_same_place l.place q) (ap (slice_get lines) (sym first) ∙ h 0)
    (given_same M lines ls (k + 1) q v d
    (λ i.
    let next : (k + 1) + i ≡ k + suc i = omega arith in
    ap (slice_get lines) next ∙ h (suc i)))

module _ {L : Type 0} (value : L → LeafValue) (M : LeafMeaning) (family : FamilyContext) where
  -- a line where its region holds
  pub line_holds : {E : Type 0} (made : Result (Tree L) E) (a b z : List (Plain L)) (region : Plain Bool) (g : List Bool → Bool) (f : LeafValue → LeafValue) (t u : Plain L) (r : Numbered L) → ((v : List Bool) → leaf_of region v ≡ g v)
      → IsLifted value family a b (λ v. f) t r → IfOk made (λ s. IsJoint value family b z (λ v x y. if leaf_of region v then x else y) (erase r) u (numbered s))
      → IfOk made (λ s. IsJoint value family a z (λ v x y. if g v then f x else y) t u (numbered s))
  line_holds (Ok s) a b z region g f t u r truth h j = record {
    state = j.state;
    keeps = keeps_both a b z h.keeps j.keeps;
    at_each = λ v.
        let x = value (leaf_of t v) in
        let y = value (leaf_of u v) in
        j.at_each v ∙ (ap (λ w. if leaf_of region v then w else y) (h.at_each v) ∙ ap (λ (c : Bool). if c then f x else y) (truth v));
  }
  line_holds (Err x) a b z region g f t u r truth h j = tt

  -- one position more, before those that were taken
  pub one_position : (a b z : List (Plain L)) (lines : List LoopLine) (ks : List ℕ) (i k : ℕ) (line : LoopLine) (t : Plain L) (r s : Numbered L) → i < length ks → k ≡ get_or ks i 0 → slice_get lines k ≡ Some line
      → IsLifted value family a b (λ v d. given_by M lines (drop (i + 1) ks) v d) t r
      → IsJoint value family b z (λ v x y. if true_on v (formula line.region) then bounded_by M line.bounds x else y) t (erase r) s
      → IsLifted value family a z (λ v d. given_by M lines (drop i ks) v d) t s
  one_position a b z lines ks i k line t r s l e there h j = record {
    state = j.state;
    keeps = keeps_both a b z h.keeps j.keeps;
    at_each = λ v.
        let d = value (leaf_of t v) in
        let rest = given_by M lines (drop (i + 1) ks) v d in
        j.at_each v ∙ (ap (λ y. if true_on v (formula line.region) then bounded_by M line.bounds d else y) (h.at_each v)
        ∙ (ap (λ o. given_line M o v d rest) (sym there)
        ∙ ap (λ xs. given_by M lines xs v d) (sym (drop_more ks i 0 l ∙ ap (λ x. x ∷ drop (i + 1) ks) (sym e)))));
  }

  -- all positions at a place
  pub all_positions : (a b : List (Plain L)) (lines : List LoopLine) (ks : List ℕ) (q : Place) (t : Plain L) (r : Numbered L) → ks ≡ positions_from 0 lines q
      → IsLifted value family a b (λ v d. given_by M lines ks v d) t r → IsLifted value family a b (λ v d. given_at M lines v d q) t r
  all_positions a b lines ks q t r e h = record {
    state = h.state;
    keeps = h.keeps;
    at_each = λ v.
        let d = value (leaf_of t v) in
        h.at_each v ∙ (ap (λ xs. given_by M lines xs v d) e ∙ given_same M lines lines 0 q v d (λ i. let first : 0 + i ≡ i = omega arith in ap (slice_get lines) first));
  }

-- one variable more is set
pub range_more : (M : LeafMeaning) → LeafLaws M → (rs : List Range) (i x : ℕ) (start d e : LeafValue) (other : Range) → i < length rs → x ≡ i → length rs ≡ start.variables → All IsInInt rs → M.valid d → d.variables ≡ start.variables
    → e ≡ M.set_range d x (get_or rs i other) → set_from M i (drop i rs) d ≡ set_from M 0 rs start
    → (set_from M (i + 1) (drop (i + 1) rs) e ≡ set_from M 0 rs start) × (e.variables ≡ start.variables)
range_more M laws rs i x start d e other l here count ints valid same set so_far =
    let r = get_or rs i other in
    let made : e ≡ M.set_range d i r = set ∙ ap (λ k. M.set_range d k r) here in
    let below : i < d.variables = subst (λ n. i < n) (count ∙ sym same) l in (
      ap (set_from M (i + 1) (drop (i + 1) rs)) made ∙ (ap (λ y. set_from M i y d) (sym (drop_more rs i other l)) ∙ so_far),
      ap (λ (v : LeafValue). v.variables) made ∙ ((laws.set_answers d i r valid below (ints i other l)).same ∙ same),
    )
