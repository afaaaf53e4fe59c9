-- The texts of leaves whose forms tell nothing.
use Rattle.std.proofs.Common.{◌≡◌, ℕ, zero, suc, ◌+◌, ◌<◌, ◌≤◌, ◌≤ℤ◌, pos, negsuc, Bool, true, false, ◌||◌, true≢false, List, [], ◌∷◌, ◌++◌, codes, ◌⊎◌, inl, inr, length, take, get_or, refl, sym, ap, ap₂, ◌∙◌, arith, append_assoc, append-nil}
use Rattle.std.specs.Prelude.{if◌then◌else◌, nat_eq, Option, Some, None}
use Rattle.std.specs.List.{All, list_any}
use Rattle.std.proofs.lemmas.Int.{ints}
use Rattle.std.proofs.lemmas.List.{append_cancel_left}
use Rattle.std.proofs.lemmas.List.Elements.{All-cons, All-nil}
use Rattle.c_tree.specs.declared.tree.Op.TheVariants.{Add, Sub}
use Rattle.leaf_domain.specs.declared.range.Range.{Range}
use Rattle.leaf_domain.specs.Leaves.{LeafValue, LeafMeaning, LeafLaws, is_nothing_of}
use Rattle.leaf_domain.specs.Ranges.{arithmetic_range, is_empty_range}
use Rattle.alarm_report.specs.Texts.{joined}
use Rattle.alarm_report.specs.LeafTexts.{within_text, step_text, variable_items, new_range, item_of, pair_form, pair_items, items_with, all_pairs, items_text, leaf_text}
use Rattle.certificate_format.specs.Bounds.{items, bounds_text, IsIntRange, AreIntBounds}
use Rattle.certificate_format.specs.Forms.{further}
use Rattle.certificate_format.proofs.Ranging.{one_item, bounds_cons, further_cons}
use Rattle.certificate_laws.specs.ReadBack.{bounds_from, IsBoundsOf}
use Rattle.certificate_laws.proofs.Writable.{TellsRangesAlone}
use Rattle.certificate_laws.proofs.Literals.{by_truth}

-- a range that is not empty has its low at most at its high
ordered : (r : Range) → is_empty_range r ≡ false → r.low ≤ℤ r.high
ordered r e = grind (arith, ints)

-- ---- the text of a leaf

module _ (M : LeafMeaning) (none : TellsRangesAlone M) (v : LeafValue) where
  no_pair : (x y : ℕ) (first second : List ℕ) → pair_items M v x first y second ≡ []
  no_pair x y first second =
      ap₂ (λ a b. item_of (first ++ codes "-" ++ second) a ++ item_of (first ++ codes "+" ++ second) b)
      (ap (λ r. new_range r (arithmetic_range Sub (M.bounds_of v x) (M.bounds_of v y))) (none.forms v (pair_form x y (negsuc 0))))
      (ap (λ r. new_range r (arithmetic_range Add (M.bounds_of v x) (M.bounds_of v y))) (none.forms v (pair_form x y (pos 1))))

  no_items : (x : ℕ) (first : List ℕ) (y : ℕ) (names : List (List ℕ)) → items_with M v x first y names ≡ []
  no_items x first y [] = refl
  no_items x first y (name ∷ names) = ap (λ l. l ++ items_with M v x first (y + 1) names) (no_pair x y first name) ∙ no_items x first (y + 1) names

  no_pairs : (x : ℕ) (names : List (List ℕ)) → all_pairs M v x names ≡ []
  no_pairs x [] = refl
  no_pairs x (name ∷ names) = ap (λ l. l ++ all_pairs M v (x + 1) names) (no_items x name (x + 1) names) ∙ no_pairs (x + 1) names

  items_are : (x : ℕ) (names : List (List ℕ)) → variable_items M v x names ≡ items names (bounds_from M v x names)
  items_are x [] = refl
  items_are x (name ∷ names) =
      ap (λ item. item ∷ variable_items M v (x + 1) names) (ap (λ k. (name ++ within_text (M.bounds_of v x)) ++ step_text k) (none.steps v x) ∙ append-nil (name ++ within_text (M.bounds_of v x)))
      ∙ ap (λ l. (name ++ within_text (M.bounds_of v x)) ∷ l) (items_are (x + 1) names)

  items_are_bounds : (names : List (List ℕ)) → items_text M v names ≡ bounds_text names (Some (bounds_from M v 0 names))
  items_are_bounds [] = refl
  items_are_bounds (name ∷ names) =
      ap (joined (codes ", ")) (ap (λ l. variable_items M v 0 (name ∷ names) ++ l) (no_pairs 0 (name ∷ names)) ∙ append-nil (variable_items M v 0 (name ∷ names)) ∙ items_are 0 (name ∷ names))

  bounds_count : (x : ℕ) (names : List (List ℕ)) → length (bounds_from M v x names) ≡ length names
  bounds_count x [] = refl
  bounds_count x (name ∷ names) = ap suc (bounds_count (x + 1) names)

  module _ (laws : LeafLaws M) (valid : M.valid v) (some : is_nothing_of v ≡ false) where
    range_fits : (x : ℕ) → x < v.variables → IsIntRange (M.bounds_of v x)
    range_fits x h =
        record {
          int = laws.bounds_in_int v x valid h;
          some = ordered (M.bounds_of v x) (laws.bounds_some v x valid h some);
        }

    ranges_fit : (x : ℕ) (names : List (List ℕ)) → x + length names ≤ v.variables → All IsIntRange (bounds_from M v x names)
    ranges_fit x [] h = All-nil IsIntRange
    ranges_fit x (name ∷ names) h = All-cons IsIntRange (M.bounds_of v x) (bounds_from M v (x + 1) names) (range_fits x (omega (arith, h))) (ranges_fit (x + 1) names (omega (arith, h)))

-- the leaf's text is that of bounds
pub record IsToldBy (M : LeafMeaning) (names : List (List ℕ)) (v : LeafValue) : Type 0 where
  pub bounds : Option (List Range)
  pub text : leaf_text M names v ≡ bounds_text names bounds
  pub fit : AreIntBounds names bounds
  pub are : IsBoundsOf M names v bounds

taken : (n : ℕ) (names : List (List ℕ)) → n ≡ length names → take n names ≡ names
taken zero [] e = refl
taken zero (name ∷ names) e = absurd (omega (arith, e))
taken (suc n) [] e = refl
taken (suc n) (name ∷ names) e = ap (λ l. name ∷ l) (taken n names (omega (arith, e)))

pub leaf_told : (M : LeafMeaning) → LeafLaws M → TellsRangesAlone M → (names : List (List ℕ)) (v : LeafValue) → M.valid v → v.variables ≡ length names → IsToldBy M names v
leaf_told M laws none names v valid e = by (by_truth (is_nothing_of v))
  where
    by : (is_nothing_of v ≡ true) ⊎ (is_nothing_of v ≡ false) → IsToldBy M names v
    by (inl nothing) = record {
      bounds = None;
      text = ap (λ b. if b then codes "unreachable" else items_text M v (take v.variables names)) nothing;
      fit = tt;
      are = nothing;
    }
    by (inr some) = record {
      bounds = Some (bounds_from M v 0 names);
      text = ap (λ b. if b then codes "unreachable" else items_text M v (take v.variables names)) some ∙ ap (items_text M v) (taken v.variables names e) ∙ items_are_bounds M none v names;
      fit = (bounds_count M none v 0 names, ranges_fit M none v laws valid some 0 names (omega (arith, e)));
      are = (some, refl);
    }

-- ---- bounds with one text are the same

or_true : (b : Bool) → (b || true) ≡ true
or_true true = refl
or_true false = refl

abbrev has_space : List ℕ → Bool
has_space text = list_any (nat_eq 32) text

spaced : (xs ys : List ℕ) → has_space (xs ++ 32 ∷ ys) ≡ true
spaced [] ys = refl
spaced (x ∷ xs) ys = ap (λ b. nat_eq 32 x || b) (spaced xs ys) ∙ or_true (nat_eq 32 x)

not_unreachable : (names : List (List ℕ)) (ranges : List Range) → AreIntBounds names (Some ranges) → bounds_text names (Some ranges) ≡ codes "unreachable" → ⊥
not_unreachable [] ranges h e = let first : 114 ≡ 117 = ap (λ t. get_or t 0 0) e in omega (arith, first)
not_unreachable (name ∷ names) [] h e = omega (arith, h.0)
not_unreachable (name ∷ names) (r ∷ ranges) h e =
    let front : bounds_text (name ∷ names) (Some (r ∷ ranges)) ≡ name ++ (within_text r ++ further names ranges) = append_assoc name (within_text r) (further names ranges) in
    true≢false (sym (spaced name _) ∙ ap has_space (sym front ∙ e))

same_further : (names : List (List ℕ)) (qs rs : List Range) → AreIntBounds names (Some qs) → AreIntBounds names (Some rs) → further names qs ≡ further names rs → qs ≡ rs
same_further [] [] [] h k e = refl
same_further [] (q ∷ qs) rs h k e = absurd (omega (arith, h.0))
same_further [] [] (r ∷ rs) h k e = absurd (omega (arith, k.0))
same_further (name ∷ names) [] rs h k e = absurd (omega (arith, h.0))
same_further (name ∷ names) (q ∷ qs) [] h k e = absurd (omega (arith, k.0))
same_further (name ∷ names) (q ∷ qs) (r ∷ rs) h k e =
    let left = bounds_cons name names q qs h in
    let right = bounds_cons name names r rs k in
    let behind = append_cancel_left (codes ", ") ((name ++ within_text q) ++ further names qs) ((name ++ within_text r) ++ further names rs) (sym (further_cons name names q qs) ∙ e ∙ further_cons name names r rs) in
    let one = one_item ((name ++ within_text q) ++ further names qs) name q r (further names qs) (further names rs) left.0 right.0 refl behind in
    let rest = same_further names qs rs left.1 right.1 one.1 in
    λ i. one.0 i ∷ rest i

same_ranges : (names : List (List ℕ)) (qs rs : List Range) → AreIntBounds names (Some qs) → AreIntBounds names (Some rs) → bounds_text names (Some qs) ≡ bounds_text names (Some rs) → qs ≡ rs
same_ranges [] [] [] h k e = refl
same_ranges [] (q ∷ qs) rs h k e = absurd (omega (arith, h.0))
same_ranges [] [] (r ∷ rs) h k e = absurd (omega (arith, k.0))
same_ranges (name ∷ names) [] rs h k e = absurd (omega (arith, h.0))
same_ranges (name ∷ names) (q ∷ qs) [] h k e = absurd (omega (arith, k.0))
same_ranges (name ∷ names) (q ∷ qs) (r ∷ rs) h k e =
    let left = bounds_cons name names q qs h in
    let right = bounds_cons name names r rs k in
    let one = one_item ((name ++ within_text q) ++ further names qs) name q r (further names qs) (further names rs) left.0 right.0 refl e in
    let rest = same_further names qs rs left.1 right.1 one.1 in
    λ i. one.0 i ∷ rest i

pub one_bounds : (names : List (List ℕ)) (b c : Option (List Range)) → AreIntBounds names b → AreIntBounds names c → bounds_text names b ≡ bounds_text names c → b ≡ c
one_bounds names None None h k e = refl
one_bounds names None (Some rs) h k e = absurd (not_unreachable names rs k (sym e))
one_bounds names (Some qs) None h k e = absurd (not_unreachable names qs h e)
one_bounds names (Some qs) (Some rs) h k e = ap (λ l. Some l) (same_ranges names qs rs h k e)
