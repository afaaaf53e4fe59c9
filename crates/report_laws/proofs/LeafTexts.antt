-- The text of a leaf tells each store that the leaf holds.
use Rattle.std.proofs.Common.{◌≡◌, ℕ, zero, suc, ◌+◌, ◌≤◌, ◌<◌, ℤ, pos, negsuc, ◌+ℤ◌, ◌-ℤ◌, ◌*ℤ◌, Bool, true, false, List, [], ◌∷◌, ◌++◌, codes, length, take, slice_get, Option, Some, None, refl, sym, ap, subst, ◌∙◌, inl, inr, arith}
use Rattle.std.specs.Prelude.{if◌then◌else◌}
use Rattle.std.specs.List.{AllByRecursion}
use Rattle.std.proofs.lemmas.Int.{ints}
use Rattle.c_tree.specs.declared.tree.Op.TheVariants.{Add, Sub}
use Rattle.leaf_domain.specs.declared.range.Range.{Range}
use Rattle.leaf_domain.specs.Leaves.{LeafValue, LeafMeaning, LeafLaws, at_store, is_nothing_of}
use Rattle.leaf_domain.specs.Ranges.{Within, arithmetic_range}
use Rattle.alarm_report.specs.LeafTexts.{within_text, step_text, variable_items, same_range, new_range, item_of, pair_form, pair_range, pair_items, items_with, all_pairs, items_text, leaf_text}
use Rattle.alarm_report.proofs.Pairing.{pair_is_form}
use Rattle.report_laws.specs.Stores.{IsSo, variable, difference, sum, told_as, TellsStore, LeafTextsTellStores}

all_both : (P : List ℕ → Type 0) (xs ys : List (List ℕ)) → AllByRecursion P xs → AllByRecursion P ys → AllByRecursion P (xs ++ ys)
all_both P [] ys h k = k
all_both P (x ∷ xs) ys h k = (h.0, all_both P xs ys h.1 k)

-- these stand among all from a number on
abbrev Stand : List (List ℕ) → ℕ → List (List ℕ) → Type 0
Stand all x ms = (j : ℕ) (n : List ℕ) → slice_get ms j ≡ Some n → slice_get all (x + j) ≡ Some n

first_stands : (all : List (List ℕ)) (x : ℕ) (m : List ℕ) (ms : List (List ℕ)) → Stand all x (m ∷ ms) → slice_get all x ≡ Some m
first_stands all x m ms h = let e : x + 0 ≡ x = omega arith in ap (slice_get all) (sym e) ∙ h 0 m refl

later_stand : (all : List (List ℕ)) (x : ℕ) (m : List ℕ) (ms : List (List ℕ)) → Stand all x (m ∷ ms) → Stand all (x + 1) ms
later_stand all x m ms h j n k = let e : (x + 1) + j ≡ x + suc j = omega arith in ap (slice_get all) e ∙ h (suc j) n k

-- ---- ranges of two variables

new_is : (o : Option Range) (known r : Range) → new_range o known ≡ Some r → o ≡ Some r
new_is None known r e = absurd cc
new_is (Some s) known r e = elim (same_range s known) as (λ b. let o : Option Range = if b then None else Some s in o ≡ Some r → Some s ≡ Some r) [ true ↦ λ k. absurd cc | false ↦ λ k. k ] e

item_so : (P : List ℕ → Type 0) (front : List ℕ) (o : Option Range) → ((r : Range) → o ≡ Some r → P (front ++ within_text r)) → AllByRecursion P (item_of front o)
item_so P front None h = tt
item_so P front (Some r) h = (h r refl, tt)

as_difference : (a b : ℤ) → ((pos 1 *ℤ a) +ℤ ((negsuc 0 *ℤ b) +ℤ pos 0)) +ℤ pos 0 ≡ a -ℤ b
as_difference a b = omega (arith, ints)

as_sum : (a b : ℤ) → ((pos 1 *ℤ a) +ℤ ((pos 1 *ℤ b) +ℤ pos 0)) +ℤ pos 0 ≡ a +ℤ b
as_sum a b = omega (arith, ints)

-- ---- the items of a leaf that holds a store

module _ (M : LeafMeaning) (laws : LeafLaws M) (v : LeafValue) (store : List ℤ) (valid : M.valid v) (holds : M.holds v store) (all : List (List ℕ)) where
  variables_so : (x : ℕ) (ms : List (List ℕ)) → Stand all x ms → x + length ms ≤ v.variables → AllByRecursion (IsSo all store) (variable_items M v x ms)
  variables_so x [] h le = tt
  variables_so x (m ∷ ms) h le =
      (variable x m (M.bounds_of v x) (M.step_of v x) (first_stands all x m ms h) (laws.bounds_hold v x store valid (omega (arith, le)) holds) (laws.step_holds v x store valid (omega (arith, le)) holds), variables_so (x + 1) ms (later_stand all x m ms h) (omega (arith, le)))

  difference_within : (x y : ℕ) (r : Range) → x < y → y < v.variables → M.form_range v (pair_form x y (negsuc 0)) ≡ Some r → Within (at_store store x -ℤ at_store store y) r
  difference_within x y r lt le e =
      subst (λ (n : ℤ). Within n r) (as_difference (at_store store x) (at_store store y)) (laws.form_holds v (pair_form x y (negsuc 0)) r store valid (pair_is_form v.variables x y (negsuc 0) lt le (inl refl)) holds e)

  sum_within : (x y : ℕ) (r : Range) → x < y → y < v.variables → M.form_range v (pair_form x y (pos 1)) ≡ Some r → Within (at_store store x +ℤ at_store store y) r
  sum_within x y r lt le e =
      subst (λ (n : ℤ). Within n r) (as_sum (at_store store x) (at_store store y)) (laws.form_holds v (pair_form x y (pos 1)) r store valid (pair_is_form v.variables x y (pos 1) lt le (inr refl)) holds e)

  pair_so : (x y : ℕ) (first second : List ℕ) → slice_get all x ≡ Some first → slice_get all y ≡ Some second → x < y → y < v.variables → AllByRecursion (IsSo all store) (pair_items M v x first y second)
  pair_so x y first second h k lt le =
      all_both (IsSo all store) (item_of (first ++ codes "-" ++ second) (pair_range M v Sub (negsuc 0) x y)) (item_of (first ++ codes "+" ++ second) (pair_range M v Add (pos 1) x y))
      (item_so (IsSo all store) (first ++ codes "-" ++ second) (pair_range M v Sub (negsuc 0) x y)
      (λ r e. difference x y first second r h k (difference_within x y r lt le (new_is (M.form_range v (pair_form x y (negsuc 0))) (arithmetic_range Sub (M.bounds_of v x) (M.bounds_of v y)) r e))))
      (item_so (IsSo all store) (first ++ codes "+" ++ second) (pair_range M v Add (pos 1) x y)
      (λ r e. sum x y first second r h k (sum_within x y r lt le (new_is (M.form_range v (pair_form x y (pos 1))) (arithmetic_range Add (M.bounds_of v x) (M.bounds_of v y)) r e))))

  with_so : (x : ℕ) (first : List ℕ) → slice_get all x ≡ Some first → (y : ℕ) (ms : List (List ℕ)) → Stand all y ms → x < y → y + length ms ≤ v.variables → AllByRecursion (IsSo all store) (items_with M v x first y ms)
  with_so x first h y [] k lt le = tt
  with_so x first h y (m ∷ ms) k lt le =
      all_both (IsSo all store) (pair_items M v x first y m) (items_with M v x first (y + 1) ms)
      (pair_so x y first m h (first_stands all y m ms k) lt (omega (arith, le))) (with_so x first h (y + 1) ms (later_stand all y m ms k) (omega (arith, lt)) (omega (arith, le)))

  pairs_so : (x : ℕ) (ms : List (List ℕ)) → Stand all x ms → x + length ms ≤ v.variables → AllByRecursion (IsSo all store) (all_pairs M v x ms)
  pairs_so x [] h le = tt
  pairs_so x (m ∷ ms) h le =
      all_both (IsSo all store) (items_with M v x m (x + 1) ms) (all_pairs M v (x + 1) ms)
      (with_so x m (first_stands all x m ms h) (x + 1) ms (later_stand all x m ms h) (omega arith) (omega (arith, le))) (pairs_so (x + 1) ms (later_stand all x m ms h) (omega (arith, le)))

  -- the item of a variable
  abbrev item_at : ℕ → List ℕ → List ℕ
  item_at x name = (name ++ within_text (M.bounds_of v x)) ++ step_text (M.step_of v x)

  variable_at : (x : ℕ) (ms more : List (List ℕ)) (j : ℕ) (name : List ℕ) → slice_get ms j ≡ Some name → slice_get (variable_items M v x ms ++ more) j ≡ Some (item_at (x + j) name)
  variable_at x [] more j name e = absurd cc
  variable_at x (m ∷ ms) more zero name e =
      let same : m ≡ name = cc in
      let at : x ≡ x + 0 = omega arith in
      ap (λ (n : List ℕ). Some (item_at x n)) same ∙ ap (λ (k : ℕ). Some (item_at k name)) at
  variable_at x (m ∷ ms) more (suc j) name e =
      let at : (x + 1) + j ≡ x + suc j = omega arith in
      variable_at (x + 1) ms more j name e ∙ ap (λ (k : ℕ). Some (item_at k name)) at

  not_nothing : is_nothing_of v ≡ false
  not_nothing = elim v.content as (λ c. v.content ≡ c → is_nothing_of (record { variables = v.variables; content = c }) ≡ false) [
    | None ↦ λ e. absurd (laws.nothing_holds v.variables store (subst (λ (c : Option (List ℤ)). M.holds (record { variables = v.variables; content = c }) store) e holds))
    | Some numbers ↦ λ e. refl
  ] refl

  items_told : (ms : List (List ℕ)) → items_text M v ms ≡ told_as (variable_items M v 0 ms ++ all_pairs M v 0 ms)
  items_told [] = refl
  items_told (m ∷ ms) = refl

  pub tells_store : length all ≤ v.variables → TellsStore all store (items_text M v all)
  tells_store le =
      let stand : Stand all 0 all = λ j n e. let at : j ≡ 0 + j = omega arith in ap (slice_get all) (sym at) ∙ e in
      record {
        items = variable_items M v 0 all ++ all_pairs M v 0 all;
        text_is = items_told all;
        each = all_both (IsSo all store) (variable_items M v 0 all) (all_pairs M v 0 all) (variables_so 0 all stand (omega (arith, le))) (pairs_so 0 all stand (omega (arith, le)));
        variables = λ x name e. (
          M.bounds_of v x,
          M.step_of v x,
          (let at : 0 + x ≡ x = omega arith in variable_at 0 all (all_pairs M v 0 all) x name e ∙ ap (λ (k : ℕ). Some (item_at k name)) at),
          laws.bounds_hold v x store valid (omega (arith, le, within all x name e)) holds,
          laws.step_holds v x store valid (omega (arith, le, within all x name e)) holds,
        );
      } where
        within : (ms : List (List ℕ)) (x : ℕ) (name : List ℕ) → slice_get ms x ≡ Some name → x < length ms
        within [] x name e = absurd cc
        within (m ∷ ms) zero name e = omega arith
        within (m ∷ ms) (suc x) name e = omega (arith, within ms x name e)

pub texts_tell_stores : (M : LeafMeaning) → LeafLaws M → LeafTextsTellStores M
texts_tell_stores M laws names v store valid holds le =
    let few : length (take v.variables names) ≤ v.variables = taken v.variables names in
    let text : leaf_text M names v ≡ items_text M v (take v.variables names) =
    ap (λ (b : Bool). if b then codes "unreachable" else items_text M v (take v.variables names)) (not_nothing M laws v store valid holds names) in
    subst (λ (t : List ℕ). TellsStore (take v.variables names) store t) (sym text) (tells_store M laws v store valid holds (take v.variables names) few)
  where
    taken : (k : ℕ) (ms : List (List ℕ)) → length (take k ms) ≤ k
    taken zero ms = omega arith
    taken (suc k) [] = omega arith
    taken (suc k) (m ∷ ms) = omega (arith, taken k ms)
