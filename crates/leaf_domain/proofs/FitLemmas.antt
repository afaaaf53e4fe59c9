-- Where an expression fits, no sum or product in it leaves `int`: it has a value, and the same one in both modes.
use Rattle.std.proofs.Common.{◌≡◌, ℤ, pos, neg_ℤ, slice_index_or, ◌+ℤ◌, ◌-ℤ◌, ◌*ℤ◌, true, false, ◌&&◌, List, Ok, refl, ap, subst}
use Rattle.c_tree.specs.declared.tree.Mode.{Mode}
use Rattle.c_tree.specs.declared.tree.Mode.TheVariants.{Stop, Wrap}
use Rattle.c_tree.specs.declared.tree.Op.TheVariants.{Add, Sub, Mul, Div, Rem, Lt, Le, Gt, Ge, Eq, Ne, And, Or}
use Rattle.c_tree.specs.Tree.{Term, Number, Var, Neg, Not, Binary}
use Rattle.c_tree.specs.Value.{value_of, IsInt}
use Rattle.c_tree.specs.Fit.{IsTermOf}
use Rattle.leaf_domain.specs.declared.range.Range.{Range}
use Rattle.leaf_domain.specs.Ranges.{Within}
use Rattle.leaf_domain.specs.Leaves.{LeafValue, LeafMeaning, LeafLaws, is_nothing_of}
use Rattle.leaf_domain.specs.Transfer.{range_where_some, fits_term, is_inside}
use Rattle.leaf_domain.specs.Soundness.{FormsAreForms, TransferHolds}
use Rattle.leaf_domain.proofs.Results.{gives, in_range_of_int, wrapped_int, and_left, and_right, int_inside}
use Rattle.leaf_domain.proofs.Comparisons.{held}
use Rattle.leaf_domain.proofs.SoundLemmas.{range_within, assumed_holds, assigned_holds, valued_holds, forgotten_holds}
use Rattle.leaf_domain.proofs.SoundStops.{raw_neg, raw_add, raw_sub, raw_mul, code_may}

-- an expression has a value, and the same one in both modes
record HasValue (e : Term) (s : List ℤ) : Type 0 where
  value : ℤ
  stop_is : value_of e s Stop ≡ Ok value
  wrap_is : value_of e s Wrap ≡ Ok value

module _ (M : LeafMeaning) (laws : LeafLaws M) (forms : FormsAreForms) where
  -- the range of a leaf that holds a store, before clipping
  whole_in_int : (v : LeafValue) (s : List ℤ) (j : ℤ) (r : Range) → M.holds v s → Within j (range_where_some v r) → is_inside r ≡ true → IsInt j
  whole_in_int v s j r w p e = int_inside j r (subst (λ (q : Range). Within j q) (some v r (held M laws v s w)) p) e
    where
      some : (u : LeafValue) (q : Range) → is_nothing_of u ≡ false → range_where_some u q ≡ q
      some u q f = rw f refl

  has_value : (e : Term) (v : LeafValue) (s : List ℤ) → M.valid v → IsTermOf v.variables e → M.holds v s → fits_term M Wrap e v ≡ true → HasValue e s
  has_value (Number n) v s h o w f = record { value = n; stop_is = refl; wrap_is = refl }
  has_value (Var x) v s h o w f = record { value = slice_index_or s x (pos 0); stop_is = refl; wrap_is = refl }
  has_value (Neg a) v s h o w f =
      let p = has_value a v s h o w (and_left _ _ f) in
      let i = whole_in_int v s (neg_ℤ p.value) _ w (raw_neg M laws Wrap forms a v s p.value h o w p.wrap_is) (and_right (fits_term M Wrap a v) _ f) in
      record { value = neg_ℤ p.value; stop_is = rw p.stop_is (in_range_of_int _ i); wrap_is = rw p.wrap_is (ap gives (wrapped_int _ i)) }
  has_value (Not a) v s h o w f = cc
  has_value (Binary Add a b) v s h o w f =
      let p = has_value a v s h o.0 w (and_left _ _ (and_left _ _ f)) in
      let q = has_value b v s h o.1 w (and_right (fits_term M Wrap a v) _ (and_left _ _ f)) in
      let i = whole_in_int v s (p.value +ℤ q.value) _ w (raw_add M laws Wrap forms a b v s p.value q.value (record { valid = h; over = o; held_at = w; left_is = p.wrap_is; right_is = q.wrap_is })) (and_right (fits_term M Wrap a v && fits_term M Wrap b v) _ f) in
      record { value = p.value +ℤ q.value; stop_is = rw (p.stop_is, q.stop_is) (in_range_of_int _ i); wrap_is = rw (p.wrap_is, q.wrap_is) (ap gives (wrapped_int _ i)) }
  has_value (Binary Sub a b) v s h o w f =
      let p = has_value a v s h o.0 w (and_left _ _ (and_left _ _ f)) in
      let q = has_value b v s h o.1 w (and_right (fits_term M Wrap a v) _ (and_left _ _ f)) in
      let i = whole_in_int v s (p.value -ℤ q.value) _ w (raw_sub M laws Wrap forms a b v s p.value q.value (record { valid = h; over = o; held_at = w; left_is = p.wrap_is; right_is = q.wrap_is })) (and_right (fits_term M Wrap a v && fits_term M Wrap b v) _ f) in
      record { value = p.value -ℤ q.value; stop_is = rw (p.stop_is, q.stop_is) (in_range_of_int _ i); wrap_is = rw (p.wrap_is, q.wrap_is) (ap gives (wrapped_int _ i)) }
  has_value (Binary Mul a b) v s h o w f =
      let p = has_value a v s h o.0 w (and_left _ _ (and_left _ _ f)) in
      let q = has_value b v s h o.1 w (and_right (fits_term M Wrap a v) _ (and_left _ _ f)) in
      let i = whole_in_int v s (p.value *ℤ q.value) _ w (raw_mul M laws Wrap forms a b v s p.value q.value (record { valid = h; over = o; held_at = w; left_is = p.wrap_is; right_is = q.wrap_is })) (and_right (fits_term M Wrap a v && fits_term M Wrap b v) _ f) in
      record { value = p.value *ℤ q.value; stop_is = rw (p.stop_is, q.stop_is) (in_range_of_int _ i); wrap_is = rw (p.wrap_is, q.wrap_is) (ap gives (wrapped_int _ i)) }
  has_value (Binary Div a b) v s h o w f = cc
  has_value (Binary Rem a b) v s h o w f = cc
  has_value (Binary Lt a b) v s h o w f = cc
  has_value (Binary Le a b) v s h o w f = cc
  has_value (Binary Gt a b) v s h o w f = cc
  has_value (Binary Ge a b) v s h o w f = cc
  has_value (Binary Eq a b) v s h o w f = cc
  has_value (Binary Ne a b) v s h o w f = cc
  has_value (Binary And a b) v s h o w f = cc
  has_value (Binary Or a b) v s h o w f = cc

  pub transfer_holds : (mode : Mode) → TransferHolds M mode
  transfer_holds mode = record {
    range_holds = range_within M laws mode forms;
    assumed_holds = assumed_holds M laws mode forms;
    assigned_holds = assigned_holds M laws mode forms;
    valued_holds = valued_holds M laws mode forms;
    forgotten_holds = forgotten_holds M laws mode forms;
    may_holds = code_may M laws mode forms;
    fits_holds = λ e v s u w q f. let p = has_value e v s u.valid u.term w (subst (λ (m : Mode). fits_term M m e v ≡ true) q f) in (p.value, p.stop_is, p.wrap_is);
  }
