-- A pair of kinds of leaf that is below both is below both linearised too.
use Rattle.std.proofs.Common.{◌≡◌, ℕ, ◌<◌, ℤ, pos, negsuc, ◌||◌, Option, Some, None, refl, sym, subst}
use Rattle.leaf_domain.specs.declared.form.Form.{Form}
use Rattle.leaf_domain.specs.declared.range.Range.{Range}
use Rattle.leaf_domain.specs.declared.compare.Compare.{Compare}
use Rattle.leaf_domain.specs.declared.compare.Compare.TheVariants.{Lt, Le, Gt, Ge, Eq, Ne}
use Rattle.leaf_domain.specs.declared.operation.Operation.{Operation}
use Rattle.leaf_domain.specs.Operations.{IsOperation}
use Rattle.leaf_domain.specs.Ranges.{IsInInt, is_single}
use Rattle.leaf_domain.specs.Forms.{IsForm, multiple_form}
use Rattle.leaf_domain.specs.Sums.{HasForm}
use Rattle.leaf_domain.specs.Leaves.{LeafValue, LeafMeaning, LeafLaws, Alike, IsLeafLike, is_nothing_of}
use Rattle.leaf_domain.specs.Exactness.{LeafExactness}
use Rattle.paired_leaf.specs.Pairs.{first_of, second_of}
use Rattle.paired_leaf.specs.Exchange.{is_tighter, limited_at}
use Rattle.paired_leaf.specs.Below.{JoinIsLeast, IsBelow, IsBelowParts}
use Rattle.paired_leaf.proofs.PairLemmas.{of_either}
use Rattle.linearised_leaf.specs.Sides.{side_met}
use Rattle.linearised_leaf.specs.Differences.{set_met}
use Rattle.linearised_leaf.specs.Tightened.{side_of, other_side_met, sides_met, is_octagonal, tightened, has_variable, form_less_variable, tightened_where, tightened_set}
use Rattle.linearised_leaf.specs.Products.{less_number, met_where, met_between, operation_form, operation_met, operation_set}
use Rattle.linearised_leaf.specs.Linearised.{linearised}
use Rattle.linearised_leaf.proofs.SideLaws.{IsKept, side_kept, side_like, like_kept, form_over, below_count}
use Rattle.linearised_leaf.proofs.FormLaws.{negated_is, less_has}
use Rattle.linearised_leaf.proofs.DifferenceLaws.{IsSetKept, set_kept, set_over, like_kept as like_set_kept}
use Rattle.linearised_leaf.proofs.TightenedLaws.{sides_alike, over, counted}
use Rattle.linearised_leaf.proofs.ProductLaws.{operation_has, less_number_has, where_met_like}
use Rattle.linearised_leaf.proofs.LinearisedLaws.{own_alike}

-- the parts of a leaf of the one kind are leaves of the two others
abbrev pub HasParts : LeafMeaning → LeafMeaning → LeafMeaning → Type 0
HasParts A B P = (v : LeafValue) → P.valid v → A.valid (first_of v) × B.valid (second_of v)

module _ (A B P : LeafMeaning) (L : LeafLaws P) (E : LeafExactness A) (F : LeafExactness B) (K : IsBelowParts A B P) (V : HasParts A B P) where
  -- a leaf whose parts hold no store that those of the other lack
  abbrev pub IsUnder : LeafValue → LeafValue → Type 0
  IsUnder v w = IsBelow A B w (first_of v) (second_of v)

  self_under : (v : LeafValue) → IsUnder v v
  self_under v = record { first = λ s h. h; second = λ s h. h }

  under_under : (v w u : LeafValue) → IsUnder v w → IsUnder w u → IsUnder v u
  under_under v w u i j = record { first = λ s h. i.first s (j.first s h); second = λ s h. i.second s (j.second s h) }

  form_under : (w : LeafValue) (g : Form) (op : Compare) → P.valid w → IsForm w.variables g → IsUnder w (P.meet_form w g op)
  form_under w g op p i =
      let b = K.meet_form w g op p i in
      let q = V w p in
      record { first = λ s h. E.meet_form_only (first_of w) g op s q.0 i (b.first s h); second = λ s h. F.meet_form_only (second_of w) g op s q.1 i (b.second s h) }

  range_under : (w : LeafValue) (x : ℕ) (r : Range) → P.valid w → x < w.variables → IsInInt r → IsUnder w (limited_at P w x r)
  range_under w x r p l i =
      let b = K.meet_range w x r p l i in
      let q = V w p in
      of_either (IsUnder w) (is_tighter r (P.bounds_of w x)) (P.meet_range w x r) w
      (record { first = λ s h. (E.meet_only (first_of w) x r s q.0 l i (b.first s h)).0; second = λ s h. (F.meet_only (second_of w) x r s q.1 l i (b.second s h)).0 })
      (self_under w)

  module _ (v : LeafValue) (p : P.valid v) (f : Form) (m : ℤ) where
    record IsLess (w : LeafValue) : Type 0 where
      like : IsLeafLike P v w
      under : IsUnder v w

    less_kept : IsKept P L v p f m IsLess
    less_kept = record {
      form = λ w g r k. record {
        like = (like_kept P L v p f m).form w g r.like k;
        under = under_under v w (P.meet_form w g Le) r.under (form_under w g Le r.like.valid (form_over P L v p f m w g r.like k));
      };
      range = λ w x q r k. record {
        like = (like_kept P L v p f m).range w x q r.like k;
        under = under_under v w (limited_at P w x q) r.under (range_under w x q r.like.valid (below_count P L v p f m w x r.like k.variable) k.int);
      };
    }

    side_under : IsForm v.variables f → IsUnder v (side_met P v f m)
    side_under i = (side_kept P L v p f m IsLess less_kept i (record { like = record { valid = p; same = refl }; under = self_under v })).under

  other_under : (v : LeafValue) (f : Form) (n : ℤ) → P.valid v → IsForm v.variables f → IsUnder v (other_side_met P v f n)
  other_under v f n p i = by_form (multiple_form (negsuc 0) (Some f)) refl
    where
      by_form : (o : Option Form) → multiple_form (negsuc 0) (Some f) ≡ o → IsUnder v (side_of P v o n)
      by_form None e = self_under v
      by_form (Some g) e = side_under v p g n (negated_is v.variables f g i e)

  -- w is the leaf v with a variable set to a form
  module _ (v : LeafValue) (p : P.valid v) (x : ℕ) (f : Form) (l : x < v.variables) (i : IsForm v.variables f) (w : LeafValue) where
    record IsSetLess (u : LeafValue) : Type 0 where
      like : IsLeafLike P v u
      under : IsUnder w u

    set_less_kept : IsSetKept P L v p x f IsSetLess
    set_less_kept = record {
      form = λ u g r k. record {
        like = (like_set_kept P L v p x f).form u g r.like k;
        under = under_under w u (P.meet_form u g Le) r.under (form_under u g Le r.like.valid (set_over P L v p x f u g r.like k));
      };
    }

    set_under : IsLeafLike P v w → IsUnder w (set_met P v x f w)
    set_under j = (set_kept P L v p x f IsSetLess set_less_kept l i w (record { like = j; under = self_under w })).under

  module _ (least : JoinIsLeast A) (lowest : JoinIsLeast B) where
    join_under : (v a b : LeafValue) → P.valid v → IsLeafLike P v a → Alike P a b → IsUnder v a → IsUnder v b → IsUnder v (P.join a b)
    join_under v a b p i k x y =
        let c = K.join a b k in
        let q = V v p in
        let r = V a k.first in
        let t = V b k.second in
        record {
          first = λ s h. least (first_of a) (first_of b) (first_of v) (record { first = r.0; second = t.0; same = k.same }) q.0 (sym i.same) x.first y.first s (c.first s h);
          second = λ s h. lowest (second_of a) (second_of b) (second_of v) (record { first = r.1; second = t.1; same = k.same }) q.1 (sym i.same) x.second y.second s (c.second s h);
        }

    sides_under : (v : LeafValue) (f : Form) (op : Compare) → P.valid v → IsForm v.variables f → IsUnder v (sides_met P v f op)
    unfolding sides_met
    sides_under v f Lt p i = side_under v p f (pos 1) i
    sides_under v f Le p i = side_under v p f (pos 0) i
    sides_under v f Gt p i = other_under v f (pos 1) p i
    sides_under v f Ge p i = other_under v f (pos 0) p i
    sides_under v f Eq p i =
        let w = side_met P v f (pos 0) in
        let j = side_like P L v p f (pos 0) i in
        under_under v w (other_side_met P w f (pos 0)) (side_under v p f (pos 0) i) (other_under w f (pos 0) j.valid (over P L v w f j i))
    sides_under v f Ne p i =
        join_under v (side_met P v f (pos 1)) (other_side_met P v f (pos 1)) p (side_like P L v p f (pos 1) i) (sides_alike P L v f p i) (side_under v p f (pos 1) i) (other_under v f (pos 1) p i)

    tightened_under : (v : LeafValue) (f : Form) (op : Compare) → P.valid v → IsForm v.variables f → IsUnder v (tightened P v f op)
    tightened_under v f op p i = of_either (IsUnder v) (is_nothing_of v || is_octagonal f.terms) v (sides_met P v f op) (self_under v) (sides_under v f op p i)

    where_under : (v : LeafValue) (o : Option Form) → P.valid v → HasForm v.variables o → IsUnder v (tightened_where P v o)
    where_under v None p i = self_under v
    where_under v (Some g) p i = tightened_under v g Eq p i

    within : (v w a b : LeafValue) → IsBelow A B v a b → IsUnder v w → IsBelow A B w a b
    within v w a b i j = record { first = λ s h. i.first s (j.first s h); second = λ s h. i.second s (j.second s h) }

    meet_form_below : (v : LeafValue) (f : Form) (op : Compare) → P.valid v → IsForm v.variables f → IsBelow A B ((linearised P).meet_form v f op) (A.meet_form (first_of v) f op) (B.meet_form (second_of v) f op)
    meet_form_below v f op p i =
        let w = P.meet_form v f op in
        let j = L.meet_form_answers v f op p i in
        within w (tightened P w f op) (A.meet_form (first_of v) f op) (B.meet_form (second_of v) f op) (K.meet_form v f op p i) (tightened_under w f op j.valid (over P L v w f j i))

    set_form_below : (v : LeafValue) (x : ℕ) (f : Form) (r : Range) → P.valid v → x < v.variables → IsForm v.variables f → IsInInt r → IsBelow A B ((linearised P).set_form v x f r) (A.set_form (first_of v) x f r) (B.set_form (second_of v) x f r)
    set_form_below v x f r p l i k =
        let w = P.set_form v x f r in
        let j = L.set_form_answers v x f r p l i k in
        within w (tightened_set P v x f w) (A.set_form (first_of v) x f r) (B.set_form (second_of v) x f r) (K.set_form v x f r p l i k)
        (of_either (IsUnder w) (has_variable x f.terms) (set_met P v x f w) (tightened_where P w (form_less_variable x f)) (set_under v p x f l i w j)
        (where_under w (form_less_variable x f) j.valid (less_has w.variables x f (counted P L v w x j l) (over P L v w f j i))))

    -- ---- products
    where_met_under : (w : LeafValue) (o : Option Form) (op : Compare) → P.valid w → HasForm w.variables o → IsUnder w (met_where P w o op)
    where_met_under w None op p i = self_under w
    where_met_under w (Some f) op p i =
        let j = L.meet_form_answers w f op p i in
        under_under w (P.meet_form w f op) (tightened P (P.meet_form w f op) f op) (form_under w f op p i) (tightened_under (P.meet_form w f op) f op j.valid (over P L w (P.meet_form w f op) f j i))

    between_under : (w : LeafValue) (f : Form) (op : Compare) (r : Range) → P.valid w → IsForm w.variables f → IsUnder w (met_between P w f op r)
    between_under w f Lt r p i = where_met_under w (less_number r.high f) Lt p (less_number_has w.variables r.high f i)
    between_under w f Le r p i = where_met_under w (less_number r.high f) Le p (less_number_has w.variables r.high f i)
    between_under w f Gt r p i = where_met_under w (less_number r.low f) Gt p (less_number_has w.variables r.low f i)
    between_under w f Ge r p i = where_met_under w (less_number r.low f) Ge p (less_number_has w.variables r.low f i)
    between_under w f Eq r p i =
        let u = met_where P w (less_number r.low f) Ge in
        let j = where_met_like P L w (less_number r.low f) Ge p (less_number_has w.variables r.low f i) in
        under_under w u (met_where P u (less_number r.high f) Le) (where_met_under w (less_number r.low f) Ge p (less_number_has w.variables r.low f i))
        (where_met_under u (less_number r.high f) Le j.valid (subst (λ n. HasForm n (less_number r.high f)) (sym j.same) (less_number_has w.variables r.high f i)))
    between_under w f Ne r p i =
        of_either (IsUnder w) (is_single r) (met_where P w (less_number r.low f) Ne) w (where_met_under w (less_number r.low f) Ne p (less_number_has w.variables r.low f i)) (self_under w)

    met_under : (w : LeafValue) (o : Option Form) (op : Compare) (r : Range) → P.valid w → HasForm w.variables o → IsUnder w (operation_met P w o op r)
    met_under w None op r p i = self_under w
    met_under w (Some f) op r p i = between_under w f op r p i

    operation_under : (v : LeafValue) (x : ℕ) (o : Option Form) (w : LeafValue) → P.valid v → x < v.variables → HasForm v.variables o → IsLeafLike P v w → IsUnder w (operation_set P v x o w)
    operation_under v x None w p l i j = self_under w
    operation_under v x (Some f) w p l i j =
        of_either (IsUnder w) (has_variable x f.terms) (set_met P v x f w) (met_where P w (form_less_variable x f) Eq) (set_under v p x f l i w j)
        (where_met_under w (form_less_variable x f) Eq j.valid (less_has w.variables x f (counted P L v w x j l) (over P L v w f j i)))

    meet_operation_below : (v : LeafValue) (d : Operation) (op : Compare) (r : Range) → P.valid v → IsOperation v.variables d → IsInInt r → IsBelow A B ((linearised P).meet_operation v d op r) (A.meet_operation (first_of v) d op r) (B.meet_operation (second_of v) d op r)
    meet_operation_below v d op r p o i =
        let w = P.meet_operation v d op r in
        let j = L.meet_operation_answers v d op r p o i in
        within w (operation_met P w (operation_form P v d) op r) (A.meet_operation (first_of v) d op r) (B.meet_operation (second_of v) d op r) (K.meet_operation v d op r p o i)
        (met_under w (operation_form P v d) op r j.valid (subst (λ n. HasForm n (operation_form P v d)) (sym j.same) (operation_has P v v.variables d o)))

    set_operation_below : (v : LeafValue) (x : ℕ) (d : Operation) (r : Range) → P.valid v → x < v.variables → IsOperation v.variables d → IsInInt r → IsBelow A B ((linearised P).set_operation v x d r) (A.set_operation (first_of v) x d r) (B.set_operation (second_of v) x d r)
    set_operation_below v x d r p l o i =
        let w = P.set_operation v x d r in
        let j = L.set_operation_answers v x d r p l o i in
        within w (operation_set P v x (operation_form P v d) w) (A.set_operation (first_of v) x d r) (B.set_operation (second_of v) x d r) (K.set_operation v x d r p l o i)
        (operation_under v x (operation_form P v d) w p l (operation_has P v v.variables d o) j)

    pub linearised_below : IsBelowParts A B (linearised P)
    linearised_below = record {
      start = K.start;
      best = K.best;
      leq = K.leq;
      join = λ v w k. K.join v w (own_alike P L v w k);
      widen = λ ts v w k. K.widen ts v w (own_alike P L v w k);
      narrow = λ ts v w k. K.narrow ts v w (own_alike P L v w k);
      bounds = K.bounds;
      form_range = K.form_range;
      meet_range = K.meet_range;
      meet_form = meet_form_below;
      set_range = K.set_range;
      set_form = set_form_below;
      operation_range = K.operation_range;
      meet_operation = meet_operation_below;
      set_operation = set_operation_below;
    }
