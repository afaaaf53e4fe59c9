-- Octagons together with intervals and strides are below intervals, since their strides are.
use Rattle.std.proofs.Common.{◌≡◌, ℕ, ◌<◌, ℤ, List, refl, sym, subst, ◌∙◌}
use Rattle.leaf_domain.specs.declared.form.Form.{Form}
use Rattle.leaf_domain.specs.Forms.{IsForm}
use Rattle.leaf_domain.specs.Leaves.{LeafValue, Alike, IsLeafLike}
use Rattle.interval_leaf.specs.Intervals.{intervals}
use Rattle.interval_leaf.specs.Laws.{interval_laws}
use Rattle.product_leaf.specs.StrideLeaves.{strides}
use Rattle.congruence_leaf.specs.Congruences.{congruences}
use Rattle.paired_leaf.specs.Pairs.{second_of}
use Rattle.sharp_leaf.specs.SharpLeaves.{sharp}
use Rattle.sharp_leaf.specs.Laws.{sharp_laws}
use Rattle.sharp_leaf.specs.BelowIntervals.{IsUnder, IsBelowIntervals}
use Rattle.sharp_leaf.proofs.BelowParts.{reduced_parts, sharp_below}
use Rattle.sharp_leaf.proofs.StridesWithin.{own, congruences_below}

abbrev IsIn : LeafValue → LeafValue → Type 0
IsIn v w = IsUnder sharp second_of v w

abbrev AreIn : LeafValue → LeafValue → Type 0
AreIn v w = IsUnder congruences own v w

-- the strides of a leaf that is in another are in it
parts_in : (v w : LeafValue) → IsIn v w → AreIn (second_of v) w
parts_in v w u = record { first = (reduced_parts v u.first).1; second = u.second; same = u.same; stores = u.stores }

-- an answer whose strides hold no store that those of the strides' answer lack
answered : (v w a b c : LeafValue) → IsIn v w → IsLeafLike sharp v a → AreIn c b → b.variables ≡ w.variables → ((s : List ℤ) → strides.holds (second_of a) s → strides.holds c s) → IsIn a b
answered v w a b c u i t e h = record { first = i.valid; second = t.second; same = i.same ∙ u.same ∙ sym e; stores = λ s k. t.stores s (h s k) }

over : (v w : LeafValue) (x : ℕ) → IsIn v w → x < v.variables → x < w.variables
over v w x u l = subst (λ n. x < n) u.same l

form_over : (v w : LeafValue) (f : Form) → IsIn v w → IsForm v.variables f → IsForm w.variables f
form_over v w f u g = subst (λ n. IsForm n f) u.same g

own_alike : (v w x y : LeafValue) → IsIn v w → IsIn x y → v.variables ≡ x.variables → Alike sharp v x
own_alike v w x y u t e = record { first = u.first; second = t.first; same = e }

interval_alike : (v w x y : LeafValue) → IsIn v w → IsIn x y → v.variables ≡ x.variables → Alike intervals w y
interval_alike v w x y u t e = record { first = u.second; second = t.second; same = sym u.same ∙ e ∙ t.same }

pub sharp_below_intervals : IsBelowIntervals sharp second_of
sharp_below_intervals = record {
  holds = λ v w s u h. u.stores s h.1;
  start = λ s l a. record {
    first = sharp_laws.start_valid s l a;
    second = interval_laws.start_valid s l a;
    same = sharp_laws.start_variables s ∙ sym (interval_laws.start_variables s);
    stores = λ t h. (congruences_below.start s l a).stores t ((sharp_below.start s).second t h);
  };
  nothing = λ n l. record { first = sharp_laws.nothing_valid n l; second = interval_laws.nothing_valid n l; same = refl; stores = λ s h. h };
  best = λ v w u. answered v w (sharp.best v) (intervals.best w) (congruences.best (second_of v)) u (sharp_laws.best_answers v u.first) (congruences_below.best (second_of v) w (parts_in v w u))
      (interval_laws.best_answers w u.second).same (sharp_below.best v u.first).second;
  join = λ v w x y u t e. answered v w (sharp.join v x) (intervals.join w y) (congruences.join (second_of v) (second_of x)) u (sharp_laws.join_answers v x (own_alike v w x y u t e))
      (congruences_below.join (second_of v) w (second_of x) y (parts_in v w u) (parts_in x y t) e) (interval_laws.join_answers w y (interval_alike v w x y u t e)).same
      (sharp_below.join v x (own_alike v w x y u t e)).second;
  widen = λ ts v w x y u t e r. answered v w (sharp.widen ts v x) (intervals.widen ts w y) (congruences.widen ts (second_of v) (second_of x)) u (sharp_laws.widen_answers ts v x (own_alike v w x y u t e))
      (congruences_below.widen ts (second_of v) w (second_of x) y (parts_in v w u) (parts_in x y t) e r) (interval_laws.widen_answers ts w y (interval_alike v w x y u t e)).same
      (sharp_below.widen ts v x (own_alike v w x y u t e)).second;
  narrow = λ ts v w x y u t e r. answered v w (sharp.narrow ts v x) (intervals.narrow ts w y) (congruences.narrow ts (second_of v) (second_of x)) u (sharp_laws.narrow_answers ts v x (own_alike v w x y u t e))
      (congruences_below.narrow ts (second_of v) w (second_of x) y (parts_in v w u) (parts_in x y t) e r) (interval_laws.narrow_answers ts w y (interval_alike v w x y u t e)).same
      (sharp_below.narrow ts v x (own_alike v w x y u t e)).second;
  bounds = λ v w x s n u l h k. congruences_below.bounds (second_of v) w x s n (parts_in v w u) l h.1 (sharp_below.bounds v x s n u.first l h k).1;
  meet_range = λ v w x r u l i. answered v w (sharp.meet_range v x r) (intervals.meet_range w x r) (congruences.meet_range (second_of v) x r) u (sharp_laws.meet_answers v x r u.first l i)
      (congruences_below.meet_range (second_of v) w x r (parts_in v w u) l i) (interval_laws.meet_answers w x r u.second (over v w x u l) i).same
      (sharp_below.meet_range v x r u.first l i).second;
  meet_form = λ v w f op u g. answered v w (sharp.meet_form v f op) (intervals.meet_form w f op) (congruences.meet_form (second_of v) f op) u (sharp_laws.meet_form_answers v f op u.first g)
      (congruences_below.meet_form (second_of v) w f op (parts_in v w u) g) (interval_laws.meet_form_answers w f op u.second (form_over v w f u g)).same
      (sharp_below.meet_form v f op u.first g).second;
  set_range = λ v w x r u l i. answered v w (sharp.set_range v x r) (intervals.set_range w x r) (congruences.set_range (second_of v) x r) u (sharp_laws.set_answers v x r u.first l i)
      (congruences_below.set_range (second_of v) w x r (parts_in v w u) l i) (interval_laws.set_answers w x r u.second (over v w x u l) i).same
      (sharp_below.set_range v x r u.first l i).second;
  set_form = λ v w x f r u l g i. answered v w (sharp.set_form v x f r) (intervals.set_form w x f r) (congruences.set_form (second_of v) x f r) u (sharp_laws.set_form_answers v x f r u.first l g i)
      (congruences_below.set_form (second_of v) w x f r (parts_in v w u) l g i) (interval_laws.set_form_answers w x f r u.second (over v w x u l) (form_over v w f u g) i).same
      (sharp_below.set_form v x f r u.first l g i).second;
  meet_operation = λ v w p op r u o i. answered v w (sharp.meet_operation v p op r) (intervals.meet_operation w p op r) (congruences.meet_operation (second_of v) p op r) u (sharp_laws.meet_operation_answers v p op r u.first o i)
      (congruences_below.meet_operation (second_of v) w p op r (parts_in v w u) o i) refl
      (sharp_below.meet_operation v p op r u.first o i).second;
  set_operation = λ v w x p r u l o i. answered v w (sharp.set_operation v x p r) (intervals.set_operation w x p r) (congruences.set_operation (second_of v) x p r) u (sharp_laws.set_operation_answers v x p r u.first l o i)
      (congruences_below.set_operation (second_of v) w x p r (parts_in v w u) l o i) (interval_laws.set_answers w x r u.second (over v w x u l) i).same
      (sharp_below.set_operation v x p r u.first l o i).second;
}
