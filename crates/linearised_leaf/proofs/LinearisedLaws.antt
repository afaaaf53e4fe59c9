-- A kind of leaf that keeps the laws of leaves keeps them linearised.
use Rattle.std.proofs.Common.{◌≡◌, ℕ, ◌<◌, ℤ, pos, Bool, true, false, if◌then◌else◌, List, slice_set, refl, sym, subst}
use Rattle.leaf_domain.specs.declared.form.Form.{Form}
use Rattle.leaf_domain.specs.declared.range.Range.{Range}
use Rattle.leaf_domain.specs.declared.compare.Compare.{Compare}
use Rattle.leaf_domain.specs.Compares.{holds_between}
use Rattle.leaf_domain.specs.Ranges.{Within, IsInInt}
use Rattle.leaf_domain.specs.Forms.{IsForm, form_at}
use Rattle.leaf_domain.specs.Leaves.{LeafValue, LeafMeaning, LeafLaws, Alike, IsLeafLike, nothing_of}
use Rattle.paired_leaf.proofs.PairLemmas.{of_either}
use Rattle.linearised_leaf.specs.Differences.{set_met}
use Rattle.linearised_leaf.specs.Tightened.{has_variable, form_less_variable, tightened_where}
use Rattle.linearised_leaf.specs.Linearised.{linearised}
use Rattle.linearised_leaf.proofs.FormLaws.{less_has}
use Rattle.linearised_leaf.proofs.DifferenceLaws.{set_met_like, set_met_holds}
use Rattle.linearised_leaf.specs.Products.{operation_form}
use Rattle.linearised_leaf.proofs.TightenedLaws as tight
use Rattle.linearised_leaf.proofs.ProductLaws as products

module _ (M : LeafMeaning) (L : LeafLaws M) where
  -- ---- the laws
  abbrev P : LeafMeaning
  P = linearised M

  pub as_like : (a b : LeafValue) → IsLeafLike M a b → IsLeafLike P a b
  as_like a b i = record { valid = i.valid; same = i.same }

  pub own_alike : (a b : LeafValue) → Alike P a b → Alike M a b
  own_alike a b k = record { first = k.first; second = k.second; same = k.same }

  met_like : (a : LeafValue) (f : Form) (op : Compare) → M.valid a → IsForm a.variables f → IsLeafLike M a (P.meet_form a f op)
  met_like a f op p i =
      let j = L.meet_form_answers a f op p i in
      tight.then_like M L a (M.meet_form a f op) (P.meet_form a f op) j (tight.tightened_like M L (M.meet_form a f op) f op j.valid (tight.over M L a (M.meet_form a f op) f j i))

  met_holds : (a : LeafValue) (f : Form) (op : Compare) (s : List ℤ) → M.valid a → IsForm a.variables f → M.holds a s → holds_between op (form_at f s) (pos 0) ≡ true → M.holds (P.meet_form a f op) s
  met_holds a f op s p i h e =
      let j = L.meet_form_answers a f op p i in
      tight.tightened_holds M L (M.meet_form a f op) f op s j.valid (tight.over M L a (M.meet_form a f op) f j i) (L.meet_form_holds a f op s p i h e) e

  set_like : (a : LeafValue) (x : ℕ) (f : Form) (r : Range) → M.valid a → x < a.variables → IsForm a.variables f → IsInInt r → IsLeafLike M a (P.set_form a x f r)
  set_like a x f r p l i k =
      let j = L.set_form_answers a x f r p l i k in
      let b = M.set_form a x f r in
      of_either (IsLeafLike M a) (has_variable x f.terms) (set_met M a x f b) (tightened_where M b (form_less_variable x f)) (set_met_like M L a p x f l i b j)
      (tight.then_like M L a b (tightened_where M b (form_less_variable x f)) j (tight.where_like M L b (form_less_variable x f) j.valid (less_has b.variables x f (tight.counted M L a b x j l) (tight.over M L a b f j i))))

  set_holds : (a : LeafValue) (x : ℕ) (f : Form) (r : Range) (s : List ℤ) → M.valid a → x < a.variables → IsForm a.variables f → IsInInt r → M.holds a s → Within (form_at f s) r → M.holds (P.set_form a x f r) (slice_set s x (form_at f s))
  set_holds a x f r s p l i k h w = by_test (has_variable x f.terms) refl
    where
      b : LeafValue
      b = M.set_form a x f r

      j : IsLeafLike M a b
      j = L.set_form_answers a x f r p l i k

      g : M.holds b (slice_set s x (form_at f s))
      g = L.set_form_holds a x f r s p l i k h w

      by_test : (t : Bool) → has_variable x f.terms ≡ t → M.holds (if t then set_met M a x f b else tightened_where M b (form_less_variable x f)) (slice_set s x (form_at f s))
      by_test true d = set_met_holds M L a p x f l i b s j h g
      by_test false d = tight.where_holds M L b x f s j.valid (tight.counted M L a b x j l) (tight.over M L a b f j i) (subst (λ n. x < n) (sym (L.holds_length a s p h)) l) d g

  pub linearised_laws : LeafLaws P
  linearised_laws = record {
    valid_few = L.valid_few;
    start_valid = L.start_valid;
    start_variables = L.start_variables;
    start_holds = L.start_holds;
    nothing_valid = L.nothing_valid;
    nothing_holds = L.nothing_holds;
    holds_length = L.holds_length;
    best_answers = λ a p. as_like a (M.best a) (L.best_answers a p);
    best_holds = L.best_holds;
    best_nothing = L.best_nothing;
    leq_holds = λ a b s k. L.leq_holds a b s (own_alike a b k);
    nothing_leq = L.nothing_leq;
    leq_nothing = L.leq_nothing;
    join_answers = λ a b k. as_like a (M.join a b) (L.join_answers a b (own_alike a b k));
    join_holds = λ a b s k. L.join_holds a b s (own_alike a b k);
    join_some = λ a b k. L.join_some a b (own_alike a b k);
    join_nothing = L.join_nothing;
    nothing_join = L.nothing_join;
    widen_answers = λ ts a b k. as_like a (M.widen ts a b) (L.widen_answers ts a b (own_alike a b k));
    widen_holds = λ ts a b s k. L.widen_holds ts a b s (own_alike a b k);
    widen_some = λ ts a b k. L.widen_some ts a b (own_alike a b k);
    widen_grows = λ ts a b k. L.widen_grows ts a b (own_alike a b k);
    steps_few = L.steps_few;
    narrow_answers = λ ts a b k. as_like a (M.narrow ts a b) (L.narrow_answers ts a b (own_alike a b k));
    narrow_holds = λ ts a b s k. L.narrow_holds ts a b s (own_alike a b k);
    narrow_nothing = L.narrow_nothing;
    bounds_in_int = L.bounds_in_int;
    bounds_hold = L.bounds_hold;
    bounds_some = L.bounds_some;
    bounds_nothing = L.bounds_nothing;
    step_holds = L.step_holds;
    form_holds = L.form_holds;
    form_nothing = L.form_nothing;
    meet_answers = λ a x r p l i. as_like a (M.meet_range a x r) (L.meet_answers a x r p l i);
    meet_holds = L.meet_holds;
    meet_nothing = L.meet_nothing;
    meet_form_answers = λ a f op p i. as_like a (P.meet_form a f op) (met_like a f op p i);
    meet_form_holds = met_holds;
    meet_form_nothing = λ n f op. tight.tightened_nothing M L (M.meet_form (nothing_of n) f op) n f op (L.meet_form_nothing n f op);
    set_answers = λ a x r p l i. as_like a (M.set_range a x r) (L.set_answers a x r p l i);
    set_holds = L.set_holds;
    set_nothing = L.set_nothing;
    set_form_answers = λ a x f r p l i k. as_like a (P.set_form a x f r) (set_like a x f r p l i k);
    set_form_holds = set_holds;
    set_form_nothing = λ n x f r. tight.set_nothing M L (nothing_of n) (M.set_form (nothing_of n) x f r) n x f (L.set_form_nothing n x f r);
    operation_holds = L.operation_holds;
    meet_operation_answers = λ a d op r p o i. as_like a (P.meet_operation a d op r) (products.met_answers M L a d op r (M.meet_operation a d op r) o (L.meet_operation_answers a d op r p o i));
    meet_operation_holds = λ a d op r s n m p o i h w k e. products.met_keeps M L a d op r (M.meet_operation a d op r) s n m p o (L.meet_operation_answers a d op r p o i) h (L.meet_operation_holds a d op r s n m p o i h w k e) w k e;
    meet_operation_nothing = λ n d op r. products.met_nothing M L (M.meet_operation (nothing_of n) d op r) n (operation_form M (nothing_of n) d) op r (L.meet_operation_nothing n d op r);
    set_operation_answers = λ a x d r p l o i. as_like a (P.set_operation a x d r) (products.set_answers M L a x d (M.set_operation a x d r) p l o (L.set_operation_answers a x d r p l o i));
    set_operation_holds = λ a x d r s n p l o i h w k. products.set_keeps M L a x d (M.set_operation a x d r) s n p l o (L.set_operation_answers a x d r p l o i) h w (L.set_operation_holds a x d r s n p l o i h w k);
    set_operation_nothing = λ n x d r. products.set_nothing_too M L (nothing_of n) (M.set_operation (nothing_of n) x d r) n x (operation_form M (nothing_of n) d) (L.set_operation_nothing n x d r);
  }
