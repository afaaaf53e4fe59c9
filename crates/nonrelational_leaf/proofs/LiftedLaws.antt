-- A domain of one variable that meets its laws, lifted to stores, keeps every law of leaves.
use Rattle.std.proofs.Common.{◌≡◌, ◌⊎◌, inl, inr, ◌↔◌, ℕ, ◌≤◌, ◌<◌, ◌+◌, ◌*◌, ℤ, pos, Bool, true, false, List, [], Option, Some, None, length, slice_index_or, slice_set, map, refl, sym, ap, subst, ◌∙◌, arith, if◌then◌else◌}
use Rattle.std.specs.List.{list_any}
use Rattle.std.proofs.lemmas.List.{length-map}
use Rattle.leaf_domain.specs.declared.form.Form.{Form}
use Rattle.leaf_domain.specs.declared.range.Range.{Range}
use Rattle.leaf_domain.specs.Ranges.{Within, IsInInt, is_empty_range}
use Rattle.leaf_domain.specs.Forms.{form_at, IsForm}
use Rattle.leaf_domain.specs.Leaves.{LeafValue, LeafLaws, IsLeafLike, nothing_of, is_nothing_of, at_store}
use Rattle.leaf_domain.proofs.ArithmeticLemmas.{not_empty, one_step}
use Rattle.leaf_domain.proofs.Variables.{length_zipped, length_replaced, held_length, held_read, held_set, held_part}
use Rattle.nonrelational_leaf.specs.Parts.{PartMeaning}
use Rattle.nonrelational_leaf.specs.PartLaws.{PartLaws}
use Rattle.nonrelational_leaf.specs.Lifted.{all_reduced_by, AllOwn, AllHave, best_part, all_best, part_at, leaf_of, parts_in, IsLeaf, ContentHolds, leaf_holds, settled, joined_all, widened_all, narrowed_all, start_leaf, best_by, best_leaf, leaf_leq, joined_leaf, widened_leaf, narrowed_leaf, bounds_at, leaf_with, met_leaf, set_leaf, form_leaf, leaf_steps_left, lifted}
use Rattle.nonrelational_leaf.proofs.PartLists as lists

abbrev pub at : ℕ → Option (List ℤ) → LeafValue
at n c = record { variables = n; content = c }

-- a form has no range
abbrev no_form_range : Option Range
no_form_range = None

no_range : (r : Range) (Q : Type 0) → no_form_range ≡ Some r → Q
no_range r Q e = cc

few_of : (n m : ℕ) → n ≤ 48 → n ≡ m → m ≤ 48
few_of n m h e = omega arith

pub below_of : (x n m : ℕ) → x < n → n ≡ m → x < m
below_of x n m l e = omega arith

module _ {P : Type 0} (D : PartMeaning P) (L : PartLaws D) where
  -- the parts of a leaf have a store where the leaf holds it
  made_holds : (ps : List P) (s : List ℤ) → AllHave D ps s → leaf_holds D (leaf_of D ps) s
  made_holds ps s h = subst (λ xs. AllHave D xs s) (sym (L.parts_told ps)) h

  pub made_back : (ps : List P) (s : List ℤ) → leaf_holds D (leaf_of D ps) s → AllHave D ps s
  made_back ps s h = subst (λ xs. AllHave D xs s) (L.parts_told ps) h

  -- a leaf that is made of as many parts
  made_answers : (n : ℕ) (c : Option (List ℤ)) (ps : List P) → n ≤ 48 → n ≡ length ps → AllOwn D ps → IsLeafLike (lifted D) (at n c) (leaf_of D ps)
  made_answers n c ps h e k = record { valid = lists.is_leaf D L ps (few_of n (length ps) h e) k; same = sym e }

  nothing_answers : (n m : ℕ) (c : Option (List ℤ)) → n ≤ 48 → n ≡ m → IsLeafLike (lifted D) (at n c) (nothing_of m)
  nothing_answers n m c h e = record { valid = (few_of n m h e, tt); same = sym e }

  -- ---- start
  start_holds : (s t : List ℤ) → (leaf_holds D (start_leaf D s) t) ↔ (t ≡ s)
  start_holds s t =
      (λ h. lists.points_alone D L s t (made_back (map D.point s) t h), λ e. subst (λ u. leaf_holds D (start_leaf D s) u) (sym e) (made_holds (map D.point s) s (lists.points_have D L s)))

  -- ---- best
  best_answers : (n : ℕ) (c : Option (List ℤ)) → IsLeaf D (at n c) → IsLeafLike (lifted D) (at n c) (best_leaf D (at n c))
  best_answers n c p = by_reduction D.reduction c p (λ us q. lists.own_best D L (D.parts us) q)
    where
      by_reduction : (o : Option (P → P)) (c : Option (List ℤ)) → IsLeaf D (at n c) → ((us : List ℤ) → AllOwn D (D.parts us) → AllOwn D (all_reduced_by o (D.parts us))) → IsLeafLike (lifted D) (at n c) (best_by D o (at n c))
      by_reduction None c p own = record { valid = p; same = refl }
      by_reduction (Some f) None p own = record { valid = p; same = refl }
      by_reduction (Some f) (Some us) p own = made_answers n (Some us) (map f (D.parts us)) p.0 (p.1.1 ∙ sym (lists.length_reduced (Some f) (D.parts us))) (own us p.1.2)

  best_holds : (n : ℕ) (c : Option (List ℤ)) (s : List ℤ) → (leaf_holds D (best_leaf D (at n c)) s) ↔ (ContentHolds D c s)
  best_holds n c s = by_reduction D.reduction c (λ us. (lists.best_back D L (D.parts us) s, lists.best_have D L (D.parts us) s))
    where
      by_reduction : (o : Option (P → P)) (c : Option (List ℤ)) → ((us : List ℤ) → (AllHave D (all_reduced_by o (D.parts us)) s) ↔ (AllHave D (D.parts us) s)) → (leaf_holds D (best_by D o (at n c)) s) ↔ (ContentHolds D c s)
      by_reduction None c have = (λ h. h, λ h. h)
      by_reduction (Some f) None have = (λ h. h, λ h. h)
      by_reduction (Some f) (Some us) have = (λ h. (have us).0 (made_back (map f (D.parts us)) s h), λ h. made_holds (map f (D.parts us)) s ((have us).1 h))

  best_nothing : (n : ℕ) → best_leaf D (nothing_of n) ≡ nothing_of n
  best_nothing n = by_reduction D.reduction
    where
      by_reduction : (o : Option (P → P)) → best_by D o (nothing_of n) ≡ nothing_of n
      by_reduction None = refl
      by_reduction (Some f) = refl

  -- ---- as many parts
  both_best : (n m : ℕ) (us bs : List ℤ) → IsLeaf D (at n (Some us)) → IsLeaf D (at m (Some bs)) → n ≡ m → length (all_best D (D.parts us)) ≡ length (all_best D (D.parts bs))
  both_best n m us bs p q e = lists.length_best D L (D.parts us) ∙ sym p.1.1 ∙ e ∙ q.1.1 ∙ sym (lists.length_best D L (D.parts bs))

  pub second_best : (n m : ℕ) (us bs : List ℤ) → IsLeaf D (at n (Some us)) → IsLeaf D (at m (Some bs)) → n ≡ m → length (D.parts us) ≡ length (all_best D (D.parts bs))
  second_best n m us bs p q e = sym p.1.1 ∙ e ∙ q.1.1 ∙ sym (lists.length_best D L (D.parts bs))

  -- ---- leq
  leq_holds : (n m : ℕ) (c d : Option (List ℤ)) (s : List ℤ) → IsLeaf D (at n c) → IsLeaf D (at m d) → n ≡ m → leaf_leq D (at n c) (at m d) ≡ true → ContentHolds D c s → ContentHolds D d s
  leq_holds n m None d s p q e f h = absurd h
  leq_holds n m (Some us) None s p q e f h = cc
  leq_holds n m (Some us) (Some bs) s p q e f h =
      lists.leq_have D L (all_best D (D.parts us)) (D.parts bs) s (lists.length_best D L (D.parts us) ∙ sym p.1.1 ∙ e ∙ q.1.1) f (lists.best_have D L (D.parts us) s h)

  leq_nothing : (n m : ℕ) (c : Option (List ℤ)) → leaf_leq D (at n c) (nothing_of m) ≡ true → is_nothing_of (at n c) ≡ true
  leq_nothing n m None e = refl
  leq_nothing n m (Some us) e = cc

  -- ---- join
  join_answers : (n m : ℕ) (c d : Option (List ℤ)) → IsLeaf D (at n c) → IsLeaf D (at m d) → n ≡ m → IsLeafLike (lifted D) (at n c) (joined_leaf D (at n c) (at m d))
  join_answers n m None d p q e = record { valid = q; same = sym e }
  join_answers n m (Some us) None p q e = record { valid = p; same = refl }
  join_answers n m (Some us) (Some bs) p q e =
      made_answers n (Some us) (joined_all D (all_best D (D.parts us)) (all_best D (D.parts bs))) p.0
      (p.1.1 ∙ sym (lists.length_best D L (D.parts us)) ∙ sym (length_zipped D.join (all_best D (D.parts us)) (all_best D (D.parts bs)) (both_best n m us bs p q e)))
      (lists.joined_own D L (all_best D (D.parts us)) (all_best D (D.parts bs)) (lists.own_best D L (D.parts us) p.1.2) (lists.own_best D L (D.parts bs) q.1.2))

  join_holds : (n m : ℕ) (c d : Option (List ℤ)) (s : List ℤ) → IsLeaf D (at n c) → IsLeaf D (at m d) → n ≡ m → ContentHolds D c s ⊎ ContentHolds D d s → leaf_holds D (joined_leaf D (at n c) (at m d)) s
  join_holds n m None d s p q e (inl h) = absurd h
  join_holds n m None d s p q e (inr h) = h
  join_holds n m (Some us) None s p q e (inl h) = h
  join_holds n m (Some us) None s p q e (inr h) = absurd h
  join_holds n m (Some us) (Some bs) s p q e (inl h) =
      made_holds _ s (lists.joined_first D L (all_best D (D.parts us)) (all_best D (D.parts bs)) s (both_best n m us bs p q e) (lists.best_have D L (D.parts us) s h))
  join_holds n m (Some us) (Some bs) s p q e (inr h) =
      made_holds _ s (lists.joined_second D L (all_best D (D.parts us)) (all_best D (D.parts bs)) s (both_best n m us bs p q e) (lists.best_have D L (D.parts bs) s h))

  join_some : (n m : ℕ) (c d : Option (List ℤ)) → is_nothing_of (at n c) ≡ false → is_nothing_of (joined_leaf D (at n c) (at m d)) ≡ false
  join_some n m None d e = cc
  join_some n m (Some us) None e = refl
  join_some n m (Some us) (Some bs) e = refl

  nothing_join : (n : ℕ) (c : Option (List ℤ)) → joined_leaf D (at n c) (nothing_of n) ≡ at n c
  nothing_join n None = refl
  nothing_join n (Some us) = refl

  -- ---- widen
  widen_answers : (ts : List ℤ) (n m : ℕ) (c d : Option (List ℤ)) → IsLeaf D (at n c) → IsLeaf D (at m d) → n ≡ m → IsLeafLike (lifted D) (at n c) (widened_leaf D ts (at n c) (at m d))
  widen_answers ts n m None d p q e = let r : IsLeafLike (lifted D) (at m d) (best_leaf D (at m d)) = best_answers m d q in record { valid = r.valid; same = r.same ∙ sym e }
  widen_answers ts n m (Some us) None p q e = record { valid = p; same = refl }
  widen_answers ts n m (Some us) (Some bs) p q e =
      made_answers n (Some us) (widened_all D ts (D.parts us) (all_best D (D.parts bs))) p.0
      (p.1.1 ∙ sym (length_zipped (D.widen ts) (D.parts us) (all_best D (D.parts bs)) (second_best n m us bs p q e)))
      (lists.widened_own D L ts (D.parts us) (all_best D (D.parts bs)) p.1.2 (lists.own_best D L (D.parts bs) q.1.2))

  widen_holds : (ts : List ℤ) (n m : ℕ) (c d : Option (List ℤ)) (s : List ℤ) → IsLeaf D (at n c) → IsLeaf D (at m d) → n ≡ m → ContentHolds D c s ⊎ ContentHolds D d s → leaf_holds D (widened_leaf D ts (at n c) (at m d)) s
  widen_holds ts n m None d s p q e (inl h) = absurd h
  widen_holds ts n m None d s p q e (inr h) = (best_holds m d s).1 h
  widen_holds ts n m (Some us) None s p q e (inl h) = h
  widen_holds ts n m (Some us) None s p q e (inr h) = absurd h
  widen_holds ts n m (Some us) (Some bs) s p q e (inl h) =
      made_holds _ s (lists.widened_first D L ts (D.parts us) (all_best D (D.parts bs)) s (second_best n m us bs p q e) p.1.2 (lists.own_best D L (D.parts bs) q.1.2) h)
  widen_holds ts n m (Some us) (Some bs) s p q e (inr h) =
      made_holds _ s (lists.widened_second D L ts (D.parts us) (all_best D (D.parts bs)) s (second_best n m us bs p q e) p.1.2 (lists.own_best D L (D.parts bs) q.1.2) (lists.best_have D L (D.parts bs) s h))

  widen_some : (ts : List ℤ) (n m : ℕ) (c d : Option (List ℤ)) → is_nothing_of (at n c) ≡ false → is_nothing_of (widened_leaf D ts (at n c) (at m d)) ≡ false
  widen_some ts n m None d e = cc
  widen_some ts n m (Some us) None e = refl
  widen_some ts n m (Some us) (Some bs) e = refl

  widen_grows : (ts : List ℤ) (n m : ℕ) (c d : Option (List ℤ)) → IsLeaf D (at n c) → IsLeaf D (at m d) → n ≡ m → is_nothing_of (at n c) ≡ false → is_nothing_of (at m d) ≡ false → leaf_leq D (at m d) (at n c) ≡ false → leaf_steps_left D ts (widened_leaf D ts (at n c) (at m d)) < leaf_steps_left D ts (at n c)
  widen_grows ts n m None d p q e f g h = cc
  widen_grows ts n m (Some us) None p q e f g h = cc
  widen_grows ts n m (Some us) (Some bs) p q e f g h =
      rw (L.parts_told (widened_all D ts (D.parts us) (all_best D (D.parts bs))))
      (lists.widened_fewer D L ts (D.parts us) (all_best D (D.parts bs)) (second_best n m us bs p q e) p.1.2 (lists.own_best D L (D.parts bs) q.1.2) h)

  steps_few : (ts : List ℤ) (n : ℕ) (c : Option (List ℤ)) → IsLeaf D (at n c) → leaf_steps_left D ts (at n c) ≤ D.bound_count * n * (length ts + 1)
  steps_few ts n None p = omega arith
  steps_few ts n (Some us) p = rw p.1.1 (lists.steps_few D L ts (D.parts us) p.1.2)

  -- ---- narrow
  narrow_answers : (ts : List ℤ) (n m : ℕ) (c d : Option (List ℤ)) → IsLeaf D (at n c) → IsLeaf D (at m d) → n ≡ m → IsLeafLike (lifted D) (at n c) (narrowed_leaf D ts (at n c) (at m d))
  narrow_answers ts n m None d p q e = record { valid = p; same = refl }
  narrow_answers ts n m (Some us) None p q e = record { valid = q; same = sym e }
  narrow_answers ts n m (Some us) (Some bs) p q e = settled_answers (narrowed_all D ts (D.parts us) (all_best D (D.parts bs))) l (lists.narrowed_own D L ts (D.parts us) (all_best D (D.parts bs)) p.1.2 (lists.own_best D L (D.parts bs) q.1.2))
    where
      l : n ≡ length (narrowed_all D ts (D.parts us) (all_best D (D.parts bs)))
      l = p.1.1 ∙ sym (length_zipped (D.narrow ts) (D.parts us) (all_best D (D.parts bs)) (second_best n m us bs p q e))

      settled_answers : (ps : List P) → n ≡ length ps → (list_any D.is_bare ps ≡ false → AllOwn D ps) → IsLeafLike (lifted D) (at n (Some us)) (settled D ps)
      settled_answers ps k own = by_test (list_any D.is_bare ps) refl
        where
          by_test : (t : Bool) → list_any D.is_bare ps ≡ t → IsLeafLike (lifted D) (at n (Some us)) (if t then nothing_of (length ps) else leaf_of D ps)
          by_test true f = nothing_answers n (length ps) (Some us) p.0 k
          by_test false f = made_answers n (Some us) ps p.0 k (own f)

  settled_holds : (ps : List P) (s : List ℤ) → AllHave D ps s → leaf_holds D (settled D ps) s
  settled_holds ps s h = rw (lists.none_bare D L ps s h) (made_holds ps s h)

  narrow_holds : (ts : List ℤ) (n m : ℕ) (c d : Option (List ℤ)) (s : List ℤ) → IsLeaf D (at n c) → IsLeaf D (at m d) → n ≡ m → leaf_leq D (at m d) (at n c) ≡ true → ContentHolds D d s → leaf_holds D (narrowed_leaf D ts (at n c) (at m d)) s
  narrow_holds ts n m c None s p q e f h = absurd h
  narrow_holds ts n m None (Some bs) s p q e f h = cc
  narrow_holds ts n m (Some us) (Some bs) s p q e f h =
      settled_holds _ s (lists.narrowed_have D L ts (D.parts us) (all_best D (D.parts bs)) s (second_best n m us bs p q e) f (lists.best_have D L (D.parts bs) s h))

  -- ---- one variable
  with_answers : (n : ℕ) (c : Option (List ℤ)) (x : ℕ) (p : P) → IsLeaf D (at n c) → (AllOwn D (parts_in D c) → D.is_bare p ≡ false → D.own (best_part D p)) → IsLeafLike (lifted D) (at n c) (leaf_with D (at n c) x p)
  with_answers n None x p v k = record { valid = v; same = refl }
  with_answers n (Some us) x p v k = by_test (D.is_bare p) refl
    where
      by_test : (t : Bool) → D.is_bare p ≡ t → IsLeafLike (lifted D) (at n (Some us)) (if t then nothing_of n else leaf_of D (all_best D (slice_set (D.parts us) x p)))
      by_test true e = nothing_answers n n (Some us) v.0 refl
      by_test false e =
          made_answers n (Some us) (all_best D (slice_set (D.parts us) x p)) v.0
          (v.1.1 ∙ sym (length_replaced (D.parts us) x p) ∙ sym (lists.length_best D L (slice_set (D.parts us) x p)))
          (lists.own_best_set D L (D.parts us) x p v.1.2 (k v.1.2 e))

  with_holds : (n : ℕ) (us : List ℤ) (x : ℕ) (p : P) (s : List ℤ) (k : ℤ) → D.has p k → AllHave D (slice_set (D.parts us) x p) s → leaf_holds D (leaf_with D (at n (Some us)) x p) s
  with_holds n us x p s k w h = rw (L.has_not_bare p k w) (made_holds (all_best D (slice_set (D.parts us) x p)) s (lists.best_have D L (slice_set (D.parts us) x p) s h))

  set_holds : (n : ℕ) (c : Option (List ℤ)) (x : ℕ) (p : P) (s : List ℤ) (k : ℤ) → ContentHolds D c s → D.has p k → leaf_holds D (leaf_with D (at n c) x p) (slice_set s x k)
  set_holds n None x p s k h w = absurd h
  set_holds n (Some us) x p s k h w = with_holds n us x p (slice_set s x k) k w (held_set D.has (D.parts us) s x p k h w)

  form_holds : (n : ℕ) (c : Option (List ℤ)) (x : ℕ) (f : Form) (r : Range) (s : List ℤ) → IsLeaf D (at n c) → IsForm n f → ContentHolds D c s → Within (form_at f s) r → leaf_holds D (form_leaf D (at n c) x f r) (slice_set s x (form_at f s))
  form_holds n None x f r s p g h w = absurd h
  form_holds n (Some us) x f r s p g h w =
      let e : n ≡ length (all_best D (D.parts us)) = p.1.1 ∙ sym (lists.length_best D L (D.parts us)) in
      set_holds n (Some us) x (D.of_form (all_best D (D.parts us)) f r) s (form_at f s) h
      (L.form_has (all_best D (D.parts us)) f r s (subst (λ m. IsForm m f) e g) (lists.best_have D L (D.parts us) s h) w)

  meet_answers : (n : ℕ) (c : Option (List ℤ)) (x : ℕ) (r : Range) → IsLeaf D (at n c) → x < n → IsInInt r → IsLeafLike (lifted D) (at n c) (met_leaf D (at n c) x r)
  meet_answers n None x r p l i = record { valid = p; same = refl }
  meet_answers n (Some us) x r p l i =
      with_answers n (Some us) x (D.meet_range (part_at D (D.parts us) x) r) p
      (λ o. L.meet_own (part_at D (D.parts us) x) r (lists.part_own D L (D.parts us) x (below_of x n (length (D.parts us)) l p.1.1) o) i)

  meet_holds : (n : ℕ) (c : Option (List ℤ)) (x : ℕ) (r : Range) (s : List ℤ) → IsLeaf D (at n c) → x < n → ContentHolds D c s → Within (slice_index_or s x (pos 0)) r → leaf_holds D (met_leaf D (at n c) x r) s
  meet_holds n None x r s p l h w = absurd h
  meet_holds n (Some us) x r s p l h w =
      let k : D.has (D.meet_range (part_at D (D.parts us) x) r) (slice_index_or s x (pos 0)) =
      L.meet_has (part_at D (D.parts us) x) r (slice_index_or s x (pos 0)) (held_read D.has D.bare (D.parts us) s x (below_of x n (length (D.parts us)) l p.1.1) h) w in
      with_holds n us x (D.meet_range (part_at D (D.parts us) x) r) s (slice_index_or s x (pos 0)) k (held_part D.has (D.parts us) s x _ h k)

  best_below : (n x : ℕ) (us : List ℤ) → IsLeaf D (at n (Some us)) → x < n → x < length (all_best D (D.parts us))
  best_below n x us p l = below_of x n (length (all_best D (D.parts us))) l (p.1.1 ∙ sym (lists.length_best D L (D.parts us)))

  -- Nothing has no part
  none_at : (x : ℕ) → part_at D (all_best D []) x ≡ D.bare
  none_at x = by_reduction D.reduction
    where
      by_reduction : (o : Option (P → P)) → part_at D (all_reduced_by o []) x ≡ D.bare
      by_reduction None = refl
      by_reduction (Some f) = refl

  bounds_in_int : (n : ℕ) (c : Option (List ℤ)) (x : ℕ) → IsLeaf D (at n c) → x < n → IsInInt (bounds_at D (at n c) x)
  bounds_in_int n None x p l = subst (λ q. IsInInt (D.range q)) (sym (none_at x)) L.bare_in_int
  bounds_in_int n (Some us) x p l =
      L.range_in_int (part_at D (all_best D (D.parts us)) x) (lists.part_own D L (all_best D (D.parts us)) x (best_below n x us p l) (lists.own_best D L (D.parts us) p.1.2))

  bounds_hold : (n : ℕ) (c : Option (List ℤ)) (x : ℕ) (s : List ℤ) → IsLeaf D (at n c) → x < n → ContentHolds D c s → Within (slice_index_or s x (pos 0)) (bounds_at D (at n c) x)
  bounds_hold n None x s p l h = absurd h
  bounds_hold n (Some us) x s p l h =
      L.range_has (part_at D (all_best D (D.parts us)) x) (slice_index_or s x (pos 0)) (held_read D.has D.bare (all_best D (D.parts us)) s x (best_below n x us p l) (lists.best_have D L (D.parts us) s h))

  pub some_holds : (n : ℕ) (c : Option (List ℤ)) → IsLeaf D (at n c) → is_nothing_of (at n c) ≡ false → (s : List ℤ) × ContentHolds D c s
  some_holds n None p e = cc
  some_holds n (Some us) p e = lists.some_store D L (D.parts us) p.1.2

  bounds_some : (n : ℕ) (c : Option (List ℤ)) (x : ℕ) → IsLeaf D (at n c) → x < n → is_nothing_of (at n c) ≡ false → is_empty_range (bounds_at D (at n c) x) ≡ false
  bounds_some n c x p l e = let (s, h) = some_holds n c p e in not_empty (slice_index_or s x (pos 0)) (bounds_at D (at n c) x) (bounds_hold n c x s p l h)

  holds_length : (n : ℕ) (c : Option (List ℤ)) (s : List ℤ) → IsLeaf D (at n c) → ContentHolds D c s → length s ≡ n
  holds_length n None s p h = absurd h
  holds_length n (Some us) s p h = held_length D.has (D.parts us) s h ∙ sym p.1.1

  pub lifted_laws : LeafLaws (lifted D)
  lifted_laws = record {
    valid_few = λ a p. p.0;
    start_valid = λ s l h. lists.is_leaf D L (map D.point s) (rw (length-map s D.point) l) (lists.own_points D L s h);
    start_variables = λ s. length-map s D.point;
    start_holds = start_holds;
    nothing_valid = λ n l. (l, tt);
    nothing_holds = λ n s h. h;
    holds_length = λ a. holds_length a.variables a.content;
    best_answers = λ a. best_answers a.variables a.content;
    best_holds = λ a s p. best_holds a.variables a.content s;
    best_nothing = λ n. ap is_nothing_of (best_nothing n);
    leq_holds = λ a b s k. leq_holds a.variables b.variables a.content b.content s k.first k.second k.same;
    nothing_leq = λ n a. refl;
    leq_nothing = λ n a. leq_nothing a.variables n a.content;
    join_answers = λ a b k. join_answers a.variables b.variables a.content b.content k.first k.second k.same;
    join_holds = λ a b s k. join_holds a.variables b.variables a.content b.content s k.first k.second k.same;
    join_some = λ a b k. join_some a.variables b.variables a.content b.content;
    join_nothing = λ a. refl;
    nothing_join = λ a. nothing_join a.variables a.content;
    widen_answers = λ ts a b k. widen_answers ts a.variables b.variables a.content b.content k.first k.second k.same;
    widen_holds = λ ts a b s k. widen_holds ts a.variables b.variables a.content b.content s k.first k.second k.same;
    widen_some = λ ts a b k. widen_some ts a.variables b.variables a.content b.content;
    widen_grows = λ ts a b k. widen_grows ts a.variables b.variables a.content b.content k.first k.second k.same;
    steps_few = λ ts a p. steps_few ts a.variables a.content p;
    narrow_answers = λ ts a b k. narrow_answers ts a.variables b.variables a.content b.content k.first k.second k.same;
    narrow_holds = λ ts a b s k. narrow_holds ts a.variables b.variables a.content b.content s k.first k.second k.same;
    narrow_nothing = λ ts n a. refl;
    bounds_in_int = λ a x. bounds_in_int a.variables a.content x;
    bounds_hold = λ a x s. bounds_hold a.variables a.content x s;
    bounds_some = λ a x. bounds_some a.variables a.content x;
    bounds_nothing = λ n x. subst (λ q. is_empty_range (D.range q) ≡ true) (sym (none_at x)) L.bare_is_empty;
    step_holds = λ a x s p l h. one_step (bounds_at D a x).low (at_store s x);
    form_holds = λ a f r s p g h e. no_range r (Within (form_at f s) r) e;
    form_nothing = λ n f r e. no_range r (is_empty_range r ≡ true) e;
    meet_answers = λ a x r p l h. meet_answers a.variables a.content x r p l h;
    meet_holds = λ a x r s p l h. meet_holds a.variables a.content x r s p l;
    meet_nothing = λ n x r. refl;
    meet_form_answers = λ a f op p g. best_answers a.variables a.content p;
    meet_form_holds = λ a f op s p g h e. (best_holds a.variables a.content s).1 h;
    meet_form_nothing = λ n f op. best_nothing n;
    set_answers = λ a x r p l h. with_answers a.variables a.content x (D.of_range r) p (λ o. L.range_own r h);
    set_holds = λ a x r s n p l h k w. set_holds a.variables a.content x (D.of_range r) s n k (L.in_range r n w);
    set_nothing = λ n x r. refl;
    set_form_answers = λ a x f r p l g h. with_answers a.variables a.content x (D.of_form (all_best D (parts_in D a.content)) f r) p (λ o. L.form_own (all_best D (parts_in D a.content)) f r h);
    set_form_holds = λ a x f r s p l g h. form_holds a.variables a.content x f r s p g;
    set_form_nothing = λ n x f r. refl;
    operation_holds = λ a p r s n h o w g e. no_range r (Within n r) e;
    meet_operation_answers = λ a p op r h o i. record { valid = h; same = refl };
    meet_operation_holds = λ a p op r s n m h o i w g k e. w;
    meet_operation_nothing = λ n p op r. refl;
    set_operation_answers = λ a x p r h l o i. with_answers a.variables a.content x (D.of_range r) h (λ q. L.range_own r i);
    set_operation_holds = λ a x p r s n h l o i k g w. set_holds a.variables a.content x (D.of_range r) s n k (L.in_range r n w);
    set_operation_nothing = λ n x p r. refl;
  }
