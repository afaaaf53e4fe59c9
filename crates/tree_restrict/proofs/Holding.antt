-- Where one of the trees is true that a test leads on to.
use Rattle.std.proofs.Common.{◌≡◌, ◌⊎◌, ◌↔◌, ℕ, ◌+◌, ◌<◌, ◌≤◌, Bool, true, false, cond, ◌&&◌, ◌==◌, nat_lt, List, [], ◌∷◌, ◌++◌, refl, sym, ◌∙◌, ap, subst, inl, inr, arith, true≢false}
use Rattle.std.proofs.lemmas.Bool.{cases_order}
use Rattle.std.proofs.lemmas.Bool.Decides.{nat_tests, eqb_tells}
use Rattle.decision_tree.specs.Plain.{Plain, leaf, node, IsReducedFrom}
use Rattle.decision_tree.proofs.Assigned.{put, value_at, value_at-put, side_at}
use Rattle.tree_restrict.specs.Restricted.{is_false, never, after, afters}

-- one of the trees is true at f
abbrev pub Holds : List (Plain Bool) → (ℕ → Bool) → Type 0
Holds [] f = ⊥
Holds (c ∷ cs) f = (value_at c f ≡ true) ⊎ Holds cs f

-- lists of trees of which one is true at the same assignments
abbrev pub Alike : List (Plain Bool) → List (Plain Bool) → Type 0
Alike cs ds = (f : ℕ → Bool) → (Holds cs f ↔ Holds ds f)

pub of_test : (j k : ℕ) → (j == k) ≡ true → j ≡ k
of_test j k e = elim (eqb_tells j k) [ inl h ↦ h.1 | inr h ↦ absurd (true≢false (sym e ∙ h.0)) ]

below_is : (j k : ℕ) → j < k → nat_lt j k ≡ true
below_is j k h = grind (arith, nat_tests)

not_below : (j k : ℕ) → k ≤ j → nat_lt j k ≡ false
not_below j k h = grind (arith, nat_tests)

same_is : (j k : ℕ) → j ≡ k → (j == k) ≡ true
same_is j k h = grind (arith, nat_tests)

other_is : (j k : ℕ) → k < j → (j == k) ≡ false
other_is j k h = grind (arith, nat_tests)

-- the three cases of a test
pub after_below : (k j : ℕ) (b : Bool) (p q : Plain Bool) → j < k → after k b (node j p q) ≡ after k b p ++ after k b q
after_below k j b p q h = ap (λ c. cond c (after k b p ++ after k b q) (cond (j == k) (cond b q p ∷ []) (node j p q ∷ []))) (below_is j k h)

pub after_same : (k j : ℕ) (b : Bool) (p q : Plain Bool) → j ≡ k → after k b (node j p q) ≡ cond b q p ∷ []
after_same k j b p q h =
    ap (λ c. cond c (after k b p ++ after k b q) (cond (j == k) (cond b q p ∷ []) (node j p q ∷ []))) (not_below j k (omega arith))
    ∙ ap (λ c. cond c (cond b q p ∷ []) (node j p q ∷ [])) (same_is j k h)

pub after_above : (k j : ℕ) (b : Bool) (p q : Plain Bool) → k < j → after k b (node j p q) ≡ node j p q ∷ []
after_above k j b p q h =
    ap (λ c. cond c (after k b p ++ after k b q) (cond (j == k) (cond b q p ∷ []) (node j p q ∷ []))) (not_below j k (omega arith))
    ∙ ap (λ c. cond c (cond b q p ∷ []) (node j p q ∷ [])) (other_is j k h)

pub holds_left : (cs ds : List (Plain Bool)) (f : ℕ → Bool) → Holds cs f → Holds (cs ++ ds) f
holds_left [] ds f h = absurd h
holds_left (c ∷ cs) ds f (inl e) = inl e
holds_left (c ∷ cs) ds f (inr h) = inr (holds_left cs ds f h)

pub holds_right : (cs ds : List (Plain Bool)) (f : ℕ → Bool) → Holds ds f → Holds (cs ++ ds) f
holds_right [] ds f h = h
holds_right (c ∷ cs) ds f h = inr (holds_right cs ds f h)

pub holds_parted : (cs ds : List (Plain Bool)) (f : ℕ → Bool) → Holds (cs ++ ds) f → Holds cs f ⊎ Holds ds f
holds_parted [] ds f h = inr h
holds_parted (c ∷ cs) ds f (inl e) = inl (inl e)
holds_parted (c ∷ cs) ds f (inr h) = elim (holds_parted cs ds f h) [ inl a ↦ inl (inr a) | inr b ↦ inr b ]

-- of two values the chosen one is true
one_true : (b x y : Bool) → cond b x y ≡ true → (y ≡ true) ⊎ (x ≡ true)
one_true true x y e = inr e
one_true false x y e = inl e

pub true_child : (j : ℕ) (p q : Plain Bool) (f : ℕ → Bool) → value_at (node j p q) f ≡ true → (value_at p f ≡ true) ⊎ (value_at q f ≡ true)
true_child j p q f e = one_true (f j) (value_at q f) (value_at p f) e

-- the side that the test's value leads to
chosen_at : (b : Bool) (p q : Plain Bool) (f : ℕ → Bool) → cond b (value_at q f) (value_at p f) ≡ value_at (cond b q p) f
chosen_at true p q f = refl
chosen_at false p q f = refl

-- at f itself
pub after_here : (k : ℕ) (c : Plain Bool) (f : ℕ → Bool) → value_at c f ≡ true → Holds (after k (f k) c) f
after_here k (leaf x) f e = inl e
after_here k (node j p q) f e =
    elim (cases_order j k) [
      | inl same ↦ subst (λ cs. Holds cs f) (sym (after_same k j (f k) p q same))
          (inl (sym (chosen_at (f k) p q f) ∙ (ap (λ i. cond (f i) (value_at q f) (value_at p f)) (sym same) ∙ e)))
      | inr (inl less) ↦ subst (λ cs. Holds cs f) (sym (after_below k j (f k) p q less)) (elim (true_child j p q f e) [
        | inl a ↦ holds_left (after k (f k) p) (after k (f k) q) f (after_here k p f a)
        | inr b ↦ holds_right (after k (f k) p) (after k (f k) q) f (after_here k q f b)
      ])
      | inr (inr more) ↦ subst (λ cs. Holds cs f) (sym (after_above k j (f k) p q more)) (inl e)
    ]

pub afters_here : (k : ℕ) (cs : List (Plain Bool)) (f : ℕ → Bool) → Holds cs f → Holds (afters k (f k) cs) f
afters_here k [] f h = absurd h
afters_here k (c ∷ cs) f (inl e) = holds_left (after k (f k) c) (afters k (f k) cs) f (after_here k c f e)
afters_here k (c ∷ cs) f (inr h) = holds_right (after k (f k) c) (afters k (f k) cs) f (afters_here k cs f h)

-- the two agree on all tests from m on
abbrev pub AgreeFrom : ℕ → (ℕ → Bool) → (ℕ → Bool) → Type 0
AgreeFrom m f g = (j : ℕ) → m ≤ j → f j ≡ g j

-- each tree is reduced from m on
abbrev pub AllFrom : ℕ → List (Plain Bool) → Type 0
AllFrom m [] = Unit {0}
AllFrom m (c ∷ cs) = IsReducedFrom m c × AllFrom m cs

pub all_joined : (m : ℕ) (cs ds : List (Plain Bool)) → AllFrom m cs → AllFrom m ds → AllFrom m (cs ++ ds)
all_joined m [] ds h i = i
all_joined m (c ∷ cs) ds h i = (h.0, all_joined m cs ds h.1 i)

pub cond_same : {A : Type 0} (b c : Bool) (x y p q : A) → b ≡ c → x ≡ p → y ≡ q → cond b x y ≡ cond c p q
cond_same b c x y p q e f g = cc

same_value : (c : Plain Bool) (m : ℕ) (f g : ℕ → Bool) → AgreeFrom m f g → IsReducedFrom m c → value_at c f ≡ value_at c g
same_value (leaf x) m f g a r = refl
same_value (node j p q) m f g a r =
    cond_same (f j) (g j) _ _ _ _ (a j r.0)
    (same_value q (j + 1) f g (λ i h. a i (omega (arith, r.0))) r.3)
    (same_value p (j + 1) f g (λ i h. a i (omega (arith, r.0))) r.2)

pub holds_same : (cs : List (Plain Bool)) (m : ℕ) (f g : ℕ → Bool) → AgreeFrom m f g → AllFrom m cs → Holds cs f → Holds cs g
holds_same [] m f g a r h = h
holds_same (c ∷ cs) m f g a r (inl e) = inl (sym (same_value c m f g a r.0) ∙ e)
holds_same (c ∷ cs) m f g a r (inr h) = inr (holds_same cs m f g a r.1 h)

-- what a test leads on to has greater tests alone
chosen_from : (m : ℕ) (b : Bool) (p q : Plain Bool) → IsReducedFrom m p → IsReducedFrom m q → IsReducedFrom m (cond b q p)
chosen_from m true p q r s = s
chosen_from m false p q r s = r

pub after_reduced : (k : ℕ) (b : Bool) (c : Plain Bool) (m : ℕ) → IsReducedFrom m c → AllFrom (k + 1) (after k b c)
after_reduced k b (leaf x) m r = (tt, tt)
after_reduced k b (node j p q) m r =
    elim (cases_order j k) [
      | inl same ↦ subst (AllFrom (k + 1)) (sym (after_same k j b p q same)) (subst (λ i. IsReducedFrom (i + 1) (cond b q p)) same (chosen_from (j + 1) b p q r.2 r.3), tt)
      | inr (inl less) ↦ subst (AllFrom (k + 1)) (sym (after_below k j b p q less)) (all_joined (k + 1) (after k b p) (after k b q) (after_reduced k b p (j + 1) r.2) (after_reduced k b q (j + 1) r.3))
      | inr (inr more) ↦ subst (AllFrom (k + 1)) (sym (after_above k j b p q more)) ((omega arith, r.1, r.2, r.3), tt)
    ]

pub afters_reduced : (k : ℕ) (b : Bool) (cs : List (Plain Bool)) (m : ℕ) → AllFrom m cs → AllFrom (k + 1) (afters k b cs)
afters_reduced k b [] m r = tt
afters_reduced k b (c ∷ cs) m r = all_joined (k + 1) (after k b c) (afters k b cs) (after_reduced k b c m r.0) (afters_reduced k b cs m r.1)

put-same : (f : ℕ → Bool) (k : ℕ) (b : Bool) → put f k b k ≡ b
put-same f k b = grind (arith, nat_tests)

put-other : (f : ℕ → Bool) (k j : ℕ) (b : Bool) → k < j → put f k b j ≡ f j
put-other f k j b h = grind (arith, nat_tests)

put-from : (f : ℕ → Bool) (k m : ℕ) (b : Bool) → k < m → AgreeFrom m (put f k b) f
put-from f k m b h j i = put-other f k j b (omega arith)

-- some assignment with b at k, that goes on as f does, makes c true
pub record IsMet (k : ℕ) (b : Bool) (C : (ℕ → Bool) → Type 0) (f : ℕ → Bool) : Type 0 where
  pub met : ℕ → Bool
  pub goes_on : AgreeFrom (k + 1) met f
  pub there : met k ≡ b
  pub holds : C met

abbrev IsTrueAt : Plain Bool → (ℕ → Bool) → Type 0
IsTrueAt c f = value_at c f ≡ true

with_test : (k j : ℕ) (b v : Bool) (p q : Plain Bool) (f : ℕ → Bool) → j < k → IsReducedFrom (j + 1) p → IsReducedFrom (j + 1) q → IsMet k b (IsTrueAt (cond v q p)) f → IsMet k b (IsTrueAt (node j p q)) f
with_test k j b v p q f less r s h = record {
  met = put h.met j v;
  goes_on = λ i g. put-other h.met j i v (omega arith) ∙ h.goes_on i g;
  there = put-other h.met j k v less ∙ h.there;
  holds = side_at j p q h.met v r s ∙ h.holds;
}

after_met : (k : ℕ) (b : Bool) (c : Plain Bool) (f : ℕ → Bool) (m : ℕ) → IsReducedFrom m c → Holds (after k b c) f → IsMet k b (IsTrueAt c) f
after_met k b (leaf x) f m r h =
    record { met = put f k b; goes_on = put-from f k (k + 1) b (omega arith); there = put-same f k b; holds = elim h [ inl e ↦ e | inr n ↦ absurd n ] }
after_met k b (node j p q) f m r h =
    elim (cases_order j k) [
      | inl same ↦
          let e : value_at (cond b q p) f ≡ true = elim (subst (λ cs. Holds cs f) (after_same k j b p q same) h) [ inl e ↦ e | inr n ↦ absurd n ] in
          record {
            met = put f j b;
            goes_on = put-from f j (k + 1) b (omega arith);
            there = ap (λ i. put f j b i) (sym same) ∙ put-same f j b;
            holds = side_at j p q f b r.2 r.3 ∙ e;
          }
      | inr (inl less) ↦ elim (holds_parted (after k b p) (after k b q) f (subst (λ cs. Holds cs f) (after_below k j b p q less) h)) [
        | inl x ↦ with_test k j b false p q f less r.2 r.3 (after_met k b p f (j + 1) r.2 x)
        | inr y ↦ with_test k j b true p q f less r.2 r.3 (after_met k b q f (j + 1) r.3 y)
      ]
      | inr (inr more) ↦
          let e : value_at (node j p q) f ≡ true = elim (subst (λ cs. Holds cs f) (after_above k j b p q more) h) [ inl e ↦ e | inr n ↦ absurd n ] in
          record {
            met = put f k b;
            goes_on = put-from f k (k + 1) b (omega arith);
            there = put-same f k b;
            holds = value_at-put (node j p q) (k + 1) k b f (omega arith) (omega arith, r.1, r.2, r.3) ∙ e;
          }
    ]

pub afters_met : (k : ℕ) (b : Bool) (cs : List (Plain Bool)) (f : ℕ → Bool) (m : ℕ) → AllFrom m cs → Holds (afters k b cs) f → IsMet k b (Holds cs) f
afters_met k b [] f m r h = absurd h
afters_met k b (c ∷ cs) f m r h =
    elim (holds_parted (after k b c) (afters k b cs) f h) [
      | inl x ↦ let w = after_met k b c f m r.0 x in record { met = w.met; goes_on = w.goes_on; there = w.there; holds = inl w.holds }
      | inr y ↦ let w = afters_met k b cs f m r.1 y in record { met = w.met; goes_on = w.goes_on; there = w.there; holds = inr w.holds }
    ]

pub afters_from : (k : ℕ) (b : Bool) (cs : List (Plain Bool)) (f : ℕ → Bool) (m : ℕ) → AllFrom m cs → IsMet k b (Holds cs) f → Holds (afters k b cs) f
afters_from k b cs f m r w =
    holds_same (afters k b cs) (k + 1) w.met f w.goes_on (afters_reduced k b cs m r)
    (subst (λ v. Holds (afters k v cs) w.met) w.there (afters_here k cs w.met w.holds))

moved : (k : ℕ) (b : Bool) (C D : (ℕ → Bool) → Type 0) (f : ℕ → Bool) → ((g : ℕ → Bool) → C g → D g) → IsMet k b C f → IsMet k b D f
moved k b C D f t w = record { met = w.met; goes_on = w.goes_on; there = w.there; holds = t w.met w.holds }

pub afters_alike : (k : ℕ) (b : Bool) (cs ds : List (Plain Bool)) (m n : ℕ) → AllFrom m cs → AllFrom n ds → Alike cs ds → Alike (afters k b cs) (afters k b ds)
afters_alike k b cs ds m n r s a f = (
  λ h. afters_from k b ds f n s (moved k b (Holds cs) (Holds ds) f (λ g. (a g).0) (afters_met k b cs f m r h)),
  λ h. afters_from k b cs f m r (moved k b (Holds ds) (Holds cs) f (λ g. (a g).1) (afters_met k b ds f n s h)),
)

-- a tree that is false everywhere, and one that is not
pub false_tree : (c : Plain Bool) → is_false c ≡ true → c ≡ leaf false
false_tree (leaf true) e = absurd (true≢false (sym e))
false_tree (leaf false) e = refl
false_tree (node j p q) e = absurd (true≢false (sym e))

pub record IsSomewhere (C : (ℕ → Bool) → Type 0) : Type 0 where
  pub place : ℕ → Bool
  pub holds : C place

pub true_somewhere : (c : Plain Bool) (m : ℕ) → IsReducedFrom m c → is_false c ≡ false → IsSomewhere (IsTrueAt c)
true_somewhere (leaf true) m r e = record { place = λ _. false; holds = refl }
true_somewhere (leaf false) m r e = absurd (true≢false e)
true_somewhere (node j p q) m r e =
    by (is_false p) (is_false q) refl refl (true_somewhere p (j + 1) r.2) (true_somewhere q (j + 1) r.3)
  where
    by : (a b : Bool) → is_false p ≡ a → is_false q ≡ b → (is_false p ≡ false → IsSomewhere (IsTrueAt p)) → (is_false q ≡ false → IsSomewhere (IsTrueAt q)) → IsSomewhere (IsTrueAt (node j p q))
    by false b x y low high = let w = low x in record { place = put w.place j false; holds = side_at j p q w.place false r.2 r.3 ∙ w.holds }
    by true false x y low high = let w = high y in record { place = put w.place j true; holds = side_at j p q w.place true r.2 r.3 ∙ w.holds }
    by true true x y low high = absurd (r.1 (false_tree p x ∙ sym (false_tree q y)))

pub left_of : (x y : Bool) → (x && y) ≡ true → x ≡ true
left_of true y e = refl
left_of false y e = cc

pub right_of : (x y : Bool) → (x && y) ≡ true → y ≡ true
right_of true y e = e
right_of false y e = cc

pub never_holds : (cs : List (Plain Bool)) (f : ℕ → Bool) → never cs ≡ true → Holds cs f → ⊥
never_holds [] f e h = h
never_holds (c ∷ cs) f e (inl x) = true≢false (sym x ∙ ap (λ d. value_at d f) (false_tree c (left_of (is_false c) (never cs) e)))
never_holds (c ∷ cs) f e (inr h) = never_holds cs f (right_of (is_false c) (never cs) e) h

pub holds_somewhere : (cs : List (Plain Bool)) (m : ℕ) → AllFrom m cs → never cs ≡ false → IsSomewhere (Holds cs)
holds_somewhere [] m r e = absurd (true≢false e)
holds_somewhere (c ∷ cs) m r e = by (is_false c) refl e (holds_somewhere cs m r.1)
  where
    by : (a : Bool) → is_false c ≡ a → (a && never cs) ≡ false → (never cs ≡ false → IsSomewhere (Holds cs)) → IsSomewhere (Holds (c ∷ cs))
    by false x y rest = let w = true_somewhere c m r.0 x in record { place = w.place; holds = inl w.holds }
    by true x y rest = let w = rest y in record { place = w.place; holds = inr w.holds }

pub never_alike : (cs ds : List (Plain Bool)) (m n : ℕ) → AllFrom m cs → AllFrom n ds → Alike cs ds → never cs ≡ never ds
never_alike cs ds m n r s a = by (never cs) (never ds) refl refl
  where
    by : (x y : Bool) → never cs ≡ x → never ds ≡ y → never cs ≡ never ds
    by true true e g = e ∙ sym g
    by false false e g = e ∙ sym g
    by true false e g = let w = holds_somewhere ds n s g in absurd (never_holds cs w.place e ((a w.place).1 w.holds))
    by false true e g = let w = holds_somewhere cs m r e in absurd (never_holds ds w.place g ((a w.place).0 w.holds))
