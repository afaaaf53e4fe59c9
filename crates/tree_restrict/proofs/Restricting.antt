-- Laws of restricted trees.
use Rattle.std.proofs.Common.{◌≡◌, ◌≢◌, ℕ, ◌+◌, ◌<◌, ◌≤◌, Bool, true, false, cond, ◌&&◌, ◌==◌, slice_index_or, List, [], ◌∷◌, ◌++◌, refl, sym, ◌∙◌, ap, subst, inl, inr, arith, true≢false, append_assoc}
use Rattle.std.proofs.lemmas.Bool.{cases_order}
use Rattle.std.proofs.lemmas.Bool.Decides.{nat_tests}
use Rattle.decision_tree.specs.Plain.{Plain, leaf, node, leaf_of, HasTest, IsExact, IsReducedFrom, IsReduced}
use Rattle.decision_tree.proofs.Assigned.{value_at}
use Rattle.decision_tree.proofs.Reduced.{lower_bound, reduced_from}
use Rattle.tree_restrict.specs.Restricted.{is_false, never, after, afters, same, joined, sides_left, restricted_by, restricted}
use Rattle.tree_unify.specs.Sides.{side_of}
use Rattle.tree_restrict.proofs.Holding.{Holds, Alike, of_test, cond_same, AllFrom, after_below, after_same, after_above, afters_here, afters_reduced, afters_alike, never_alike, never_holds, false_tree, true_somewhere, true_child}

all_true : (x y z : Bool) → x ≡ true → y ≡ true → z ≡ true → (x && (y && z)) ≡ true
all_true x y z e f g = cc

first_true : (x y z : Bool) → (x && (y && z)) ≡ true → x ≡ true
first_true true y z e = refl
first_true false y z e = cc

second_true : (x y z : Bool) → (x && (y && z)) ≡ true → y ≡ true
second_true true true z e = refl
second_true true false z e = cc
second_true false y z e = cc

third_true : (x y z : Bool) → (x && (y && z)) ≡ true → z ≡ true
third_true true true z e = e
third_true true false z e = cc
third_true false y z e = cc

test_is : (j : ℕ) → (j == j) ≡ true
test_is j = grind (arith, nat_tests)

and_true : (x : Bool) → (x && true) ≡ x
and_true true = refl
and_true false = refl

-- the sides of c at a test that is not above its own
pub record HasSides (k : ℕ) (c no yes : Plain Bool) : Type 0 where
  pub no_after : after k false c ≡ no ∷ []
  pub yes_after : after k true c ≡ yes ∷ []
  pub some : is_false no ≡ true → is_false yes ≡ true → ⊥

pub has_sides : (c : Plain Bool) (k j : ℕ) (p q : Plain Bool) → c ≡ node j p q → k ≤ j → IsReduced c → HasSides k c (side_of k false c) (side_of k true c)
has_sides c k j p q e h r =
    let s : IsReduced (node j p q) = subst IsReduced e r in
    subst (λ d. HasSides k d (side_of k false d) (side_of k true d)) (sym e) (elim (cases_order j k) [
      | inl same ↦
          let test : (j == k) ≡ true = grind (arith, nat_tests) in
          record {
            no_after = after_same k j false p q same ∙ sym (ap (λ b. cond b p (node j p q) ∷ []) test);
            yes_after = after_same k j true p q same ∙ sym (ap (λ b. cond b q (node j p q) ∷ []) test);
            some = λ x y. s.1 (false_tree p (sym (ap (λ b. is_false (cond b p (node j p q))) test) ∙ x) ∙ sym (false_tree q (sym (ap (λ b. is_false (cond b q (node j p q))) test) ∙ y)));
          }
      | inr (inl less) ↦ absurd (omega arith)
      | inr (inr more) ↦
          let test : (j == k) ≡ false = grind (arith, nat_tests) in
          record {
            no_after = after_above k j false p q more ∙ sym (ap (λ b. cond b p (node j p q) ∷ []) test);
            yes_after = after_above k j true p q more ∙ sym (ap (λ b. cond b q (node j p q) ∷ []) test);
            some = λ x y. true≢false (sym x ∙ ap (λ b. is_false (cond b p (node j p q))) test);
          }
    ])

-- the leaf that a vector leads to
read : {A : Type 0} (t : Plain A) (v : List Bool) → leaf_of t v ≡ value_at t (λ k. slice_index_or v k false)
read (leaf x) v = refl
read (node k l h) v = cond_same (slice_index_or v k false) (slice_index_or v k false) _ _ _ _ refl (read h v) (read l v)

module _ {L : Type 0} (eq : L → L → Bool) where
  pub same_exact : IsExact eq → (t u : Plain L) → same eq t u ≡ true → t ≡ u
  same_exact x (leaf a) (leaf b) e = ap leaf (x a b e)
  same_exact x (leaf a) (node k p q) e = absurd (true≢false (sym e))
  same_exact x (node j l h) (leaf b) e = absurd (true≢false (sym e))
  same_exact x (node j l h) (node k p q) e =
      let test : j ≡ k = of_test j k (first_true (j == k) (same eq l p) (same eq h q) e) in
      let low : l ≡ p = same_exact x l p (second_true (j == k) (same eq l p) (same eq h q) e) in
      let high : h ≡ q = same_exact x h q (third_true (j == k) (same eq l p) (same eq h q) e) in
      cc

  pub same_self : ((a : L) → eq a a ≡ true) → (t : Plain L) → same eq t t ≡ true
  same_self s (leaf a) = s a
  same_self s (node j l h) = all_true (j == j) (same eq l l) (same eq h h) (test_is j) (same_self s l) (same_self s h)

  -- the restricted tree depends on no more of the trees than where one is true
  pub sides_same : (k : ℕ) (a b c d : Bool) (x y z w : Plain L) → a ≡ c → b ≡ d → x ≡ z → y ≡ w → sides_left eq k a b x y ≡ sides_left eq k c d z w
  sides_same k a b c d x y z w e f g h = cc

  pub restricted_alike : (t : Plain L) (cs ds : List (Plain Bool)) (m n : ℕ) → AllFrom m cs → AllFrom n ds → Alike cs ds → restricted_by eq t cs ≡ restricted_by eq t ds
  restricted_alike (leaf x) cs ds m n r s a = refl
  restricted_alike (node k l h) cs ds m n r s a =
      let no = afters_alike k false cs ds m n r s a in
      let yes = afters_alike k true cs ds m n r s a in
      let no_cs = afters_reduced k false cs m r in
      let no_ds = afters_reduced k false ds n s in
      let yes_cs = afters_reduced k true cs m r in
      let yes_ds = afters_reduced k true ds n s in
      sides_same k _ _ _ _ _ _ _ _
      (never_alike (afters k false cs) (afters k false ds) (k + 1) (k + 1) no_cs no_ds no)
      (never_alike (afters k true cs) (afters k true ds) (k + 1) (k + 1) yes_cs yes_ds yes)
      (restricted_alike l (afters k false cs) (afters k false ds) (k + 1) (k + 1) no_cs no_ds no)
      (restricted_alike h (afters k true cs) (afters k true ds) (k + 1) (k + 1) yes_cs yes_ds yes)

  -- it leads where t leads, wherever one of the trees is true
  joined_leads : IsExact eq → (k : ℕ) (l h : Plain L) (f : ℕ → Bool) (b : Bool) → f k ≡ b → value_at (joined eq k l h) f ≡ value_at (cond b h l) f
  joined_leads x k l h f b at = by (same eq l h) b refl at
    where
      by : (s v : Bool) → same eq l h ≡ s → f k ≡ v → value_at (cond s l (node k l h)) f ≡ value_at (cond v h l) f
      by true true e g = ap (λ t. value_at t f) (same_exact x l h e)
      by true false e g = refl
      by false true e g = ap (λ c. cond c (value_at h f) (value_at l f)) g
      by false false e g = ap (λ c. cond c (value_at h f) (value_at l f)) g

  sides_lead : IsExact eq → (k : ℕ) (a b v : Bool) (x y l h : Plain L) (f : ℕ → Bool) → f k ≡ v → (v ≡ false → a ≢ true) → (v ≡ true → b ≢ true) → (v ≡ false → value_at x f ≡ value_at l f) → (v ≡ true → value_at y f ≡ value_at h f)
      → value_at (sides_left eq k a b x y) f ≡ value_at (node k l h) f
  sides_lead exact k true b true x y l h f at na nb low high = high refl ∙ sym (ap (λ c. cond c (value_at h f) (value_at l f)) at)
  sides_lead exact k true b false x y l h f at na nb low high = absurd (na refl refl)
  sides_lead exact k false true true x y l h f at na nb low high = absurd (nb refl refl)
  sides_lead exact k false true false x y l h f at na nb low high = low refl ∙ sym (ap (λ c. cond c (value_at h f) (value_at l f)) at)
  sides_lead exact k false false true x y l h f at na nb low high = joined_leads exact k x y f true at ∙ (high refl ∙ sym (ap (λ c. cond c (value_at h f) (value_at l f)) at))
  sides_lead exact k false false false x y l h f at na nb low high = joined_leads exact k x y f false at ∙ (low refl ∙ sym (ap (λ c. cond c (value_at h f) (value_at l f)) at))

  pub leads_by : IsExact eq → (t : Plain L) (cs : List (Plain Bool)) (f : ℕ → Bool) → Holds cs f → value_at (restricted_by eq t cs) f ≡ value_at t f
  leads_by exact (leaf x) cs f w = refl
  leads_by exact (node k l h) cs f w =
      let here = λ (v : Bool) (e : f k ≡ v). subst (λ b. Holds (afters k b cs) f) e (afters_here k cs f w) in
      let by : (v : Bool) → f k ≡ v → value_at (restricted_by eq (node k l h) cs) f ≡ value_at (node k l h) f =
      λ v e. sides_lead exact k (never (afters k false cs)) (never (afters k true cs)) v (restricted_by eq l (afters k false cs)) (restricted_by eq h (afters k true cs)) l h f e
      (λ no n. never_holds (afters k false cs) f n (here false (e ∙ no)))
      (λ yes n. never_holds (afters k true cs) f n (here true (e ∙ yes)))
      (λ no. leads_by exact l (afters k false cs) f (here false (e ∙ no)))
      (λ yes. leads_by exact h (afters k true cs) f (here true (e ∙ yes))) in
      by (f k) refl

  -- it is reduced
  sides_reduced : ((a : L) → eq a a ≡ true) → (k m : ℕ) (a b : Bool) (l h : Plain L) → m ≤ k → IsReducedFrom (k + 1) l → IsReducedFrom (k + 1) h → IsReducedFrom m (sides_left eq k a b l h)
  sides_reduced s k m true b l h le r q = lower_bound h (k + 1) m (omega arith) q
  sides_reduced s k m false true l h le r q = lower_bound l (k + 1) m (omega arith) r
  sides_reduced s k m false false l h le r q = by (same eq l h) refl
    where
      by : (c : Bool) → same eq l h ≡ c → IsReducedFrom m (cond c l (node k l h))
      by true e = lower_bound l (k + 1) m (omega arith) r
      by false e = (le, λ g. true≢false (sym (same_self s l) ∙ (ap (same eq l) g ∙ e)), r, q)

  pub reduced_by : ((a : L) → eq a a ≡ true) → (t : Plain L) (cs : List (Plain Bool)) (m : ℕ) → IsReducedFrom m t → IsReducedFrom m (restricted_by eq t cs)
  reduced_by s (leaf x) cs m r = tt
  reduced_by s (node k l h) cs m r = sides_reduced s k m _ _ _ _ r.0 (reduced_by s l (afters k false cs) (k + 1) r.2) (reduced_by s h (afters k true cs) (k + 1) r.3)

  -- its tests are tests of t
  sides_tests : (j k : ℕ) (a b : Bool) (x y l h : Plain L) → (HasTest j x → HasTest j l) → (HasTest j y → HasTest j h) → HasTest j (sides_left eq k a b x y) → HasTest j (node k l h)
  sides_tests j k true b x y l h low high w = inr (inr (high w))
  sides_tests j k false true x y l h low high w = inr (inl (low w))
  sides_tests j k false false x y l h low high w = by (same eq x y) w
    where
      by : (c : Bool) → HasTest j (cond c x (node k x y)) → HasTest j (node k l h)
      by true u = inr (inl (low u))
      by false (inl e) = inl e
      by false (inr (inl u)) = inr (inl (low u))
      by false (inr (inr u)) = inr (inr (high u))

  pub tests_by : (t : Plain L) (cs : List (Plain Bool)) (j : ℕ) → HasTest j (restricted_by eq t cs) → HasTest j t
  tests_by (leaf x) cs j w = w
  tests_by (node k l h) cs j w = sides_tests j k (never (afters k false cs)) (never (afters k true cs)) _ _ l h (tests_by l (afters k false cs) j) (tests_by h (afters k true cs) j) w

  -- the equations
  pub of_leaf : (t : Plain L) (x : L) (c : Plain Bool) → t ≡ leaf x → restricted eq t c ≡ t
  of_leaf t x c e = subst (λ u. restricted eq u c ≡ u) (sym e) (by (is_false c))
    where
      by : (b : Bool) → cond b (leaf x) (leaf x) ≡ leaf x
      by true = refl
      by false = refl

  pub joined_apart : IsExact eq → (k : ℕ) (l h : Plain L) → l ≢ h → joined eq k l h ≡ node k l h
  joined_apart exact k l h n = by (same eq l h) refl
    where
      by : (c : Bool) → same eq l h ≡ c → cond c l (node k l h) ≡ node k l h
      by true e = absurd (n (same_exact exact l h e))
      by false e = refl

  by_true : IsExact eq → (t : Plain L) (m : ℕ) → IsReducedFrom m t → restricted_by eq t (leaf true ∷ []) ≡ t
  by_true exact (leaf x) m r = refl
  by_true exact (node k l h) m r =
      sides_same k false false false false _ _ _ _ refl refl (by_true exact l (k + 1) r.2) (by_true exact h (k + 1) r.3) ∙ joined_apart exact k l h r.1

  pub to_leaf : IsExact eq → (t : Plain L) (c : Plain Bool) (b : Bool) → IsReduced t → c ≡ leaf b → restricted eq t c ≡ t
  to_leaf exact t c b r e = subst (λ d. restricted eq t d ≡ t) (sym e) (by b)
    where
      by : (v : Bool) → restricted eq t (leaf v) ≡ t
      by true = by_true exact t 0 r
      by false = refl

  -- where the test of c comes first, its sides' union takes its place
  pub by_union : (k j : ℕ) (l h : Plain L) (p q : Plain Bool) → j < k → restricted_by eq (node k l h) (node j p q ∷ []) ≡ restricted_by eq (node k l h) (p ∷ q ∷ [])
  by_union k j l h p q less =
      let each = λ (b : Bool). ap (λ cs. cs ++ []) (after_below k j b p q less) ∙ append_assoc (after k b p) (after k b q) [] in
      sides_same k _ _ _ _ _ _ _ _ (ap never (each false)) (ap never (each true)) (ap (restricted_by eq l) (each false)) (ap (restricted_by eq h) (each true))

  pub of_union : (t : Plain L) (c u : Plain Bool) (k j : ℕ) (l h : Plain L) (p q : Plain Bool) → t ≡ node k l h → c ≡ node j p q → j < k → IsReduced c → IsReduced u → Alike (u ∷ []) (p ∷ q ∷ []) → restricted eq t c ≡ restricted eq t u
  of_union t c u k j l h p q et ec less rc ru a =
      subst (λ d. restricted eq t d ≡ restricted eq t u) (sym ec) (subst (λ s. restricted eq s (node j p q) ≡ restricted eq s u) (sym et)
      (by (is_false u) refl))
    where
      r : IsReduced (node j p q)
      r = subst IsReduced ec rc

      never_one : is_false u ≡ true → never (u ∷ []) ≡ true
      never_one e = ap (λ b. b && true) e

      in_two : (f : ℕ → Bool) → value_at (node j p q) f ≡ true → Holds (p ∷ q ∷ []) f
      in_two f e = elim (true_child j p q f e) [ inl x ↦ inl x | inr y ↦ inr (inl y) ]

      by : (b : Bool) → is_false u ≡ b → restricted_by eq (node k l h) (node j p q ∷ []) ≡ cond b (node k l h) (restricted_by eq (node k l h) (u ∷ []))
      by true e =
          let w = true_somewhere (node j p q) 0 r refl in
          absurd (never_holds (u ∷ []) w.place (never_one e) ((a w.place).1 (in_two w.place w.holds)))
      by false e = by_union k j l h p q less ∙ sym (restricted_alike (node k l h) (u ∷ []) (p ∷ q ∷ []) 0 0 (ru, tt) (reduced_from p (j + 1) r.2, (reduced_from q (j + 1) r.3, tt)) a)

  sides_pick : (k : ℕ) (a b : Bool) (x z y w : Plain L) → (a ≡ true → b ≡ true → ⊥) → (a ≡ false → x ≡ z) → (b ≡ false → y ≡ w) → sides_left eq k a b x y ≡ sides_left eq k a b z w
  sides_pick k true true x z y w n low high = absurd (n refl refl)
  sides_pick k true false x z y w n low high = high refl
  sides_pick k false true x z y w n low high = low refl
  sides_pick k false false x z y w n low high = sides_same k false false false false x y z w refl refl (low refl) (high refl)

  -- else the sides at the test of t
  pub of_sides : (t : Plain L) (c low_care high_care : Plain Bool) (k : ℕ) (l h : Plain L) → t ≡ node k l h → HasSides k c low_care high_care → is_false c ≡ false → restricted eq t c ≡ sides_left eq k (is_false low_care) (is_false high_care) (restricted eq l low_care) (restricted eq h high_care)
  of_sides t c low_care high_care k l h et sides some =
      subst (λ s. restricted eq s c ≡ sides_left eq k (is_false low_care) (is_false high_care) (restricted eq l low_care) (restricted eq h high_care)) (sym et)
      (ap (λ b. cond b (node k l h) (restricted_by eq (node k l h) (c ∷ []))) some ∙ (sides_same k _ _ _ _ _ _ _ _
      (ap (λ cs. never (cs ++ [])) sides.no_after ∙ and_true (is_false low_care)) (ap (λ cs. never (cs ++ [])) sides.yes_after ∙ and_true (is_false high_care))
      (ap (λ cs. restricted_by eq l (cs ++ [])) sides.no_after) (ap (λ cs. restricted_by eq h (cs ++ [])) sides.yes_after)
      ∙ sides_pick k (is_false low_care) (is_false high_care) _ _ _ _ sides.some
      (λ n. sym (ap (λ b. cond b l (restricted_by eq l (low_care ∷ []))) n)) (λ n. sym (ap (λ b. cond b h (restricted_by eq h (high_care ∷ []))) n))))

  -- the same laws of the restricted tree
  pub reduced_of : ((a : L) → eq a a ≡ true) → (t : Plain L) (c : Plain Bool) (m : ℕ) → IsReducedFrom m t → IsReducedFrom m (restricted eq t c)
  reduced_of self t c m r = by (is_false c)
    where
      by : (b : Bool) → IsReducedFrom m (cond b t (restricted_by eq t (c ∷ [])))
      by true = r
      by false = reduced_by self t (c ∷ []) m r

  pub tests_of : (t : Plain L) (c : Plain Bool) (j : ℕ) → HasTest j (restricted eq t c) → HasTest j t
  tests_of t c j = by (is_false c)
    where
      by : (b : Bool) → HasTest j (cond b t (restricted_by eq t (c ∷ []))) → HasTest j t
      by true w = w
      by false w = tests_by t (c ∷ []) j w

  pub leads_of : IsExact eq → (t : Plain L) (c : Plain Bool) (v : List Bool) → leaf_of c v ≡ true → leaf_of (restricted eq t c) v ≡ leaf_of t v
  leads_of exact t c v e = read (restricted eq t c) v ∙ (by (is_false c) ∙ sym (read t v))
    where
      f : ℕ → Bool
      f k = slice_index_or v k false

      by : (b : Bool) → value_at (cond b t (restricted_by eq t (c ∷ []))) f ≡ value_at t f
      by true = refl
      by false = leads_by exact t (c ∷ []) f (inl (sym (read c v) ∙ e))
