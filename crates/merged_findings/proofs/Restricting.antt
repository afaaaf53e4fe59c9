-- What a restricted tree leads to, tests and has for leaves.
use Rattle.std.proofs.Common.{◌≡◌, ◌⊎◌, ◌∙◌, ℕ, ◌+◌, Bool, true, false, cond, ◌&&◌, ◌==◌, nat_lt, List, [], ◌∷◌, ◌++◌, refl, sym, ap, subst, inl, inr, arith}
use Rattle.std.specs.Prelude.{slice_index_or}
use Rattle.std.proofs.lemmas.Bool.{eqb-true}
use Rattle.decision_tree.specs.Plain.{Plain, leaf, node, leaf_of, HasLeaf, TestsBelow, IsExact, IsNodeOf}
use Rattle.tree_restrict.specs.Restricted.{is_false, never, after, afters, same, sides_left, restricted_by, restricted}
use Rattle.merged_findings.specs.Restricting.{IsLeft, IsRestrictedBy, IsOwn, IsRestrictedTo}

-- ---- where one of some trees is true

abbrev IsTrueIn : List Bool → List (Plain Bool) → Type 0
IsTrueIn v [] = ⊥
IsTrueIn v (c ∷ cs) = (leaf_of c v ≡ true) ⊎ IsTrueIn v cs

in_front : (v : List Bool) (cs ds : List (Plain Bool)) → IsTrueIn v cs → IsTrueIn v (cs ++ ds)
in_front v [] ds h = absurd h
in_front v (c ∷ cs) ds (inl h) = inl h
in_front v (c ∷ cs) ds (inr h) = inr (in_front v cs ds h)

behind : (v : List Bool) (cs ds : List (Plain Bool)) → IsTrueIn v ds → IsTrueIn v (cs ++ ds)
behind v [] ds h = h
behind v (c ∷ cs) ds h = inr (behind v cs ds h)

never_true : (v : List Bool) (cs : List (Plain Bool)) → IsTrueIn v cs → never cs ≡ true → ⊥
never_true v [] h e = h
never_true v (leaf true ∷ cs) h e = cc
never_true v (leaf false ∷ cs) (inl h) e = cc
never_true v (leaf false ∷ cs) (inr h) e = never_true v cs h e
never_true v (node k low high ∷ cs) h e = cc

false_true : (v : List Bool) (c : Plain Bool) → leaf_of c v ≡ true → is_false c ≡ true → ⊥
false_true v (leaf true) h e = cc
false_true v (leaf false) h e = cc
false_true v (node k low high) h e = cc

-- what is true at v is so after a test has the value that it has at v
by_value : (v : List Bool) (b c : Bool) (low high : Plain Bool) → b ≡ c → leaf_of (cond b high low) v ≡ true → leaf_of (cond c high low) v ≡ true
by_value v b c low high e h = subst (λ x. leaf_of (cond x high low) v ≡ true) e h

led_in : (v : List Bool) (b : Bool) (low high : Plain Bool) → cond b (leaf_of high v) (leaf_of low v) ≡ true → leaf_of (cond b high low) v ≡ true
led_in v true low high h = h
led_in v false low high h = h

led_by : (v : List Bool) (b : Bool) (low high : Plain Bool) (xs ys : List (Plain Bool)) → cond b (leaf_of high v) (leaf_of low v) ≡ true
    → (leaf_of low v ≡ true → IsTrueIn v xs) → (leaf_of high v ≡ true → IsTrueIn v ys) → IsTrueIn v (xs ++ ys)
led_by v true low high xs ys h p q = behind v xs ys (q h)
led_by v false low high xs ys h p q = in_front v xs ys (p h)

after_equal : (v : List Bool) (k test : ℕ) (b : Bool) (low high : Plain Bool) → (test == k) ≡ b → leaf_of (node test low high) v ≡ true
    → IsTrueIn v (cond b (cond (slice_index_or v k false) high low ∷ []) (node test low high ∷ []))
after_equal v k test true low high e h =
    let same : test ≡ k = eqb-true test k e in
    inl (led_in v (slice_index_or v k false) low high (subst (λ (j : ℕ). cond (slice_index_or v j false) (leaf_of high v) (leaf_of low v) ≡ true) same h))
after_equal v k test false low high e h = inl h

after_less : (v : List Bool) (k test : ℕ) (b : Bool) (low high : Plain Bool) (xs ys : List (Plain Bool)) → leaf_of (node test low high) v ≡ true
    → (leaf_of low v ≡ true → IsTrueIn v xs) → (leaf_of high v ≡ true → IsTrueIn v ys)
    → IsTrueIn v (cond b (xs ++ ys) (cond (test == k) (cond (slice_index_or v k false) high low ∷ []) (node test low high ∷ [])))
after_less v k test true low high xs ys h p q = led_by v (slice_index_or v test false) low high xs ys h p q
after_less v k test false low high xs ys h p q = after_equal v k test (test == k) low high refl h

after_true : (v : List Bool) (k : ℕ) (c : Plain Bool) → leaf_of c v ≡ true → IsTrueIn v (after k (slice_index_or v k false) c)
after_true v k (leaf b) h = inl h
after_true v k (node test low high) h =
    after_less v k test (nat_lt test k) low high (after k (slice_index_or v k false) low) (after k (slice_index_or v k false) high) h (after_true v k low) (after_true v k high)

afters_true : (v : List Bool) (k : ℕ) (cs : List (Plain Bool)) → IsTrueIn v cs → IsTrueIn v (afters k (slice_index_or v k false) cs)
afters_true v k [] h = absurd h
afters_true v k (c ∷ cs) (inl h) = in_front v (after k (slice_index_or v k false) c) (afters k (slice_index_or v k false) cs) (after_true v k c h)
afters_true v k (c ∷ cs) (inr h) = behind v (after k (slice_index_or v k false) c) (afters k (slice_index_or v k false) cs) (afters_true v k cs h)

module _ {L : Type 0} where
  -- ---- where it leads

  abbrev LeadsAs : List Bool → Plain L → Plain L → Type 0
  LeadsAs v t r = leaf_of r v ≡ leaf_of t v

  made_node : (v : List Bool) (test : ℕ) (p q r : Plain L) → IsNodeOf test p q r → leaf_of r v ≡ cond (slice_index_or v test false) (leaf_of q v) (leaf_of p v)
  made_node v test p q r (inl (e, is)) = ap (λ t. leaf_of t v) is ∙ either (slice_index_or v test false) where
    either : (b : Bool) → leaf_of p v ≡ cond b (leaf_of q v) (leaf_of p v)
    either true = ap (λ t. leaf_of t v) e
    either false = refl
  made_node v test p q r (inr (e, is)) = ap (λ t. leaf_of t v) is

  left_leads : (v : List Bool) (test : ℕ) (n y b : Bool) (low high r : Plain L) (No Yes : Plain L → Type 0) → slice_index_or v test false ≡ b
      → (b ≡ false → n ≡ true → ⊥) → (b ≡ true → y ≡ true → ⊥)
      → (b ≡ false → (p : Plain L) → No p → LeadsAs v low p) → (b ≡ true → (q : Plain L) → Yes q → LeadsAs v high q)
      → IsLeft test n y No Yes r → leaf_of r v ≡ cond b (leaf_of high v) (leaf_of low v)
  left_leads v test true y true low high r No Yes e f g p q h = q refl r h
  left_leads v test true y false low high r No Yes e f g p q h = absurd (f refl refl)
  left_leads v test false true true low high r No Yes e f g p q h = absurd (g refl refl)
  left_leads v test false true false low high r No Yes e f g p q h = p refl r h
  left_leads v test false false true low high r No Yes e f g p q (l, u, lo, hi, made) =
      made_node v test l u r made ∙ (ap (λ b. cond b (leaf_of u v) (leaf_of l v)) e ∙ q refl u hi)
  left_leads v test false false false low high r No Yes e f g p q (l, u, lo, hi, made) =
      made_node v test l u r made ∙ (ap (λ b. cond b (leaf_of u v) (leaf_of l v)) e ∙ p refl l lo)

  by_leads : (v : List Bool) (t : Plain L) (cs : List (Plain Bool)) (r : Plain L) → IsTrueIn v cs → IsRestrictedBy t cs r → LeadsAs v t r
  by_leads v (leaf x) cs r h is = ap (λ t. leaf_of t v) is
  by_leads v (node test low high) cs r h is =
      let b = slice_index_or v test false in
      let here : IsTrueIn v (afters test b cs) = afters_true v test cs h in
      left_leads v test (never (afters test false cs)) (never (afters test true cs)) b low high r (IsRestrictedBy low (afters test false cs)) (IsRestrictedBy high (afters test true cs)) refl
      (λ e n. never_true v (afters test false cs) (subst (λ x. IsTrueIn v (afters test x cs)) e here) n)
      (λ e n. never_true v (afters test true cs) (subst (λ x. IsTrueIn v (afters test x cs)) e here) n)
      (λ e p lo. by_leads v low (afters test false cs) p (subst (λ x. IsTrueIn v (afters test x cs)) e here) lo)
      (λ e q hi. by_leads v high (afters test true cs) q (subst (λ x. IsTrueIn v (afters test x cs)) e here) hi)
      is

  own_leads : (v : List Bool) (b : Bool) (t : Plain L) (c : Plain Bool) (r : Plain L) → is_false c ≡ b → leaf_of c v ≡ true → IsOwn b t (c ∷ []) r → LeadsAs v t r
  own_leads v true t c r e h is = absurd (false_true v c h e)
  own_leads v false t c r e h is = by_leads v t (c ∷ []) r (inl h) is

  -- where c is true, it leads as the tree does
  pub restricted_leads : (v : List Bool) (t : Plain L) (c : Plain Bool) (r : Plain L) → leaf_of c v ≡ true → IsRestrictedTo t c r → leaf_of r v ≡ leaf_of t v
  restricted_leads v t c r h is = own_leads v (is_false c) t c r refl h is

  -- ---- its tests and leaves

  left_keeps : (P : Plain L → Type 0) (test : ℕ) (n y : Bool) (r : Plain L) (No Yes : Plain L → Type 0) → ((p q : Plain L) → P p → P q → P (node test p q))
      → ((p : Plain L) → No p → P p) → ((q : Plain L) → Yes q → P q) → IsLeft test n y No Yes r → P r
  left_keeps P test true y r No Yes made p q h = q r h
  left_keeps P test false true r No Yes made p q h = p r h
  left_keeps P test false false r No Yes made p q (l, u, lo, hi, inl (e, is)) = subst P (sym is) (p l lo)
  left_keeps P test false false r No Yes made p q (l, u, lo, hi, inr (e, is)) = subst P (sym is) (made l u (p l lo) (q u hi))

  by_below : (m : ℕ) (t : Plain L) (cs : List (Plain Bool)) (r : Plain L) → TestsBelow m t → IsRestrictedBy t cs r → TestsBelow m r
  by_below m (leaf x) cs r h is = subst (TestsBelow m) (sym is) tt
  by_below m (node test low high) cs r h is =
      left_keeps (TestsBelow m) test (never (afters test false cs)) (never (afters test true cs)) r (IsRestrictedBy low (afters test false cs)) (IsRestrictedBy high (afters test true cs))
      (λ p q below above. (h.0, below, above))
      (λ p lo. by_below m low (afters test false cs) p h.1 lo) (λ q hi. by_below m high (afters test true cs) q h.2 hi) is

  own_below : (m : ℕ) (b : Bool) (t : Plain L) (cs : List (Plain Bool)) (r : Plain L) → TestsBelow m t → IsOwn b t cs r → TestsBelow m r
  own_below m true t cs r h is = subst (TestsBelow m) (sym is) h
  own_below m false t cs r h is = by_below m t cs r h is

  pub restricted_below : (m : ℕ) (t : Plain L) (c : Plain Bool) (r : Plain L) → TestsBelow m t → IsRestrictedTo t c r → TestsBelow m r
  restricted_below m t c r h is = own_below m (is_false c) t (c ∷ []) r h is

  abbrev LeavesAreOf : Plain L → Plain L → Type 0
  LeavesAreOf t r = (x : L) → HasLeaf x r → HasLeaf x t

  by_leaves : (t : Plain L) (cs : List (Plain Bool)) (r : Plain L) → IsRestrictedBy t cs r → LeavesAreOf t r
  by_leaves (leaf y) cs r is = subst (LeavesAreOf (leaf y)) (sym is) (λ x h. h)
  by_leaves (node test low high) cs r is =
      left_keeps (LeavesAreOf (node test low high)) test (never (afters test false cs)) (never (afters test true cs)) r (IsRestrictedBy low (afters test false cs)) (IsRestrictedBy high (afters test true cs))
      both
      (λ p lo x h. inl (by_leaves low (afters test false cs) p lo x h)) (λ q hi x h. inr (by_leaves high (afters test true cs) q hi x h)) is where
        both : (p q : Plain L) → LeavesAreOf (node test low high) p → LeavesAreOf (node test low high) q → LeavesAreOf (node test low high) (node test p q)
        both p q f g x (inl h) = f x h
        both p q f g x (inr h) = g x h

  own_leaves : (b : Bool) (t : Plain L) (cs : List (Plain Bool)) (r : Plain L) → IsOwn b t cs r → LeavesAreOf t r
  own_leaves true t cs r is = subst (LeavesAreOf t) (sym is) (λ x h. h)
  own_leaves false t cs r is = by_leaves t cs r is

  pub restricted_leaves : (t : Plain L) (c : Plain Bool) (r : Plain L) → IsRestrictedTo t c r → (x : L) → HasLeaf x r → HasLeaf x t
  restricted_leaves t c r is = own_leaves (is_false c) t (c ∷ []) r is

  -- ---- the function by an equality of leaves answers it

  module _ (eq : L → L → Bool) (exact : IsExact eq) (reflexive : (x : L) → eq x x ≡ true) where
    same_exact : (t u : Plain L) → same eq t u ≡ true → t ≡ u
    same_exact (leaf x) (leaf y) h = ap leaf (exact x y h)
    same_exact (leaf x) (node k p q) h = cc
    same_exact (node k p q) (leaf y) h = cc
    same_exact (node k p q) (node j l u) h =
        let e : k ≡ j = eqb-true k j (first_of _ _ h) in
        let rest = second_of _ _ h in
        let f : p ≡ l = same_exact p l (first_of _ _ rest) in
        let g : q ≡ u = same_exact q u (second_of _ _ rest) in
        cc where
          first_of : (a b : Bool) → (a && b) ≡ true → a ≡ true
          first_of true b e = refl
          first_of false b e = e

          second_of : (a b : Bool) → (a && b) ≡ true → b ≡ true
          second_of true b e = e
          second_of false b e = cc

    same_self : (t : Plain L) → same eq t t ≡ true
    same_self (leaf x) = reflexive x
    same_self (node k p q) = rw (same_self p, same_self q) (both (k == k) (grind arith)) where
      both : (a : Bool) → a ≡ true → (a && (true && true)) ≡ true
      both true e = refl
      both false e = e

    joined_by : (test : ℕ) (p q : Plain L) (b : Bool) → same eq p q ≡ b → IsNodeOf test p q (cond b p (node test p q))
    joined_by test p q true e = inl (same_exact p q e, refl)
    joined_by test p q false e = inr ((λ h. apart (sym e ∙ subst (λ u. same eq p u ≡ true) h (same_self p))), refl) where
      apart : false ≡ true → ⊥
      apart h = cc

    left_by : (test : ℕ) (n y : Bool) (p q : Plain L) (No Yes : Plain L → Type 0) → No p → Yes q → IsLeft test n y No Yes (sides_left eq test n y p q)
    left_by test true y p q No Yes lo hi = hi
    left_by test false true p q No Yes lo hi = lo
    left_by test false false p q No Yes lo hi = (p, q, lo, hi, joined_by test p q (same eq p q) refl)

    by_function : (t : Plain L) (cs : List (Plain Bool)) → IsRestrictedBy t cs (restricted_by eq t cs)
    by_function (leaf x) cs = refl
    by_function (node test low high) cs =
        left_by test (never (afters test false cs)) (never (afters test true cs)) (restricted_by eq low (afters test false cs)) (restricted_by eq high (afters test true cs))
        (IsRestrictedBy low (afters test false cs)) (IsRestrictedBy high (afters test true cs))
        (by_function low (afters test false cs)) (by_function high (afters test true cs))

    own_by : (b : Bool) (t : Plain L) (cs : List (Plain Bool)) → IsOwn b t cs (cond b t (restricted_by eq t cs))
    own_by true t cs = refl
    own_by false t cs = by_function t cs

    pub restricted_is : (t : Plain L) (c : Plain Bool) → IsRestrictedTo t c (restricted eq t c)
    restricted_is t c = own_by (is_false c) t (c ∷ [])
