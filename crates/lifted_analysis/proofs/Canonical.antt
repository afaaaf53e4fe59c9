-- A tree is that of a function exactly where it is made by going through all vectors.
use Rattle.std.proofs.Common.{◌≡◌, ◌≢◌, ◌↔◌, ◌⊎◌, ℕ, zero, suc, ◌+◌, ◌<◌, Bool, true, false, cond, List, [], ◌∷◌, ◌++◌, length, slice_index_or, refl, ap, sym, subst, ◌∙◌, inl, inr, arith, append_assoc, append-nil}
use Rattle.std.proofs.lemmas.Bool.{cases_order}
use Rattle.decision_tree.specs.Plain.{Plain, leaf, node, leaf_of, IsReducedFrom, TestsBelow, IsNodeOf}
use Rattle.lifted_analysis.specs.Canon.{IsTreeOf, IsCanonFrom, IsCanon}

index-at : (w : List Bool) (b : Bool) (u : List Bool) → slice_index_or (w ++ b ∷ u) (length w) false ≡ b
index-at [] b u = refl
index-at (x ∷ w) b u = index-at w b u

one_more : (w : List Bool) (b : Bool) → length (w ++ b ∷ []) ≡ length w + 1
one_more [] b = refl
one_more (x ∷ w) b = omega (arith, one_more w b)

module _ {A : Type 0} (f : List Bool → A) where
  abbrev pub Leads : ℕ → List Bool → Plain A → Type 0
  Leads k w t = (u : List Bool) → length u ≡ k → leaf_of t (w ++ u) ≡ f (w ++ u)

  onward : (k : ℕ) (w : List Bool) (b : Bool) (t : Plain A) → Leads (suc k) w t → Leads k (w ++ b ∷ []) t
  onward k w b t h u e = subst (λ v. leaf_of t v ≡ f v) (sym (append_assoc w (b ∷ []) u)) (h (b ∷ u) (ap suc e))

  side_leads : (k : ℕ) (w : List Bool) (b : Bool) (test : ℕ) (low high : Plain A) → test ≡ length w → Leads (suc k) w (node test low high) → Leads k (w ++ b ∷ []) (cond b high low)
  side_leads k w b test low high e h u l =
      subst (λ v. leaf_of (cond b high low) v ≡ f v) (sym (append_assoc w (b ∷ []) u))
      (chosen b (slice_index_or (w ++ b ∷ u) test false) (ap (λ i. slice_index_or (w ++ b ∷ u) i false) e ∙ index-at w b u) ∙ h (b ∷ u) (ap suc l))
    where
      chosen : (b c : Bool) → c ≡ b → leaf_of (cond b high low) (w ++ b ∷ u) ≡ cond c (leaf_of high (w ++ b ∷ u)) (leaf_of low (w ++ b ∷ u))
      chosen true c e = ap (λ d. cond d (leaf_of high (w ++ true ∷ u)) (leaf_of low (w ++ true ∷ u))) (sym e)
      chosen false c e = ap (λ d. cond d (leaf_of high (w ++ false ∷ u)) (leaf_of low (w ++ false ∷ u))) (sym e)

  IsMadeBy : ℕ → Type 0
  IsMadeBy k = (w : List Bool) (t : Plain A) → IsReducedFrom (length w) t → TestsBelow (length w + k) t → Leads k w t → IsCanonFrom f k w t

  at_test : (w : List Bool) (test : ℕ) (b : Bool) (t : Plain A) → length w ≡ test → IsReducedFrom (test + 1) t → IsReducedFrom (length (w ++ b ∷ [])) t
  at_test w test b t e q = subst (λ n. IsReducedFrom n t) (sym (one_more w b ∙ ap (λ n. n + 1) e)) q

  shorter : (k : ℕ) (w : List Bool) (b : Bool) (t : Plain A) → TestsBelow (length w + suc k) t → TestsBelow (length (w ++ b ∷ []) + k) t
  shorter k w b t q = let e : length w + suc k ≡ length (w ++ b ∷ []) + k = omega (arith, one_more w b) in subst (λ n. TestsBelow n t) e q

  here : (k : ℕ) → IsMadeBy k → (w : List Bool) (test : ℕ) (low high : Plain A) → length w ≡ test → IsReducedFrom (length w) (node test low high) → TestsBelow (length w + suc k) (node test low high) → Leads (suc k) w (node test low high)
      → IsCanonFrom f (suc k) w (node test low high)
  unfolding IsMadeBy
  here k again w test low high e r b h = (
    low,
    high,
    again (w ++ false ∷ []) low (at_test w test false low e r.2) (shorter k w false low b.1) (side_leads k w false test low high (sym e) h),
    again (w ++ true ∷ []) high (at_test w test true high e r.3) (shorter k w true high b.2) (side_leads k w true test low high (sym e) h),
    inr (r.1, ap (λ n. node n low high) (sym e)),
  )

  above : (k : ℕ) → IsMadeBy k → (w : List Bool) (test : ℕ) (low high : Plain A) → length w < test → IsReducedFrom (length w) (node test low high) → TestsBelow (length w + suc k) (node test low high) → Leads (suc k) w (node test low high)
      → IsCanonFrom f (suc k) w (node test low high)
  unfolding IsMadeBy
  above k again w test low high l r b h =
      let q : IsReducedFrom (length w + 1) (node test low high) = (omega arith, r.1, r.2, r.3) in
      let t = node test low high in (
        t,
        t,
        again (w ++ false ∷ []) t (subst (λ n. IsReducedFrom n t) (sym (one_more w false)) q) (shorter k w false t b) (onward k w false t h),
        again (w ++ true ∷ []) t (subst (λ n. IsReducedFrom n t) (sym (one_more w true)) q) (shorter k w true t b) (onward k w true t h),
        inl (refl, refl),
      )

  from : (k : ℕ) → IsMadeBy k
  unfolding IsMadeBy
  from zero w (leaf x) r b h = ap leaf (sym (ap (leaf_of (leaf x)) (append-nil w)) ∙ (h [] refl ∙ ap f (append-nil w)))
  from zero w (node test low high) r b h = absurd (omega (arith, r.0, b.0))
  from (suc k) w (leaf x) r b h =
      (leaf x, leaf x, from k (w ++ false ∷ []) (leaf x) tt tt (onward k w false (leaf x) h), from k (w ++ true ∷ []) (leaf x) tt tt (onward k w true (leaf x) h), inl (refl, refl))
  from (suc k) w (node test low high) r b h = elim (cases_order (length w) test) [
    | inl e ↦ here k (from k) w test low high e r b h
    | inr (inl l) ↦ above k (from k) w test low high l r b h
    | inr (inr l) ↦ absurd (omega (arith, r.0, l))
  ]

  -- what is known of a tree that is made by going through all vectors
  pub record Made (k : ℕ) (w : List Bool) (t : Plain A) : Type 0 where
    pub reduced : IsReducedFrom (length w) t
    pub tests : TestsBelow (length w + k) t
    pub leads : Leads k w t

  lower : (m : ℕ) (t : Plain A) → IsReducedFrom (m + 1) t → IsReducedFrom m t
  lower m (leaf x) r = tt
  lower m (node test low high) r = (omega (arith, r.0), r.1, r.2, r.3)

  at_end : (w : List Bool) → Leads zero w (leaf (f w))
  at_end w [] l = ap f (sym (append-nil w))
  at_end w (x ∷ u) l = absurd (omega (arith, l))

  reduced_at : (k : ℕ) (w : List Bool) (b : Bool) (u : Plain A) → Made k (w ++ b ∷ []) u → IsReducedFrom (length w + 1) u
  reduced_at k w b u h = subst (λ n. IsReducedFrom n u) (one_more w b) h.reduced

  tests_at : (k : ℕ) (w : List Bool) (b : Bool) (u : Plain A) → Made k (w ++ b ∷ []) u → TestsBelow (length w + suc k) u
  tests_at k w b u h = let e : length (w ++ b ∷ []) + k ≡ length w + suc k = omega (arith, one_more w b) in subst (λ n. TestsBelow n u) e h.tests

  leads_at : (k : ℕ) (w : List Bool) (b : Bool) (u : Plain A) → Made k (w ++ b ∷ []) u → (v : List Bool) → length v ≡ k → leaf_of u (w ++ b ∷ v) ≡ f (w ++ b ∷ v)
  leads_at k w b u h v l = subst (λ x. leaf_of u x ≡ f x) (append_assoc w (b ∷ []) v) (h.leads v l)

  one_leads : (k : ℕ) (w : List Bool) (low high : Plain A) → Made k (w ++ false ∷ []) low → Made k (w ++ true ∷ []) high → low ≡ high → Leads (suc k) w low
  one_leads k w low high n y e [] l = absurd (omega (arith, l))
  one_leads k w low high n y e (false ∷ v) l = leads_at k w false low n v (omega (arith, l))
  one_leads k w low high n y e (true ∷ v) l = ap (λ u. leaf_of u (w ++ true ∷ v)) e ∙ leads_at k w true high y v (omega (arith, l))

  two_leads : (k : ℕ) (w : List Bool) (low high : Plain A) → Made k (w ++ false ∷ []) low → Made k (w ++ true ∷ []) high → Leads (suc k) w (node (length w) low high)
  two_leads k w low high n y [] l = absurd (omega (arith, l))
  two_leads k w low high n y (false ∷ v) l = ap (λ b. cond b (leaf_of high (w ++ false ∷ v)) (leaf_of low (w ++ false ∷ v))) (index-at w false v) ∙ leads_at k w false low n v (omega (arith, l))
  two_leads k w low high n y (true ∷ v) l = ap (λ b. cond b (leaf_of high (w ++ true ∷ v)) (leaf_of low (w ++ true ∷ v))) (index-at w true v) ∙ leads_at k w true high y v (omega (arith, l))

  joined : (k : ℕ) (w : List Bool) (low high t : Plain A) → Made k (w ++ false ∷ []) low → Made k (w ++ true ∷ []) high → IsNodeOf (length w) low high t → Made (suc k) w t
  joined k w low high t n y (inl e) =
      subst (Made (suc k) w) (sym e.1) (record { reduced = lower (length w) low (reduced_at k w false low n); tests = tests_at k w false low n; leads = one_leads k w low high n y e.0 })
  joined k w low high t n y (inr e) =
      subst (Made (suc k) w) (sym e.1) (record {
        reduced = (omega arith, e.0, reduced_at k w false low n, reduced_at k w true high y);
        tests = (omega arith, tests_at k w false low n, tests_at k w true high y);
        leads = two_leads k w low high n y;
      })

  pub made : (k : ℕ) (w : List Bool) (t : Plain A) → IsCanonFrom f k w t → Made k w t
  made zero w t e = subst (Made zero w) (sym e) (record { reduced = tt; tests = tt; leads = at_end w })
  made (suc k) w t c = joined k w c.0 c.1 t (made k (w ++ false ∷ []) c.0 c.2) (made k (w ++ true ∷ []) c.1 c.3) c.4

  same : (k : ℕ) (w : List Bool) (t u : Plain A) → IsCanonFrom f k w t → IsCanonFrom f k w u → t ≡ u
  same zero w t u c d = c ∙ sym d
  same (suc k) w t u c d =
      let lows : c.0 ≡ d.0 = same k (w ++ false ∷ []) c.0 d.0 c.2 d.2 in
      let highs : c.1 ≡ d.1 = same k (w ++ true ∷ []) c.1 d.1 c.3 d.3 in
      elim c.4 [
        | inl e ↦ elim d.4 [ inl g ↦ e.1 ∙ (lows ∙ sym g.1) | inr g ↦ absurd (g.0 (sym lows ∙ (e.0 ∙ highs))) ]
        | inr e ↦ elim d.4 [ inl g ↦ absurd (e.0 (lows ∙ (g.0 ∙ sym highs))) | inr g ↦ e.1 ∙ (ap (λ x. node (length w) x c.1) lows ∙ (ap (node (length w) d.0) highs ∙ sym g.1)) ]
      ]

  pub canon_of_tree : (m : ℕ) (t : Plain A) → IsTreeOf m f t → IsCanon m f t
  unfolding IsMadeBy
  canon_of_tree m t h = from m [] t h.reduced (subst (λ n. TestsBelow n t) (omega arith) h.tests) h.leads

  pub tree_of_canon : (m : ℕ) (t : Plain A) → IsCanon m f t → IsTreeOf m f t
  tree_of_canon m t c = let h = made m [] t c in record { reduced = h.reduced; tests = subst (λ n. TestsBelow n t) (omega arith) h.tests; leads = h.leads }

  pub canon_is_one : (m : ℕ) (t u : Plain A) → IsCanon m f t → IsCanon m f u → t ≡ u
  canon_is_one m t u c d = same m [] t u c d

  -- it is there, where values can be told apart
  module _ (eq : A → A → Bool) (decides : (a b : A) → (eq a b ≡ true) ↔ (a ≡ b)) where
    IsTold : Plain A → Plain A → Type 0
    IsTold t u = (t ≡ u) ⊎ (t ≢ u)

    tell_leaf : (a b : A) (t : Bool) → eq a b ≡ t → IsTold (leaf a) (leaf b)
    unfolding IsTold
    tell_leaf a b true e = inl (ap leaf ((decides a b).0 e))
    tell_leaf a b false e = inr (λ h. let k : a ≡ b = cc in let s = (decides a b).1 k in cc)

    tell_node : (i j : ℕ) (p q r s : Plain A) → IsTold p r → IsTold q s → IsTold (node i p q) (node j r s)
    unfolding IsTold
    tell_node i j p q r s (inl e) (inl g) = elim (cases_order i j) [
      | inl h ↦ inl (ap (λ n. node n p q) h ∙ (ap (λ x. node j x q) e ∙ ap (node j r) g))
      | inr (inl h) ↦ inr (λ k. let n : i ≡ j = cc in omega arith)
      | inr (inr h) ↦ inr (λ k. let n : i ≡ j = cc in omega arith)
    ]
    tell_node i j p q r s (inr e) g = inr (λ k. e (let n : p ≡ r = cc in n))
    tell_node i j p q r s (inl e) (inr g) = inr (λ k. g (let n : q ≡ s = cc in n))

    tell : (t u : Plain A) → IsTold t u
    unfolding IsTold
    tell (leaf a) (leaf b) = tell_leaf a b (eq a b) refl
    tell (leaf a) (node j r s) = inr (λ h. cc)
    tell (node i p q) (leaf b) = inr (λ h. cc)
    tell (node i p q) (node j r s) = tell_node i j p q r s (tell p r) (tell q s)

    there : (k : ℕ) (w : List Bool) → (t : Plain A) × IsCanonFrom f k w t
    unfolding IsTold
    there zero w = (leaf (f w), refl)
    there (suc k) w =
        let n = there k (w ++ false ∷ []) in
        let y = there k (w ++ true ∷ []) in
        elim (tell n.0 y.0) [
          | inl e ↦ (n.0, (n.0, y.0, n.1, y.1, inl (e, refl)))
          | inr e ↦ (node (length w) n.0 y.0, (n.0, y.0, n.1, y.1, inr (e, refl)))
        ]

    pub canon_is_there : (m : ℕ) → (t : Plain A) × IsCanon m f t
    canon_is_there m = there m []
