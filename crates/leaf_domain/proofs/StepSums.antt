-- The steps that the parts of a leaf have left in all, where lists are widened part by part.
use Rattle.std.proofs.Common.{◌≡◌, ℕ, suc, ◌+◌, ◌*◌, ◌<◌, ◌≤◌, Bool, true, false, ◌&&◌, List, [], ◌∷◌, length, map, refl, ap, sym, ◌∙◌, arith}
use Rattle.std.specs.List.{AllByRecursion, list_all, zip}
use Rattle.std.proofs.Math.Nat.{add-mul, mul-suc}
use Rattle.leaf_domain.specs.Variables.{total_of}

at_most : (p q m n : ℕ) → p ≤ m → q ≤ n → p + q ≤ m + n
at_most p q m n h k = omega arith

less_first : (p q m n : ℕ) → p < m → q ≤ n → p + q < m + n
less_first p q m n h k = omega arith

less_rest : (p q m n : ℕ) → p ≤ m → q < n → p + q < m + n
less_rest p q m n h k = omega arith

module _ {A : Type 0} (left : A → ℕ) (O : A → Type 0) where
  module _ (f : A → A → A) (falls : (a b : A) → O a → O b → left (f a b) ≤ left a) where
    abbrev zipped : List A → List A → List A
    zipped us bs = map (λ (a, b). f a b) (zip us bs)

    pub zipped_fall : (us bs : List A) → AllByRecursion O us → AllByRecursion O bs → total_of left (zipped us bs) ≤ total_of left us
    zipped_fall [] bs h k = omega arith
    zipped_fall (a ∷ us) [] h k = omega arith
    zipped_fall (a ∷ us) (b ∷ bs) h k = at_most _ _ _ _ (falls a b h.0 k.0) (zipped_fall us bs h.1 k.1)

    -- fewer where one part has fewer, which each has that fails the test
    pub zipped_fewer : (test : A → A → Bool) → ((a b : A) → O a → O b → test b a ≡ false → left (f a b) < left a)
        → (us bs : List A) → length us ≡ length bs → AllByRecursion O us → AllByRecursion O bs → list_all (λ (b, a). test b a) (zip bs us) ≡ false → total_of left (zipped us bs) < total_of left us
    zipped_fewer test fewer [] [] e h k g = cc
    zipped_fewer test fewer [] (b ∷ bs) e h k g = absurd (omega arith)
    zipped_fewer test fewer (a ∷ us) [] e h k g = absurd (omega arith)
    zipped_fewer test fewer (a ∷ us) (b ∷ bs) e h k g = by_test (test b a) refl (λ i. zipped_fewer test fewer us bs (omega arith) h.1 k.1 i)
      where
        by_test : (t : Bool) → test b a ≡ t → (list_all (λ (b, a). test b a) (zip bs us) ≡ false → total_of left (zipped us bs) < total_of left us) → left (f a b) + total_of left (zipped us bs) < left a + total_of left us
        by_test true i rest = less_rest _ _ _ _ (falls a b h.0 k.0) (rest (sym (ap (λ t. t && list_all (λ (b, a). test b a) (zip bs us)) i) ∙ g))
        by_test false i rest = less_first _ _ _ _ (fewer a b h.0 k.0 i) (zipped_fall us bs h.1 k.1)

  -- so many for each part
  pub few_each : (count steps : ℕ) → ((a : A) → O a → left a ≤ count * steps) → (parts : List A) → AllByRecursion O parts → total_of left parts ≤ count * length parts * steps
  few_each count steps few [] h = omega arith
  few_each count steps few (a ∷ parts) h = swapped _ _ _ (one_more _ _ (few a h.0) (few_each count steps few parts h.1))
    where
      swapped : (p q n : ℕ) → q + p ≤ n → p + q ≤ n
      swapped p q n h = omega arith

      one_more : (p q : ℕ) → p ≤ count * steps → q ≤ count * length parts * steps → q + p ≤ count * suc (length parts) * steps
      one_more p q h k =
          let e : count * suc (length parts) * steps ≡ count * length parts * steps + count * steps = ap (λ n. n * steps) (mul-suc count (length parts)) ∙ add-mul (count * length parts) count steps in
          rw e (at_most _ _ _ _ k h)
