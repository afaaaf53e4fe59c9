-- What lists with one part for each variable hold, and no more.
use Rattle.std.proofs.Common.{◌≡◌, ℕ, zero, suc, ◌<◌, ℤ, pos, Bool, true, ◌&&◌, List, [], ◌∷◌, length, map, slice_set, slice_index_or, refl, ap, ◌∙◌, arith}
use Rattle.std.specs.List.{AllByRecursion, list_all, zip}
use Rattle.leaf_domain.specs.Variables.{EachHolds}
use Rattle.leaf_domain.proofs.Variables.{both}

-- the number that was there comes back
pub replaced_back : (s : List ℤ) (x : ℕ) (k : ℤ) → x < length s → s ≡ slice_set (slice_set s x k) x (slice_index_or s x (pos 0))
replaced_back [] x k l = absurd (omega arith)
replaced_back (n ∷ s) zero k l = refl
replaced_back (n ∷ s) (suc x) k l = ap (λ t. n ∷ t) (replaced_back s x k (omega arith))

both_true : (a b : Bool) → a ≡ true → b ≡ true → (a && b) ≡ true
both_true a b e f = ap (λ c. c && b) e ∙ f

module _ {A : Type 0} where
  abbrev all_pass : (A → A → Bool) → List A → List A → Bool
  all_pass test us bs = list_all (λ (a, b). test a b) (zip us bs)

  abbrev zipped : (A → A → A) → List A → List A → List A
  zipped f us bs = map (λ (a, b). f a b) (zip us bs)

  -- where both lists pass with a third, what is made of them does
  pub both_pass : (O : A → Type 0) (test : A → A → Bool) (f : A → A → A) → ((a b c : A) → O a → O b → test a c ≡ true → test b c ≡ true → test (f a b) c ≡ true)
      → (us bs cs : List A) → AllByRecursion O us → AllByRecursion O bs → all_pass test us cs ≡ true → all_pass test bs cs ≡ true → all_pass test (zipped f us bs) cs ≡ true
  both_pass O test f keeps [] bs cs p q e g = refl
  both_pass O test f keeps (a ∷ us) [] cs p q e g = refl
  both_pass O test f keeps (a ∷ us) (b ∷ bs) [] p q e g = refl
  both_pass O test f keeps (a ∷ us) (b ∷ bs) (c ∷ cs) p q e g =
      let (i, j) = both (test a c) (all_pass test us cs) e in
      let (k, l) = both (test b c) (all_pass test bs cs) g in
      both_true (test (f a b) c) (all_pass test (zipped f us bs) cs) (keeps a b c p.0 q.0 i k) (both_pass O test f keeps us bs cs p.1 q.1 j l)

  module _ (P : A → ℤ → Type 0) where
    -- ---- a part put in for another
    pub put_at : (parts : List A) (s : List ℤ) (x : ℕ) (a : A) → x < length parts → EachHolds P (slice_set parts x a) s → P a (slice_index_or s x (pos 0))
    put_at [] s x a l h = absurd (omega arith)
    put_at (b ∷ parts) [] zero a l h = absurd h
    put_at (b ∷ parts) [] (suc x) a l h = absurd h
    put_at (b ∷ parts) (n ∷ s) zero a l h = h.0
    put_at (b ∷ parts) (n ∷ s) (suc x) a l h = put_at parts s x a (omega arith) h.1

    pub put_back : (d : A) (parts : List A) (s : List ℤ) (x : ℕ) (a : A) → x < length parts → EachHolds P (slice_set parts x a) s → P (slice_index_or parts x d) (slice_index_or s x (pos 0)) → EachHolds P parts s
    put_back d [] s x a l h k = absurd (omega arith)
    put_back d (b ∷ parts) [] zero a l h k = absurd h
    put_back d (b ∷ parts) [] (suc x) a l h k = absurd h
    put_back d (b ∷ parts) (n ∷ s) zero a l h k = (k, h.1)
    put_back d (b ∷ parts) (n ∷ s) (suc x) a l h k = (h.0, put_back d parts s x a (omega arith) h.1 k)

    pub put_other : (d : A) (parts : List A) (s : List ℤ) (x : ℕ) (a : A) (m : ℤ) → x < length parts → EachHolds P (slice_set parts x a) s → P (slice_index_or parts x d) m → EachHolds P parts (slice_set s x m)
    put_other d [] s x a m l h k = absurd (omega arith)
    put_other d (b ∷ parts) [] zero a m l h k = absurd h
    put_other d (b ∷ parts) [] (suc x) a m l h k = absurd h
    put_other d (b ∷ parts) (n ∷ s) zero a m l h k = (k, h.1)
    put_other d (b ∷ parts) (n ∷ s) (suc x) a m l h k = (h.0, put_other d parts s x a m (omega arith) h.1 k)

    -- ---- parts made of two lists, of which the second passes a test with the first
    pub made_only : (test : A → A → Bool) (f : A → A → A) → ((a b : A) (n : ℤ) → test b a ≡ true → P (f a b) n → P a n)
        → (us bs : List A) (s : List ℤ) → length us ≡ length bs → all_pass test bs us ≡ true → EachHolds P (zipped f us bs) s → EachHolds P us s
    made_only test f only [] bs s e t h = h
    made_only test f only (a ∷ us) [] s e t h = absurd (omega arith)
    made_only test f only (a ∷ us) (b ∷ bs) [] e t h = absurd h
    made_only test f only (a ∷ us) (b ∷ bs) (n ∷ s) e t h =
        let (p, q) = both (test b a) (all_pass test bs us) t in (only a b n p h.0, made_only test f only us bs s (omega arith) q h.1)

    -- ---- a list that holds the stores of another
    module _ (O : A → Type 0) (number : A → ℤ) (some : (a : A) → O a → P a (number a)) where
      numbers : List A → List ℤ
      numbers [] = []
      numbers (a ∷ parts) = number a ∷ numbers parts

      numbers_held : (parts : List A) → AllByRecursion O parts → EachHolds P parts (numbers parts)
      unfolding numbers
      numbers_held [] h = tt
      numbers_held (a ∷ parts) h = (some a h.0, numbers_held parts h.1)

      pub inside_passes : (test : A → A → Bool) → ((a b : A) → O a → ((n : ℤ) → P a n → P b n) → test a b ≡ true)
          → (us bs : List A) → length us ≡ length bs → AllByRecursion O us → ((s : List ℤ) → EachHolds P us s → EachHolds P bs s) → all_pass test us bs ≡ true
      inside_passes test passes [] bs e h i = refl
      inside_passes test passes (a ∷ us) [] e h i = refl
      inside_passes test passes (a ∷ us) (b ∷ bs) e h i =
          both_true (test a b) (all_pass test us bs) (passes a b h.0 (λ n k. (i (n ∷ numbers us) (k, numbers_held us h.1)).0))
          (inside_passes test passes us bs (omega arith) h.1 (λ s k. (i (number a ∷ s) (some a h.0, k)).1))
