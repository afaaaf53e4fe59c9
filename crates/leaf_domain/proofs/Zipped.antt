-- Lists that are made of two others, one part after the other.
use Rattle.std.proofs.Common.{◌≡◌, ℕ, zero, suc, ◌+◌, ◌<◌, List, [], ◌∷◌, ◌++◌, length, map, take, slice_index_or, refl, ap, sym, ◌∙◌, arith}
use Rattle.std.specs.List.{zip}

module _ {A : Type 0} (f : A → A → A) (d : A) where
  abbrev zipped : List A → List A → List A
  zipped us bs = map (λ (a, b). f a b) (zip us bs)

  zipped_more : (us bs : List A) (i : ℕ) → i < length us → i < length bs → zipped (take (suc i) us) (take (suc i) bs) ≡ zipped (take i us) (take i bs) ++ (f (slice_index_or us i d) (slice_index_or bs i d) ∷ [])
  zipped_more [] bs i l k = absurd (omega arith)
  zipped_more (u ∷ us) [] i l k = absurd (omega arith)
  zipped_more (u ∷ us) (b ∷ bs) zero l k = refl
  zipped_more (u ∷ us) (b ∷ bs) (suc i) l k = ap (λ xs. f u b ∷ xs) (zipped_more us bs i (omega arith) (omega arith))

  -- what is made of the first parts, with one more
  pub zipped_next : (us bs made new : List A) (i : ℕ) (r : A) → made ≡ zipped (take i us) (take i bs) → new ≡ made ++ (r ∷ []) → r ≡ f (slice_index_or us i d) (slice_index_or bs i d) → i < length us → i < length bs
      → new ≡ zipped (take (i + 1) us) (take (i + 1) bs)
  zipped_next us bs made new i r e g h l k =
      let n : suc i ≡ i + 1 = omega arith in
      g ∙ ap (λ xs. xs ++ (r ∷ [])) e ∙ ap (λ y. zipped (take i us) (take i bs) ++ (y ∷ [])) h ∙ sym (zipped_more us bs i l k)
      ∙ ap (λ j. zipped (take j us) (take j bs)) n
