-- What holds of all elements of lists, and of one.
use Rattle.std.proofs.Common.{◌≡◌, ℕ, zero, suc, Bool, true, false, ◌&&◌, List, [], ◌∷◌, ◌++◌, map, refl, ap, subst, inl, inr}
use Rattle.std.specs.Prelude.{Some, slice_get}
use Rattle.std.specs.List.{AllByRecursion}
use Rattle.invariant_certificate.proofs.Sublists.{IsIn}

module _ {X : Type 0} (P : X → Type 0) where
  pub all_left : (xs ys : List X) → AllByRecursion P (xs ++ ys) → AllByRecursion P xs
  all_left [] ys h = tt
  all_left (x ∷ xs) ys h = (h.0, all_left xs ys h.1)

  pub all_right : (xs ys : List X) → AllByRecursion P (xs ++ ys) → AllByRecursion P ys
  all_right [] ys h = h
  all_right (x ∷ xs) ys h = all_right xs ys h.1

  pub all_both : (xs ys : List X) → AllByRecursion P xs → AllByRecursion P ys → AllByRecursion P (xs ++ ys)
  all_both [] ys h k = k
  all_both (x ∷ xs) ys h k = (h.0, all_both xs ys h.1 k)

  pub all_by_index : (xs : List X) → ((i : ℕ) (x : X) → slice_get xs i ≡ Some x → P x) → AllByRecursion P xs
  all_by_index [] h = tt
  all_by_index (x ∷ xs) h = (h 0 x refl, all_by_index xs (λ i y e. h (suc i) y e))

  pub all_at : (xs : List X) (i : ℕ) (x : X) → AllByRecursion P xs → slice_get xs i ≡ Some x → P x
  all_at [] i x h e = cc
  all_at (y ∷ xs) zero x h e = let same : y ≡ x = cc in subst P same h.0
  all_at (y ∷ xs) (suc i) x h e = all_at xs i x h.1 e

  pub all_by_one : (xs : List X) → ((x : X) → IsIn x xs → P x) → AllByRecursion P xs
  all_by_one [] h = tt
  all_by_one (x ∷ xs) h = (h x (inl refl), all_by_one xs (λ y i. h y (inr i)))

module _ {X : Type 0} where
  pub in_left : (x : X) (xs ys : List X) → IsIn x xs → IsIn x (xs ++ ys)
  in_left x [] ys i = absurd i
  in_left x (y ∷ xs) ys (inl e) = inl e
  in_left x (y ∷ xs) ys (inr i) = inr (in_left x xs ys i)

  pub in_right : (x : X) (xs ys : List X) → IsIn x ys → IsIn x (xs ++ ys)
  in_right x [] ys i = i
  in_right x (y ∷ xs) ys i = inr (in_right x xs ys i)

  pub in_at : (x : X) (xs : List X) (n : ℕ) → slice_get xs n ≡ Some x → IsIn x xs
  in_at x [] n e = cc
  in_at x (y ∷ xs) zero e = let same : y ≡ x = cc in inl same
  in_at x (y ∷ xs) (suc n) e = inr (in_at x xs n e)

module _ {X Y : Type 0} (f : X → Y) where
  pub in_map : (x : X) (xs : List X) → IsIn x xs → IsIn (f x) (map f xs)
  in_map x [] i = absurd i
  in_map x (y ∷ xs) (inl e) = inl (ap f e)
  in_map x (y ∷ xs) (inr i) = inr (in_map x xs i)

  -- what is one of the images is the image of one
  pub in_mapped : (y : Y) (xs : List X) → IsIn y (map f xs) → (x : X) × IsIn x xs × (f x ≡ y)
  in_mapped y [] i = absurd i
  in_mapped y (x ∷ xs) (inl e) = (x, inl refl, e)
  in_mapped y (x ∷ xs) (inr i) = let k = in_mapped y xs i in (k.0, inr k.1, k.2)

pub both_true : (a b : Bool) → a ≡ true → b ≡ true → (a && b) ≡ true
both_true true b e f = f
both_true false b e f = cc

pub parts_true : (a b : Bool) → (a && b) ≡ true → (a ≡ true) × (b ≡ true)
parts_true true b e = (refl, e)
parts_true false b e = cc
