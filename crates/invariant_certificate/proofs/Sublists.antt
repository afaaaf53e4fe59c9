-- Lists that have some of the elements of a list, in its order.
use Rattle.std.proofs.Common.{◌≡◌, ◌⊎◌, List, [], ◌∷◌, ◌++◌, inl, inr, subst}
use Rattle.std.specs.List.{AllByRecursion}
use Rattle.fam_outer.specs.declared.faults.Place.{Place}
use Rattle.c_tree.specs.Whole.{IsBeforeAll, IsRising}

module _ {X : Type 0} where
  -- x is one of the list
  abbrev pub IsIn : X → List X → Type 0
  IsIn x [] = ⊥
  IsIn x (y ∷ ys) = (y ≡ x) ⊎ IsIn x ys

  pub one_of_all : (P : X → Type 0) (x : X) (ys : List X) → AllByRecursion P ys → IsIn x ys → P x
  one_of_all P x [] h i = absurd i
  one_of_all P x (y ∷ ys) h (inl e) = subst P e h.0
  one_of_all P x (y ∷ ys) h (inr i) = one_of_all P x ys h.1 i

  pub data Within : List X → List X → Type 0 where
    none : Within [] []
    takes : (x : X) (xs ys : List X) → Within xs ys → Within (x ∷ xs) (x ∷ ys)
    skips : (y : X) (xs ys : List X) → Within xs ys → Within xs (y ∷ ys)

  pub empty : (ys : List X) → Within [] ys
  empty [] = none
  empty (y ∷ ys) = skips y [] ys (empty ys)

  pub whole : (xs : List X) → Within xs xs
  whole [] = none
  whole (x ∷ xs) = takes x xs xs (whole xs)

  pub both : (a b c d : List X) → Within a b → Within c d → Within (a ++ c) (b ++ d)
  both _ _ c d none k = k
  both _ _ c d (takes x a b h) k = takes x (a ++ c) (b ++ d) (both a b c d h k)
  both _ _ c d (skips y a b h) k = skips y (a ++ c) (b ++ d) (both a b c d h k)

  pub at_left : (a b d : List X) → Within a b → Within a (b ++ d)
  at_left _ _ d none = empty d
  at_left _ _ d (takes x a b h) = takes x a (b ++ d) (at_left a b d h)
  at_left _ _ d (skips y a b h) = skips y a (b ++ d) (at_left a b d h)

  pub at_right : (a b d : List X) → Within a d → Within a (b ++ d)
  at_right a [] d h = h
  at_right a (y ∷ b) d h = skips y a (b ++ d) (at_right a b d h)

  pub in_more : (x : X) (xs ys : List X) → Within xs ys → IsIn x xs → IsIn x ys
  in_more x _ _ none i = i
  in_more x _ _ (takes y xs ys h) (inl e) = inl e
  in_more x _ _ (takes y xs ys h) (inr i) = inr (in_more x xs ys h i)
  in_more x _ _ (skips y xs ys h) i = inr (in_more x xs ys h i)

-- ---- places that rise

pub before_some : (p : Place) (xs ys : List Place) → Within xs ys → IsBeforeAll p ys → IsBeforeAll p xs
before_some p _ _ none b = tt
before_some p _ _ (takes x xs ys h) b = (b.0, before_some p xs ys h b.1)
before_some p _ _ (skips y xs ys h) b = before_some p xs ys h b.1

pub rising_some : (xs ys : List Place) → Within xs ys → IsRising ys → IsRising xs
rising_some _ _ none r = tt
rising_some _ _ (takes x xs ys h) r = (before_some x xs ys h r.0, rising_some xs ys h r.1)
rising_some _ _ (skips y xs ys h) r = rising_some xs ys h r.1
