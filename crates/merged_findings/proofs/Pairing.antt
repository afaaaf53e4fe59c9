-- One pair more, behind those of the beginning of a list.
use Rattle.std.proofs.Common.{◌≡◌, ◌<◌, ◌∙◌, ℕ, ◌+◌, List, [], ◌∷◌, ◌++◌, take, length, subst, sym, ap}
use Rattle.std.specs.Prelude.{get_or}
use Rattle.std.proofs.lemmas.List.{take_more}
use Rattle.merged_findings.specs.Pairs.{ArePairs}

module _ {X Y : Type 0} (R : X → Y → Type 0) where
  push : (xs : List X) (ys : List Y) (x : X) (y : Y) → ArePairs R xs ys → R x y → ArePairs R (xs ++ x ∷ []) (ys ++ y ∷ [])
  push [] [] x y h r = (r, tt)
  push [] (w ∷ ys) x y h r = absurd h
  push (z ∷ xs) [] x y h r = absurd h
  push (z ∷ xs) (w ∷ ys) x y h r = (h.0, push xs ys x y h.1 r)

  pub pairs_more : (i : ℕ) (xs : List X) (ys zs : List Y) (x : X) (y : Y) → i < length xs → x ≡ get_or xs i x → zs ≡ ys ++ y ∷ [] → ArePairs R (take i xs) ys → R x y → ArePairs R (take (i + 1) xs) zs
  pairs_more i xs ys zs x y l e pushed h r =
      subst (λ ws. ArePairs R ws zs) (sym (take_more xs i x l ∙ ap (λ w. take i xs ++ w ∷ []) (sym e)))
      (subst (ArePairs R (take i xs ++ x ∷ [])) (sym pushed) (push (take i xs) ys x y h r))
