-- The texts of further bounds, and what may stand behind a number.
use Rattle.std.specs.Prelude.{ℕ, Bool, false, not, ◌&&◌, ◌==◌, List, [], ◌∷◌, ◌++◌, codes, flat_map}
use Rattle.std.specs.Int.{IsInRange}
use Rattle.leaf_domain.specs.declared.range.Range.{Range}
use Rattle.certificate_format.specs.Bounds.{items}

-- the items of further names, each behind `, `
abbrev pub further : List (List ℕ) → List Range → List ℕ
further names ranges = flat_map (λ item. codes ", " ++ item) (items names ranges)

-- a text begins without `+`, and with `0` only alone
abbrev pub is_plain : List ℕ → Bool
is_plain [] = false
is_plain (b ∷ []) = not (b == 43)
is_plain (b ∷ c ∷ bs) = not (b == 43) && not (b == 48)

-- the text begins with a byte that is no digit
abbrev pub EndsDigits : List ℕ → Type 0
EndsDigits [] = ⊥
EndsDigits (b ∷ bs) = ¬ (IsInRange 48 57 b)

-- neither with `-`
abbrev pub EndsNumber : List ℕ → Type 0
EndsNumber [] = ⊥
EndsNumber (b ∷ bs) = ¬ (IsInRange 48 57 b) × ¬ (IsInRange 45 45 b)
