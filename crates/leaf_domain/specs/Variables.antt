-- Lists with one part for each variable of a leaf, and stores.
use Rattle.std.specs.Prelude.{ℕ, ◌+◌, ℤ, List, [], ◌∷◌, ⊤}

-- the number of each variable is one that its part allows
abbrev pub EachHolds : {A : Type 0} → (A → ℤ → Type 0) → List A → List ℤ → Type 0
EachHolds P [] [] = ⊤
EachHolds P (a ∷ parts) (n ∷ ns) = P a n × EachHolds P parts ns
EachHolds P parts ns = ⊥

-- the sum of what is counted of each part
abbrev pub total_of : {A : Type 0} → (A → ℕ) → List A → ℕ
total_of count [] = 0
total_of count (a ∷ parts) = count a + total_of count parts
