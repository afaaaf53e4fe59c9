-- Texts cut at a separator.
use Rattle.std.specs.Prelude.{◌≡◌, ◌⊎◌, ℕ, ◌<◌, List, [], ◌∷◌, ◌++◌, length}
use Rattle.memchr.specs.Find.{OccursAt}

-- the separator stands nowhere in the text
abbrev pub Lacks : List ℕ → List ℕ → Type 0
Lacks separator text = (k : ℕ) → ¬ (OccursAt text separator k)

-- the text is this front, the separator where it first occurs, and this rest
pub record IsCut (separator text front rest : List ℕ) : Type 0 where
  pub whole : text ≡ front ++ (separator ++ rest)
  pub first : (k : ℕ) → k < length front → ¬ (OccursAt text separator k)

-- the text is these parts, each with the separator that ends it, and this rest
abbrev pub Begins : List ℕ → List ℕ → List (List ℕ) → List ℕ → Type 0
Begins separator text [] rest = text ≡ rest
Begins separator text (part ∷ parts) rest = (behind : List ℕ) × IsCut separator text part behind × Begins separator behind parts rest

-- what stands between the separators of the text, in order
pub record AreBetween (separator text : List ℕ) (parts : List (List ℕ)) : Type 0 where
  pub front : List (List ℕ)
  pub last : List ℕ
  pub begins : Begins separator text front last
  pub ends : Lacks separator last
  pub parts_are : parts ≡ front ++ (last ∷ [])

-- one of what stands between the separators of the text: behind some of them, up to the next or to the end
pub record IsBetween (separator text part : List ℕ) : Type 0 where
  pub front : List (List ℕ)
  pub last : List ℕ
  pub begins : Begins separator text front last
  pub part_is : ((rest : List ℕ) × IsCut separator last part rest) ⊎ ((part ≡ last) × Lacks separator last)
