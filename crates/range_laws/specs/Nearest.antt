-- What the nearest of some numbers to a bound is.
use Rattle.std.specs.Prelude.{◌≡◌, ◌⊎◌, ℤ, ◌≤ℤ◌, List, All, Contains}
use Rattle.leaf_domain.specs.Thresholds.{nearest}

-- It covers the bound and is at most the limit. It is the limit or one of the numbers, and none of them that covers the bound
-- is less.
pub record IsNearest (limit : ℤ) (ts : List ℤ) (bound result : ℤ) : Type 0 where
  pub covers : bound ≤ℤ result
  pub within : result ≤ℤ limit
  pub step : (result ≡ limit) ⊎ Contains ts result
  pub least : All (λ t. bound ≤ℤ t → result ≤ℤ t) ts

abbrev pub NearestIsLeast : Type 0
NearestIsLeast = (limit : ℤ) (ts : List ℤ) (bound : ℤ) → bound ≤ℤ limit → IsNearest limit ts bound (nearest limit ts bound)

-- only one number is that
abbrev pub NearestIsOne : Type 0
NearestIsOne = (limit : ℤ) (ts : List ℤ) (bound m n : ℤ) → IsNearest limit ts bound m → IsNearest limit ts bound n → m ≡ n
