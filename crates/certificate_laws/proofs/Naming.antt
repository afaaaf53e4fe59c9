-- Names that are words.
use Rattle.std.proofs.Common.{◌≡◌, ◌≢◌, ℕ, ◌<◌, ◌≤◌, List, [], ◌∷◌, length}
use Rattle.std.specs.List.{AllByRecursion}
use Rattle.linear_atoms.specs.declared.atoms.Feature.{Feature}
use Rattle.linear_atoms.specs.Texts.{name_at}

-- a byte from `0` to `z` that is no colon, as each letter, digit and underscore is
abbrev pub IsWordByte : ℕ → Type 0
IsWordByte b = (48 ≤ b) × (b ≤ 122) × (b ≢ 58)

abbrev pub AreWordBytes : List ℕ → Type 0
AreWordBytes bytes = AllByRecursion IsWordByte bytes

-- such bytes, of which the first stands behind the digits
abbrev pub IsName : List ℕ → Type 0
IsName [] = ⊥
IsName (b ∷ bs) = (58 < b) × AreWordBytes (b ∷ bs)

-- the features have names, and no two the same
pub record HaveNames (features : List Feature) : Type 0 where
  pub are : (n : ℕ) → n < length features → IsName (name_at features n)
  pub apart : (m n : ℕ) → m < length features → n < length features → name_at features m ≡ name_at features n → m ≡ n
