-- A list of which the latest items are given up at the end of a block, as a contract sees it.
use Rattle.std.specs.Prelude.{ℕ, zero, suc, ◌≤◌, Bool, true, false, List, [], ◌∷◌, length, take, reverse}
use Rattle.c_grammar.specs.declared.scoped.Scoped.{Scoped}

-- Below, blocks are given by how many items stand before each one that is open, the innermost first.

-- whether a block is open
abbrev pub has_block : List ℕ → Bool
has_block [] = false
has_block (b ∷ bs) = true

-- how many of so many items are left once a block and so many more are left; the outermost stays open
abbrev pub left_of : ℕ → ℕ → List ℕ → ℕ
left_of n count [] = count
left_of zero count (b ∷ bs) = b
left_of (suc n) count (b ∷ bs) = left_of n b bs

-- the items that are left once so many blocks are left
abbrev pub left_where : {T : Type 0} → ℕ → List T → List ℕ → List T
left_where zero items blocks = items
left_where (suc n) items blocks = take (left_of n (length items) blocks) items

-- no block begins behind so many items, nor behind the beginning of one in it
abbrev pub BeginWithin : ℕ → List ℕ → Type 0
BeginWithin count [] = Unit {0}
BeginWithin count (b ∷ bs) = (b ≤ count) × BeginWithin b bs

-- the blocks that are open once the innermost is left; the outermost stays open
abbrev pub without_innermost : List ℕ → List ℕ
without_innermost [] = []
without_innermost (b ∷ []) = b ∷ []
without_innermost (b ∷ c ∷ bs) = c ∷ bs

module _ {T : Type 0} where
  -- a block is open
  unfoldable pub is_inside : Scoped T → Bool
  is_inside scoped = has_block (reverse scoped.begins.items)

  -- the items that are left where so many more blocks are left: all at 0
  unfoldable pub still : ℕ → Scoped T → List T
  still n scoped = left_where n scoped.items.items (reverse scoped.begins.items)

  -- each block begins among the items of the one around it
  unfoldable pub IsSound : Scoped T → Type 0
  IsSound scoped = BeginWithin (length scoped.items.items) (reverse scoped.begins.items)
