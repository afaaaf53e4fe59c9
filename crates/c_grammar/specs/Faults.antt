-- The first item at which a list of items is refused.
use Rattle.std.specs.Prelude.{◌≡◌, ℕ, suc, List, [], ◌∷◌, ◌++◌, length}
use Rattle.c_grammar.specs.declared.items.Item.{Item}
use Rattle.c_grammar.specs.Grammar.{File, Forms}
use Rattle.c_grammar.specs.Within.{FormsWithin}

-- no list of items that spells a program begins so
abbrev pub Stops : List Item → List Item → Type 0
Stops before [] = (f : File) → Forms before f → ⊥
Stops before (x ∷ rest) = (more : List Item) (f : File) → Forms (before ++ x ∷ more) f → ⊥

-- the first wrong item, or the end, with so many items from it on: what stands before it goes on to a file, and with it
-- nothing does, whichever names there are
pub record IsWrong (ts : List Item) (n : ℕ) : Type 0 where
  pub before : List Item
  pub rest : List Item
  pub cut : ts ≡ before ++ rest
  pub left : length rest ≡ n
  pub tail : List Item
  pub made : File
  pub goes_on : Forms (before ++ tail) made
  pub stops : Stops before rest

-- the first item with which some file goes on, but none within the limits, with so many items from it on
pub record IsTooDeep (items : List Item) (n : ℕ) : Type 0 where
  pub before : List Item
  pub item : Item
  pub rest : List Item
  pub cut : items ≡ before ++ item ∷ rest
  pub left : suc (length rest) ≡ n
  pub tail : List Item
  pub made : File
  pub goes_on : FormsWithin (before ++ tail) made
  pub some : List Item
  pub other : File
  pub continues : Forms (before ++ item ∷ some) other
  pub stops : (more : List Item) (f : File) → FormsWithin (before ++ item ∷ more) f → ⊥

-- no item is too deep
abbrev pub NothingDeep : List Item → Type 0
NothingDeep items = (n : ℕ) → IsTooDeep items n → ⊥
