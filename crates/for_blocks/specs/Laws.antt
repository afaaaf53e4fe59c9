-- The laws of blocks for loops that declare variables.
use Rattle.std.specs.Prelude.{◌≡◌, ℕ, Bool, false, List, [], ◌∷◌}
use Rattle.c_grammar.specs.declared.items.Item.{Item}
use Rattle.c_grammar.specs.Facts.{AreConditionsOf}
use Rattle.c_grammar.specs.Grammar.{File, Forms, has_groups}
use Rattle.c_grammar.specs.Kept.{kept}
use Rattle.c_grammar.specs.Within.{FormsWithin}
use Rattle.for_blocks.specs.Blocks.{declares, unfolded}

-- the items form the same file
abbrev pub BlocksFormTheFile : Type 0
BlocksFormTheFile = (items : List Item) (f : File) → FormsWithin items f → Forms (unfolded items) f

-- blocks and then preprocessing is preprocessing and then blocks
abbrev pub BlocksAreKept : Type 0
BlocksAreKept = (items : List Item) (f : File) (truths : List Bool) → FormsWithin items f → kept truths (unfolded items) ≡ unfolded (kept truths items)

-- no `for` declares variables
abbrev pub NoneDeclares : List Item → Type 0
NoneDeclares [] = Unit {0}
NoneDeclares (x ∷ xs) = (declares x xs ≡ false) × NoneDeclares xs

-- so it is in the blocks
abbrev pub BlocksDeclareNone : Type 0
BlocksDeclareNone = (items : List Item) (f : File) → FormsWithin items f → NoneDeclares (unfolded items)

-- and where it is so, the items stay as they are
abbrev pub OthersStay : Type 0
OthersStay = (items : List Item) → NoneDeclares items → unfolded items ≡ items

-- group directives are neither added nor left out
abbrev pub GroupsStay : Type 0
GroupsStay = (items : List Item) → has_groups (unfolded items) ≡ has_groups items

abbrev pub ConditionsStay : Type 0
ConditionsStay = (count : ℕ) (items : List Item) → AreConditionsOf count items → AreConditionsOf count (unfolded items)
