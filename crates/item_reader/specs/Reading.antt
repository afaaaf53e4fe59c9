-- Where the reader of items refuses them.
use Rattle.std.specs.Prelude.{◌≡◌, ◌+◌, ℕ, List, length, Result, Ok, Err}
use Rattle.c_grammar.specs.declared.items.Item.{Item}
use Rattle.c_grammar.specs.Faults.{IsWrong, IsTooDeep, NothingDeep}
use Rattle.item_reader.specs.declared.unread.Unread.{Unread}
use Rattle.item_reader.specs.declared.unread.Unread.TheVariants as unread
use Rattle.fam_outer.specs.declared.refusal.Refusal.{Refusal}
use Rattle.fam_outer.specs.declared.refusal.Refusal.TheVariants as refusal

-- the first item with which no file goes on stands at this position, or no file ends behind the last item; none before it
-- is too deep
pub record IsWrongAt (items : List Item) (n : ℕ) : Type 0 where
  pub left : ℕ
  pub position : n + left ≡ length items
  pub wrong : IsWrong items left
  pub shallow : NothingDeep items

-- the first item with which some file goes on, but none within the limits, stands at this position
pub record IsDeepAt (items : List Item) (n : ℕ) : Type 0 where
  pub left : ℕ
  pub position : n + left ≡ length items
  pub deep : IsTooDeep items left

-- where the items are refused as wrong at a position
abbrev pub OnWrong : {X : Type 0} → Result X (Refusal Unread) → (ℕ → Type 0) → Type 0
OnWrong (Ok x) P = Unit {0}
OnWrong (Err refusal.NoMemory) P = Unit {0}
OnWrong (Err (refusal.Fault (unread.Wrong n))) P = P n
OnWrong (Err (refusal.Fault (unread.Deep n))) P = Unit {0}

-- where the items are refused as too deep at a position
abbrev pub OnDeep : {X : Type 0} → Result X (Refusal Unread) → (ℕ → Type 0) → Type 0
OnDeep (Ok x) P = Unit {0}
OnDeep (Err refusal.NoMemory) P = Unit {0}
OnDeep (Err (refusal.Fault (unread.Wrong n))) P = Unit {0}
OnDeep (Err (refusal.Fault (unread.Deep n))) P = P n
