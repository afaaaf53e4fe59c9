-- One item, with what is open before it.
use Rattle.std.specs.Prelude.{◌≡◌, ◌≤◌, ◌+◌, ℕ, false, true, Some, None, Result, Ok, Err, List, [], ◌∷◌, length}
use Rattle.c_grammar.specs.declared.items.Item.{Item}
use Rattle.c_grammar.specs.Machine as machine
use Rattle.c_grammar.specs.Machine.{start, step}
use Rattle.c_grammar.specs.Deep as limits
use Rattle.c_grammar.specs.Deep.{Fault, counted, is_deep, guarded}
use Rattle.reading_states.specs.declared.states.ReadingState.{ReadingState}
use Rattle.reading_states.specs.declared.states.File.{File}
use Rattle.item_reader.specs.declared.unread.Unread.{Unread}
use Rattle.item_reader.specs.declared.unread.Unread.TheVariants as unread
use Rattle.fam_outer.specs.declared.refusal.Refusal.{Refusal}
use Rattle.fam_outer.specs.declared.refusal.Refusal.TheVariants as refusal
use Rattle.reading_states.specs.Views.{as_file, as_state}

-- the state behind an item, and the operators of its expression so far
pub record IsTaken (state : machine.ReadingState) (count : ℕ) (x : Item) (next : machine.ReadingState) (operators : ℕ) : Type 0 where
  pub goes : step state x.place x.sign ≡ Some next
  pub shallow : is_deep state x.sign count ≡ false
  pub counts : operators ≡ counted state x.sign count
  pub few : operators ≤ 64

-- the state can take the item, but too much is open
pub record IsTooMuch (state : machine.ReadingState) (count : ℕ) (x : Item) : Type 0 where
  pub next : machine.ReadingState
  pub goes : step state x.place x.sign ≡ Some next
  pub deep : is_deep state x.sign count ≡ true

-- what one item at a position leads to
abbrev pub Takes : machine.ReadingState → ℕ → Item → ℕ → Result (ReadingState × ℕ) (Refusal Unread) → Type 0
Takes state count x n (Ok made) = IsTaken state count x (as_state made.0) made.1
Takes state count x n (Err refusal.NoMemory) = Unit {0}
Takes state count x n (Err (refusal.Fault (unread.Wrong m))) = (m ≡ n) × (step state x.place x.sign ≡ None)
Takes state count x n (Err (refusal.Fault (unread.Deep m))) = (m ≡ n) × IsTooMuch state count x

-- the machine stops, with so many items left from a position on
pub record StopsAt (items : List Item) (n : ℕ) (fault : ℕ → Fault) : Type 0 where
  pub left : ℕ
  pub position : n + left ≡ length items
  pub stops : guarded start 0 items ≡ Err (fault left)

-- what the items lead to
abbrev pub AreItemsRead : List Item → Result File (Refusal Unread) → Type 0
AreItemsRead items (Ok file) = guarded start 0 items ≡ Ok (as_file file)
AreItemsRead items (Err refusal.NoMemory) = Unit {0}
AreItemsRead items (Err (refusal.Fault (unread.Wrong n))) = StopsAt items n limits.Wrong
AreItemsRead items (Err (refusal.Fault (unread.Deep n))) = StopsAt items n limits.Deep
