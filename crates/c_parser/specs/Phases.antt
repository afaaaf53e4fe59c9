-- What the bytes of a file are read as, phase by phase, whatever kind of file it is. The phases are those before the grammar (the
-- length, the comments, the lines, the tokens), the grammar, and the names; the earliest that has a fault decides.
use Rattle.std.specs.Prelude.{◌≡◌, ◌⊎◌, ⊤, ℕ, zero, suc, Bool, true, false, ◌||◌, ◌&&◌, if◌then◌else◌, List, slice_get, Option, Some, None, Result, Ok, Err}
use Rattle.fam_outer.specs.declared.faults.Place.{Place}
use Rattle.fam_outer.specs.declared.faults.FileCode.{FileCode}
use Rattle.fam_outer.specs.declared.faults.FileCode.TheVariants.{Syntax, TooDeep, GroupInsideStatement}
use Rattle.fam_outer.specs.declared.faults.FileRefusal.{FileRefusal}
use Rattle.fam_outer.specs.declared.faults.FileRefusal.TheVariants as refusals
use Rattle.fam_outer.specs.Places.{end_place}
use Rattle.c_tree.specs.Tree.{Whole}
use Rattle.c_tree.specs.View.{whole}
use Rattle.c_tree.specs.declared.tree.Program.{Program}
use Rattle.c_grammar.specs.declared.items.Item.{Item}
use Rattle.c_grammar.specs.declared.items.Sign.{Sign}
use Rattle.c_grammar.specs.declared.items.Sign.TheVariants as signs
use Rattle.c_grammar.specs.Grammar.{is_group}
use Rattle.c_grammar.specs.Within.{SpellsWithin}
use Rattle.item_reader.specs.Reading.{IsWrongAt, IsDeepAt}
use Rattle.c_parser.specs.Items.{Listed}

-- what tells one kind of files from another: the phases before the grammar, and what is asked of names behind it
pub record FileMeaning (K : Type 0) : Type 1 where
  -- a phase before the grammar has this fault
  pub refused : List ℕ → FileCode × Place → Type 0
  -- these are the names and items of the bytes, and this is known of them besides
  pub listed : List ℕ → Listed → K → Type 0
  -- the first fault of a name among the items, or none
  pub named : Listed → K → Option (FileCode × Place) → Type 0

-- ---- the grammar

-- the place of an item, or the end
abbrev pub place_or : Option Item → Place → Place
place_or None end = end
place_or (Some x) end = x.place

abbrev pub place_with : List Item → ℕ → Place → Place
place_with items n end = place_or (slice_get items n) end

abbrev pub is_group_item : Option Item → Bool
is_group_item None = false
is_group_item (Some x) = is_group x.sign

abbrev pub is_else : Sign → Bool
is_else signs.Else = true
is_else _ = false

abbrev pub is_else_item : Option Item → Bool
is_else_item None = false
is_else_item (Some x) = is_else x.sign

-- the item before a position
abbrev pub item_before : List Item → ℕ → Option Item
item_before items zero = None
item_before items (suc n) = slice_get items n

-- the code of the first wrong item: a group directive, or an `else` directly behind one, stands inside a statement; a file without
-- groups has no such item
abbrev pub wrong_code : List Item → ℕ → FileCode
wrong_code items n =
    if is_group_item (slice_get items n) || (is_else_item (slice_get items n) && is_group_item (item_before items n)) then GroupInsideStatement else Syntax

-- the item at a position, or the end behind all, is the first wrong one
pub record HasWrong (l : Listed) (end : Place) (fault : FileCode × Place) : Type 0 where
  pub position : ℕ
  pub wrong : IsWrongAt l.items position
  pub is : fault ≡ (wrong_code l.items position, place_with l.items position end)

-- the item at a position is the first too deep one
pub record HasDeep (l : Listed) (end : Place) (fault : FileCode × Place) : Type 0 where
  pub position : ℕ
  pub deep : IsDeepAt l.items position
  pub is : fault ≡ (TooDeep, place_with l.items position end)

-- ---- all phases

-- the items of the bytes spell the program within the limits, and no name has a fault
pub record IsAcceptedFile {K : Type 0} (kind : FileMeaning K) (bytes : List ℕ) (known : K) (p : Whole) : Type 0 where
  pub listed : Listed
  pub are : kind.listed bytes listed known
  pub spelled : SpellsWithin listed.names p listed.items
  pub names : kind.named listed known None

-- the items spell a program within the limits, and a name has a fault
pub record HasNameFault {K : Type 0} (kind : FileMeaning K) (l : Listed) (known : K) (fault : FileCode × Place) : Type 0 where
  pub program : Whole
  pub spelled : SpellsWithin l.names program l.items
  pub names : kind.named l known (Some fault)

-- an item of the bytes is wrong or too deep, or a name has a fault
pub record HasItemFault {K : Type 0} (kind : FileMeaning K) (bytes : List ℕ) (fault : FileCode × Place) : Type 0 where
  pub listed : Listed
  pub known : K
  pub are : kind.listed bytes listed known
  pub is : HasWrong listed (end_place bytes) fault ⊎ (HasDeep listed (end_place bytes) fault ⊎ HasNameFault kind listed known fault)

-- the bytes have this fault: one of a phase before the grammar, or else of their items
abbrev pub IsRefusedFile : {K : Type 0} → FileMeaning K → List ℕ → FileCode × Place → Type 0
IsRefusedFile kind bytes fault = kind.refused bytes fault ⊎ HasItemFault kind bytes fault

-- what a call that reads a file of a kind answers; want of memory is free
abbrev pub IsReadAs : {K : Type 0} → FileMeaning K → List ℕ → Result (Program × K) FileRefusal → Type 0
IsReadAs kind bytes (Ok (program, known)) = IsAcceptedFile kind bytes known (whole program)
IsReadAs kind bytes (Err (refusals.Fault code place)) = IsRefusedFile kind bytes (code, place)
IsReadAs kind bytes (Err refusals.NoMemory) = ⊤
