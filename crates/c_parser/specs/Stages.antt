-- What the phases of reading a file answer.
use Rattle.std.specs.Prelude.{◌≡◌, ◌⊎◌, ⊤, ℕ, false, List, [], length, Result, Ok, Err}
use Rattle.fam_outer.specs.declared.faults.Place.{Place}
use Rattle.fam_outer.specs.declared.faults.FileCode.{FileCode}
use Rattle.fam_outer.specs.declared.faults.FileRefusal.{FileRefusal}
use Rattle.fam_outer.specs.declared.faults.FileRefusal.TheVariants as refusals
use Rattle.c_tree.specs.Tree.{Whole}
use Rattle.c_tree.specs.View.{whole}
use Rattle.c_tree.specs.declared.tree.Program.{Program}
use Rattle.c_grammar.specs.declared.items.Item.{Item}
use Rattle.c_grammar.specs.Facts.{AreFit, AreRising}
use Rattle.c_grammar.specs.Grammar.{has_groups}
use Rattle.c_grammar.specs.Within.{SpellsWithin}
use Rattle.c_parser.specs.declared.numbering.Numbered.{Numbered}
use Rattle.fam_outer.specs.declared.dialect.Includes.{Includes}
use Rattle.c_parser.specs.declared.names.Limits.{Limits}
use Rattle.c_parser.specs.declared.order.Arranged.{Arranged}
use Rattle.c_parser.specs.Functions.{functions_of_bytes}
use Rattle.c_parser.specs.Items.{Listed}
use Rattle.c_parser.specs.Phases.{FileMeaning, HasWrong, HasDeep}
use Rattle.c_parser.specs.Reading.{Given, items_of, own}

-- items that a reader may be given, and that have no groups
pub record AreProper (names : List (List ℕ)) (items : List Item) : Type 0 where
  pub fit : AreFit (length names) items
  pub rising : AreRising items
  pub plain : has_groups items ≡ false

abbrev pub ProperIn : Numbered → Type 0
ProperIn made = AreProper made.names made.items.items

abbrev pub list : List (List ℕ) → List Item → Listed
list names items = record { names = names; items = items }

-- the names and items that were numbered
abbrev pub listed_in : Numbered → Listed
listed_in made = list made.names made.items.items

-- the names and items of a file, or its first fault before the grammar; want of memory is free
abbrev pub Lists : Result Numbered FileRefusal → Result Listed (FileCode × Place) → Type 0
Lists (Ok made) answer = answer ≡ Ok (listed_in made)
Lists (Err (refusals.Fault code place)) answer = answer ≡ Err (code, place)
Lists (Err refusals.NoMemory) answer = ⊤

-- the same for files of a kind, with what is known of them besides
abbrev pub IsListedAs : {K : Type 0} → FileMeaning K → List ℕ → Result (Numbered × K) FileRefusal → Type 0
IsListedAs kind bytes (Ok (made, known)) = kind.listed bytes (listed_in made) known
IsListedAs kind bytes (Err (refusals.Fault code place)) = kind.refused bytes (code, place)
IsListedAs kind bytes (Err refusals.NoMemory) = ⊤

-- the program is spelled by items of which this is true, with what is known of them
pub record IsSpelledBy {K : Type 0} (Has : Listed → K → Type 0) (p : Whole) (known : K) : Type 0 where
  pub listed : Listed
  pub spelled : SpellsWithin listed.names p listed.items
  pub has : Has listed known

-- the program of the items, or the first wrong item, or the first too deep one
abbrev pub IsSpelledAs : List (List ℕ) → List Item → Place → Result Program FileRefusal → Type 0
IsSpelledAs names items end (Ok program) = SpellsWithin names (whole program) items
IsSpelledAs names items end (Err (refusals.Fault code place)) = HasWrong (list names items) end (code, place) ⊎ HasDeep (list names items) end (code, place)
IsSpelledAs names items end (Err refusals.NoMemory) = ⊤

-- functions and names that are given, and how many of them are to be counted
abbrev pub given_in : List (List ℕ) → List (List ℕ) → Limits → Given
given_in functions names limits =
    record { functions = functions; names = names; variables = limits.variables; locals = limits.locals; constants = limits.constants; values = [] }

-- the functions and the names of a file in their order, these with their counts, or its first fault before the grammar; want of memory is free
abbrev pub IsOwn : Includes → List ℕ → Result (List (List ℕ) × Arranged) FileRefusal → Type 0
IsOwn includes bytes (Ok (functions, made)) = own includes bytes ≡ given_in functions made.names (record { variables = made.variables; locals = made.locals; constants = made.constants })
IsOwn includes bytes (Err (refusals.Fault code place)) = items_of includes (functions_of_bytes bytes) [] bytes ≡ Err (code, place)
IsOwn includes bytes (Err refusals.NoMemory) = ⊤
