-- What the blocks of loops that declare variables leave of the names of a list of items.
use Rattle.std.specs.Prelude.{◌≡◌, List}
use Rattle.c_grammar.specs.declared.items.Item.{Item}
use Rattle.c_grammar.specs.Locals.{names_of, declared_by}
use Rattle.for_blocks.specs.Blocks.{unfolded}

-- the names are the same, in the same order
abbrev pub NamesStay : Type 0
NamesStay = (items : List Item) → names_of (unfolded items) ≡ names_of items

-- and the same ones of them are declared
abbrev pub DeclarationsStay : Type 0
DeclarationsStay = (items : List Item) → declared_by (unfolded items) ≡ declared_by items
