-- Items before `main` and behind it.
use Rattle.std.specs.Prelude.{Bool, List, [], ◌∷◌, if◌then◌else◌}
use Rattle.std.specs.List.{list_any}
use Rattle.c_grammar.specs.declared.items.Item.{Item}
pub use Rattle.c_grammar.specs.Locals.{is_main}
pub use Rattle.c_grammar.specs.Statics.{behind_main}

-- `main` stands among the items
abbrev pub has_main : List Item → Bool
has_main items = list_any (λ x. is_main x.sign) items

-- the items before `main`
abbrev pub until_main : List Item → List Item
until_main [] = []
until_main (x ∷ xs) = if is_main x.sign then [] else x ∷ until_main xs
