-- Items with their places, and signs by what they do in a file.
use Rattle.std.specs.Prelude.{Bool, true, false}
use Rattle.fam_outer.specs.declared.faults.Place.{Place}
use Rattle.c_grammar.specs.declared.items.Item.{Item}
use Rattle.c_grammar.specs.declared.items.Sign.{Sign}
use Rattle.c_grammar.specs.declared.items.Sign.TheVariants as signs

abbrev pub at : Place → Sign → Item
at p s = record { place = p; sign = s }

-- a group directive
abbrev pub is_group : Sign → Bool
is_group (signs.GroupIf n) = true
is_group (signs.GroupElif n) = true
is_group signs.GroupElse = true
is_group signs.GroupEnd = true
is_group _ = false

abbrev pub is_main : Sign → Bool
is_main signs.Main = true
is_main _ = false

-- behind the sign a name in `main` is declared: a comma stands there in declarations alone
abbrev pub is_declaring : Sign → Bool
is_declaring signs.Int = true
is_declaring signs.Int32 = true
is_declaring signs.Signed = true
is_declaring signs.Const = true
is_declaring signs.Comma = true
is_declaring _ = false
