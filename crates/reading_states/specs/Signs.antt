-- Signs whose numbers can be negated.
use Rattle.std.specs.Prelude.{pos, ◌≤ℤ◌, List, [], ◌∷◌}
use Rattle.c_grammar.specs.declared.items.Item.{Item}
use Rattle.c_grammar.specs.declared.items.Sign.{Sign}
use Rattle.c_grammar.specs.declared.items.Sign.TheVariants as signs

-- a number is not negative
abbrev pub IsUnsigned : Sign → Type 0
IsUnsigned (signs.Number n) = pos 0 ≤ℤ n
IsUnsigned _ = Unit {0}

-- the numbers of the items are not negative
abbrev pub AreUnsigned : List Item → Type 0
AreUnsigned [] = Unit {0}
AreUnsigned (x ∷ w) = IsUnsigned x.sign × AreUnsigned w
