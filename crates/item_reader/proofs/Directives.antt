-- Group directives among items.
use Rattle.std.proofs.Common.{◌≡◌, ◌||◌, List, [], ◌∷◌, refl, ap}
use Rattle.std.specs.List.{list_any}
use Rattle.std.specs.Prelude.{Bool}
use Rattle.c_grammar.specs.declared.items.Item.{Item}
use Rattle.c_grammar.specs.Grammar.{is_group, has_groups}

pub any_group : (items : List Item) → list_any (λ (x : Item). is_group x.sign) items ≡ has_groups items
any_group [] = refl
any_group (x ∷ w) = ap (λ (b : Bool). is_group x.sign || b) (any_group w)
