-- Lists with one more at their end.
use Rattle.std.proofs.Common.{◌≡◌, List, [], ◌∷◌, ◌++◌, refl, ap}
use Rattle.std.specs.Prelude.{map}
use Rattle.std.proofs.lemmas.List.{reverse-append}
use Rattle.reading_states.specs.declared.states.Tailing.{Tailing}
use Rattle.reading_states.specs.Views.{as_tailing, as_parts}

pub parts_none : as_parts [] ≡ []
unfolding as_parts
parts_none = refl

-- the last group is the innermost
pub parts_more : (list : List Tailing) (x : Tailing) → as_parts (list ++ x ∷ []) ≡ as_tailing x ∷ as_parts list
unfolding as_parts
parts_more list x = ap (map as_tailing) (reverse-append list (x ∷ []))

pub ruleset parts = (parts_none, parts_more)
