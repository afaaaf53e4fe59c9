-- The sections that are open, as one list with the innermost first.
use Rattle.std.specs.Prelude.{Bool, List, [], ◌∷◌, reverse, Option, Some, None}

-- the innermost section, and those around it with the outermost first
abbrev pub opened : Option Bool → List Bool → List Bool
opened None outer = []
opened (Some b) outer = b ∷ reverse outer
