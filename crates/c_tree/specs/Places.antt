-- The places of a program.
use Rattle.std.specs.Prelude.{List, [], ◌∷◌, ◌++◌}
use Rattle.fam_outer.specs.declared.faults.Place.{Place}
use Rattle.c_tree.specs.Tree.{Code, Done, Assign, Input, Assert, If, While, Do, Leave, Block, Skip, Cond, Whole}

-- all places, in the order of the text
abbrev pub places_of : Code → List Place
places_of Done = []
places_of (Assign place target value rest) = place ∷ places_of rest
places_of (Input place target rest) = place ∷ places_of rest
places_of (Assert place test rest) = place ∷ places_of rest
places_of (If place test p q rest) = place ∷ (places_of p ++ (places_of q ++ places_of rest))
places_of (While place test step body rest) = place ∷ (places_of step ++ (places_of body ++ places_of rest))
places_of (Do place body at test rest) = place ∷ (places_of body ++ at ∷ places_of rest)
places_of (Leave place jump rest) = place ∷ places_of rest
places_of (Block place body rest) = place ∷ (places_of body ++ places_of rest)
places_of (Skip place rest) = place ∷ places_of rest
places_of (Cond number p q rest) = places_of p ++ (places_of q ++ places_of rest)

-- all places of a program, the closing brace of `main` last
abbrev pub program_places : Whole → List Place
program_places p = places_of p.body ++ p.end ∷ []
