-- What the lines of a certificate give the heads of loops, vector by vector.
use Rattle.std.specs.Prelude.{◌≡◌, ℕ, ◌+◌, Bool, ◌&&◌, if◌then◌else◌, List, [], ◌∷◌, Option, Some, None, length}
use Rattle.std.specs.List.{All}
use Rattle.fam_outer.specs.declared.faults.Place.{Place}
use Rattle.cpp_conditions.specs.Propositions.{true_on, IsBelow}
use Rattle.cpp_conditions.specs.View.{formula}
use Rattle.leaf_domain.specs.declared.range.Range.{Range}
use Rattle.leaf_domain.specs.Leaves.{LeafValue, LeafMeaning, nothing_of}
use Rattle.leaf_domain.specs.Ranges.{IsInInt}
use Rattle.lifted_analysis.specs.declared.lines.LoopLine.{LoopLine}
use Rattle.plain_analysis.specs.Places.{is_same_place}
use Rattle.plain_analysis.specs.Statements.{Heads}

-- d with each variable from x on set to its range, in order
abbrev pub set_from : LeafMeaning → ℕ → List Range → LeafValue → LeafValue
set_from M x [] d = d
set_from M x (r ∷ rs) d = set_from M (x + 1) rs (M.set_range d x r)

abbrev pub bounded_by : LeafMeaning → Option (List Range) → LeafValue → LeafValue
bounded_by M None d = nothing_of d.variables
bounded_by M (Some rs) d = set_from M 0 rs d

-- what lines give the loop at a place at a vector where the start values have the leaf d: by the first line there whose region
-- holds; Nothing where there is none
abbrev pub given_at : LeafMeaning → List LoopLine → List Bool → LeafValue → Place → LeafValue
given_at M [] v d q = nothing_of d.variables
given_at M (l ∷ ls) v d q =
    if is_same_place l.place q && true_on v (formula l.region) then bounded_by M l.bounds d else given_at M ls v d q

-- the same as the heads of a pass
abbrev pub given_heads : LeafMeaning → List LoopLine → List Bool → LeafValue → Heads
given_heads M lines v d place lap x = given_at M lines v d place

-- ranges within `int`, one for each of so many variables, where there are any
abbrev pub AreVariableBounds : ℕ → Option (List Range) → Type 0
AreVariableBounds n None = Unit {0}
AreVariableBounds n (Some rs) = (length rs ≡ n) × All IsInInt rs

-- the numbers of all regions are below this
abbrev pub AreRegionsBelow : ℕ → List LoopLine → Type 0
AreRegionsBelow m lines = All (λ (l : LoopLine). IsBelow m (formula l.region)) lines
