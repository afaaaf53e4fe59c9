-- The leaf behind what was passed, and those that leave it by a jump (ISO/IEC 9899:2011, 6.8.6).
use Rattle.std.specs.Prelude.{if◌then◌else◌}
use Rattle.c_tree.specs.declared.tree.Mode.{Mode}
use Rattle.c_tree.specs.Tree.{Jump, Break, Continue, Return}
use Rattle.leaf_domain.specs.Leaves.{LeafValue, LeafMeaning, nothing_of, is_nothing_of}
use Rattle.leaf_domain.specs.Transfer.{valued}

-- the leaf behind what was passed, and for each jump the join of all that left by it
pub record Ways : Type 0 where
  pub behind : LeafValue
  pub broke : LeafValue
  pub continued : LeafValue
  pub returned : LeafValue

-- the same jumps, and another leaf behind
abbrev pub onto : Ways → LeafValue → Ways
onto w v = record { behind = v; broke = w.broke; continued = w.continued; returned = w.returned }

-- nothing has left yet
abbrev pub enter : LeafValue → Ways
enter v = record { behind = v; broke = nothing_of v.variables; continued = nothing_of v.variables; returned = nothing_of v.variables }

-- the join of what left with what leaves; Nothing adds nothing
abbrev pub joined : LeafMeaning → LeafValue → LeafValue → LeafValue
joined M a b = if is_nothing_of b then a else M.join a b

-- all that is behind leaves by a jump; of `return e` what has a value of e
abbrev pub leave_by : LeafMeaning → Mode → Jump → Ways → Ways
leave_by M mode Break w = record { behind = nothing_of w.behind.variables; broke = joined M w.broke w.behind; continued = w.continued; returned = w.returned }
leave_by M mode Continue w = record { behind = nothing_of w.behind.variables; broke = w.broke; continued = joined M w.continued w.behind; returned = w.returned }
leave_by M mode (Return e) w = record { behind = nothing_of w.behind.variables; broke = w.broke; continued = w.continued; returned = joined M w.returned (valued M mode e w.behind) }

-- the leaf with which a loop goes on behind its body
abbrev pub going_on : LeafMeaning → Ways → LeafValue
going_on M b = joined M b.behind b.continued

-- behind a loop whose test fails with this leaf, and whose body left so
abbrev pub behind_loop : LeafMeaning → Ways → LeafValue → Ways → Ways
behind_loop M w failed b = record { behind = joined M failed b.broke; broke = w.broke; continued = w.continued; returned = joined M w.returned b.returned }

-- the leaf at the end of a program, to which each jump outside loops leads
abbrev pub end_of : LeafMeaning → Ways → LeafValue
end_of M w = joined M (joined M (joined M w.behind w.returned) w.broke) w.continued
