-- The program of one choice of truths: preprocessing of a tree that was read with its groups (ISO/IEC 9899:2011, 6.10.1).
use Rattle.std.specs.Prelude.{ℕ, ℤ, ◌<◌, ◌+◌, ◌==◌, ◌&&◌, Bool, false, not, if◌then◌else◌, Option, Some, None, unwrap_or, List, [], ◌∷◌, slice_index_or}
use Rattle.std.specs.List.{All, list_all}
use Rattle.c_tree.specs.declared.lists.Declared.{Declared}
use Rattle.c_tree.specs.declared.lists.Guard.{Guard}
use Rattle.c_tree.specs.Tree.{Code, Done, Assign, Input, Assert, If, While, Do, Leave, Block, Skip, Cond, followed, Whole}

-- each choice is replaced by the statements of one side
abbrev pub projected : List Bool → Code → Code
projected truths Done = Done
projected truths (Assign place target value rest) = Assign place target value (projected truths rest)
projected truths (Input place target rest) = Input place target (projected truths rest)
projected truths (Assert place test rest) = Assert place test (projected truths rest)
projected truths (If place test p q rest) = If place test (projected truths p) (projected truths q) (projected truths rest)
projected truths (While place test step body rest) = While place test (projected truths step) (projected truths body) (projected truths rest)
projected truths (Do place body at test rest) = Do place (projected truths body) at test (projected truths rest)
projected truths (Leave place jump rest) = Leave place jump (projected truths rest)
projected truths (Block place body rest) = Block place (projected truths body) (projected truths rest)
projected truths (Skip place rest) = Skip place (projected truths rest)
projected truths (Cond number p q rest) =
    followed (if slice_index_or truths number false then projected truths p else projected truths q) (projected truths rest)

-- the numbers of choices are below a count
abbrev pub IsNumbered : ℕ → Code → Type 0
IsNumbered count Done = Unit {0}
IsNumbered count (Assign place target value rest) = IsNumbered count rest
IsNumbered count (Input place target rest) = IsNumbered count rest
IsNumbered count (Assert place test rest) = IsNumbered count rest
IsNumbered count (If place test p q rest) = IsNumbered count p × IsNumbered count q × IsNumbered count rest
IsNumbered count (While place test step body rest) = IsNumbered count step × IsNumbered count body × IsNumbered count rest
IsNumbered count (Do place body at test rest) = IsNumbered count body × IsNumbered count rest
IsNumbered count (Leave place jump rest) = IsNumbered count rest
IsNumbered count (Block place body rest) = IsNumbered count body × IsNumbered count rest
IsNumbered count (Skip place rest) = IsNumbered count rest
IsNumbered count (Cond number p q rest) = (number < count) × IsNumbered count p × IsNumbered count q × IsNumbered count rest

-- a guard holds where the truth of its number is as it asks
abbrev pub guard_holds : List Bool → Guard → Bool
guard_holds truths guard = if guard.positive then slice_index_or truths guard.number false else not (slice_index_or truths guard.number false)

abbrev pub guards_hold : List Bool → List Guard → Bool
guards_hold truths guards = list_all (guard_holds truths) guards

-- the value of the last declarator of a variable whose guards hold, where there is one
abbrev pub last_value : List Bool → ℕ → List Declared → Option ℤ → Option ℤ
last_value truths x [] found = found
last_value truths x (d ∷ ds) found = last_value truths x ds (if (d.target == x) && guards_hold truths d.guards then Some d.value else found)

-- the start values from a variable on: its last value, or the one that it has
abbrev pub start_from : List Bool → List Declared → ℕ → List ℤ → List ℤ
start_from truths declared x [] = []
start_from truths declared x (n ∷ ns) = unwrap_or (last_value truths x declared None) n ∷ start_from truths declared (x + 1) ns

abbrev pub projected_start : List Bool → List Declared → List ℤ → List ℤ
projected_start truths declared start = start_from truths declared 0 start

abbrev pub projected_program : List Bool → Whole → Whole
projected_program truths p = record {
  names = p.names;
  start = projected_start truths p.declared p.start;
  declared = [];
  body = projected truths p.body;
  end = p.end;
}

-- the numbers of a declarator's guards are below a count
abbrev pub IsGuarded : ℕ → Declared → Type 0
IsGuarded count d = All (λ guard. guard.number < count) d.guards

-- the numbers of conditions in a program are below a count
pub record IsConditioned (count : ℕ) (p : Whole) : Type 0 where
  pub body : IsNumbered count p.body
  pub declared : All (IsGuarded count) p.declared
