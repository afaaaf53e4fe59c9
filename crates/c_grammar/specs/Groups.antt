-- The groups around declarations, and their guards: the conditions that are true and those that are false in all of them (ISO/IEC
-- 9899:2011, 6.10.1p6).
use Rattle.std.specs.Prelude.{ℕ, ℤ, true, false, List, [], ◌∷◌, ◌++◌, map}
use Rattle.c_tree.specs.declared.lists.Guard.{Guard}
use Rattle.c_tree.specs.declared.lists.Declared.{Declared}
use Rattle.c_grammar.specs.declared.items.Sign.{Sign}
use Rattle.c_grammar.specs.declared.items.Sign.TheVariants as signs

-- the guards of what stands where a condition is true, and where it is false, within these guards
abbrev pub with_true : List Guard → ℕ → List Guard
with_true gs n = gs ++ record { number = n; positive = true } ∷ []

abbrev pub with_false : List Guard → ℕ → List Guard
with_false gs n = gs ++ record { number = n; positive = false } ∷ []

abbrev pub declared : ℕ → ℤ → List Guard → Declared
declared x n gs = record { target = x; value = n; guards = gs }

-- the declarators with these guards in the place of theirs
abbrev pub guarded_by : List Guard → List Declared → List Declared
guarded_by gs ds = map (λ d. declared d.target d.value gs) ds

-- the groups around declarations: a part with a condition, and the guards before it; the last part, with its guards
pub data Sections : Type 0 where
  Outermost : Sections
  InPart : (gs : List Guard) (n : ℕ) (outer : Sections) → Sections
  InLast : (gs : List Guard) (outer : Sections) → Sections

-- the guards of a declarator that stands here
abbrev pub guards_of : Sections → List Guard
guards_of Outermost = []
guards_of (InPart gs n outer) = with_true gs n
guards_of (InLast gs outer) = gs

-- the next part of the innermost group, with this condition, where another part may come
abbrev pub in_next_part : ℕ → Sections → Sections
in_next_part m Outermost = Outermost
in_next_part m (InPart gs n outer) = InPart (with_false gs n) m outer
in_next_part m (InLast gs outer) = InLast gs outer

-- its last part
abbrev pub in_last_part : Sections → Sections
in_last_part Outermost = Outermost
in_last_part (InPart gs n outer) = InLast (with_false gs n) outer
in_last_part (InLast gs outer) = InLast gs outer

-- what is around it
abbrev pub left_group : Sections → Sections
left_group Outermost = Outermost
left_group (InPart gs n outer) = outer
left_group (InLast gs outer) = outer

-- the groups around what comes behind a sign
abbrev pub groups_behind : Sections → Sign → Sections
groups_behind secs (signs.GroupIf n) = InPart (guards_of secs) n secs
groups_behind secs (signs.GroupElif n) = in_next_part n secs
groups_behind secs signs.GroupElse = in_last_part secs
groups_behind secs signs.GroupEnd = left_group secs
groups_behind secs _ = secs
