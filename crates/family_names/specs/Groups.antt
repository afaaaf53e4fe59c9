-- The groups that stand around an item, with the latest first, and the sections that are open there (ISO/IEC 9899:2011, 6.10.1).
use Rattle.std.specs.Prelude.{◌&&◌, Bool, true, false, not, List, [], ◌∷◌, Some, if◌then◌else◌}
use Rattle.cpp_groups.specs.declared.section.Section.{Section}
use Rattle.cpp_groups.specs.declared.directive.GroupDirective.{GroupDirective}
use Rattle.cpp_groups.specs.declared.directive.GroupDirective.TheVariants as directives
use Rattle.cpp_groups.specs.Kept.{all_kept, sections_after, truth}
use Rattle.family_names.specs.declared.groups.Group.{Group}
use Rattle.family_names.specs.declared.groups.Group.TheVariants.{First, Later, Else}

-- the directive that opens the group
abbrev pub opening : Group → GroupDirective
opening (First n) = directives.If n
opening (Later n) = directives.Elif n
opening Else = directives.Else

-- the sections that are open where these groups stand
abbrev pub sections : List Bool → List Group → List Section
sections truths [] = []
sections truths (g ∷ gs) = sections_after truths (sections truths gs) (Some (opening g))

-- what stands in these groups is kept
abbrev pub are_kept : List Bool → List Group → Bool
are_kept truths groups = all_kept (sections truths groups)

abbrev pub is_first : Group → Bool
is_first (First n) = true
is_first (Later n) = false
is_first Else = false

abbrev pub with_group : Group → List Group → List Group
with_group group groups = group ∷ groups

abbrev pub IsSome : List Group → Type 0
IsSome [] = ⊥
IsSome (g ∷ gs) = Unit {0}

-- a later group stands behind another one of its section
abbrev pub IsOpened : List Group → Type 0
IsOpened [] = Unit {0}
IsOpened (First n ∷ gs) = IsOpened gs
IsOpened (Later n ∷ gs) = IsSome gs × IsOpened gs
IsOpened (Else ∷ gs) = IsSome gs × IsOpened gs

-- without the groups of the innermost section
abbrev pub left : List Group → List Group
left [] = []
left (First n ∷ gs) = gs
left (Later n ∷ gs) = left gs
left (Else ∷ gs) = left gs

-- with a later group of the innermost section
abbrev pub changed : Group → List Group → List Group
changed group [] = []
changed group (g ∷ gs) = group ∷ g ∷ gs

-- the truth of the group's condition; that of `#else` is true
abbrev pub is_true : List Bool → Group → Bool
is_true truths (First n) = truth truths n
is_true truths (Later n) = truth truths n
is_true truths Else = true

-- the truth that the condition has is the one that is asked
abbrev pub is_as_asked : Bool → Bool → Bool
is_as_asked asked b = if asked then b else not b

-- the condition of the latest group has the truth that is asked, and so have those before it: of each section the group that
-- stands here is to be true, and those before it false
abbrev pub are_as_asked : List Bool → Bool → List Group → Bool
are_as_asked truths asked [] = true
are_as_asked truths asked (g ∷ gs) = is_as_asked asked (is_true truths g) && are_as_asked truths (is_first g) gs
