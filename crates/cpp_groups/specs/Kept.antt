-- Which groups of sections are kept (ISO/IEC 9899:2011, 6.10.1).
use Rattle.std.specs.Prelude.{◌≡◌, ℕ, Bool, true, false, not, ◌&&◌, List, [], ◌∷◌, Option, Some, None, slice_index_or, reverse, count_by}
use Rattle.cpp_groups.specs.declared.directive.GroupDirective.{GroupDirective}
use Rattle.cpp_groups.specs.declared.directive.GroupDirective.TheVariants as directives
use Rattle.cpp_groups.specs.declared.section.Section.{Section}
use Rattle.cpp_groups.specs.declared.section.Section.TheVariants.{Seeking, Keeping, Passed}

-- the section at its next group, by the truth of the group's condition: the first group whose condition is true is kept
abbrev pub next_group : Section → Bool → Section
next_group Seeking true = Keeping
next_group Seeking false = Seeking
next_group Keeping b = Passed
next_group Passed b = Passed

-- the group that stands here is not the kept one
abbrev pub is_left_out : Section → Bool
is_left_out Seeking = true
is_left_out Keeping = false
is_left_out Passed = true

-- the group that stands here is the kept one in each open section
abbrev pub all_kept : List Section → Bool
all_kept [] = true
all_kept (section ∷ sections) = not (is_left_out section) && all_kept sections

-- the next group of the innermost section
abbrev pub in_next : Bool → List Section → List Section
in_next b [] = []
in_next b (section ∷ sections) = next_group section b ∷ sections

-- what is open around the innermost section
abbrev pub behind : List Section → List Section
behind [] = []
behind (section ∷ sections) = sections

abbrev pub inner : Section → List Section → List Section
inner section sections = section ∷ sections

abbrev pub truth : List Bool → ℕ → Bool
truth truths n = slice_index_or truths n false

-- the sections that are open behind a line or an item, which may be a group directive; `#else` is the group of a condition that is true
abbrev pub sections_after : List Bool → List Section → Option GroupDirective → List Section
sections_after truths sections None = sections
sections_after truths sections (Some (directives.If n)) = next_group Seeking (truth truths n) ∷ sections
sections_after truths sections (Some (directives.Elif n)) = in_next (truth truths n) sections
sections_after truths sections (Some directives.Else) = in_next true sections
sections_after truths sections (Some directives.Endif) = behind sections

-- ---- how they are kept

-- the innermost section, and those around it with the outermost first
abbrev pub opened : Option Section → List Section → List Section
opened None outer = []
opened (Some section) outer = section ∷ reverse outer

-- none is open where there is no innermost one, and so many of those around it have another group than the kept one here
abbrev pub IsCounted : Option Section → List Section → ℕ → Type 0
IsCounted None outer left_out = (outer ≡ []) × (left_out ≡ 0)
IsCounted (Some section) outer left_out = left_out ≡ count_by is_left_out outer
