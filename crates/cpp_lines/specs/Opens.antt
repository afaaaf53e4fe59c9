-- How the code keeps open sections, and counts those that lines end.
use Rattle.std.specs.Prelude.{◌≡◌, ◌≤◌, ℕ, ◌+◌, ◌-◌, Bool, if◌then◌else◌, List, [], ◌∷◌, Option}
use Rattle.fam_outer.specs.declared.faults.Place.{Place}
use Rattle.cpp_lines.specs.declared.directives.Directive.{Directive}
use Rattle.cpp_lines.specs.declared.open_sections.Opens.{Opens}
use Rattle.cpp_lines.specs.Around.{opened}
use Rattle.cpp_lines.specs.Nesting.{opens_section, ends_before}

-- the open sections, innermost first, each with whether its `#else` has stood
abbrev pub flags : Opens → List Bool
flags o = opened o.inner o.outer.items

abbrev pub inner : Bool → List Bool → List Bool
inner b bs = b ∷ bs

-- the place at which the outermost section opened, behind one that opens at this place
abbrev pub first_of : Place → List Bool → Place → Place
first_of place [] first = place
first_of place (b ∷ bs) first = first

abbrev pub first_after : Option Directive → Place → List Bool → Place → Place
first_after directive place opens first = if opens_section directive then first_of place opens first else first

-- the counts before a line and behind it say the same: so many sections that were open are ended, and so many that opened are open
pub record IsCounted (old_open old_ended : ℕ) (directive : Option Directive) (new_open new_ended : ℕ) : Type 0 where
  pub same : (n : ℕ) → old_ended + (ends_before directive n - old_open) ≡ new_ended + (n - new_open)
  pub bound : new_open + new_ended ≤ old_open + old_ended + 1
