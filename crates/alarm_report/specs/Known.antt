-- What is known of the regions of paths.
use Rattle.std.specs.Prelude.{ℕ, Bool, List, Option, ◌==◌, ◌&&◌}
use Rattle.std.specs.Bool.{beq}
use Rattle.std.specs.Cmp.Lexicographic.{pointwise}
use Rattle.std.specs.Global.{Vec}
use Rattle.std.specs.List.{AllByRecursion}
use Rattle.linear_atoms.specs.declared.atoms.Atom.{Atom}
use Rattle.cpp_conditions.specs.declared.models.Model.{Model}
use Rattle.alarm_report.specs.declared.known.Known.{Known}
use Rattle.alarm_report.specs.declared.region.Region.{Region}
use Rattle.alarm_report.specs.Regions.{IsRegionOf}

-- the same test, and the same side
abbrev pub same_turn : ℕ × Bool → ℕ × Bool → Bool
same_turn a b = a.0 == b.0 && beq a.1 b.1

-- the key has these turns
abbrev pub has_turns : List (ℕ × Bool) → Vec (ℕ × Bool) → Bool
has_turns turns key = pointwise same_turn turns key.items

abbrev pub same_turns : Vec (ℕ × Bool) → Vec (ℕ × Bool) → Bool
same_turns a b = has_turns a.items b

-- each entry is the region of its path, or that there is none
pub record AreKnown (model : Model) (atoms : List Atom) (known : Known) : Type 0 where
  pub each : AllByRecursion (λ (e : Vec (ℕ × Bool) × Option Region). IsRegionOf model atoms e.0.items e.1) known.entries.entries
