-- Spans that have the least or the greatest value of a feature.
use Rattle.std.specs.Prelude.{ℕ, ℤ, ◌≤◌, ◌-ℤ◌, unsigned_abs}
use Rattle.fam_outer.specs.Limits.{most_value}
use Rattle.linear_atoms.specs.declared.ranges.Span.{Span}
use Rattle.cpp_conditions.specs.declared.models.Model.{Model}
use Rattle.configuration_advice.specs.declared.ends.End.{End}
use Rattle.configuration_advice.specs.declared.ends.End.TheVariants.{Least, Greatest}
use Rattle.configuration_advice.specs.Uses.{Has, AllFrom, AllTo, IsLeast, IsGreatest}

-- its ends are at most 2^20 in size
pub record AreSmall (span : Span) : Type 0 where
  pub low : unsigned_abs span.low ≤ most_value
  pub high : unsigned_abs span.high ≤ most_value

-- no valid configuration gives the feature a value beyond this end of the span
abbrev pub AllWithin : End → Model → ℕ → Span → Type 0
AllWithin Least model n span = AllFrom model n span.low
AllWithin Greatest model n span = AllTo model n span.high

-- the end across from this one
abbrev pub across : End → Span → ℤ
across Least span = span.high
across Greatest span = span.low

-- no valid configuration gives the feature a value beyond this end of the span, and some gives it the end across from it
pub record HasEnd (end : End) (model : Model) (n : ℕ) (span : Span) : Type 0 where
  pub small : AreSmall span
  pub all : AllWithin end model n span
  pub has : Has model n (across end span)

-- the value at this end of those that valid configurations give the feature
abbrev pub IsEnd : End → Model → ℕ → ℤ → Type 0
IsEnd Least model n v = IsLeast model n v
IsEnd Greatest model n v = IsGreatest model n v

abbrev pub width : Span → ℕ
width span = unsigned_abs (span.high -ℤ span.low)
