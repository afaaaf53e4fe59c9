-- The text of the variant that a configuration selects, or the first fault of the file.
use Rattle.std.specs.Prelude.{◌≡◌, ◌⊎◌, ⊤, ℕ, ℤ, List, Result, Ok, Err}
use Rattle.fam_outer.specs.declared.dialect.Dialect.{Dialect}
use Rattle.fam_outer.specs.declared.faults.Place.{Place}
use Rattle.fam_outer.specs.declared.faults.FileCode.{FileCode}
use Rattle.fam_outer.specs.declared.faults.FileRefusal.{FileRefusal}
use Rattle.fam_outer.specs.declared.faults.FileRefusal.TheVariants as refusals
use Rattle.cpp_conditions.specs.Validity.{Plain}
use Rattle.cpp_lines.specs.Sections.{truths_at}
use Rattle.cpp_lines.specs.Whole.{blanked_file, HasLineFault, IsPreprocessed}

-- the text of a file at the truths of its conditions at these values
abbrev pub IsVariant : Dialect → Plain → List ℤ → List ℕ → List ℕ → Type 0
IsVariant dialect model values bytes text = IsPreprocessed dialect model (truths_at values) bytes text

-- the file has this fault at its length or its comments, or at a line
abbrev pub IsFaulty : Dialect → Plain → List ℕ → FileCode × Place → Type 0
IsFaulty dialect model bytes fault = (blanked_file bytes ≡ Err fault) ⊎ HasLineFault dialect model bytes fault

-- what a call that makes a variant's text answers; want of memory is free
abbrev pub ReadsVariant : Dialect → Plain → List ℤ → List ℕ → Result (List ℕ) FileRefusal → Type 0
ReadsVariant dialect model values bytes (Ok text) = IsVariant dialect model values bytes text
ReadsVariant dialect model values bytes (Err (refusals.Fault code place)) = IsFaulty dialect model bytes (code, place)
ReadsVariant dialect model values bytes (Err refusals.NoMemory) = ⊤
