-- A whole file without its comments, or its first fault before its lines are read.
use Rattle.std.specs.Prelude.{◌≡◌, ℕ, nat_lt, Bool, List, length, Result, Ok, Err, if◌then◌else◌}
use Rattle.fam_outer.specs.declared.dialect.Dialect.{Dialect}
use Rattle.fam_outer.specs.declared.dialect.Includes.{Includes}
use Rattle.fam_outer.specs.declared.faults.Place.{Place}
use Rattle.fam_outer.specs.declared.faults.FileCode.{FileCode}
use Rattle.fam_outer.specs.declared.faults.FileCode.TheVariants.{TooLong}
use Rattle.fam_outer.specs.Limits.{file_bytes}
use Rattle.fam_outer.specs.Results.{and_then}
use Rattle.linear_atoms.specs.declared.atoms.Atom.{Atom}
use Rattle.cpp_conditions.specs.Propositions.{Proposition}
use Rattle.cpp_conditions.specs.Validity.{Plain}
use Rattle.cpp_lines.specs.declared.line.Line.{Line}
use Rattle.cpp_lines.specs.Faults.{without_comments}
use Rattle.cpp_lines.specs.Lines.{AllStay, plain_lines_of}
use Rattle.cpp_lines.specs.Preprocessed.{preprocessed}
use Rattle.cpp_lines.specs.Sections.{Told, TextIsRead}

-- where a file is refused whole
abbrev pub file_place : Place
file_place = record { line = 1; column = 1 }

abbrev pub within_limit : List ℕ → Result (List ℕ) (FileCode × Place)
within_limit bytes = if nat_lt file_bytes (length bytes) then Err (TooLong, file_place) else Ok bytes

-- the file with its comments blanked
abbrev pub blanked_file : List ℕ → Result (List ℕ) (FileCode × Place)
blanked_file bytes = and_then (within_limit bytes) without_comments

-- a line has this fault, the first of the file
pub record HasLineFault (dialect : Dialect) (model : Plain) (bytes : List ℕ) (fault : FileCode × Place) : Type 0 where
  pub blanked : List ℕ
  pub without_comments : blanked_file bytes ≡ Ok blanked
  pub read : TextIsRead dialect model blanked (Err fault)

-- the file is read as these lines and conditions, and this is the text that stays of it where the conditions have these truths
pub record IsPreprocessed (dialect : Dialect) (model : Plain) (truths : List (Proposition Atom) → List Bool) (bytes text : List ℕ) : Type 0 where
  pub blanked : List ℕ
  pub told : Told
  pub without_comments : blanked_file bytes ≡ Ok blanked
  pub read : TextIsRead dialect model blanked (Ok told)
  pub is : text ≡ preprocessed (truths told.conditions) told.lines blanked

-- a text of code and definitions alone, without comments and splices: it is its own blanked text, and a file without groups,
-- whichever includes a file may have
pub record IsPlainText (text : List ℕ) : Type 0 where
  pub lines : List Line
  pub blanked : blanked_file text ≡ Ok text
  pub lines_are : (includes : Includes) → plain_lines_of includes text ≡ Ok lines
  pub stay : AllStay lines
