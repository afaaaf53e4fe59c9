-- The names that the lines of a text define.
use Rattle.std.specs.Prelude.{ℕ, List, [], ◌∷◌, ◌++◌, Option, Some, if◌then◌else◌}
use Rattle.fam_outer.specs.declared.dialect.Unknown.{Unknown}
use Rattle.cpp_conditions.specs.Macros.{Macros, among}
use Rattle.cpp_lines.specs.declared.directives.Directive.{Directive}
use Rattle.cpp_lines.specs.declared.directives.Directive.TheVariants as named
use Rattle.cpp_lines.specs.Bytes.{behind_gap, word_of, behind_word}
use Rattle.cpp_lines.specs.Directives.{begins_directive, behind_hash, directive_of}
use Rattle.cpp_lines.specs.Lines.{pieces}

abbrev pub names_by : Option Directive → List ℕ → List (List ℕ)
names_by (Some named.Define) rest = word_of (behind_gap rest) ∷ []
names_by other rest = []

-- the name that a line defines, where it is a definition
abbrev pub names_in : List ℕ → List (List ℕ)
names_in line = if begins_directive line then names_by (directive_of (behind_hash line)) (behind_word (behind_hash line)) else []

-- those that these lines define
abbrev pub names_of : List (List ℕ) → List (List ℕ)
names_of [] = []
names_of (line ∷ lines) = names_in line ++ names_of lines

-- how a condition of a text is read, where the lines above it define these names
abbrev pub macros_behind : Unknown → List ℕ → List (List ℕ) → Macros
macros_behind unknown text above = among unknown above (names_of (pieces text))
