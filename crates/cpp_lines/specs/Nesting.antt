-- How group directives nest (ISO/IEC 9899:2011, 6.10.1): sections are matched by the names of directives alone.
use Rattle.std.specs.Prelude.{ℕ, ◌+◌, ◌-◌, ◌==◌, ◌&&◌, Bool, true, false, if◌then◌else◌, List, [], ◌∷◌, Option, Some, None}
use Rattle.fam_outer.specs.declared.dialect.Includes.{Includes}
use Rattle.fam_outer.specs.declared.faults.FileCode.{FileCode}
use Rattle.fam_outer.specs.declared.faults.FileCode.TheVariants as codes_of
use Rattle.cpp_lines.specs.declared.directives.Directive.{Directive}
use Rattle.cpp_lines.specs.declared.directives.Directive.TheVariants as named
use Rattle.cpp_lines.specs.Bytes.{word_of}
use Rattle.cpp_lines.specs.Directives.{begins_directive, behind_hash, directive_named, directive_of, include_fault}

-- the directive that a line names, whatever stands behind the name
abbrev pub named_in : List ℕ → Option Directive
named_in line = if begins_directive line then directive_named (word_of (behind_hash line)) else None

-- the directive opens a section
abbrev pub opens_section : Option Directive → Bool
opens_section None = false
opens_section (Some named.If) = true
opens_section (Some named.Ifdef) = true
opens_section (Some named.Ifndef) = true
opens_section (Some named.Include) = false
opens_section (Some named.OtherInclude) = false
opens_section (Some named.Elif) = false
opens_section (Some named.Else) = false
opens_section (Some named.Endif) = false
opens_section (Some named.Define) = false

-- the directive ends a section
abbrev pub ends_section : Option Directive → Bool
ends_section None = false
ends_section (Some named.If) = false
ends_section (Some named.Ifdef) = false
ends_section (Some named.Ifndef) = false
ends_section (Some named.Include) = false
ends_section (Some named.OtherInclude) = false
ends_section (Some named.Elif) = false
ends_section (Some named.Else) = false
ends_section (Some named.Endif) = true
ends_section (Some named.Define) = false

-- how many sections that are open before a line end, where those behind it end so many: an `#endif` ends one more, and what an
-- `#if` opens takes one of them
abbrev pub ends_before : Option Directive → ℕ → ℕ
ends_before directive n = if ends_section directive then n + 1 else (if opens_section directive then n - 1 else n)

-- how many sections that are open before these lines they end
abbrev pub ends_of : List (List ℕ) → ℕ
ends_of [] = 0
ends_of (line ∷ lines) = ends_before (named_in line) (ends_of lines)

-- the line opens a section that the lines behind it do not end
abbrev pub is_unclosed : List ℕ → List (List ℕ) → Bool
is_unclosed line lines = opens_section (named_in line) && (ends_of lines == 0)

-- ---- the sections that are open, innermost first, each with whether its `#else` has stood

abbrev pub with_else : List Bool → List Bool
with_else [] = []
with_else (b ∷ opens) = true ∷ opens

abbrev pub without_inner : List Bool → List Bool
without_inner [] = []
without_inner (b ∷ opens) = opens

-- what is open behind a directive
abbrev pub opened_by : Option Directive → List Bool → List Bool
opened_by None opens = opens
opened_by (Some named.If) opens = false ∷ opens
opened_by (Some named.Ifdef) opens = false ∷ opens
opened_by (Some named.Ifndef) opens = false ∷ opens
opened_by (Some named.Include) opens = opens
opened_by (Some named.OtherInclude) opens = opens
opened_by (Some named.Elif) opens = opens
opened_by (Some named.Else) opens = with_else opens
opened_by (Some named.Endif) opens = without_inner opens
opened_by (Some named.Define) opens = opens

-- ---- faults of directives, but for those of conditions and of sections that nothing ends

-- `#elif` and `#else`: outside every section, or after the section's `#else`
abbrev pub later_fault : List Bool → Option FileCode
later_fault [] = Some codes_of.NoIf
later_fault (b ∷ opens) = if b then Some codes_of.SecondElse else None

-- `#endif`: outside every section
abbrev pub end_fault : List Bool → Option FileCode
end_fault [] = Some codes_of.NoIf
end_fault (b ∷ opens) = None

-- a directive that is none of the known ones, or has what may not stand behind its name; or where it may not stand
abbrev pub directive_fault : Includes → List Bool → Option Directive → Option FileCode
directive_fault includes opens None = Some codes_of.Directive
directive_fault includes opens (Some named.If) = None
directive_fault includes opens (Some named.Ifdef) = None
directive_fault includes opens (Some named.Ifndef) = None
directive_fault includes opens (Some named.Include) = None
directive_fault includes opens (Some named.OtherInclude) = include_fault includes
directive_fault includes opens (Some named.Elif) = later_fault opens
directive_fault includes opens (Some named.Else) = later_fault opens
directive_fault includes opens (Some named.Endif) = end_fault opens
directive_fault includes opens (Some named.Define) = None

-- the fault of a line behind these open sections
abbrev pub line_fault : Includes → List Bool → List ℕ → Option FileCode
line_fault includes opens line = if begins_directive line then directive_fault includes opens (directive_of (behind_hash line)) else None
