-- Directive lines, and which directives are known (ISO/IEC 9899:2011, 6.10).
use Rattle.std.specs.Prelude.{ℕ, Bool, true, false, ◌&&◌, List, [], ◌∷◌, take, drop, codes, Option, Some, None, Result, Ok, Err, if◌then◌else◌}
use Rattle.std.specs.Str.{bytes_eq}
use Rattle.fam_outer.specs.declared.dialect.Includes.{Includes}
use Rattle.fam_outer.specs.declared.dialect.Includes.TheVariants.{Assert, Skip}
use Rattle.fam_outer.specs.declared.faults.FileCode.{FileCode}
use Rattle.fam_outer.specs.declared.faults.FileCode.TheVariants as codes_of
use Rattle.cpp_lines.specs.declared.directives.Directive.{Directive}
use Rattle.cpp_lines.specs.declared.directives.Directive.TheVariants as named
use Rattle.cpp_lines.specs.declared.line.LineKind.{LineKind}
use Rattle.cpp_lines.specs.declared.line.LineKind.TheVariants as kinds
use Rattle.cpp_lines.specs.Bytes.{has_first, behind_gap, word_of, behind_word, is_gap_only}
use Rattle.cpp_lines.specs.Definitions.{is_definition_text}

-- the line at the front is a directive line: its first byte that is not white space is `#`
abbrev pub begins_directive : List ℕ → Bool
begins_directive bytes = has_first 35 (behind_gap bytes)

-- what stands behind `#` and white space
abbrev pub behind_hash : List ℕ → List ℕ
behind_hash line = behind_gap (drop 1 (behind_gap line))

abbrev pub directive_in : List (List ℕ × Directive) → List ℕ → Option Directive
directive_in [] word = None
directive_in (entry ∷ entries) word = if bytes_eq word entry.0 then Some entry.1 else directive_in entries word

-- the names of the known directives
abbrev pub directive_named : List ℕ → Option Directive
directive_named word = directive_in ((codes "include", named.Include) ∷ (codes "if", named.If) ∷ (codes "ifdef", named.Ifdef) ∷ (codes "ifndef", named.Ifndef)
    ∷ (codes "elif", named.Elif) ∷ (codes "else", named.Else) ∷ (codes "endif", named.Endif) ∷ (codes "define", named.Define) ∷ []) word

-- exactly `<assert.h>`, with white space before and behind it
abbrev pub is_assert_header : List ℕ → Bool
is_assert_header bytes = bytes_eq (take 10 (behind_gap bytes)) (codes "<assert.h>") && is_gap_only (drop 10 (behind_gap bytes))

-- an include with this behind its name: of `<assert.h>`, or of anything else
abbrev pub include_of : List ℕ → Directive
include_of rest = if is_assert_header rest then named.Include else named.OtherInclude

-- the directive, where nothing but white space stands behind its name
abbrev pub alone : Directive → List ℕ → Option Directive
alone directive rest = if is_gap_only rest then Some directive else None

-- the directive of this name with this behind it; none, where this may not stand there
abbrev pub with_rest : Directive → List ℕ → Option Directive
with_rest named.Include rest = Some (include_of rest)
with_rest named.OtherInclude rest = Some named.OtherInclude
with_rest named.Else rest = alone named.Else rest
with_rest named.Endif rest = alone named.Endif rest
with_rest named.If rest = Some named.If
with_rest named.Ifdef rest = Some named.Ifdef
with_rest named.Ifndef rest = Some named.Ifndef
with_rest named.Elif rest = Some named.Elif
with_rest named.Define rest = if is_definition_text rest then Some named.Define else None

abbrev pub checked : Option Directive → List ℕ → Option Directive
checked None rest = None
checked (Some directive) rest = with_rest directive rest

-- the directive of what stands behind `#`; none, where it is no known one or what stands behind its name may not
abbrev pub directive_of : List ℕ → Option Directive
directive_of bytes = checked (directive_named (word_of bytes)) (behind_word bytes)

-- the line is the definition of a constant
abbrev pub is_define : Option Directive → Bool
is_define (Some named.Define) = true
is_define other = false

abbrev pub is_definition : List ℕ → Bool
is_definition line = if begins_directive line then is_define (directive_of (behind_hash line)) else false

-- the fault of an include of anything but `<assert.h>`: none where includes are skipped
abbrev pub include_fault : Includes → Option FileCode
include_fault Assert = Some codes_of.Directive
include_fault Skip = None

abbrev pub include_unless : Option FileCode → Result LineKind FileCode
include_unless None = Ok kinds.Include
include_unless (Some code) = Err code

-- without a model a group directive is refused, and a definition is not
abbrev pub plain_directive : Includes → Option Directive → Result LineKind FileCode
plain_directive includes None = Err codes_of.Directive
plain_directive includes (Some named.Include) = Ok kinds.Include
plain_directive includes (Some named.OtherInclude) = include_unless (include_fault includes)
plain_directive includes (Some named.Define) = Ok kinds.Define
plain_directive includes (Some other) = Err codes_of.GroupHere

-- the kind of a line without a model
abbrev pub plain_kind : Includes → List ℕ → Result LineKind FileCode
plain_kind includes line = if begins_directive line then plain_directive includes (directive_of (behind_hash line)) else Ok kinds.Code
