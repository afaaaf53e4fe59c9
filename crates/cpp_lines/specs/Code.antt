-- The code of a blanked text: what its lines leave of which tokens are made.
use Rattle.std.specs.Prelude.{ℕ, ◌-◌, ◌==◌, List, ◌++◌, map, length, take, drop, Option, Some, if◌then◌else◌}
use Rattle.c_tokens.specs.Lexemes.{definition_byte}
use Rattle.cpp_lines.specs.declared.code.Leaves.{Leaves}
use Rattle.cpp_lines.specs.declared.code.Leaves.TheVariants.{Code, Mark, Spaces}
use Rattle.cpp_lines.specs.declared.directives.Directive.{Directive}
use Rattle.cpp_lines.specs.declared.directives.Directive.TheVariants as named
use Rattle.cpp_lines.specs.Bytes.{behind_word}
use Rattle.cpp_lines.specs.Directives.{begins_directive, behind_hash, directive_of}
use Rattle.cpp_lines.specs.Lines.{pieces}
use Rattle.cpp_lines.specs.Preprocessed.{with_newlines}

-- no token and no character constant has this byte
abbrev pub stray_byte : ℕ
stray_byte = 2

-- what a byte of these leaves: one of code stays, unless it could be taken for the mark of a definition; of `#define` stay the mark, in
-- place of `#`, and spaces; of any other directive line spaces
abbrev pub byte_left : Leaves → ℕ → ℕ
byte_left Code b = if b == definition_byte then stray_byte else b
byte_left Mark b = if b == 35 then definition_byte else 32
byte_left Spaces b = 32

abbrev pub code_bytes : Leaves → List ℕ → List ℕ
code_bytes leaves bytes = map (byte_left leaves) bytes

-- how many bytes of a directive line stand before what is behind the directive's name
abbrev pub front_len : List ℕ → ℕ
front_len line = length line - length (behind_word (behind_hash line))

-- of a definition its name and its constant stay
abbrev pub definition_code : List ℕ → List ℕ
definition_code line = code_bytes Mark (take (front_len line) line) ++ drop (front_len line) line

abbrev pub directive_code : Option Directive → List ℕ → List ℕ
directive_code (Some named.Define) line = definition_code line
directive_code other line = code_bytes Spaces line

-- what a line leaves
abbrev pub code_piece : List ℕ → List ℕ
code_piece line = if begins_directive line then directive_code (directive_of (behind_hash line)) line else code_bytes Code line

unfoldable pub code_of : List ℕ → List ℕ
code_of text = with_newlines (map code_piece (pieces text))
