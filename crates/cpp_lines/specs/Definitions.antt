-- Definitions of constants (ISO/IEC 9899:2011, 6.10.3): what may stand behind `#define`.
use Rattle.std.specs.Prelude.{ℕ, Bool, false, not, ◌&&◌, List, drop, codes, Option, Some, None, unwrap_or, Result, Ok, Err, if◌then◌else◌}
use Rattle.std.specs.Str.{bytes_eq}
use Rattle.fam_outer.specs.declared.faults.FileCode.{FileCode}
use Rattle.c_words.specs.Identifiers.{is_identifier, begins_with_two_underscores}
use Rattle.c_words.specs.Keywords.{is_reserved}
use Rattle.c_tokens.specs.declared.token.TokenKind.{TokenKind}
use Rattle.c_tokens.specs.declared.token.TokenKind.TheVariants as tokens
use Rattle.c_tokens.specs.Reading.{front_of}
use Rattle.cpp_lines.specs.Bytes.{has_first, behind_gap, begins_with_gap, word_of, behind_word, is_gap_only}

-- an identifier that is no reserved word of code, and not one of those with two underscores, of which C keeps the names that it
-- predefines (6.10.8)
abbrev pub is_definable : List ℕ → Bool
is_definable name =
    (is_identifier name && not (begins_with_two_underscores name)) && (not (is_reserved name) && not (bytes_eq name (codes "int32_t")))

-- ---- what stands behind these at the front, and behind the white space before each; none, where another token stands there

-- a mark of this byte
abbrev pub behind_mark : ℕ → List ℕ → Option (List ℕ)
behind_mark b bytes = if has_first b (behind_gap bytes) then Some (drop 1 (behind_gap bytes)) else None

abbrev pub behind_kind : TokenKind → List ℕ → Option (List ℕ)
behind_kind (tokens.Number value) rest = Some rest
behind_kind tokens.Word rest = None
behind_kind tokens.Mark rest = None

abbrev pub behind_token : Result (TokenKind × ℕ) FileCode → List ℕ → Option (List ℕ)
behind_token (Ok found) bytes = behind_kind found.0 (drop found.1 bytes)
behind_token (Err code) bytes = None

-- a number, as code has it
abbrev pub behind_number : List ℕ → Option (List ℕ)
behind_number bytes = behind_token (front_of (behind_gap bytes)) (behind_gap bytes)

-- a number, or `-` and a number
abbrev pub behind_signed : List ℕ → Option (List ℕ)
behind_signed bytes = behind_number (unwrap_or (behind_mark 45 bytes) bytes)

abbrev pub closed : Option (List ℕ) → Option (List ℕ)
closed None = None
closed (Some rest) = behind_mark 41 rest

-- the same in parentheses, where one opens, or without
abbrev pub behind_group : Option (List ℕ) → List ℕ → Option (List ℕ)
behind_group None bytes = behind_signed bytes
behind_group (Some inner) bytes = closed (behind_signed inner)

abbrev pub behind_constant : List ℕ → Option (List ℕ)
behind_constant bytes = behind_group (behind_mark 40 bytes) bytes

-- ---- definitions

abbrev pub ends : Option (List ℕ) → Bool
ends None = false
ends (Some rest) = is_gap_only rest

-- a constant, and nothing but white space behind it
abbrev pub is_constant_text : List ℕ → Bool
is_constant_text bytes = ends (behind_constant bytes)

-- a name, white space and a constant
abbrev pub is_definition_text : List ℕ → Bool
is_definition_text bytes =
    is_definable (word_of (behind_gap bytes))
    && (begins_with_gap (behind_word (behind_gap bytes)) && is_constant_text (behind_word (behind_gap bytes)))
