-- A line that does not stay in the text of a variant leaves spaces.
use Rattle.std.proofs.Common.{◌≡◌, ℕ, true, false, cond, List, [], ◌∷◌, Option, Some, refl}
use Rattle.std.specs.List.{list_all}
use Rattle.c_words.specs.Bytes.{is_space}
use Rattle.cpp_lines.specs.declared.code.Leaves.TheVariants.{Code, Spaces}
use Rattle.cpp_lines.specs.declared.directives.Directive.{Directive}
use Rattle.cpp_lines.specs.declared.directives.Directive.TheVariants as named
use Rattle.cpp_lines.specs.Code.{code_bytes, directive_code, code_piece}
use Rattle.cpp_lines.specs.Directives.{begins_directive, behind_hash, directive_of, is_define}
use Rattle.cpp_lines.specs.Lines.{is_text}

all_spaces : (line : List ℕ) → list_all is_space (code_bytes Spaces line) ≡ true
all_spaces [] = refl
all_spaces (b ∷ bs) = all_spaces bs

directive_spaces : (d : Option Directive) (line : List ℕ) → is_define d ≡ false → list_all is_space (directive_code d line) ≡ true
directive_spaces (Some named.Define) line e = absurd cc
directive_spaces _ line e = all_spaces line

pub line_spaces : (line : List ℕ) → is_text line ≡ false → list_all is_space (code_piece line) ≡ true
line_spaces line e = elim (begins_directive line) as (λ t. cond t (is_define (directive_of (behind_hash line))) true ≡ false → list_all is_space (cond t (directive_code (directive_of (behind_hash line)) line) (code_bytes Code line)) ≡ true) [
  | true ↦ λ h. directive_spaces (directive_of (behind_hash line)) line h
  | false ↦ λ h. absurd cc
] e
