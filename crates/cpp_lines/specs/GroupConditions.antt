-- The conditions of group directives (ISO/IEC 9899:2011, 6.10.1).
use Rattle.std.specs.Prelude.{◌≡◌, ℕ, Bool, false, not, ◌&&◌, if◌then◌else◌, List, [], ◌∷◌, ◌++◌, codes, Option, Some, None, Result, Ok, Err}
use Rattle.std.specs.Str.{bytes_eq}
use Rattle.fam_outer.specs.declared.faults.ConditionFault.{ConditionFault}
use Rattle.fam_outer.specs.declared.faults.ConditionFault.TheVariants as faults
use Rattle.linear_atoms.specs.declared.atoms.Atom.{Atom}
use Rattle.linear_atoms.specs.declared.atoms.Feature.{Feature}
use Rattle.c_words.specs.Bytes.{is_digit}
use Rattle.cpp_conditions.specs.Grammar.{ReadsAs}
use Rattle.cpp_conditions.specs.Macros.{Macros}
use Rattle.cpp_conditions.specs.Propositions.{Proposition}
use Rattle.cpp_lines.specs.declared.directives.Directive.{Directive}
use Rattle.cpp_lines.specs.declared.directives.Directive.TheVariants as named
use Rattle.cpp_lines.specs.Bytes.{behind_gap, word_of, behind_word, is_gap_only}
use Rattle.cpp_lines.specs.Directives.{begins_directive, behind_hash, directive_of}

-- letters, digits and underscores are an identifier where the first is no digit
abbrev pub is_name : List ℕ → Bool
is_name [] = false
is_name (b ∷ bs) = not (is_digit b)

-- the identifier that stands alone, with white space before and behind it, and is not `defined`
abbrev pub name_in : List ℕ → Option (List ℕ)
name_in rest =
    if is_name (word_of (behind_gap rest)) && not (bytes_eq (word_of (behind_gap rest)) (codes "defined")) && is_gap_only (behind_word (behind_gap rest))
    then Some (word_of (behind_gap rest)) else None

abbrev pub behind_prefix : List ℕ → Option (List ℕ) → Result (List ℕ) ConditionFault
behind_prefix prefix None = Err faults.Syntax
behind_prefix prefix (Some name) = Ok (prefix ++ name)

-- the bytes that spell the condition of a directive with this behind its name, where it has one: `#ifdef X` means
-- `#if defined X`, and `#ifndef X` means `#if !defined X`
abbrev pub condition_text : Option Directive → List ℕ → Option (Result (List ℕ) ConditionFault)
condition_text None rest = None
condition_text (Some named.If) rest = Some (Ok rest)
condition_text (Some named.Elif) rest = Some (Ok rest)
condition_text (Some named.Ifdef) rest = Some (behind_prefix (codes "defined ") (name_in rest))
condition_text (Some named.Ifndef) rest = Some (behind_prefix (codes "!defined ") (name_in rest))
condition_text (Some named.Include) rest = None
condition_text (Some named.OtherInclude) rest = None
condition_text (Some named.Else) rest = None
condition_text (Some named.Endif) rest = None
condition_text (Some named.Define) rest = None

-- the condition of a line, where it has one
abbrev pub condition_in : List ℕ → Option (Result (List ℕ) ConditionFault)
condition_in line = if begins_directive line then condition_text (directive_of (behind_hash line)) (behind_word (behind_hash line)) else None

-- what a condition is read as
abbrev pub IsGroupCondition : Macros → List Feature → Result (List ℕ) ConditionFault → Result (Proposition Atom) ConditionFault → Type 0
IsGroupCondition macros features (Ok bytes) r = ReadsAs macros features bytes r
IsGroupCondition macros features (Err fault) r = r ≡ Err fault
