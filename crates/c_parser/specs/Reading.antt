-- What a file without groups is read as: the program that it spells, or its refusal.
use Rattle.std.specs.Prelude.{◌≡◌, ◌<◌, ⊤, ℕ, ℤ, nat_eq, true, List, [], length, map, Result, Ok, Err}
use Rattle.std.specs.List.{list_any}
use Rattle.fam_outer.specs.declared.dialect.Includes.{Includes}
use Rattle.fam_outer.specs.declared.faults.Place.{Place}
use Rattle.fam_outer.specs.declared.faults.FileCode.{FileCode}
use Rattle.fam_outer.specs.declared.faults.FileRefusal.{FileRefusal}
use Rattle.fam_outer.specs.declared.faults.FileRefusal.TheVariants as refusals
use Rattle.fam_outer.specs.Results.{and_then}
use Rattle.cpp_lines.specs.Lines.{plain_lines_of}
use Rattle.cpp_lines.specs.Code.{code_of}
use Rattle.cpp_lines.specs.Whole.{blanked_file}
use Rattle.c_tokens.specs.Reading.{tokens_of}
use Rattle.c_tree.specs.Tree.{Whole}
use Rattle.c_tree.specs.View.{whole}
use Rattle.c_tree.specs.declared.tree.Program.{Program}
use Rattle.c_grammar.specs.declared.items.Item.{Item}
use Rattle.c_grammar.specs.Grammar.{File, Forms}
use Rattle.c_grammar.specs.LocalsOf.{declared_in}
use Rattle.for_blocks.specs.Blocks.{unfolded}
use Rattle.c_parser.specs.Functions.{functions_of_bytes}
use Rattle.c_parser.specs.Items.{Listed, listed}
use Rattle.feature_values.specs.Declarators.{with_presets}
use Rattle.c_parser.specs.Names.{Outside, declared_by, first_name_fault, targets, names_at, each_once}
use Rattle.c_parser.specs.Order.{variables_of, locals_of, constants_of, arranged}
use Rattle.c_parser.specs.Phases.{FileMeaning, IsAcceptedFile, IsRefusedFile}

-- ---- the phases before the grammar: the length, the comments, the lines, and the tokens of the code

abbrev pub code_of_blanked : Includes → List ℕ → Result (List ℕ) (FileCode × Place)
code_of_blanked includes blanked = and_then (plain_lines_of includes blanked) (λ lines. Ok (code_of blanked))

-- the code of a file without groups, or the first fault
unfoldable pub code_of_file : Includes → List ℕ → Result (List ℕ) (FileCode × Place)
code_of_file includes bytes = and_then (blanked_file bytes) (code_of_blanked includes)

abbrev pub items_of_code : List (List ℕ) → List (List ℕ) → List ℕ → Result Listed (FileCode × Place)
items_of_code functions given code = and_then (tokens_of code) (λ ts. Ok (listed functions given code ts))

-- the items of a file without groups over these functions, or the first fault, where these names are given
unfoldable pub items_of : Includes → List (List ℕ) → List (List ℕ) → List ℕ → Result Listed (FileCode × Place)
items_of includes functions given bytes = and_then (code_of_file includes bytes) (items_of_code functions given)

-- ---- all phases

-- what is given of a file: the functions outside; before its own names others, of which the first so many are variables, so many behind
-- them names that `main` declares, and so many behind these constants, where they are to be counted; and the values that some of them have
-- from outside, by their numbers
pub record Given : Type 0 where
  pub functions : List (List ℕ)
  pub names : List (List ℕ)
  pub variables : ℕ
  pub locals : ℕ
  pub constants : ℕ
  pub values : List (ℕ × ℤ)

-- these functions and names alone
abbrev pub only_names : List (List ℕ) → List (List ℕ) → Given
only_names functions names = record { functions = functions; names = names; variables = 0; locals = 0; constants = 0; values = [] }

abbrev pub outside : Given → Outside
outside given = record { variables = given.variables; locals = given.locals; constants = given.constants; values = map (λ v. v.0) given.values }

-- files without groups; nothing is known besides. The scope of a variable that a `for` declares ends with its statement (ISO/IEC 9899:2011,
-- 6.8.5p5), so names are judged where such a statement stands as a block
abbrev pub plain_files : Includes → Given → FileMeaning ⊤
plain_files includes given = record {
  refused = λ bytes fault. items_of includes given.functions given.names bytes ≡ Err fault;
  listed = λ bytes l known. items_of includes given.functions given.names bytes ≡ Ok l;
  named = λ l known fault. first_name_fault (outside given) (unfolded l.items) ≡ fault;
}

-- the bytes are read as this program: what their items spell, with the values from outside as start values
pub record IsProgramOver (includes : Includes) (given : Given) (bytes : List ℕ) (p : Whole) : Type 0 where
  pub spelled : Whole
  pub accepted : IsAcceptedFile (plain_files includes given) bytes tt spelled
  pub is : p ≡ with_presets given.values spelled

-- what the bytes of a file are read as, where this is given
abbrev pub IsPlainReadOver : Includes → Given → List ℕ → Result Whole (FileCode × Place) → Type 0
IsPlainReadOver includes given bytes (Ok p) = IsProgramOver includes given bytes p
IsPlainReadOver includes given bytes (Err fault) = IsRefusedFile (plain_files includes given) bytes fault

-- the functions, and a file's own names in their order; none where it has a fault before its items
abbrev pub own_names : List (List ℕ) → Result Listed (FileCode × Place) → Given
own_names functions (Ok l) =
    record { functions = functions; names = arranged [] l; variables = length (variables_of [] l); locals = length (locals_of [] l); constants = length (constants_of [] l); values = [] }
own_names functions (Err fault) = only_names [] []

abbrev pub own : Includes → List ℕ → Given
own includes bytes = own_names (functions_of_bytes bytes) (items_of includes (functions_of_bytes bytes) [] bytes)

-- what they are read as where nothing is given but the file's own functions and names
abbrev pub IsPlainRead : Includes → List ℕ → Result Whole (FileCode × Place) → Type 0
IsPlainRead includes bytes answer = IsPlainReadOver includes (own includes bytes) bytes answer

-- the names that the spelled file declares, before `main` by its declarators and in `main`, each once: the variables, behind them those that
-- `main` declares, and behind these the constants, each in the order of their first declaration. By first occurrence the names of its text stand in the order of their
-- declarations, whatever they are
pub record AreDeclaredNames (includes : Includes) (bytes : List ℕ) (names : List (List ℕ)) : Type 0 where
  pub first : Listed
  pub first_are : items_of includes (functions_of_bytes bytes) [] bytes ≡ Ok first
  pub items : List Item
  pub items_are : items_of includes (functions_of_bytes bytes) names bytes ≡ Ok (record { names = names; items = items })
  pub file : File
  pub forms : Forms items file
  pub declared : first.names ≡ each_once [] (names_at names (targets (declared_in forms)))
  pub are : names ≡ arranged [] first

abbrev pub AreAmong : List (List ℕ) → List Item → Type 0
AreAmong given items = (x : ℕ) → list_any (nat_eq x) (declared_by items) ≡ true → x < length given

-- each name that a file declares over these functions is among these
abbrev pub DeclaresAmong : Includes → List (List ℕ) → List (List ℕ) → List ℕ → Type 0
DeclaresAmong includes functions given bytes = (l : Listed) → items_of includes functions given bytes ≡ Ok l → AreAmong given l.items

-- what a call that reads a file answers; want of memory is free
abbrev pub IsReadOver : Includes → Given → List ℕ → Result Program FileRefusal → Type 0
IsReadOver includes given bytes (Ok program) = IsPlainReadOver includes given bytes (Ok (whole program))
IsReadOver includes given bytes (Err (refusals.Fault code place)) = IsPlainReadOver includes given bytes (Err (code, place))
IsReadOver includes given bytes (Err refusals.NoMemory) = ⊤

abbrev pub IsRead : Includes → List ℕ → Result Program FileRefusal → Type 0
IsRead includes bytes answer = IsReadOver includes (own includes bytes) bytes answer
