-- The codes of refusals and the statuses, and what each means.
use Rattle.std.specs.Prelude.{ℕ, List, Option, Some, None, map, find}
use Rattle.std.specs.Str.{bytes_eq}
use Rattle.std.specs.Borrow.{Bor}
use Rattle.guide_texts.specs.declared.code_texts.TheConstants.{FILE_CODES, OTHER_CODES}

-- a code, and what it means
pub record CodeText : Type 0 where
  pub name : List ℕ
  pub text : List ℕ

-- what the rows tell
abbrev pub told : List (Bor (List ℕ) × Bor (List ℕ)) → List CodeText
told rows = map (λ row. record { name = row.0.now; text = row.1.now }) rows

-- the first of the codes that has the name, or none
abbrev pub first_of : List CodeText → List ℕ → Option CodeText
first_of codes name = find (λ code. bytes_eq code.name name) codes

-- the codes of files
abbrev pub file_codes : List CodeText
file_codes = map (λ row. record { name = row.0.now; text = row.1.now }) FILE_CODES

-- the other codes, and the statuses
abbrev pub other_codes : List CodeText
other_codes = map (λ row. record { name = row.0.now; text = row.1.now }) OTHER_CODES

-- the code of a file that has the name, or none
unfoldable pub file_code : List ℕ → Option CodeText
file_code name = first_of file_codes name

-- the other code, or the status, that has the name, or none
unfoldable pub other_code : List ℕ → Option CodeText
other_code name = first_of other_codes name

-- the code, and else another one
abbrev pub or_else : Option CodeText → Option CodeText → Option CodeText
or_else (Some code) other = Some code
or_else None other = other

-- the code with the name, or none
unfoldable pub code_of : List ℕ → Option CodeText
code_of name = or_else (file_code name) (other_code name)

abbrev pub code_text : CodeText → List ℕ
code_text code = code.text
