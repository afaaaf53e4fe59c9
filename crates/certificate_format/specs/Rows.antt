-- The table of the texts of literals and values.
use Rattle.std.specs.Prelude.{ℕ, ◌+◌, Bool, true, false, if◌then◌else◌, List, [], ◌∷◌, ◌++◌, Option, Some, None}
use Rattle.std.specs.List.{list_any}
use Rattle.std.specs.Str.{bytes_eq}
use Rattle.linear_atoms.specs.declared.atoms.Atom.{Atom}
use Rattle.linear_atoms.specs.declared.atoms.Feature.{Feature}
use Rattle.linear_atoms.specs.Texts.{value_text}
use Rattle.certificate_format.specs.declared.literals.Numbered.{Numbered}
use Rattle.certificate_format.specs.declared.literals.Piece.{Piece}
use Rattle.certificate_format.specs.declared.literals.Piece.TheVariants.{Literal, Value}
use Rattle.certificate_format.specs.declared.literals.Row.{Row}
use Rattle.certificate_format.specs.Regions.{numbered, spelling, next_from, is_same}

abbrev pub row : List Feature → ℕ → Atom → Bool → Row
row features n a positive = record { text = spelling features a positive; piece = Literal (numbered n positive) }

-- two rows for each atom, of which the first has the number n
abbrev pub rows_from : List Feature → ℕ → List Atom → List Row
rows_from features n [] = []
rows_from features n (a ∷ atoms) = row features n a true ∷ row features n a false ∷ rows_from features (n + 1) atoms

-- the row of the value that an atom and the negation of the next leave, if there is a next
abbrev pub value_row : List Feature → ℕ → Atom → Option ℕ → List Row
value_row features n a None = []
value_row features n a (Some m) = record { text = value_text features a; piece = Value n m } ∷ []

-- those of all these atoms
abbrev pub values_from : List Feature → List Atom → ℕ → List Atom → List Row
values_from features all n [] = []
values_from features all n (a ∷ atoms) = value_row features n a (next_from 0 all a) ++ values_from features all (n + 1) atoms

abbrev pub all_rows : List Feature → List Atom → List Row
all_rows features atoms = rows_from features 0 atoms ++ values_from features atoms 0 atoms

-- what the first row with the text says
abbrev pub row_of : List Row → List ℕ → Option Piece
row_of [] text = None
row_of (r ∷ rows) text = if bytes_eq r.text text then Some r.piece else row_of rows text

-- a literal more, unless it is there
abbrev pub added : List Numbered → Numbered → List Numbered
added found l = if list_any (is_same l) found then found else found ++ (l ∷ [])

abbrev pub all_added : List Numbered → List Numbered → List Numbered
all_added found [] = found
all_added found (l ∷ literals) = all_added (added found l) literals
