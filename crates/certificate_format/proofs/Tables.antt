-- The table of literals and values.
use Rattle.std.proofs.Common.{◌≡◌, ℕ, ◌+◌, Bool, true, false, List, [], ◌∷◌, ◌++◌, refl, ap, ap₂, ◌∙◌}
use Rattle.std.specs.Prelude.{if◌then◌else◌, Option, Some, None}
use Rattle.std.specs.Str.{bytes_eq}
use Rattle.linear_atoms.specs.declared.atoms.Atom.{Atom}
use Rattle.linear_atoms.specs.declared.atoms.Feature.{Feature}
use Rattle.linear_atoms.specs.Texts.{value_text}
use Rattle.certificate_format.specs.declared.literals.Piece.TheVariants.{Literal, Value}
use Rattle.certificate_format.specs.declared.literals.Row.{Row}
use Rattle.certificate_format.specs.Regions.{numbered, spelling, literal_from, next_from, value_by, value_from, or_else, piece_of}
use Rattle.certificate_format.specs.Rows.{rows_from, value_row, values_from, all_rows, row_of}

literals_give : (features : List Feature) (n : ℕ) (atoms : List Atom) (text : List ℕ) → row_of (rows_from features n atoms) text ≡ literal_from features n atoms text
literals_give features n [] text = refl
literals_give features n (a ∷ atoms) text =
    ap (λ later. if bytes_eq (spelling features a true) text then Some (Literal (numbered n true)) else (if bytes_eq (spelling features a false) text then Some (Literal (numbered n false)) else later))
    (literals_give features (n + 1) atoms text)

values_give : (features : List Feature) (all : List Atom) (n : ℕ) (atoms : List Atom) (text : List ℕ) → row_of (values_from features all n atoms) text ≡ value_from features all n atoms text
values_give features all n [] text = refl
values_give features all n (a ∷ atoms) text = by (next_from 0 all a) (values_give features all (n + 1) atoms text)
  where
    by : (o : Option ℕ) → row_of (values_from features all (n + 1) atoms) text ≡ value_from features all (n + 1) atoms text
        → row_of (value_row features n a o ++ values_from features all (n + 1) atoms) text ≡ value_by (bytes_eq (value_text features a) text) n o (value_from features all (n + 1) atoms text)
    by None e = e
    by (Some m) e = ap (λ later. if bytes_eq (value_text features a) text then Some (Value n m) else later) e

rows_append : (rows others : List Row) (text : List ℕ) → row_of (rows ++ others) text ≡ or_else (row_of rows text) (row_of others text)
rows_append [] others text = refl
rows_append (r ∷ rows) others text = by (bytes_eq r.text text) (rows_append rows others text)
  where
    by : (b : Bool) → row_of (rows ++ others) text ≡ or_else (row_of rows text) (row_of others text)
        → (if b then Some r.piece else row_of (rows ++ others) text) ≡ or_else (if b then Some r.piece else row_of rows text) (row_of others text)
    by true e = refl
    by false e = e

-- the rows give what texts stand for
pub rows_give : (features : List Feature) (atoms : List Atom) (text : List ℕ) → row_of (all_rows features atoms) text ≡ piece_of features atoms text
rows_give features atoms text =
    rows_append (rows_from features 0 atoms) (values_from features atoms 0 atoms) text ∙ ap₂ or_else (literals_give features 0 atoms text) (values_give features atoms 0 atoms text)
