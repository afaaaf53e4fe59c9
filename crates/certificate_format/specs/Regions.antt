-- The texts of regions, and their formulas.
use Rattle.std.specs.Prelude.{◌≡◌, ◌≢◌, ◌⊎◌, ℕ, ◌+◌, nat_eq, Bool, true, false, not, ◌&&◌, if◌then◌else◌, List, [], ◌∷◌, codes, map, flat_map, filter, Option, Some, None}
use Rattle.std.specs.Str.{bytes_eq}
use Rattle.linear_atoms.specs.declared.atoms.Atom.{Atom}
use Rattle.linear_atoms.specs.declared.atoms.Feature.{Feature}
use Rattle.linear_atoms.specs.Texts.{literal_text, value_text}
use Rattle.cpp_conditions.specs.Propositions.{Proposition, Const, Test, Not, And}
use Rattle.alarm_report.specs.Pieces.{is_next}
use Rattle.certificate_format.specs.declared.literals.Numbered.{Numbered}
use Rattle.certificate_format.specs.declared.literals.Piece.{Piece}
use Rattle.certificate_format.specs.declared.literals.Piece.TheVariants.{Literal, Value}
use Rattle.certificate_format.specs.Cuts.{AreBetween, IsBetween}

-- ---- literals

abbrev pub numbered : ℕ → Bool → Numbered
numbered n positive = record { number = n; positive = positive }

abbrev pub spelling : List Feature → Atom → Bool → List ℕ
spelling features a positive = literal_text features (record { atom = a; positive = positive })

-- the first literal with the text, of atoms of which the first has the number n: an atom comes before its negation
abbrev pub literal_from : List Feature → ℕ → List Atom → List ℕ → Option Piece
literal_from features n [] text = None
literal_from features n (a ∷ atoms) text =
    if bytes_eq (spelling features a true) text then Some (Literal (numbered n true))
    else (if bytes_eq (spelling features a false) text then Some (Literal (numbered n false)) else literal_from features (n + 1) atoms text)

-- ---- values

-- the number of the first of the atoms with the same terms and the next bound, of atoms of which the first has the number n
abbrev pub next_from : ℕ → List Atom → Atom → Option ℕ
next_from n [] a = None
next_from n (b ∷ atoms) a = if is_next a b then Some n else next_from (n + 1) atoms a

-- the value that the atom with number n and the negation of the next leave, where there is a next and the text is this value's
abbrev pub value_by : Bool → ℕ → Option ℕ → Option Piece → Option Piece
value_by is_text n None later = later
value_by is_text n (Some m) later = if is_text then Some (Value n m) else later

-- the first value with the text that two literals of all these atoms leave
abbrev pub value_from : List Feature → List Atom → ℕ → List Atom → List ℕ → Option Piece
value_from features all n [] text = None
value_from features all n (a ∷ atoms) text = value_by (bytes_eq (value_text features a) text) n (next_from 0 all a) (value_from features all (n + 1) atoms text)

-- ---- pieces

abbrev pub or_else : Option Piece → Option Piece → Option Piece
or_else None other = other
or_else (Some piece) other = Some piece

-- what a text stands for: a literal of the atoms, or else a value that two of them leave
abbrev pub piece_of : List Feature → List Atom → List ℕ → Option Piece
piece_of features atoms text = or_else (literal_from features 0 atoms text) (value_from features atoms 0 atoms text)

-- a value is left by an atom and the negation of the next, the lower first
abbrev pub literals_in : Piece → List Numbered
literals_in (Literal l) = l ∷ []
literals_in (Value n m) = numbered n true ∷ numbered m false ∷ []

-- ---- formulas

abbrev pub test_of : Numbered → Proposition ℕ
test_of l = if l.positive then Test l.number else Not (Test l.number)

-- all of the literals hold
abbrev pub all_of : List Numbered → Proposition ℕ
all_of [] = Const true
all_of (l ∷ literals) = And (test_of l) (all_of literals)

abbrev pub same_bool : Bool → Bool → Bool
same_bool a b = if a then b else not b

abbrev pub is_same : Numbered → Numbered → Bool
is_same a b = nat_eq a.number b.number && same_bool a.positive b.positive

-- each literal once, where it first stands
abbrev pub distinct : List Numbered → List Numbered
distinct [] = []
distinct (l ∷ literals) = l ∷ filter (λ m. not (is_same l m)) (distinct literals)

-- ---- regions, by a function that gives what a text stands for

-- the formula of a region whose pieces are texts of literals and values
pub record Conjoins (of : List ℕ → Option Piece) (region : List ℕ) (p : Proposition ℕ) : Type 0 where
  pub texts : List (List ℕ)
  pub pieces : List Piece
  pub between : AreBetween (codes " && ") region texts
  pub spelled : map of texts ≡ map Some pieces
  pub formula_is : p ≡ all_of (distinct (flat_map literals_in pieces))

-- the formula of a region, which is true for the text `1`
abbrev pub IsMeant : (List ℕ → Option Piece) → List ℕ → Proposition ℕ → Type 0
IsMeant of region p = ((region ≡ codes "1") × (p ≡ Const true)) ⊎ ((region ≢ codes "1") × Conjoins of region p)

-- the region is not `1`, and a piece of it is the text of no literal and of no value
pub record IsStrange (of : List ℕ → Option Piece) (region : List ℕ) : Type 0 where
  pub other : region ≢ codes "1"
  pub piece : List ℕ
  pub between : IsBetween (codes " && ") region piece
  pub unspelled : of piece ≡ None
