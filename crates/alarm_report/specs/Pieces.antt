-- The pieces of a region's text: literals, and the values that two of them leave.
use Rattle.std.specs.Prelude.{ℕ, ℤ, pos, ◌+ℤ◌, Bool, not, ◌&&◌, if◌then◌else◌, List, [], ◌∷◌, map}
use Rattle.std.specs.Ordering.{int_eq}
use Rattle.linear_atoms.specs.declared.atoms.Atom.{Atom}
use Rattle.linear_atoms.specs.declared.atoms.Feature.{Feature}
use Rattle.linear_atoms.specs.declared.atoms.Literal.{Literal}
use Rattle.linear_atoms.specs.declared.regions.Regions.{Regions}
use Rattle.linear_atoms.specs.declared.regions.Regions.TheVariants.{Paths, Merged}
use Rattle.linear_atoms.specs.Order.{same_terms}
use Rattle.linear_atoms.specs.Texts.{is_switch, literal_text, value_text}

-- a literal, or that the atom's terms have its bound as their value
pub data Piece : Type 0 where
  Single : (literal : Literal) → Piece
  Value : (atom : Atom) → Piece

-- the terms are the same, and the second's bound is the next
abbrev pub is_next : Atom → Atom → Bool
is_next a b = same_terms a.terms b.terms && int_eq b.bound (a.bound +ℤ pos 1)

abbrev pub is_spelled_as_switch : List Feature → Atom → Bool
is_spelled_as_switch features a = is_switch features a.terms a.bound

-- two literals `T >= k` and `T <= k`, of which neither is spelled as a switch
abbrev pub leave_value : List Feature → Literal → Literal → Bool
leave_value features l m =
    ((l.positive && not m.positive) && is_next l.atom m.atom) && (not (is_spelled_as_switch features l.atom) && not (is_spelled_as_switch features m.atom))

-- Each literal, but two that leave a value as this value. These are all such pairs of a region: its literals stand in the order
-- of their atoms, which rise by terms and then by bounds, so that nothing stands between `T >= k` and `T <= k`, the lower first.
abbrev pub folded : List Feature → List Literal → List Piece
folded features [] = []
folded features (l ∷ []) = Single l ∷ []
folded features (l ∷ m ∷ ls) = if leave_value features l m then Value l.atom ∷ folded features ls else Single l ∷ folded features (m ∷ ls)

abbrev pub pieces_of : Regions → List Feature → List Literal → List Piece
pieces_of Paths features ls = map Single ls
pieces_of Merged features ls = folded features ls

abbrev pub piece_text : List Feature → Piece → List ℕ
piece_text features (Single l) = literal_text features l
piece_text features (Value a) = value_text features a
