-- Pieces, and the literals that they stand for.
use Rattle.std.proofs.Common.{◌≡◌, ℕ, pos, ◌+ℤ◌, Bool, true, false, not, ◌&&◌, if◌then◌else◌, List, [], ◌∷◌, map, refl, ap}
use Rattle.std.proofs.lemmas.Bool.{and_parts}
use Rattle.std.proofs.lemmas.Bool.Decides.{Decides-int_eq}
use Rattle.std.specs.Cmp.Lexicographic.{pointwise_decides}
use Rattle.std.specs.Ordering.{int_eq}
use Rattle.linear_atoms.specs.declared.atoms.Atom.{Atom}
use Rattle.linear_atoms.specs.declared.atoms.Feature.{Feature}
use Rattle.linear_atoms.specs.declared.atoms.Literal.{Literal}
use Rattle.linear_atoms.specs.declared.regions.Regions.{Regions}
use Rattle.linear_atoms.specs.declared.regions.Regions.TheVariants.{Paths, Merged}
use Rattle.linear_atoms.specs.Atoms.{IsAtom, AreLiterals}
use Rattle.linear_atoms.specs.Order.{same_terms}
use Rattle.linear_atoms.specs.Texts.{literal_text}
use Rattle.cpp_conditions.proofs.Numbers.{term_decides}
use Rattle.alarm_report.specs.Pieces.{Piece, Single, Value, is_next, leave_value, folded, pieces_of, piece_text}

pub single_texts : (features : List Feature) (ls : List Literal) → map (piece_text features) (map Single ls) ≡ map (literal_text features) ls
single_texts features [] = refl
single_texts features (l ∷ ls) = ap (λ ts. literal_text features l ∷ ts) (single_texts features ls)

-- the first is `T >= k`, the second `T <= k`
pub record LeaveValue (l m : Literal) : Type 0 where
  pub lower : l.positive ≡ true
  pub upper : m.positive ≡ false
  pub terms_are : l.atom.terms ≡ m.atom.terms
  pub bound_is : m.atom.bound ≡ l.atom.bound +ℤ pos 1

negative : (b : Bool) → not b ≡ true → b ≡ false
negative true e = cc
negative false e = refl

pub value_left : (features : List Feature) (l m : Literal) → leave_value features l m ≡ true → LeaveValue l m
value_left features l m e =
    let all = and_parts ((l.positive && not m.positive) && is_next l.atom m.atom) _ e in
    let own = and_parts (l.positive && not m.positive) (is_next l.atom m.atom) all.0 in
    let signs = and_parts l.positive (not m.positive) own.0 in
    let next = and_parts (same_terms l.atom.terms m.atom.terms) (int_eq m.atom.bound (l.atom.bound +ℤ pos 1)) own.1 in
    record {
      lower = signs.0;
      upper = negative m.positive signs.1;
      terms_are = (pointwise_decides term_decides l.atom.terms m.atom.terms).0 next.0;
      bound_is = (Decides-int_eq m.atom.bound (l.atom.bound +ℤ pos 1)).0 next.1;
    }

-- ---- atoms of pieces

abbrev pub atom_of : Piece → Atom
atom_of (Single l) = l.atom
atom_of (Value a) = a

abbrev pub ArePieces : ℕ → List Piece → Type 0
ArePieces count [] = Unit {0}
ArePieces count (p ∷ ps) = IsAtom count (atom_of p) × ArePieces count ps

singles_are : (count : ℕ) (ls : List Literal) → AreLiterals count ls → ArePieces count (map Single ls)
singles_are count [] h = tt
singles_are count (l ∷ ls) h = (h.0, singles_are count ls h.1)

folded_are : (count : ℕ) (features : List Feature) (ls : List Literal) → AreLiterals count ls → ArePieces count (folded features ls)
folded_are count features [] h = tt
folded_are count features (l ∷ []) h = (h.0, tt)
folded_are count features (l ∷ m ∷ ls) h = by (leave_value features l m) (folded_are count features ls h.1.1) (folded_are count features (m ∷ ls) h.1)
  where
    by : (b : Bool) → ArePieces count (folded features ls) → ArePieces count (folded features (m ∷ ls))
        → ArePieces count (if b then Value l.atom ∷ folded features ls else Single l ∷ folded features (m ∷ ls))
    by true x y = (h.0, x)
    by false x y = (h.0, y)

-- the atoms of pieces are those of literals
pub pieces_are : (regions : Regions) (count : ℕ) (features : List Feature) (ls : List Literal) → AreLiterals count ls → ArePieces count (pieces_of regions features ls)
pieces_are Paths count features ls h = singles_are count ls h
pieces_are Merged count features ls h = folded_are count features ls h

abbrev pub AreSome : List Piece → Type 0
AreSome [] = ⊥
AreSome (p ∷ ps) = Unit {0}

pub some_pieces : (regions : Regions) (features : List Feature) (l : Literal) (ls : List Literal) → AreSome (pieces_of regions features (l ∷ ls))
some_pieces Paths features l ls = tt
some_pieces Merged features l [] = tt
some_pieces Merged features l (m ∷ ls) = by (leave_value features l m)
  where
    by : (b : Bool) → AreSome (if b then Value l.atom ∷ folded features ls else Single l ∷ folded features (m ∷ ls))
    by true = tt
    by false = tt
