-- The bytes of the texts of literals and regions.
use Rattle.std.proofs.Common.{◌≡◌, ◌≢◌, ℕ, ◌<◌, ◌^◌, ℤ, pos, negsuc, ◌-ℤ◌, Bool, true, false, List, [], ◌∷◌, ◌++◌, codes, inl, inr, length, arith, subst}
use Rattle.std.specs.Prelude.{nat_eq, int_lt, if◌then◌else◌, map, flat_map}
use Rattle.std.specs.List.{AllByRecursion}
use Rattle.std.specs.Fmt.{decimal, signed_decimal}
use lib.Signed.{mag}
use Rattle.linear_atoms.specs.declared.atoms.Atom.{Atom}
use Rattle.linear_atoms.specs.declared.atoms.Feature.{Feature}
use Rattle.linear_atoms.specs.declared.atoms.Literal.{Literal}
use Rattle.linear_atoms.specs.declared.regions.Regions.{Regions}
use Rattle.linear_atoms.specs.Atoms.{LeadsPositive, IsAtom, AreLiterals}
use Rattle.linear_atoms.specs.Texts.{name_at, sign_text, sized_text, terms_text, is_switch, literal_by, literal_text, value_text}
use Rattle.alarm_report.specs.Pieces.{Piece, Single, Value, pieces_of, piece_text}
use Rattle.alarm_report.specs.Texts.{joined, region_text}
use Rattle.alarm_report.proofs.Piecewise.{atom_of, ArePieces, AreSome, pieces_are, some_pieces}
use Rattle.certificate_laws.proofs.Naming.{IsName, HaveNames}
use Rattle.certificate_laws.proofs.Words.{are_digits, digits_words, name_words, both_all, IsClean, AreClean, words_clean, HasLetter, letter_left, letter_right, name_letter}
use Rattle.certificate_laws.proofs.Literals.{AreShown, shown, shown_behind, first_small, size, IsBound, bound_mag, below_bound}

-- ---- clean bytes

clean_by : (b : Bool) (x y : List ℕ) → AreClean x → AreClean y → AreClean (if b then x else y)
clean_by true x y h k = h
clean_by false x y h k = k

clean_append : (x y : List ℕ) → AreClean x → AreClean y → AreClean (x ++ y)
clean_append = both_all IsClean

space : IsClean 32
space = (omega arith, λ e. omega (arith, e), λ e. omega (arith, e))

minus : IsClean 45
minus = (omega arith, λ e. omega (arith, e), λ e. omega (arith, e))

plus : IsClean 43
plus = (omega arith, λ e. omega (arith, e), λ e. omega (arith, e))

star : IsClean 42
star = (omega arith, λ e. omega (arith, e), λ e. omega (arith, e))

less : IsClean 60
less = (omega arith, λ e. omega (arith, e), λ e. omega (arith, e))

more : IsClean 62
more = (omega arith, λ e. omega (arith, e), λ e. omega (arith, e))

equal : IsClean 61
equal = (omega arith, λ e. omega (arith, e), λ e. omega (arith, e))

mark : IsClean 33
mark = (omega arith, λ e. omega (arith, e), λ e. omega (arith, e))

decimal_clean : (n : ℕ) → n < 2 ^ 64 → AreClean (decimal n)
decimal_clean n h = words_clean (decimal n) (digits_words (decimal n) (are_digits n h))

signed_clean : (z : ℤ) → mag z < 2 ^ 63 → AreClean (signed_decimal z)
signed_clean (pos n) h = decimal_clean n (omega (arith, h))
signed_clean (negsuc n) h = (minus, decimal_clean _ (omega (arith, h)))

sign_clean : (first : Bool) (a : ℤ) → AreClean (sign_text first a)
sign_clean true a = clean_by (int_lt a (pos 0)) (codes "-") [] (minus, tt) tt
sign_clean false a = clean_by (int_lt a (pos 0)) (codes " - ") (codes " + ") (space, (minus, (space, tt))) (space, (plus, (space, tt)))

sized_clean : (a : ℤ) (name : List ℕ) → size a < 2 ^ 64 → IsName name → AreClean (sized_text a name)
sized_clean a name h k =
    clean_append _ name (clean_by (nat_eq (size a) 1) [] (decimal (size a) ++ codes "*") tt (clean_append (decimal (size a)) (codes "*") (decimal_clean (size a) h) (star, tt))) (words_clean name (name_words name k))

terms_clean : (first : Bool) (fs : List Feature) → HaveNames fs → (ts : List (ℕ × ℤ)) → AreShown fs ts → AreClean (terms_text first fs ts)
terms_clean first fs named [] h = tt
terms_clean first fs named (t ∷ ts) h =
    clean_append _ (terms_text false fs ts)
    (clean_append (sign_text first t.1) (sized_text t.1 (name_at fs t.0)) (sign_clean first t.1) (sized_clean t.1 (name_at fs t.0) (first_small fs t ts h) (named.are t.0 h.below.0)))
    (terms_clean false fs named ts (shown_behind fs t ts h))

by_clean : (s p : Bool) (t : List ℕ) (b : ℤ) → IsBound b → AreClean t → AreClean (literal_by s p t b)
by_clean true true t b h k = k
by_clean true false t b h k = (mark, k)
by_clean false true t b h k = clean_append (t ++ codes " >= ") (signed_decimal b) (clean_append t (codes " >= ") k (space, (more, (equal, (space, tt))))) (signed_clean b (bound_mag b h))
by_clean false false t b h k =
    clean_append (t ++ codes " <= ") (signed_decimal (b -ℤ pos 1)) (clean_append t (codes " <= ") k (space, (less, (equal, (space, tt))))) (signed_clean (b -ℤ pos 1) (below_bound b h))

literal_clean : (fs : List Feature) → HaveNames fs → (l : Literal) → IsAtom (length fs) l.atom → AreClean (literal_text fs l)
literal_clean fs named l h =
    by_clean (is_switch fs l.atom.terms l.atom.bound) l.positive (terms_text true fs l.atom.terms) l.atom.bound h.bounded (terms_clean true fs named l.atom.terms (shown fs l.atom h))

value_clean : (fs : List Feature) → HaveNames fs → (a : Atom) → IsAtom (length fs) a → AreClean (value_text fs a)
value_clean fs named a h =
    let t = terms_text true fs a.terms in
    clean_append (t ++ codes " == ") (signed_decimal a.bound) (clean_append t (codes " == ") (terms_clean true fs named a.terms (shown fs a h)) (space, (equal, (equal, (space, tt))))) (signed_clean a.bound (bound_mag a.bound h.bounded))

pub piece_clean : (fs : List Feature) → HaveNames fs → (p : Piece) → IsAtom (length fs) (atom_of p) → AreClean (piece_text fs p)
piece_clean fs named (Single l) h = literal_clean fs named l h
piece_clean fs named (Value a) h = value_clean fs named a h

-- ---- letters

terms_letter : (fs : List Feature) → HaveNames fs → (ts : List (ℕ × ℤ)) → AreShown fs ts → LeadsPositive ts → HasLetter (terms_text true fs ts)
terms_letter fs named [] h l = absurd l
terms_letter fs named (t ∷ ts) h l =
    letter_left _ (terms_text false fs ts) (letter_right (sign_text true t.1) (sized_text t.1 (name_at fs t.0)) (letter_right _ (name_at fs t.0) (name_letter (name_at fs t.0) (named.are t.0 h.below.0))))

by_letter : (s p : Bool) (t : List ℕ) (b : ℤ) → HasLetter t → HasLetter (literal_by s p t b)
by_letter true true t b k = k
by_letter true false t b k = inr k
by_letter false true t b k = letter_left (t ++ codes " >= ") (signed_decimal b) (letter_left t (codes " >= ") k)
by_letter false false t b k = letter_left (t ++ codes " <= ") (signed_decimal (b -ℤ pos 1)) (letter_left t (codes " <= ") k)

literal_letter : (fs : List Feature) → HaveNames fs → (l : Literal) → IsAtom (length fs) l.atom → HasLetter (literal_text fs l)
literal_letter fs named l h =
    by_letter (is_switch fs l.atom.terms l.atom.bound) l.positive (terms_text true fs l.atom.terms) l.atom.bound (terms_letter fs named l.atom.terms (shown fs l.atom h) h.positive)

piece_letter : (fs : List Feature) → HaveNames fs → (p : Piece) → IsAtom (length fs) (atom_of p) → HasLetter (piece_text fs p)
piece_letter fs named (Single l) h = literal_letter fs named l h
piece_letter fs named (Value a) h =
    letter_left (terms_text true fs a.terms ++ codes " == ") (signed_decimal a.bound) (letter_left (terms_text true fs a.terms) (codes " == ") (terms_letter fs named a.terms (shown fs a h) h.positive))

-- ---- regions

no_one : (fs : List Feature) → HaveNames fs → (ps : List Piece) → AreSome ps → ArePieces (length fs) ps → joined (codes " && ") (map (piece_text fs) ps) ≡ codes "1" → ⊥
no_one fs named [] some h e = some
no_one fs named (p ∷ ps) some h e =
    elim (subst HasLetter e (letter_left (piece_text fs p) _ (piece_letter fs named p h.0))) [
      | inl less ↦ omega (arith, less)
      | inr none ↦ none
    ]

-- a region with literals is not `1`
pub region_is_one : (regions : Regions) (fs : List Feature) → HaveNames fs → (l : Literal) (ls : List Literal) → AreLiterals (length fs) (l ∷ ls) → region_text regions fs (l ∷ ls) ≡ codes "1" → ⊥
region_is_one regions fs named l ls h e = no_one fs named (pieces_of regions fs (l ∷ ls)) (some_pieces regions fs l ls) (pieces_are regions (length fs) fs (l ∷ ls) h) e

-- no newline and no colon
abbrev pub IsInLine : ℕ → Type 0
IsInLine b = (31 < b) × (b ≢ 58)

blank : IsInLine 32
blank = (omega arith, λ e. omega (arith, e))

amp : IsInLine 38
amp = (omega arith, λ e. omega (arith, e))

in_line : (xs : List ℕ) → AreClean xs → AllByRecursion IsInLine xs
in_line [] h = tt
in_line (x ∷ xs) h = ((h.0.0, h.0.2), in_line xs h.1)

pieces_in_line : (fs : List Feature) → HaveNames fs → (ps : List Piece) → AreSome ps → ArePieces (length fs) ps → AllByRecursion IsInLine (joined (codes " && ") (map (piece_text fs) ps))
pieces_in_line fs named [] some h = absurd some
pieces_in_line fs named (p ∷ ps) some h = both_all IsInLine (piece_text fs p) _ (in_line (piece_text fs p) (piece_clean fs named p h.0)) (further ps h.1)
  where
    further : (ps : List Piece) → ArePieces (length fs) ps → AllByRecursion IsInLine (flat_map (λ u. codes " && " ++ u) (map (piece_text fs) ps))
    further [] h = tt
    further (p ∷ ps) h =
        both_all IsInLine (codes " && " ++ piece_text fs p) _
        (both_all IsInLine (codes " && ") (piece_text fs p)
        (blank, (amp, (amp, (blank, tt))))
        (in_line (piece_text fs p) (piece_clean fs named p h.0))) (further ps h.1)

pub region_in_line : (regions : Regions) (fs : List Feature) → HaveNames fs → (ls : List Literal) → AreLiterals (length fs) ls → AllByRecursion IsInLine (region_text regions fs ls)
region_in_line regions fs named [] h = ((omega arith, λ e. omega (arith, e)), tt)
region_in_line regions fs named (l ∷ ls) h = pieces_in_line fs named (pieces_of regions fs (l ∷ ls)) (some_pieces regions fs l ls) (pieces_are regions (length fs) fs (l ∷ ls) h)
