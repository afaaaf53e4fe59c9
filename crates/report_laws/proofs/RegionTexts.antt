-- Regions that have one text have the same literals.
use Rattle.std.proofs.Common.{◌≡◌, ℕ, pos, ◌+ℤ◌, true, false, List, [], ◌∷◌, ◌++◌, codes, length, drop, get_or, map, refl, sym, ap, ◌∙◌, arith}
use Rattle.std.specs.Prelude.{⊤, flat_map, if◌then◌else◌}
use Rattle.linear_atoms.specs.declared.atoms.Atom.{Atom}
use Rattle.linear_atoms.specs.declared.atoms.Feature.{Feature}
use Rattle.linear_atoms.specs.declared.atoms.Literal.{Literal}
use Rattle.linear_atoms.specs.declared.regions.Regions.{Regions}
use Rattle.linear_atoms.specs.declared.regions.Regions.TheVariants.{Paths, Merged}
use Rattle.linear_atoms.specs.Atoms.{IsAtom, AreLiterals}
use Rattle.alarm_report.specs.Pieces.{Piece, Single, Value, leave_value, folded, pieces_of, piece_text}
use Rattle.alarm_report.specs.Texts.{joined, region_text}
use Rattle.alarm_report.proofs.Piecewise.{LeaveValue, value_left, atom_of, ArePieces, pieces_are, AreSome, some_pieces}
use Rattle.certificate_laws.proofs.Naming.{HaveNames}
use Rattle.certificate_laws.proofs.Literals.{one_literal}
use Rattle.certificate_laws.proofs.Texts.{piece_clean, region_is_one}
use Rattle.certificate_laws.proofs.Values.{one_value, no_value}
use Rattle.certificate_laws.proofs.Words.{AreClean}

-- ---- the literals of pieces

-- a literal, or the two that leave a value
abbrev literals_in : Piece → List Literal
literals_in (Single l) = l ∷ []
literals_in (Value a) = record { atom = a; positive = true } ∷ record { atom = record { terms = a.terms; bound = a.bound +ℤ pos 1 }; positive = false } ∷ []

two_back : (l m : Literal) (xs ls : List Literal) → LeaveValue l m → xs ≡ ls → literals_in (Value l.atom) ++ xs ≡ l ∷ m ∷ ls
two_back l m xs ls h e =
    λ i. record { atom = l.atom; positive = sym h.lower i } ∷ record { atom = record { terms = h.terms_are i; bound = sym h.bound_is i }; positive = sym h.upper i } ∷ e i

folded_back : (fs : List Feature) (ls : List Literal) → flat_map literals_in (folded fs ls) ≡ ls
folded_back fs [] = refl
folded_back fs (l ∷ []) = refl
folded_back fs (l ∷ m ∷ ls) =
    elim (leave_value fs l m) as (λ b. leave_value fs l m ≡ b → flat_map literals_in (if b then Value l.atom ∷ folded fs ls else Single l ∷ folded fs (m ∷ ls)) ≡ l ∷ m ∷ ls) [
      | true ↦ λ e. two_back l m (flat_map literals_in (folded fs ls)) ls (value_left fs l m e) (folded_back fs ls)
      | false ↦ λ e. ap (λ xs. l ∷ xs) (folded_back fs (m ∷ ls))
    ] refl

singles_back : (ls : List Literal) → flat_map literals_in (map Single ls) ≡ ls
singles_back [] = refl
singles_back (l ∷ ls) = ap (λ xs. l ∷ xs) (singles_back ls)

pieces_back : (regions : Regions) (fs : List Feature) (ls : List Literal) → flat_map literals_in (pieces_of regions fs ls) ≡ ls
pieces_back Paths fs ls = singles_back ls
pieces_back Merged fs ls = folded_back fs ls

-- ---- pieces with one text

one_piece : (fs : List Feature) → HaveNames fs → (p q : Piece) → IsAtom (length fs) (atom_of p) → IsAtom (length fs) (atom_of q) → piece_text fs p ≡ piece_text fs q → p ≡ q
one_piece fs named (Single l) (Single m) h k e = ap (λ (x : Literal). Single x) (one_literal fs l m named h k e)
one_piece fs named (Single l) (Value a) h k e = absurd (no_value fs l a named h k e)
one_piece fs named (Value a) (Single l) h k e = absurd (no_value fs l a named k h (sym e))
one_piece fs named (Value a) (Value b) h k e = ap (λ (x : Atom). Value x) (one_value fs a b named h k e)

-- ---- texts behind which ` &&` stands

-- the text ends, or goes on with ` &`
abbrev IsMarked : List ℕ → Type 0
IsMarked [] = ⊤
IsMarked (b ∷ []) = ⊥
IsMarked (b ∷ c ∷ bs) = (b ≡ 32) × (c ≡ 38)

-- what is marked does not go on with clean bytes and another mark
no_more : (x : ℕ) (xs r s : List ℕ) → AreClean (x ∷ xs) → IsMarked r → IsMarked s → r ≡ x ∷ (xs ++ s) → ⊥
no_more x xs [] s p h k e = let l : 0 ≡ length (x ∷ (xs ++ s)) = ap length e in omega (arith, l)
no_more x xs (b ∷ []) s p h k e = h
no_more x [] (b ∷ c ∷ r) [] p h k e = let l : length (b ∷ c ∷ r) ≡ 1 = ap length e in omega (arith, l)
no_more x [] (b ∷ c ∷ r) (d ∷ []) p h k e = k
no_more x [] (b ∷ c ∷ r) (d ∷ f ∷ s) p h k e = let same : c ≡ d = ap (λ t. get_or t 1 0) e in omega (arith, same, h.1, k.0)
no_more x (y ∷ xs) (b ∷ c ∷ r) s p h k e = let same : c ≡ y = ap (λ t. get_or t 1 0) e in p.1.0.1 (sym same ∙ h.1)

one_text : (xs ys r s : List ℕ) → AreClean xs → AreClean ys → IsMarked r → IsMarked s → xs ++ r ≡ ys ++ s → (xs ≡ ys) × (r ≡ s)
one_text [] [] r s p q h k e = (refl, e)
one_text [] (y ∷ ys) r s p q h k e = absurd (no_more y ys r s q h k e)
one_text (x ∷ xs) [] r s p q h k e = absurd (no_more x xs s r p k h (sym e))
one_text (x ∷ xs) (y ∷ ys) r s p q h k e =
    let first : x ≡ y = cc in
    let behind : xs ++ r ≡ ys ++ s = cc in
    let rest = one_text xs ys r s p.1 q.1 h k behind in
    (λ i. first i ∷ rest.0 i, rest.1)

-- ---- regions

module _ (fs : List Feature) (named : HaveNames fs) where
  abbrev further : List Piece → List ℕ
  further ps = flat_map (λ u. codes " && " ++ u) (map (piece_text fs) ps)

  marked : (ps : List Piece) → IsMarked (further ps)
  marked [] = tt
  marked (p ∷ ps) = (refl, refl)

  one_further : (ps qs : List Piece) → ArePieces (length fs) ps → ArePieces (length fs) qs → further ps ≡ further qs → ps ≡ qs
  one_further [] [] h k e = refl
  one_further [] (q ∷ qs) h k e = let l : 0 ≡ length (further (q ∷ qs)) = ap length e in absurd (omega (arith, l))
  one_further (p ∷ ps) [] h k e = let l : length (further (p ∷ ps)) ≡ 0 = ap length e in absurd (omega (arith, l))
  one_further (p ∷ ps) (q ∷ qs) h k e =
      let text = one_text (piece_text fs p) (piece_text fs q) (further ps) (further qs) (piece_clean fs named p h.0) (piece_clean fs named q k.0) (marked ps) (marked qs) (ap (drop 4) e) in
      let first : p ≡ q = one_piece fs named p q h.0 k.0 text.0 in
      let rest : ps ≡ qs = one_further ps qs h.1 k.1 text.1 in
      λ i. first i ∷ rest i

  one_joined : (ps qs : List Piece) → AreSome ps → AreSome qs → ArePieces (length fs) ps → ArePieces (length fs) qs
      → joined (codes " && ") (map (piece_text fs) ps) ≡ joined (codes " && ") (map (piece_text fs) qs) → ps ≡ qs
  one_joined [] qs some more h k e = absurd some
  one_joined (p ∷ ps) [] some more h k e = absurd more
  one_joined (p ∷ ps) (q ∷ qs) some more h k e =
      let text = one_text (piece_text fs p) (piece_text fs q) (further ps) (further qs) (piece_clean fs named p h.0) (piece_clean fs named q k.0) (marked ps) (marked qs) e in
      let first : p ≡ q = one_piece fs named p q h.0 k.0 text.0 in
      let rest : ps ≡ qs = one_further ps qs h.1 k.1 text.1 in
      λ i. first i ∷ rest i

  pub one_region : (regions : Regions) (ls ms : List Literal) → AreLiterals (length fs) ls → AreLiterals (length fs) ms → region_text regions fs ls ≡ region_text regions fs ms → ls ≡ ms
  one_region regions [] [] h k e = refl
  one_region regions [] (m ∷ ms) h k e = absurd (region_is_one regions fs named m ms k (sym e))
  one_region regions (l ∷ ls) [] h k e = absurd (region_is_one regions fs named l ls h e)
  one_region regions (l ∷ ls) (m ∷ ms) h k e =
      let pieces : pieces_of regions fs (l ∷ ls) ≡ pieces_of regions fs (m ∷ ms) =
      one_joined (pieces_of regions fs (l ∷ ls)) (pieces_of regions fs (m ∷ ms)) (some_pieces regions fs l ls) (some_pieces regions fs m ms)
      (pieces_are regions (length fs) fs (l ∷ ls) h) (pieces_are regions (length fs) fs (m ∷ ms) k) e in
      sym (pieces_back regions fs (l ∷ ls)) ∙ ap (flat_map literals_in) pieces ∙ pieces_back regions fs (m ∷ ms)
