-- What the formula of a region's text says.
use Rattle.std.proofs.Common.{◌≡◌, ℕ, zero, suc, ℤ, Bool, true, false, not, ◌&&◌, List, [], ◌∷◌, ◌⊎◌, inl, inr, codes, length, map, refl, sym, ap, ap₂, subst, ◌∙◌, arith}
use Rattle.std.specs.Prelude.{if◌then◌else◌, filter, flat_map, slice_get, slice_index_or, Option, Some, None}
use Rattle.linear_atoms.specs.declared.atoms.Atom.{Atom}
use Rattle.linear_atoms.specs.declared.atoms.Feature.{Feature}
use Rattle.linear_atoms.specs.declared.atoms.Literal.{Literal}
use Rattle.linear_atoms.specs.Atoms.{holds, literal_holds, AreAtoms}
use Rattle.linear_atoms.specs.declared.regions.Regions.{Regions}
use Rattle.cpp_conditions.specs.Numbering.{vector_at}
use Rattle.cpp_conditions.specs.Propositions.{Proposition, true_on}
use Rattle.atom_solver.specs.Solutions.{all_hold}
use Rattle.alarm_report.specs.Pieces.{pieces_of, piece_text}
use Rattle.alarm_report.specs.Pieces as told
use Rattle.alarm_report.specs.Texts.{joined, region_text}
use Rattle.alarm_report.proofs.Piecewise.{ArePieces, AreSome, pieces_are, some_pieces}
use Rattle.certificate_format.specs.declared.literals.Numbered.{Numbered}
use Rattle.certificate_format.specs.declared.literals.Piece.{Piece}
use Rattle.certificate_format.specs.Cuts.{AreBetween, IsBetween}
use Rattle.certificate_format.specs.Regions.{piece_of, literals_in, test_of, all_of, is_same, distinct, IsMeant, IsStrange}
use Rattle.certificate_format.proofs.Pieces.{same_is}
use Rattle.certificate_laws.proofs.Naming.{HaveNames}
use Rattle.certificate_laws.proofs.Writable.{AreOver}
use Rattle.certificate_laws.proofs.Literals.{by_truth}
use Rattle.certificate_laws.proofs.Texts.{piece_clean, region_is_one}
use Rattle.certificate_laws.proofs.Pieces.{AllClean, IsIn, piece_in}
use Rattle.certificate_laws.proofs.Pieces as cut
use Rattle.certificate_laws.proofs.Standing.{Stands, over_fit, StandAll, pieces_stood}

-- ---- truths

mapped_at : (f : Atom → Bool) (atoms : List Atom) (n : ℕ) (a : Atom) → slice_get atoms n ≡ Some a → slice_index_or (map f atoms) n false ≡ f a
mapped_at f [] n a e = cc
mapped_at f (b ∷ atoms) zero a e = let same : b ≡ a = cc in ap f same
mapped_at f (b ∷ atoms) (suc n) a e = mapped_at f atoms n a e

test_by : (vector : List Bool) (n : ℕ) (p : Bool) (atom : Bool) → slice_index_or vector n false ≡ atom → true_on vector (test_of (record { number = n; positive = p })) ≡ (if p then atom else not atom)
test_by vector n true atom e = e
test_by vector n false atom e = ap not e

test_says : (atoms : List Atom) (values : List ℤ) (l : Literal) (m : Numbered) → Stands 0 atoms l m → true_on (vector_at atoms values) (test_of m) ≡ literal_holds l values
test_says atoms values l m h =
    let number : m.number ≡ h.place = h.number ∙ omega arith in
    let atom = ap (λ n. slice_index_or (vector_at atoms values) n false) number ∙ mapped_at (λ (a : Atom). holds a values) atoms h.place l.atom h.there in
    test_by (vector_at atoms values) m.number m.positive (holds l.atom values) atom ∙ ap (λ p. if p then holds l.atom values else not (holds l.atom values)) h.positive

-- ---- each literal once

and_true : (a b : Bool) → a ≡ true → (a && b) ≡ b
and_true a b e = ap (λ x. x && b) e

and_false : (a b : Bool) → a ≡ false → (a && b) ≡ false
and_false a b e = ap (λ x. x && b) e

abbrev others : Numbered → List Numbered → List Numbered
others l ls = filter (λ m. not (is_same l m)) ls

others_say : (v : List Bool) (l : Numbered) (ls : List Numbered) → true_on v (test_of l) ≡ true → true_on v (all_of (others l ls)) ≡ true_on v (all_of ls)
others_say v l [] e = refl
others_say v l (m ∷ ls) e = by (others_say v l ls e) (by_truth (is_same l m))
  where
    by : true_on v (all_of (others l ls)) ≡ true_on v (all_of ls) → (is_same l m ≡ true) ⊎ (is_same l m ≡ false) → true_on v (all_of (others l (m ∷ ls))) ≡ true_on v (all_of (m ∷ ls))
    by rest (inl s) =
        ap (λ b. true_on v (all_of (if not b then m ∷ others l ls else others l ls))) s ∙ rest
        ∙ sym (and_true (true_on v (test_of m)) (true_on v (all_of ls)) (ap (λ x. true_on v (test_of x)) (sym (same_is l m s)) ∙ e))
    by rest (inr s) = ap (λ b. true_on v (all_of (if not b then m ∷ others l ls else others l ls))) s ∙ ap (λ b. true_on v (test_of m) && b) rest

distinct_say : (v : List Bool) (ls : List Numbered) → true_on v (all_of (distinct ls)) ≡ true_on v (all_of ls)
distinct_say v [] = refl
distinct_say v (l ∷ ls) = by (distinct_say v ls) (by_truth (true_on v (test_of l)))
  where
    by : true_on v (all_of (distinct ls)) ≡ true_on v (all_of ls) → (true_on v (test_of l) ≡ true) ⊎ (true_on v (test_of l) ≡ false) → true_on v (all_of (distinct (l ∷ ls))) ≡ true_on v (all_of (l ∷ ls))
    by rest (inl e) = ap (λ b. true_on v (test_of l) && b) (others_say v l (distinct ls) e ∙ rest)
    by rest (inr e) = and_false (true_on v (test_of l)) _ e ∙ sym (and_false (true_on v (test_of l)) (true_on v (all_of ls)) e)

-- ---- regions

all_say : (atoms : List Atom) (values : List ℤ) (ls : List Literal) (ms : List Numbered) → StandAll atoms ls ms → true_on (vector_at atoms values) (all_of ms) ≡ all_hold ls values
all_say atoms values [] [] h = refl
all_say atoms values [] (m ∷ ms) h = absurd h
all_say atoms values (l ∷ ls) [] h = absurd h
all_say atoms values (l ∷ ls) (m ∷ ms) h = ap₂ (λ a b. a && b) (test_says atoms values l m h.0) (all_say atoms values ls ms h.1)

somes_once : (ps qs : List Piece) → map Some ps ≡ map Some qs → ps ≡ qs
somes_once [] [] e = refl
somes_once [] (q ∷ qs) e = let n : 0 ≡ length (map Some (q ∷ qs)) = ap length e in absurd (omega (arith, n))
somes_once (p ∷ ps) [] e = let n : length (map Some (p ∷ ps)) ≡ 0 = ap length e in absurd (omega (arith, n))
somes_once (p ∷ ps) (q ∷ qs) e =
    let first : p ≡ q = cc in
    let rest : map Some ps ≡ map Some qs = cc in
    ap₂ (λ x xs. x ∷ xs) first (somes_once ps qs rest)

in_known : (of : List ℕ → Option Piece) (texts : List (List ℕ)) (ps : List Piece) (text : List ℕ) → map of texts ≡ map Some ps → IsIn text texts → of text ≡ None → ⊥
in_known of [] ps text e h none = h
in_known of (t ∷ texts) [] text e h none = let n : length (map of (t ∷ texts)) ≡ 0 = ap length e in omega (arith, n)
in_known of (t ∷ texts) (p ∷ ps) text e (inl f) none = let there : of t ≡ Some p = cc in let lost : Some p ≡ None = sym there ∙ ap of (sym f) ∙ none in cc
in_known of (t ∷ texts) (p ∷ ps) text e (inr k) none = let rest : map of texts ≡ map Some ps = cc in in_known of texts ps text rest k none

module _ (fs : List Feature) (named : HaveNames fs) (atoms : List Atom) (well : AreAtoms (length fs) atoms) where
  abbrev of : List ℕ → Option Piece
  of = piece_of fs atoms

  abbrev texts : List told.Piece → List (List ℕ)
  texts ps = map (piece_text fs) ps

  abbrev whole : List told.Piece → List ℕ
  whole ps = joined (codes " && ") (texts ps)

  texts_clean : (ps : List told.Piece) → ArePieces (length fs) ps → AllClean (texts ps)
  texts_clean [] h = tt
  texts_clean (p ∷ ps) h = (piece_clean fs named p h.0, texts_clean ps h.1)

  parts_are : (ps : List told.Piece) (parts : List (List ℕ)) → AreSome ps → ArePieces (length fs) ps → AreBetween (codes " && ") (whole ps) parts → parts ≡ texts ps
  parts_are [] parts some h b = absurd some
  parts_are (p ∷ ps) parts some h b = let clean = texts_clean (p ∷ ps) h in cut.pieces_are (piece_text fs p) (texts ps) parts clean.0 clean.1 b

  part_in : (ps : List told.Piece) (part : List ℕ) → AreSome ps → ArePieces (length fs) ps → IsBetween (codes " && ") (whole ps) part → IsIn part (texts ps)
  part_in [] part some h b = absurd some
  part_in (p ∷ ps) part some h b = let clean = texts_clean (p ∷ ps) h in piece_in (piece_text fs p) (texts ps) part clean.0 clean.1 b

  module _ (regions : Regions) where
    -- the formula that a region's text is read as is true where its literals hold
    pub region_says : (values : List ℤ) (ls : List Literal) (p : Proposition ℕ) → AreOver atoms ls → IsMeant of (region_text regions fs ls) p → true_on (vector_at atoms values) p ≡ all_hold ls values
    region_says values [] p h (inl m) = ap (true_on (vector_at atoms values)) m.1
    region_says values [] p h (inr m) = absurd (m.0 refl)
    region_says values (l ∷ ls) p h (inl m) = absurd (region_is_one regions fs named l ls (over_fit (length fs) atoms (l ∷ ls) well h) m.0)
    region_says values (l ∷ ls) p h (inr m) =
        let fit = over_fit (length fs) atoms (l ∷ ls) well h in
        let ps = pieces_of regions fs (l ∷ ls) in
        let parts : m.1.texts ≡ texts ps = parts_are ps m.1.texts (some_pieces regions fs l ls) (pieces_are regions (length fs) fs (l ∷ ls) fit) m.1.between in
        let read = pieces_stood fs named atoms well regions (l ∷ ls) h in
        let same : read.pieces ≡ m.1.pieces = somes_once read.pieces m.1.pieces (sym read.spelled ∙ ap (map of) (sym parts) ∙ m.1.spelled) in
        ap (true_on (vector_at atoms values)) m.1.formula_is ∙ distinct_say (vector_at atoms values) (flat_map literals_in m.1.pieces)
        ∙ all_say atoms values (l ∷ ls) (flat_map literals_in m.1.pieces) (subst (λ qs. StandAll atoms (l ∷ ls) (flat_map literals_in qs)) same read.stand)

    -- no piece of a region's text is strange
    pub region_known : (ls : List Literal) → AreOver atoms ls → ¬ (IsStrange of (region_text regions fs ls))
    region_known [] h s = s.other refl
    region_known (l ∷ ls) h s =
        let fit = over_fit (length fs) atoms (l ∷ ls) well h in
        let ps = pieces_of regions fs (l ∷ ls) in
        let read = pieces_stood fs named atoms well regions (l ∷ ls) h in
        in_known of (texts ps) read.pieces s.piece read.spelled (part_in ps s.piece (some_pieces regions fs l ls) (pieces_are regions (length fs) fs (l ∷ ls) fit) s.between) s.unspelled
