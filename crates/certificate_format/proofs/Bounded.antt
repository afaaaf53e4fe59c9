-- What holds of all lines of a certificate.
use Rattle.std.proofs.Common.{◌≡◌, inl, inr, ℕ, ◌+◌, ◌<◌, ◌≤◌, Bool, true, false, not, List, [], ◌∷◌, ◌++◌, map, length, sym, ap, subst, arith}
use Rattle.std.specs.Prelude.{filter, flat_map, if◌then◌else◌, Option, Some, None, Result, Ok, Err, IfOk}
use Rattle.std.specs.List.{All, AllByRecursion}
use Rattle.std.specs.Str.{bytes_eq}
use Rattle.std.proofs.lemmas.List.Elements.{All-from_recursion}
use Rattle.fam_outer.specs.declared.refusal.Refusal.{Refusal}
use Rattle.linear_atoms.specs.declared.atoms.Atom.{Atom}
use Rattle.linear_atoms.specs.declared.atoms.Feature.{Feature}
use Rattle.linear_atoms.specs.Texts.{value_text}
use Rattle.alarm_report.specs.Pieces.{is_next}
use Rattle.cpp_conditions.specs.Propositions.{Proposition, IsBelow}
use Rattle.cpp_conditions.specs.View.{formula}
use Rattle.lifted_analysis.specs.declared.lines.LoopLine.{LoopLine}
use Rattle.certificate_format.specs.declared.literals.Numbered.{Numbered}
use Rattle.certificate_format.specs.declared.literals.Piece.{Piece}
use Rattle.certificate_format.specs.declared.literals.Piece.TheVariants as pieces
use Rattle.certificate_format.specs.declared.certificates.AlarmLine.{AlarmLine}
use Rattle.certificate_format.specs.declared.certificates.Certificate.{Certificate}
use Rattle.certificate_format.specs.declared.certificates.CertificateFault.{CertificateFault}
use Rattle.certificate_format.specs.declared.certificates.Entry.{Entry}
use Rattle.certificate_format.specs.declared.certificates.Entry.TheVariants.{Loop, Alarm}
use Rattle.certificate_format.specs.Bounds.{AreIntBounds}
use Rattle.certificate_format.specs.Regions.{numbered, spelling, literal_from, next_from, value_by, value_from, or_else, piece_of, literals_in, all_of, is_same, distinct, IsMeant}
use Rattle.certificate_format.specs.Certificates.{AreEntries, loops_of, alarms_of, IsCertificateRead}

-- ---- numbers of literals

abbrev AreBelow : ℕ → List Numbered → Type 0
AreBelow n literals = AllByRecursion (λ (l : Numbered). l.number < n) literals

abbrev PieceBelow : ℕ → Option Piece → Type 0
PieceBelow n None = Unit {0}
PieceBelow n (Some piece) = AreBelow n (literals_in piece)

abbrev NumberBelow : ℕ → Option ℕ → Type 0
NumberBelow n None = Unit {0}
NumberBelow n (Some m) = m < n

either : {X : Type 0} (P : X → Type 0) (b : Bool) (x y : X) → P x → P y → P (if b then x else y)
either P true x y p q = p
either P false x y p q = q

literal_below : (features : List Feature) (n : ℕ) (atoms : List Atom) (text : List ℕ) → PieceBelow (n + length atoms) (literal_from features n atoms text)
literal_below features n [] text = tt
literal_below features n (a ∷ atoms) text =
    let here : n < n + length (a ∷ atoms) = omega arith in
    let next : n + 1 + length atoms ≡ n + length (a ∷ atoms) = omega arith in
    let later = subst (λ m. PieceBelow m (literal_from features (n + 1) atoms text)) next (literal_below features (n + 1) atoms text) in
    either (PieceBelow (n + length (a ∷ atoms))) (bytes_eq (spelling features a true) text) (Some (pieces.Literal (numbered n true))) _ (here, tt)
    (either (PieceBelow (n + length (a ∷ atoms))) (bytes_eq (spelling features a false) text) (Some (pieces.Literal (numbered n false))) (literal_from features (n + 1) atoms text) (here, tt) later)

next_below : (n : ℕ) (atoms : List Atom) (a : Atom) → NumberBelow (n + length atoms) (next_from n atoms a)
next_below n [] a = tt
next_below n (b ∷ atoms) a =
    let here : n < n + length (b ∷ atoms) = omega arith in
    let next : n + 1 + length atoms ≡ n + length (b ∷ atoms) = omega arith in
    either (NumberBelow (n + length (b ∷ atoms))) (is_next a b) (Some n) (next_from (n + 1) atoms a) here (subst (λ m. NumberBelow m (next_from (n + 1) atoms a)) next (next_below (n + 1) atoms a))

value_below : (features : List Feature) (all : List Atom) (n : ℕ) (atoms : List Atom) (text : List ℕ) → n + length atoms ≤ length all → PieceBelow (length all) (value_from features all n atoms text)
value_below features all n [] text h = tt
value_below features all n (a ∷ atoms) text h =
    by (next_from 0 all a) (let same : 0 + length all ≡ length all = omega arith in subst (λ m. NumberBelow m (next_from 0 all a)) same (next_below 0 all a)) (value_below features all (n + 1) atoms text (omega (arith, h)))
  where
    by : (o : Option ℕ) → NumberBelow (length all) o → PieceBelow (length all) (value_from features all (n + 1) atoms text)
        → PieceBelow (length all) (value_by (bytes_eq (value_text features a) text) n o (value_from features all (n + 1) atoms text))
    by None k later = later
    by (Some m) k later =
        either (PieceBelow (length all)) (bytes_eq (value_text features a) text) (Some (pieces.Value n m)) (value_from features all (n + 1) atoms text) (omega (arith, h), (k, tt)) later

else_below : (n : ℕ) (o other : Option Piece) → PieceBelow n o → PieceBelow n other → PieceBelow n (or_else o other)
else_below n None other h k = k
else_below n (Some piece) other h k = h

-- the function gives literals with numbers below this
abbrev pub GivesBelow : ℕ → (List ℕ → Option Piece) → Type 0
GivesBelow n of = (text : List ℕ) → PieceBelow n (of text)

pub pieces_below : (features : List Feature) (atoms : List Atom) → GivesBelow (length atoms) (piece_of features atoms)
pieces_below features atoms text =
    let same : 0 + length atoms ≡ length atoms = omega arith in
    else_below (length atoms) (literal_from features 0 atoms text) (value_from features atoms 0 atoms text)
    (subst (λ m. PieceBelow m (literal_from features 0 atoms text)) same (literal_below features 0 atoms text))
    (value_below features atoms 0 atoms text (omega arith))

abbrev head_or : Option Piece → List (Option Piece) → Option Piece
head_or d [] = d
head_or d (o ∷ os) = o

abbrev tail_of : List (Option Piece) → List (Option Piece)
tail_of [] = []
tail_of (o ∷ os) = os

join_below : (n : ℕ) (literals others : List Numbered) → AreBelow n literals → AreBelow n others → AreBelow n (literals ++ others)
join_below n [] others h k = k
join_below n (l ∷ literals) others h k = (h.0, join_below n literals others h.1 k)

spelled_below : (n : ℕ) (of : List ℕ → Option Piece) → GivesBelow n of → (texts : List (List ℕ)) (ps : List Piece) → map of texts ≡ map Some ps → AreBelow n (flat_map literals_in ps)
spelled_below n of g texts [] e = tt
spelled_below n of g [] (p ∷ ps) e = let h : 0 ≡ length (map Some (p ∷ ps)) = ap length e in absurd (omega (arith, h))
spelled_below n of g (t ∷ texts) (p ∷ ps) e = join_below n (literals_in p) (flat_map literals_in ps) (subst (PieceBelow n) (ap (head_or None) e) (g t)) (spelled_below n of g texts ps (ap tail_of e))

filtered_below : (n : ℕ) (p : Numbered → Bool) (literals : List Numbered) → AreBelow n literals → AreBelow n (filter p literals)
filtered_below n p [] h = tt
filtered_below n p (l ∷ literals) h =
    either (AreBelow n) (p l) (l ∷ filter p literals) (filter p literals) (h.0, filtered_below n p literals h.1) (filtered_below n p literals h.1)

distinct_below : (n : ℕ) (literals : List Numbered) → AreBelow n literals → AreBelow n (distinct literals)
distinct_below n [] h = tt
distinct_below n (l ∷ literals) h = (h.0, filtered_below n (λ m. not (is_same l m)) (distinct literals) (distinct_below n literals h.1))

all_below : (n : ℕ) (literals : List Numbered) → AreBelow n literals → IsBelow n (all_of literals)
all_below n [] h = tt
all_below n (l ∷ literals) h = (either (IsBelow n) l.positive _ _ h.0 h.0, all_below n literals h.1)

meant_below : (n : ℕ) (of : List ℕ → Option Piece) → GivesBelow n of → (region : List ℕ) (p : Proposition ℕ) → IsMeant of region p → IsBelow n p
meant_below n of g region p (inl h) = subst (IsBelow n) (sym h.1) tt
meant_below n of g region p (inr h) =
    subst (IsBelow n) (sym h.1.formula_is) (all_below n (distinct (flat_map literals_in h.1.pieces)) (distinct_below n (flat_map literals_in h.1.pieces) (spelled_below n of g h.1.texts h.1.pieces h.1.spelled)))

-- ---- all lines

abbrev LoopBelow : ℕ → LoopLine → Type 0
LoopBelow n l = IsBelow n (formula l.region)

abbrev AlarmBelow : ℕ → AlarmLine → Type 0
AlarmBelow n a = IsBelow n (formula a.region)

loops_of_below : (n : ℕ) (of : List ℕ → Option Piece) → GivesBelow n of → (names lines : List (List ℕ)) (entries : List Entry) → AreEntries of names lines entries → AllByRecursion (LoopBelow n) (loops_of entries)
loops_of_below n of g names lines [] h = tt
loops_of_below n of g names [] (e ∷ entries) h = absurd h
loops_of_below n of g names (line ∷ lines) (Loop l ∷ entries) h = (meant_below n of g h.0.0 (formula l.region) h.0.2, loops_of_below n of g names lines entries h.1)
loops_of_below n of g names (line ∷ lines) (Alarm a ∷ entries) h = loops_of_below n of g names lines entries h.1

alarms_of_below : (n : ℕ) (of : List ℕ → Option Piece) → GivesBelow n of → (names lines : List (List ℕ)) (entries : List Entry) → AreEntries of names lines entries → AllByRecursion (AlarmBelow n) (alarms_of entries)
alarms_of_below n of g names lines [] h = tt
alarms_of_below n of g names [] (e ∷ entries) h = absurd h
alarms_of_below n of g names (line ∷ lines) (Loop l ∷ entries) h = alarms_of_below n of g names lines entries h.1
alarms_of_below n of g names (line ∷ lines) (Alarm a ∷ entries) h = (meant_below n of g h.0.0 (formula a.region) h.0.2, alarms_of_below n of g names lines entries h.1)

bounds_of_loops : (of : List ℕ → Option Piece) (names lines : List (List ℕ)) (entries : List Entry) → AreEntries of names lines entries → AllByRecursion (λ (l : LoopLine). AreIntBounds names l.bounds) (loops_of entries)
bounds_of_loops of names lines [] h = tt
bounds_of_loops of names [] (e ∷ entries) h = absurd h
bounds_of_loops of names (line ∷ lines) (Loop l ∷ entries) h = (h.0.1.1, bounds_of_loops of names lines entries h.1)
bounds_of_loops of names (line ∷ lines) (Alarm a ∷ entries) h = bounds_of_loops of names lines entries h.1

-- ---- answers

pub loops_below : (n : ℕ) (of : List ℕ → Option Piece) → GivesBelow n of → (names : List (List ℕ)) (bytes : List ℕ) (r : Result Certificate (Refusal CertificateFault)) → IsCertificateRead of names bytes r
    → IfOk r (λ c. All (λ (l : LoopLine). IsBelow n (formula l.region)) c.loops.items)
loops_below n of g names bytes (Ok c) h = subst (All (LoopBelow n)) (sym h.loops) (All-from_recursion (LoopBelow n) (loops_of h.entries) (loops_of_below n of g names h.lines h.entries h.read.said))
loops_below n of g names bytes (Err e) h = tt

pub alarms_below : (n : ℕ) (of : List ℕ → Option Piece) → GivesBelow n of → (names : List (List ℕ)) (bytes : List ℕ) (r : Result Certificate (Refusal CertificateFault)) → IsCertificateRead of names bytes r
    → IfOk r (λ c. All (λ (a : AlarmLine). IsBelow n (formula a.region)) c.alarms.items)
alarms_below n of g names bytes (Ok c) h = subst (All (AlarmBelow n)) (sym h.alarms) (All-from_recursion (AlarmBelow n) (alarms_of h.entries) (alarms_of_below n of g names h.lines h.entries h.read.said))
alarms_below n of g names bytes (Err e) h = tt

pub all_bounds : (of : List ℕ → Option Piece) (names : List (List ℕ)) (bytes : List ℕ) (r : Result Certificate (Refusal CertificateFault)) → IsCertificateRead of names bytes r
    → IfOk r (λ c. All (λ (l : LoopLine). AreIntBounds names l.bounds) c.loops.items)
all_bounds of names bytes (Ok c) h =
    subst (All (λ (l : LoopLine). AreIntBounds names l.bounds)) (sym h.loops) (All-from_recursion (λ (l : LoopLine). AreIntBounds names l.bounds) (loops_of h.entries) (bounds_of_loops of names h.lines h.entries h.read.said))
all_bounds of names bytes (Err e) h = tt
