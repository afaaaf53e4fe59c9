-- Steps of the loop over lines.
use Rattle.std.proofs.Common.{◌≡◌, ℕ, suc, ◌+◌, Bool, true, false, not, cond, List, [], ◌∷◌, ◌++◌, length, take, drop, Option, Some, None, Result, Ok, Err, refl, sym, ap, subst, ◌∙◌, append_assoc, arith}
use Rattle.std.specs.List.{list_any}
use Rattle.std.proofs.lemmas.List.{append-nil}
use Rattle.fam_outer.specs.declared.dialect.Includes.TheVariants.{Assert, Skip}
use Rattle.fam_outer.specs.declared.dialect.Includes.{Includes}
use Rattle.fam_outer.specs.declared.faults.Place.{Place}
use Rattle.fam_outer.specs.declared.faults.FileCode.{FileCode}
use Rattle.fam_outer.specs.declared.faults.FileRefusal.{FileRefusal}
use Rattle.fam_outer.specs.declared.faults.FileRefusal.TheVariants.{NoMemory, Fault}
use Rattle.fam_outer.specs.Refusals.{Gives}
use Rattle.fam_outer.specs.Places.{is_newline, end_place, place_at}
use Rattle.fam_outer.proofs.Placing.{spot, behind_bytes, behind_newline}
use Rattle.cpp_lines.specs.declared.line.Line.{Line}
use Rattle.cpp_lines.specs.declared.line.LineKind.{LineKind}
use Rattle.cpp_lines.specs.declared.directives.Directive.{Directive}
use Rattle.cpp_lines.specs.declared.directives.Directive.TheVariants as named
use Rattle.cpp_lines.specs.declared.line.LineKind.TheVariants.{Code}
use Rattle.cpp_lines.specs.Directives.{begins_directive, behind_hash, directive_of, is_define, include_fault, include_unless, plain_directive, plain_kind}
use Rattle.cpp_lines.specs.Lines.{line_with, plain_line, before, plain_lines_from, is_code, stays, is_text, IsLineAt, AreLinesFrom}
use Rattle.cpp_lines.proofs.Faulting.{front_more}

-- these lines in front of what is read behind them
abbrev pub prepended : List Line → Result (List Line) (FileCode × Place) → Result (List Line) (FileCode × Place)
prepended list (Ok ls) = Ok (list ++ ls)
prepended list (Err fault) = Err fault

one_more : (list : List Line) (line : Line) (r : Result (List Line) (FileCode × Place)) → prepended (list ++ line ∷ []) r ≡ prepended list (before (Ok line) r)
one_more list line (Ok ls) = ap (λ (xs : List Line). Ok xs) (append_assoc list (line ∷ []) ls)
one_more list line (Err fault) = refl

pub none_yet : (r : Result (List Line) (FileCode × Place)) → prepended [] r ≡ r
none_yet (Ok ls) = refl
none_yet (Err fault) = refl

pub line_on : (includes : Includes) (list : List Line) (text : List ℕ) (start next : ℕ) (first : Place) (line : Line) (p : List ℕ) (ps qs : List (List ℕ)) (total : Result (List Line) (FileCode × Place)) → ps ≡ p ∷ qs → first ≡ place_at text start
    → next ≡ start + length p + 1 → plain_line includes start first p ≡ Ok line → prepended list (plain_lines_from includes text start ps) ≡ total
    → prepended (list ++ line ∷ []) (plain_lines_from includes text next qs) ≡ total
line_on includes list text start next first line p ps qs total cut ef en e h =
    ap (λ (i : ℕ). prepended (list ++ line ∷ []) (plain_lines_from includes text i qs)) en
    ∙ one_more list line (plain_lines_from includes text (start + length p + 1) qs)
    ∙ ap (λ (r : Result Line (FileCode × Place)). prepended list (before r (plain_lines_from includes text (start + length p + 1) qs))) (sym e ∙ ap (λ (f : Place). plain_line includes start f p) ef)
    ∙ ap (λ (xs : List (List ℕ)). prepended list (plain_lines_from includes text start xs)) (sym cut) ∙ h

pub fault_on : (includes : Includes) (list : List Line) (text : List ℕ) (start : ℕ) (first : Place) (fault : FileCode × Place) (p : List ℕ) (ps qs : List (List ℕ)) (total : Result (List Line) (FileCode × Place)) → ps ≡ p ∷ qs → first ≡ place_at text start
    → plain_line includes start first p ≡ Err fault → prepended list (plain_lines_from includes text start ps) ≡ total → total ≡ Err fault
fault_on includes list text start first fault p ps qs total cut ef e h =
    sym h ∙ ap (λ (xs : List (List ℕ)). prepended list (plain_lines_from includes text start xs)) cut
    ∙ ap (λ (r : Result Line (FileCode × Place)). prepended list (before r (plain_lines_from includes text (start + length p + 1) qs))) (ap (λ (f : Place). plain_line includes start f p) (sym ef) ∙ e)

pub last_on : (includes : Includes) (list : List Line) (text : List ℕ) (start : ℕ) (first : Place) (line : Line) (p : List ℕ) (ps : List (List ℕ)) (total : Result (List Line) (FileCode × Place)) → ps ≡ p ∷ [] → first ≡ place_at text start
    → plain_line includes start first p ≡ Ok line → prepended list (plain_lines_from includes text start ps) ≡ total → total ≡ Ok (list ++ line ∷ [])
last_on includes list text start first line p ps total cut ef e h =
    sym (line_on includes list text start (start + length p + 1) first line p ps [] total cut ef refl e h) ∙ ap (λ (xs : List Line). Ok xs) (append-nil (list ++ line ∷ []))

pub fault_gives : (includes : Includes) (list : List Line) (text : List ℕ) (start : ℕ) (first : Place) (r : FileRefusal) (p : List ℕ) (ps qs : List (List ℕ)) (total : Result (List Line) (FileCode × Place)) → ps ≡ p ∷ qs → first ≡ place_at text start
    → Gives (λ (l : Line). l) (Err r) (plain_line includes start first p) → prepended list (plain_lines_from includes text start ps) ≡ total → Gives (λ (ls : List Line). ls) (Err r) total
fault_gives includes list text start first NoMemory p ps qs total cut ef e h = tt
fault_gives includes list text start first (Fault code place) p ps qs total cut ef e h = fault_on includes list text start first (code, place) p ps qs total cut ef e h

-- ---- the next line

abbrev line_in : Place → ℕ
line_in p = p.line

pub front_line : (line rest : List ℕ) → take (length line + 1) (line ++ 10 ∷ rest) ≡ line ++ 10 ∷ []
front_line [] rest = refl
front_line (b ∷ bs) rest = rw (let k : length (b ∷ bs) + 1 ≡ suc (length bs + 1) = omega arith in k) (ap (λ (xs : List ℕ). b ∷ xs) (front_line bs rest))

pub behind_line : (line rest : List ℕ) → drop (length line + 1) (line ++ 10 ∷ rest) ≡ rest
behind_line [] rest = refl
behind_line (b ∷ bs) rest = rw (let k : length (b ∷ bs) + 1 ≡ suc (length bs + 1) = omega arith in k) (behind_line bs rest)

pub next_place : (text : List ℕ) (start next : ℕ) (rest line more : List ℕ) (first : Place) → rest ≡ drop start text → rest ≡ line ++ 10 ∷ more → list_any is_newline line ≡ false → first ≡ place_at text start
    → next ≡ start + (length line + 1) → spot (first.line + 1) 1 ≡ place_at text next
next_place text start next rest line more first er ec none ef en =
    let all : take (start + (length line + 1)) text ≡ (take start text ++ line) ++ 10 ∷ [] =
    front_more text start (length line + 1) rest er ∙ ap (λ (xs : List ℕ). take start text ++ take (length line + 1) xs) ec ∙ ap (λ (xs : List ℕ). take start text ++ xs) (front_line line more) ∙ sym (append_assoc (take start text) line (10 ∷ [])) in
    ap (λ (i : ℕ). spot (i + 1) 1) (ap line_in ef ∙ ap line_in (behind_bytes (take start text) line none))
    ∙ behind_newline (take start text ++ line) 10 refl ∙ ap end_place (sym all) ∙ ap (place_at text) (sym en)

-- ---- the lines that are read are those of the text

abbrev pub IsCodeOr : Bool → Result LineKind FileCode → Type 0
IsCodeOr directive (Ok kind) = is_code kind ≡ not directive
IsCodeOr directive (Err code) = Unit

other_include : (includes : Includes) → IsCodeOr true (include_unless (include_fault includes))
other_include Assert = tt
other_include Skip = refl

no_code : (includes : Includes) (d : Option Directive) → IsCodeOr true (plain_directive includes d)
no_code includes None = tt
no_code includes (Some named.Include) = refl
no_code includes (Some named.OtherInclude) = other_include includes
no_code includes (Some named.If) = tt
no_code includes (Some named.Ifdef) = tt
no_code includes (Some named.Ifndef) = tt
no_code includes (Some named.Elif) = tt
no_code includes (Some named.Else) = tt
no_code includes (Some named.Endif) = tt
no_code includes (Some named.Define) = refl

pub kind_is : (includes : Includes) (line : List ℕ) → IsCodeOr (begins_directive line) (plain_kind includes line)
kind_is includes line = elim (begins_directive line) as (λ t. IsCodeOr t (cond t (plain_directive includes (directive_of (behind_hash line))) (Ok Code))) [ true ↦ no_code includes (directive_of (behind_hash line)) | false ↦ refl ]

-- a line without a model stays exactly where it is code or a definition
abbrev IsTextOr : Bool → Result LineKind FileCode → Type 0
IsTextOr text (Ok kind) = stays kind ≡ text
IsTextOr text (Err code) = Unit {0}

other_stays_not : (includes : Includes) → IsTextOr false (include_unless (include_fault includes))
other_stays_not Assert = tt
other_stays_not Skip = refl

directive_stays : (includes : Includes) (d : Option Directive) → IsTextOr (is_define d) (plain_directive includes d)
directive_stays includes None = tt
directive_stays includes (Some named.Include) = refl
directive_stays includes (Some named.OtherInclude) = other_stays_not includes
directive_stays includes (Some named.If) = tt
directive_stays includes (Some named.Ifdef) = tt
directive_stays includes (Some named.Ifndef) = tt
directive_stays includes (Some named.Elif) = tt
directive_stays includes (Some named.Else) = tt
directive_stays includes (Some named.Endif) = tt
directive_stays includes (Some named.Define) = refl

text_is : (includes : Includes) (line : List ℕ) → IsTextOr (is_text line) (plain_kind includes line)
text_is includes line = elim (begins_directive line) as (λ t. IsTextOr (cond t (is_define (directive_of (behind_hash line))) true) (cond t (plain_directive includes (directive_of (behind_hash line))) (Ok Code))) [
  | true ↦ directive_stays includes (directive_of (behind_hash line))
  | false ↦ refl
]

-- the value of an `Ok`
abbrev pub got : {X Y : Type 0} → X → Result X Y → X
got x (Ok y) = y
got x (Err e) = x

line_is : (includes : Includes) (start : ℕ) (first : Place) (p : List ℕ) (l : Line) → plain_line includes start first p ≡ Ok l → IsLineAt start p l
line_is includes start first p l e = elim (plain_kind includes p) as (λ r. IsCodeOr (begins_directive p) r → IsTextOr (is_text p) r → line_with r start first p ≡ Ok l → IsLineAt start p l) [
  | Ok kind ↦ λ k s h. subst (λ (x : Line). IsLineAt start p x) (ap (got l) h) (record { starts = refl; ends = refl; kind = k; text = s })
  | Err code ↦ λ k s h. absurd cc
] (kind_is includes p) (text_is includes p) e

pub both : (r : Result Line (FileCode × Place)) (q : Result (List Line) (FileCode × Place)) (ls : List Line) → before r q ≡ Ok ls → (l : Line) × (ks : List Line) × (r ≡ Ok l) × (q ≡ Ok ks) × ((l ∷ ks) ≡ ls)
both (Ok l) (Ok ks) ls e = (l, ks, refl, refl, ap (got ls) e)
both (Ok l) (Err f) ls e = absurd cc
both (Err f) q ls e = absurd cc

pub are_lines : (includes : Includes) (text : List ℕ) (start : ℕ) (ps : List (List ℕ)) (ls : List Line) → plain_lines_from includes text start ps ≡ Ok ls → AreLinesFrom start ps ls
are_lines includes text start [] [] e = tt
are_lines includes text start [] (l ∷ ls) e = absurd cc
are_lines includes text start (p ∷ ps) ls e =
    let b = both (plain_line includes start (place_at text start) p) (plain_lines_from includes text (start + length p + 1) ps) ls e in
    subst (λ (xs : List Line). AreLinesFrom start (p ∷ ps) xs) b.4 (line_is includes start (place_at text start) p b.0 b.2, are_lines includes text (start + length p + 1) ps b.1 b.3)
