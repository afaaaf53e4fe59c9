-- The numbers of lines.
use Rattle.std.proofs.Common.{◌≡◌, ℕ, ◌+◌, Bool, true, false, cond, List, [], ◌∷◌, ◌++◌, length, drop, Result, Ok, Err, refl, sym, ap, ◌∙◌, arith}
use Rattle.std.specs.List.{prefix_len}
use Rattle.fam_outer.specs.declared.dialect.Dialect.{Dialect}
use Rattle.fam_outer.specs.declared.faults.Place.{Place}
use Rattle.fam_outer.specs.declared.faults.FileCode.{FileCode}
use Rattle.fam_outer.specs.Places.{place_at}
use Rattle.fam_outer.proofs.Placing.{spot}
use Rattle.linear_atoms.specs.declared.atoms.Atom.{Atom}
use Rattle.cpp_conditions.specs.Propositions.{Proposition}
use Rattle.cpp_conditions.specs.Validity.{Plain}
use Rattle.c_words.specs.Bytes.{is_gap}
use Rattle.cpp_lines.specs.Defined.{names_in}
use Rattle.cpp_lines.specs.Directives.{begins_directive}
use Rattle.cpp_lines.specs.Lines.{pieces, line_place, AreCounted}
use Rattle.cpp_lines.specs.Nesting.{named_in, opened_by}
use Rattle.cpp_lines.specs.Sections as sections
use Rattle.cpp_lines.specs.Sections.{Told, AreRead, in_front, line_at}
use Rattle.cpp_lines.proofs.Coding.{next_piece}
use Rattle.cpp_lines.proofs.Faulting.{behind}
use Rattle.cpp_lines.proofs.Listing.{behind_line, next_place}

-- a line stands in the line of its first byte
same_line : (first : Place) (line : List ℕ) → (line_place first line).line ≡ first.line
same_line first line = elim (begins_directive line) as (λ t. (cond t (spot first.line (first.column + prefix_len is_gap line)) first).line ≡ first.line) [ true ↦ refl | false ↦ refl ]

abbrev Counts : ℕ → Result Told (FileCode × Place) → Type 0
Counts n (Ok told) = AreCounted n told.lines
Counts n (Err fault) = Unit {0}

one_more : (n : ℕ) (k start : ℕ) (first : Place) (line : List ℕ) (qs : List (Proposition Atom)) (r : Result Told (FileCode × Place)) → first.line ≡ n → Counts (n + 1) r → Counts n (in_front (line_at k start first line ∷ []) qs r)
one_more n k start first line qs (Ok told) e h = (same_line first line ∙ e, h)
one_more n k start first line qs (Err fault) e h = tt

abbrev line_in : Place → ℕ
line_in p = p.line

-- the place behind a line
place_behind : (text : List ℕ) (start : ℕ) (rest p q : List ℕ) (qs : List (List ℕ)) (n : ℕ) → rest ≡ drop start text → pieces rest ≡ p ∷ q ∷ qs → (place_at text start).line ≡ n → (place_at text (start + length p + 1)).line ≡ n + 1
place_behind text start rest p q qs n er e h =
    let k = next_piece rest p q qs e in
    let next : start + length p + 1 ≡ start + (length p + 1) = omega arith in
    ap (λ (i : ℕ). (place_at text i).line) next
    ∙ sym (ap line_in (next_place text start (start + (length p + 1)) rest p k.0 (place_at text start) er k.1 k.2 refl refl)) ∙ ap (λ (i : ℕ). i + 1) h

rest_behind : (text : List ℕ) (start : ℕ) (rest p more : List ℕ) → rest ≡ drop start text → rest ≡ p ++ 10 ∷ more → more ≡ drop (start + length p + 1) text
rest_behind text start rest p more er ec =
    let next : start + (length p + 1) ≡ start + length p + 1 = omega arith in
    sym (behind_line p more) ∙ ap (drop (length p + 1)) (sym ec) ∙ behind text start (length p + 1) rest er ∙ ap (λ (i : ℕ). drop i text) next

alone : (dialect : Dialect) (m : Plain) (text : List ℕ) (above : List (List ℕ)) (opens : List Bool) (ps : List (Proposition Atom)) (start n : ℕ) (r : Result Told (FileCode × Place)) → AreRead dialect m text above opens ps start [] r → Counts n r
alone dialect m text above opens ps start n r (sections.none o q s) = tt

pub counted : (dialect : Dialect) (m : Plain) (text : List ℕ) (above : List (List ℕ)) (opens : List Bool) (ps : List (Proposition Atom)) (start : ℕ) (rest : List ℕ) (lines : List (List ℕ)) (n : ℕ) (r : Result Told (FileCode × Place)) → pieces rest ≡ lines → rest ≡ drop start text
    → (place_at text start).line ≡ n → AreRead dialect m text above opens ps start lines r → Counts n r
counted dialect m text above opens ps start rest [] n r e er h (sections.none o q s) = tt
counted dialect m text above opens ps start rest (line ∷ lines) n r e er h (sections.unclosed o q s l ls u) = tt
counted dialect m text above opens ps start rest (line ∷ lines) n r e er h (sections.faulty o q s l ls code u f) = tt
counted dialect m text above opens ps start rest (line ∷ []) n r e er h (sections.goes_on o q s l ls qs x u i k) =
    one_more n (length ps) start (place_at text start) line qs x h (alone dialect m text (above ++ names_in line) (opened_by (named_in line) opens) (ps ++ qs) (start + length line + 1) (n + 1) x k)
counted dialect m text above opens ps start rest (line ∷ q ∷ lines) n r e er h (sections.goes_on o p s l ls qs x u i k) =
    let c = next_piece rest line q lines e in
    one_more n (length ps) start (place_at text start) line qs x h
    (counted dialect m text (above ++ names_in line) (opened_by (named_in line) opens) (ps ++ qs) (start + length line + 1) c.0 (q ∷ lines) (n + 1) x c.3 (rest_behind text start rest line c.0 er c.1) (place_behind text start rest line q lines n er e h) k)
