-- Formulas of conditions, one after another; lines, and the numbers of their conditions.
use Rattle.std.proofs.Common.{◌≡◌, ℕ, suc, ◌+◌, ◌<◌, Bool, true, false, not, List, [], ◌∷◌, ◌++◌, length, Option, Some, None, Result, Ok, Err, refl, sym, ap, ◌∙◌, arith, cond, append_assoc}
use Rattle.std.proofs.lemmas.List.{length-append}
use Rattle.fam_outer.specs.declared.dialect.Includes.{Includes}
use Rattle.fam_outer.specs.declared.dialect.Dialect.{Dialect}
use Rattle.fam_outer.specs.declared.faults.FileCode.{FileCode}
use Rattle.fam_outer.specs.declared.faults.Place.{Place}
use Rattle.fam_outer.specs.Places.{place_at}
use Rattle.linear_atoms.specs.declared.atoms.Atom.{Atom}
use Rattle.cpp_conditions.specs.declared.formulas.Formula.{Formula}
use Rattle.cpp_conditions.specs.Macros.{Macros}
use Rattle.cpp_conditions.specs.Numbering.{IsNumbered, AreAllAmong}
use Rattle.cpp_conditions.specs.Propositions.{Proposition}
use Rattle.cpp_conditions.specs.Validity.{Plain}
use Rattle.cpp_conditions.specs.View.{formula}
use Rattle.cpp_lines.specs.declared.directives.Directive.{Directive}
use Rattle.cpp_lines.specs.declared.directives.Directive.TheVariants as named
use Rattle.cpp_lines.specs.declared.line.Line.{Line}
use Rattle.cpp_lines.specs.declared.line.LineKind.TheVariants as kinds
use Rattle.cpp_lines.specs.Bytes.{behind_word}
use Rattle.cpp_lines.specs.Defined.{names_in, macros_behind}
use Rattle.cpp_lines.specs.Directives.{begins_directive, behind_hash, directive_of, is_define}
use Rattle.cpp_lines.specs.GroupConditions.{condition_text}
use Rattle.cpp_lines.specs.Lines.{is_code, stays, IsLineAt, AreLinesFrom}
use Rattle.cpp_lines.specs.Nesting.{line_fault, directive_fault, named_in, opened_by}
use Rattle.cpp_lines.specs.Sections as sections
use Rattle.cpp_lines.specs.Sections.{AreNumbered, Told, AreRead, IsRead, in_front, line_at, kind_of, IsNumberedBelow, AreNumberedBelow}

pub numbered_more : (atoms : List Atom) (ps : List (Proposition Atom)) (fs : List Formula) (p : Proposition Atom) (f : Formula) → AreNumbered atoms ps fs → IsNumbered atoms p (formula f)
    → AreNumbered atoms (ps ++ p ∷ []) (fs ++ f ∷ [])
numbered_more atoms [] [] p f h k = (k, tt)
numbered_more atoms [] (g ∷ fs) p f h k = absurd h
numbered_more atoms (q ∷ ps) [] p f h k = absurd h
numbered_more atoms (q ∷ ps) (g ∷ fs) p f h k = (h.0, numbered_more atoms ps fs p f h.1 k)

-- ---- what the lines of a text that is read are

-- a line without a fault has the kind of its directive
abbrev HasKind : ℕ → Bool → Option Directive → Type 0
HasKind n b d = (is_code (cond b (kind_of n d) kinds.Code) ≡ not b) × (stays (cond b (kind_of n d) kinds.Code) ≡ cond b (is_define d) true)

known : (includes : Includes) (n : ℕ) (opens : List Bool) (d : Option Directive) → directive_fault includes opens d ≡ None → HasKind n true d
known includes n opens None e = absurd cc
known includes n opens (Some named.Include) e = (refl, refl)
known includes n opens (Some named.OtherInclude) e = (refl, refl)
known includes n opens (Some named.If) e = (refl, refl)
known includes n opens (Some named.Ifdef) e = (refl, refl)
known includes n opens (Some named.Ifndef) e = (refl, refl)
known includes n opens (Some named.Elif) e = (refl, refl)
known includes n opens (Some named.Else) e = (refl, refl)
known includes n opens (Some named.Endif) e = (refl, refl)
known includes n opens (Some named.Define) e = (refl, refl)

has_kind : (includes : Includes) (n : ℕ) (opens : List Bool) (b : Bool) (d : Option Directive) → cond b (directive_fault includes opens d) None ≡ None → HasKind n b d
has_kind includes n opens true d e = known includes n opens d e
has_kind includes n opens false d e = (refl, refl)

fine : (dialect : Dialect) (macros : Macros) (m : Plain) (opens : List Bool) (ps qs : List (Proposition Atom)) (line : List ℕ) → IsRead dialect macros m opens ps line qs → line_fault dialect.includes opens line ≡ None
fine dialect macros m opens ps [] line (sections.untested f e) = f
fine dialect macros m opens ps (q ∷ []) line (sections.tested text p f e h k) = f
fine dialect macros m opens ps (q ∷ (_ ∷ _)) line x5 = elim x5 [ ]

line_is : (dialect : Dialect) (macros : Macros) (m : Plain) (opens : List Bool) (ps qs : List (Proposition Atom)) (start : ℕ) (first : Place) (line : List ℕ) → IsRead dialect macros m opens ps line qs → IsLineAt start line (line_at (length ps) start first line)
line_is dialect macros m opens ps qs start first line h = record {
  starts = refl;
  ends = refl;
  kind = (has_kind dialect.includes (length ps) opens (begins_directive line) (directive_of (behind_hash line)) (fine dialect macros m opens ps qs line h)).0;
  text = (has_kind dialect.includes (length ps) opens (begins_directive line) (directive_of (behind_hash line)) (fine dialect macros m opens ps qs line h)).1;
}

abbrev LinesAre : ℕ → List (List ℕ) → Result Told (FileCode × Place) → Type 0
LinesAre start pieces (Ok told) = AreLinesFrom start pieces told.lines
LinesAre start pieces (Err fault) = Unit {0}

one_more_line : (start : ℕ) (line : List ℕ) (lines : List (List ℕ)) (l : Line) (qs : List (Proposition Atom)) (r : Result Told (FileCode × Place)) → IsLineAt start line l → LinesAre (start + length line + 1) lines r
    → LinesAre start (line ∷ lines) (in_front (l ∷ []) qs r)
one_more_line start line lines l qs (Ok told) h k = (h, k)
one_more_line start line lines l qs (Err fault) h k = tt

pub lines_are : (dialect : Dialect) (m : Plain) (text : List ℕ) (above : List (List ℕ)) (opens : List Bool) (ps : List (Proposition Atom)) (start : ℕ) (lines : List (List ℕ)) (r : Result Told (FileCode × Place)) → AreRead dialect m text above opens ps start lines r → LinesAre start lines r
lines_are dialect m text above opens ps start [] r (sections.none o q s) = tt
lines_are dialect m text above opens ps start (line ∷ lines) r (sections.unclosed o q s l ls u) = tt
lines_are dialect m text above opens ps start (line ∷ lines) r (sections.faulty o q s l ls code u f) = tt
lines_are dialect m text above opens ps start (line ∷ lines) r (sections.goes_on o q s l ls qs x u h k) =
    one_more_line start line lines (line_at (length ps) start (place_at text start) line) qs x (line_is dialect (macros_behind dialect.unknown text above) m opens ps qs start (place_at text start) line h)
    (lines_are dialect m text (above ++ names_in line) (opened_by (named_in line) opens) (ps ++ qs) (start + length line + 1) lines x k)

-- ---- the numbers of conditions

abbrev NumbersBelow : List (Proposition Atom) → Result Told (FileCode × Place) → Type 0
NumbersBelow ps (Ok told) = (n : ℕ) → n ≡ length (ps ++ told.conditions) → AreNumberedBelow n told.lines
NumbersBelow ps (Err fault) = Unit {0}

below_any : (n count : ℕ) (d : Option Directive) → n < count → IsNumberedBelow count (kind_of n d)
below_any n count None k = tt
below_any n count (Some named.If) k = k
below_any n count (Some named.Elif) k = k
below_any n count (Some named.Ifdef) k = k
below_any n count (Some named.Ifndef) k = k
below_any n count (Some named.Include) k = tt
below_any n count (Some named.OtherInclude) k = tt
below_any n count (Some named.Else) k = tt
below_any n count (Some named.Endif) k = tt
below_any n count (Some named.Define) k = tt

asks_not : (n count : ℕ) (d : Option Directive) (rest : List ℕ) → condition_text d rest ≡ None → IsNumberedBelow count (kind_of n d)
asks_not n count None rest h = tt
asks_not n count (Some named.If) rest h = absurd cc
asks_not n count (Some named.Elif) rest h = absurd cc
asks_not n count (Some named.Ifdef) rest h = absurd cc
asks_not n count (Some named.Ifndef) rest h = absurd cc
asks_not n count (Some named.Include) rest h = tt
asks_not n count (Some named.OtherInclude) rest h = tt
asks_not n count (Some named.Else) rest h = tt
asks_not n count (Some named.Endif) rest h = tt
asks_not n count (Some named.Define) rest h = tt

kind_not : (n count : ℕ) (b : Bool) (d : Option Directive) (rest : List ℕ) → cond b (condition_text d rest) None ≡ None → IsNumberedBelow count (cond b (kind_of n d) kinds.Code)
kind_not n count true d rest e = asks_not n count d rest e
kind_not n count false d rest e = tt

kind_below : (n count : ℕ) (b : Bool) (d : Option Directive) → n < count → IsNumberedBelow count (cond b (kind_of n d) kinds.Code)
kind_below n count true d k = below_any n count d k
kind_below n count false d k = tt

line_below : (dialect : Dialect) (macros : Macros) (m : Plain) (opens : List Bool) (ps qs more : List (Proposition Atom)) (line : List ℕ) (n : ℕ) → IsRead dialect macros m opens ps line qs → n ≡ length (ps ++ (qs ++ more))
    → IsNumberedBelow n (cond (begins_directive line) (kind_of (length ps) (directive_of (behind_hash line))) kinds.Code)
line_below dialect macros m opens ps [] more line n (sections.untested f e) k = kind_not (length ps) n (begins_directive line) (directive_of (behind_hash line)) (behind_word (behind_hash line)) e
line_below dialect macros m opens ps (q ∷ []) more line n (sections.tested text p f e h j) k =
    kind_below (length ps) n (begins_directive line) (directive_of (behind_hash line)) (omega (arith, length-append ps (q ∷ more)))
line_below dialect macros m opens ps (q ∷ (_ ∷ _)) more line n x6 k = elim x6 [ ]

one_more_number : (dialect : Dialect) (macros : Macros) (m : Plain) (opens : List Bool) (ps qs : List (Proposition Atom)) (start : ℕ) (first : Place) (line : List ℕ) (r : Result Told (FileCode × Place)) → IsRead dialect macros m opens ps line qs → NumbersBelow (ps ++ qs) r
    → NumbersBelow ps (in_front (line_at (length ps) start first line ∷ []) qs r)
one_more_number dialect macros m opens ps qs start first line (Ok told) h k = λ n e.
    (line_below dialect macros m opens ps qs told.conditions line n h e, k n (e ∙ ap length (sym (append_assoc ps qs told.conditions))))
one_more_number dialect macros m opens ps qs start first line (Err fault) h k = tt

pub numbers_are : (dialect : Dialect) (m : Plain) (text : List ℕ) (above : List (List ℕ)) (opens : List Bool) (ps : List (Proposition Atom)) (start : ℕ) (lines : List (List ℕ)) (r : Result Told (FileCode × Place)) → AreRead dialect m text above opens ps start lines r → NumbersBelow ps r
numbers_are dialect m text above opens ps start [] r (sections.none o q s) = λ n e. tt
numbers_are dialect m text above opens ps start (line ∷ lines) r (sections.unclosed o q s l ls u) = tt
numbers_are dialect m text above opens ps start (line ∷ lines) r (sections.faulty o q s l ls code u f) = tt
numbers_are dialect m text above opens ps start (line ∷ lines) r (sections.goes_on o q s l ls qs x u h k) =
    one_more_number dialect (macros_behind dialect.unknown text above) m opens ps qs start (place_at text start) line x h (numbers_are dialect m text (above ++ names_in line) (opened_by (named_in line) opens) (ps ++ qs) (start + length line + 1) lines x k)

pub same_count : (atoms : List Atom) (ps : List (Proposition Atom)) (fs : List Formula) → AreNumbered atoms ps fs → length ps ≡ length fs
same_count atoms [] [] h = refl
same_count atoms [] (f ∷ fs) h = absurd h
same_count atoms (p ∷ ps) [] h = absurd h
same_count atoms (p ∷ ps) (f ∷ fs) h = ap suc (same_count atoms ps fs h.1)

pub among_behind : (atoms : List Atom) (cs ps : List (Proposition Atom)) → AreAllAmong atoms (cs ++ ps) → AreAllAmong atoms ps
among_behind atoms [] ps h = h
among_behind atoms (c ∷ cs) ps h = among_behind atoms cs ps h.1
