-- The lines of a blanked text with groups, and its first fault (ISO/IEC 9899:2011, 6.10.1).
use Rattle.std.specs.Prelude.{◌≡◌, ⊤, ℕ, ℤ, ◌+◌, ◌<◌, Bool, true, false, if◌then◌else◌, List, [], ◌∷◌, ◌++◌, length, map, Option, Some, None, Result, Ok, Err}
use Rattle.fam_outer.specs.declared.dialect.Dialect.{Dialect}
use Rattle.fam_outer.specs.declared.faults.Place.{Place}
use Rattle.fam_outer.specs.declared.faults.ConditionFault.{ConditionFault}
use Rattle.fam_outer.specs.declared.faults.FileCode.{FileCode}
use Rattle.fam_outer.specs.declared.faults.FileCode.TheVariants as codes_of
use Rattle.fam_outer.specs.declared.faults.FileRefusal.{FileRefusal}
use Rattle.fam_outer.specs.declared.faults.FileRefusal.TheVariants as refusals
use Rattle.fam_outer.specs.Places.{place_at}
use Rattle.linear_atoms.specs.declared.atoms.Atom.{Atom}
use Rattle.cpp_conditions.specs.declared.formulas.Formula.{Formula}
use Rattle.cpp_conditions.specs.Distinct.{AreAtomsOf, HaveFewAtoms, HaveMoreAtoms}
use Rattle.cpp_conditions.specs.Macros.{Macros}
use Rattle.cpp_conditions.specs.Numbering.{IsNumbered, vector_at}
use Rattle.cpp_conditions.specs.Propositions.{Proposition, true_at, true_on}
use Rattle.cpp_conditions.specs.Validity.{Plain}
use Rattle.cpp_conditions.specs.View.{formula}
use Rattle.cpp_lines.specs.declared.directives.Directive.{Directive}
use Rattle.cpp_lines.specs.declared.directives.Directive.TheVariants as named
use Rattle.cpp_lines.specs.declared.line.Line.{Line}
use Rattle.cpp_lines.specs.declared.line.LineKind.{LineKind}
use Rattle.cpp_lines.specs.declared.line.LineKind.TheVariants as kinds
use Rattle.cpp_lines.specs.declared.sections.Sections.{Sections}
use Rattle.cpp_lines.specs.Defined.{names_in, macros_behind}
use Rattle.cpp_lines.specs.Directives.{begins_directive, behind_hash, directive_of}
use Rattle.cpp_lines.specs.GroupConditions.{condition_in, IsGroupCondition}
use Rattle.cpp_lines.specs.Lines.{line_place, pieces}
use Rattle.cpp_lines.specs.Nesting.{named_in, opened_by, is_unclosed, line_fault}

-- the kind of a line with this directive, where so many conditions stand before it
abbrev pub kind_of : ℕ → Option Directive → LineKind
kind_of n None = kinds.Code
kind_of n (Some named.Include) = kinds.Include
kind_of n (Some named.OtherInclude) = kinds.Include
kind_of n (Some named.If) = kinds.If n
kind_of n (Some named.Ifdef) = kinds.If n
kind_of n (Some named.Ifndef) = kinds.If n
kind_of n (Some named.Elif) = kinds.Elif n
kind_of n (Some named.Else) = kinds.Else
kind_of n (Some named.Endif) = kinds.Endif
kind_of n (Some named.Define) = kinds.Define

-- the line at this offset and place
abbrev pub line_at : ℕ → ℕ → Place → List ℕ → Line
line_at n start first line = record {
  kind = if begins_directive line then kind_of n (directive_of (behind_hash line)) else kinds.Code;
  start = start;
  end = start + length line;
  place = line_place first line;
}

-- ---- one line, behind these open sections and conditions

-- the line has this fault; that nothing ends its section is a matter of the lines behind it
pub data HasFault (dialect : Dialect) (macros : Macros) (model : Plain) (opens : List Bool) (ps : List (Proposition Atom)) (line : List ℕ) : FileCode → Type 0 where
  misplaced : (code : FileCode) → line_fault dialect.includes opens line ≡ Some code → HasFault dialect macros model opens ps line code
  refused : (text : Result (List ℕ) ConditionFault) (fault : ConditionFault) → line_fault dialect.includes opens line ≡ None → condition_in line ≡ Some text
      → IsGroupCondition macros model.features text (Err fault) → HasFault dialect macros model opens ps line (codes_of.Condition fault)
  crowded : (text : Result (List ℕ) ConditionFault) (p : Proposition Atom) → line_fault dialect.includes opens line ≡ None → condition_in line ≡ Some text
      → IsGroupCondition macros model.features text (Ok p) → HaveMoreAtoms 64 (model.constraints ++ (ps ++ p ∷ [])) → HasFault dialect macros model opens ps line codes_of.TooManyTests

-- the line has no fault, and this condition or none
pub data IsRead (dialect : Dialect) (macros : Macros) (model : Plain) (opens : List Bool) (ps : List (Proposition Atom)) (line : List ℕ) : List (Proposition Atom) → Type 0 where
  untested : line_fault dialect.includes opens line ≡ None → condition_in line ≡ None → IsRead dialect macros model opens ps line []
  tested : (text : Result (List ℕ) ConditionFault) (p : Proposition Atom) → line_fault dialect.includes opens line ≡ None → condition_in line ≡ Some text
      → IsGroupCondition macros model.features text (Ok p) → HaveFewAtoms 64 (model.constraints ++ (ps ++ p ∷ [])) → IsRead dialect macros model opens ps line (p ∷ [])

-- ---- all lines

-- lines, and what the conditions of their directives mean, in their order
pub record Told : Type 0 where
  pub lines : List Line
  pub conditions : List (Proposition Atom)

-- these in front of what is read behind them
abbrev pub in_front : List Line → List (Proposition Atom) → Result Told (FileCode × Place) → Result Told (FileCode × Place)
in_front lines ps (Ok told) = Ok (record { lines = lines ++ told.lines; conditions = ps ++ told.conditions })
in_front lines ps (Err fault) = Err fault

-- what the lines from an offset on are read as, where those above define these names: the first line with a fault decides, and in it
-- the lowest code
pub data AreRead (dialect : Dialect) (model : Plain) (text : List ℕ) : List (List ℕ) → List Bool → List (Proposition Atom) → ℕ → List (List ℕ) → Result Told (FileCode × Place) → Type 0 where
  none : {above : List (List ℕ)} (opens : List Bool) (ps : List (Proposition Atom)) (start : ℕ) → AreRead dialect model text above opens ps start [] (Ok (record { lines = []; conditions = [] }))
  unclosed : {above : List (List ℕ)} (opens : List Bool) (ps : List (Proposition Atom)) (start : ℕ) (line : List ℕ) (lines : List (List ℕ)) → is_unclosed line lines ≡ true
      → AreRead dialect model text above opens ps start (line ∷ lines) (Err (codes_of.NoEndif, line_place (place_at text start) line))
  faulty : {above : List (List ℕ)} (opens : List Bool) (ps : List (Proposition Atom)) (start : ℕ) (line : List ℕ) (lines : List (List ℕ)) (code : FileCode) → is_unclosed line lines ≡ false
      → HasFault dialect (macros_behind dialect.unknown text above) model opens ps line code → AreRead dialect model text above opens ps start (line ∷ lines) (Err (code, line_place (place_at text start) line))
  goes_on : {above : List (List ℕ)} (opens : List Bool) (ps : List (Proposition Atom)) (start : ℕ) (line : List ℕ) (lines : List (List ℕ)) (qs : List (Proposition Atom)) (r : Result Told (FileCode × Place)) → is_unclosed line lines ≡ false
      → IsRead dialect (macros_behind dialect.unknown text above) model opens ps line qs
      → AreRead dialect model text (above ++ names_in line) (opened_by (named_in line) opens) (ps ++ qs) (start + length line + 1) lines r
      → AreRead dialect model text above opens ps start (line ∷ lines) (in_front (line_at (length ps) start (place_at text start) line ∷ []) qs r)

-- what a text is read as
abbrev pub TextIsRead : Dialect → Plain → List ℕ → Result Told (FileCode × Place) → Type 0
TextIsRead dialect model text r = AreRead dialect model text [] [] [] 0 (pieces text) r

-- each formula is its condition with the numbers of its atoms
abbrev pub AreNumbered : List Atom → List (Proposition Atom) → List Formula → Type 0
AreNumbered atoms [] [] = ⊤
AreNumbered atoms [] (f ∷ fs) = ⊥
AreNumbered atoms (p ∷ ps) [] = ⊥
AreNumbered atoms (p ∷ ps) (f ∷ fs) = IsNumbered atoms p (formula f) × AreNumbered atoms ps fs

-- the truths of conditions at a configuration, and of formulas at the vector of its atoms' truths
abbrev pub truths_at : List ℤ → List (Proposition Atom) → List Bool
truths_at values ps = map (λ p. true_at values p) ps

abbrev pub truths_on : List Atom → List ℤ → List Formula → List Bool
truths_on atoms values fs = map (λ f. true_on (vector_at atoms values) (formula f)) fs

-- these formulas are these conditions, over the atoms of the model and of all of them; at each configuration they have their truths
pub record AreConditionsOf (model : Plain) (conditions : List (Proposition Atom)) (atoms : List Atom) (formulas : List Formula) : Type 0 where
  pub atoms_are : AreAtomsOf (model.constraints ++ conditions) atoms
  pub numbered : AreNumbered atoms conditions formulas
  pub truths : (values : List ℤ) → truths_on atoms values formulas ≡ truths_at values conditions

-- the text is read as these lines, and these conditions
pub record AreSectionsOf (dialect : Dialect) (model : Plain) (text : List ℕ) (s : Sections) : Type 0 where
  pub conditions : List (Proposition Atom)
  pub read : TextIsRead dialect model text (Ok (record { lines = s.lines; conditions = conditions }))
  pub are : AreConditionsOf model conditions s.atoms s.conditions

-- each condition that a line names is one of so many
abbrev pub IsNumberedBelow : ℕ → LineKind → Type 0
IsNumberedBelow count (kinds.If n) = n < count
IsNumberedBelow count (kinds.Elif n) = n < count
IsNumberedBelow count _ = ⊤

abbrev pub AreNumberedBelow : ℕ → List Line → Type 0
AreNumberedBelow count [] = ⊤
AreNumberedBelow count (l ∷ ls) = IsNumberedBelow count l.kind × AreNumberedBelow count ls

-- what a call that reads sections answers; want of memory is free
abbrev pub ReadsSections : Dialect → Plain → List ℕ → Result Sections FileRefusal → Type 0
ReadsSections dialect model text (Ok s) = AreSectionsOf dialect model text s
ReadsSections dialect model text (Err (refusals.Fault code place)) = TextIsRead dialect model text (Err (code, place))
ReadsSections dialect model text (Err refusals.NoMemory) = ⊤
