-- Each text has its lines and conditions, or a first line with a fault.
use Rattle.std.proofs.Common.{◌≡◌, ℕ, ◌+◌, ◌⊎◌, inl, inr, Bool, true, false, List, [], ◌∷◌, ◌++◌, length, Option, Some, None, Result, Ok, Err, refl}
use Rattle.fam_outer.specs.declared.dialect.Dialect.{Dialect}
use Rattle.fam_outer.specs.declared.faults.ConditionFault.{ConditionFault}
use Rattle.fam_outer.specs.declared.faults.FileCode.{FileCode}
use Rattle.fam_outer.specs.declared.faults.FileCode.TheVariants as codes_of
use Rattle.fam_outer.specs.declared.faults.Place.{Place}
use Rattle.fam_outer.specs.Places.{place_at}
use Rattle.linear_atoms.specs.declared.atoms.Atom.{Atom}
use Rattle.linear_atoms.specs.declared.atoms.Feature.{Feature}
use Rattle.cpp_conditions.specs.Distinct.{HaveFewAtoms, HaveMoreAtoms}
use Rattle.cpp_conditions.specs.Grammar.{ReadsAs}
use Rattle.cpp_conditions.specs.Macros.{Macros}
use Rattle.cpp_conditions.specs.Propositions.{Proposition}
use Rattle.cpp_conditions.specs.Validity.{Plain}
use Rattle.cpp_lines.specs.Defined.{names_in, macros_behind}
use Rattle.cpp_lines.specs.GroupConditions.{condition_in, IsGroupCondition}
use Rattle.cpp_lines.specs.Lines.{line_place, pieces}
use Rattle.cpp_lines.specs.Nesting.{named_in, opened_by, is_unclosed, line_fault}
use Rattle.cpp_lines.specs.Sections as sections
use Rattle.cpp_lines.specs.Sections.{HasFault, IsRead, Told, AreRead, in_front, line_at}
use Rattle.reading_laws.proofs.Collecting.{few_or_more}
use Rattle.reading_laws.specs.Answered.{TextsHaveLines}

-- what a law says of the conditions of lines
abbrev pub BytesHaveReadings : Type 0
BytesHaveReadings = (macros : Macros) (features : List Feature) (bytes : List ℕ) → (r : Result (Proposition Atom) ConditionFault) × ReadsAs macros features bytes r

-- ---- one line

-- its fault, or its condition or none
abbrev LineAnswer : Dialect → Macros → Plain → List Bool → List (Proposition Atom) → List ℕ → Type 0
LineAnswer dialect macros model opens ps line = ((code : FileCode) × HasFault dialect macros model opens ps line code) ⊎ ((qs : List (Proposition Atom)) × IsRead dialect macros model opens ps line qs)

group_condition : BytesHaveReadings → (macros : Macros) (features : List Feature) (text : Result (List ℕ) ConditionFault) → (r : Result (Proposition Atom) ConditionFault) × IsGroupCondition macros features text r
group_condition law macros features (Ok bytes) = law macros features bytes
group_condition law macros features (Err fault) = (Err fault, refl)

by_atoms : (dialect : Dialect) (macros : Macros) (model : Plain) (opens : List Bool) (ps : List (Proposition Atom)) (line : List ℕ) (text : Result (List ℕ) ConditionFault) (p : Proposition Atom) → line_fault dialect.includes opens line ≡ None → condition_in line ≡ Some text
    → IsGroupCondition macros model.features text (Ok p) → HaveFewAtoms 64 (model.constraints ++ (ps ++ p ∷ [])) ⊎ HaveMoreAtoms 64 (model.constraints ++ (ps ++ p ∷ [])) → LineAnswer dialect macros model opens ps line
by_atoms dialect macros model opens ps line text p e k h (inl few) = inr (p ∷ [], sections.tested text p e k h few)
by_atoms dialect macros model opens ps line text p e k h (inr more) = inl (codes_of.TooManyTests, sections.crowded text p e k h more)

by_reading : (dialect : Dialect) (macros : Macros) (model : Plain) (opens : List Bool) (ps : List (Proposition Atom)) (line : List ℕ) (text : Result (List ℕ) ConditionFault) (r : Result (Proposition Atom) ConditionFault) → line_fault dialect.includes opens line ≡ None → condition_in line ≡ Some text
    → IsGroupCondition macros model.features text r → LineAnswer dialect macros model opens ps line
by_reading dialect macros model opens ps line text (Ok p) e k h = by_atoms dialect macros model opens ps line text p e k h (few_or_more 64 (model.constraints ++ (ps ++ p ∷ [])))
by_reading dialect macros model opens ps line text (Err fault) e k h = inl (codes_of.Condition fault, sections.refused text fault e k h)

by_condition : BytesHaveReadings → (dialect : Dialect) (macros : Macros) (model : Plain) (opens : List Bool) (ps : List (Proposition Atom)) (line : List ℕ) (o : Option (Result (List ℕ) ConditionFault)) → line_fault dialect.includes opens line ≡ None → condition_in line ≡ o → LineAnswer dialect macros model opens ps line
by_condition law dialect macros model opens ps line None e k = inr ([], sections.untested e k)
by_condition law dialect macros model opens ps line (Some text) e k = let r = group_condition law macros model.features text in by_reading dialect macros model opens ps line text r.0 e k r.1

by_fault : BytesHaveReadings → (dialect : Dialect) (macros : Macros) (model : Plain) (opens : List Bool) (ps : List (Proposition Atom)) (line : List ℕ) (o : Option FileCode) → line_fault dialect.includes opens line ≡ o → LineAnswer dialect macros model opens ps line
by_fault law dialect macros model opens ps line None e = by_condition law dialect macros model opens ps line (condition_in line) e refl
by_fault law dialect macros model opens ps line (Some code) e = inl (code, sections.misplaced code e)

line_answer : BytesHaveReadings → (dialect : Dialect) (macros : Macros) (model : Plain) (opens : List Bool) (ps : List (Proposition Atom)) (line : List ℕ) → LineAnswer dialect macros model opens ps line
line_answer law dialect macros model opens ps line = by_fault law dialect macros model opens ps line (line_fault dialect.includes opens line) refl

-- ---- all lines

abbrev LinesAnswer : Dialect → Plain → List ℕ → List (List ℕ) → List Bool → List (Proposition Atom) → ℕ → List (List ℕ) → Type 0
LinesAnswer dialect model text above opens ps start lines = (r : Result Told (FileCode × Place)) × AreRead dialect model text above opens ps start lines r

step : (dialect : Dialect) (model : Plain) (text : List ℕ) (above : List (List ℕ)) (opens : List Bool) (ps : List (Proposition Atom)) (start : ℕ) (line : List ℕ) (lines : List (List ℕ)) (u : Bool) → is_unclosed line lines ≡ u → LineAnswer dialect (macros_behind dialect.unknown text above) model opens ps line
    → ((qs : List (Proposition Atom)) → LinesAnswer dialect model text (above ++ names_in line) (opened_by (named_in line) opens) (ps ++ qs) (start + length line + 1) lines) → LinesAnswer dialect model text above opens ps start (line ∷ lines)
step dialect model text above opens ps start line lines true u a go = (Err (codes_of.NoEndif, line_place (place_at text start) line), sections.unclosed opens ps start line lines u)
step dialect model text above opens ps start line lines false u (inl x) go = (Err (x.0, line_place (place_at text start) line), sections.faulty opens ps start line lines x.0 u x.1)
step dialect model text above opens ps start line lines false u (inr x) go =
    let r = go x.0 in (
      in_front (line_at (length ps) start (place_at text start) line ∷ []) x.0 r.0,
      sections.goes_on opens ps start line lines x.0 r.0 u x.1 r.1,
    )

walk : BytesHaveReadings → (dialect : Dialect) (model : Plain) (text : List ℕ) (above : List (List ℕ)) (opens : List Bool) (ps : List (Proposition Atom)) (start : ℕ) (lines : List (List ℕ)) → LinesAnswer dialect model text above opens ps start lines
walk law dialect model text above opens ps start [] = (Ok (record { lines = []; conditions = [] }), sections.none opens ps start)
walk law dialect model text above opens ps start (line ∷ lines) =
    step dialect model text above opens ps start line lines (is_unclosed line lines) refl (line_answer law dialect (macros_behind dialect.unknown text above) model opens ps line) (λ qs. walk law dialect model text (above ++ names_in line) (opened_by (named_in line) opens) (ps ++ qs) (start + length line + 1) lines)

pub texts_have_lines : BytesHaveReadings → TextsHaveLines
texts_have_lines law dialect model text = walk law dialect model text [] [] [] 0 (pieces text)
