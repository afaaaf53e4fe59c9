-- What the phases before the grammar say of a family, and what a family that is read has: few names, and conditions for its program.
use Rattle.std.proofs.Common.{◌≡◌, ℕ, suc, ◌+◌, ◌≤◌, ◌<◌, Bool, true, false, List, [], ◌∷◌, ◌++◌, length, Result, Ok, Err, sym, ap, subst, ◌∙◌, arith}
use Rattle.std.specs.Prelude.{if◌then◌else◌, IfOk}
use Rattle.std.proofs.lemmas.List.{length-append}
use Rattle.fam_outer.specs.declared.faults.FileCode.{FileCode}
use Rattle.fam_outer.specs.declared.faults.Place.{Place}
use Rattle.fam_outer.specs.Places.{is_newline, place_at}
use Rattle.linear_atoms.specs.declared.atoms.Atom.{Atom}
use Rattle.cpp_conditions.specs.Macros.{Macros}
use Rattle.cpp_conditions.specs.Propositions.{Proposition}
use Rattle.cpp_lines.specs.Lines.{in_first, pieces}
use Rattle.cpp_lines.specs.Defined.{macros_behind, names_in}
use Rattle.cpp_lines.specs.Nesting.{named_in, opened_by}
use Rattle.cpp_lines.specs.Sections as sections
use Rattle.cpp_lines.specs.Sections.{AreRead, IsRead, in_front, line_at}
use Rattle.cpp_lines.specs.declared.line.Line.{Line}
use Rattle.cpp_lines.proofs.Numbering.{same_count}
use Rattle.c_tokens.proofs.Decimals.{small}
use Rattle.c_tokens.proofs.Lining.{apart}
use Rattle.c_tokens.proofs.OneReading.{one}
use Rattle.c_tokens.proofs.Readings.{is_reading}
use Rattle.fam_outer.proofs.Rising.{rising}
use Rattle.fam_outer.specs.declared.dialect.Dialect.{Dialect}
use Rattle.cpp_conditions.specs.declared.models.Model.{Model}
use Rattle.cpp_conditions.specs.Validity.{plain, Plain}
use Rattle.cpp_lines.specs.Code.{code_of}
use Rattle.cpp_lines.specs.Sections.{Told, AreSectionsOf}
use Rattle.cpp_lines.specs.Whole.{blanked_file}
use Rattle.cpp_lines.specs.declared.sections.Sections.{Sections}
use Rattle.c_tree.specs.Project.{IsConditioned}
use Rattle.c_tree.specs.Tree.{Whole}
use Rattle.c_tree.specs.View.{whole}
use Rattle.feature_values.specs.Declarators.{with_values}
use Rattle.feature_values.specs.Moved.{AddsTests}
use Rattle.feature_values.specs.Values.{test_count, uses_of}
use Rattle.c_grammar.specs.declared.items.Item.{Item}
use Rattle.c_grammar.specs.Facts.{Conditioned}
use Rattle.c_grammar.specs.Within.{WithinIsFile}
use Rattle.for_blocks.proofs.NamesBehind.{names_stay}
use Rattle.for_blocks.specs.Blocks.{unfolded}
use Rattle.for_blocks.specs.Names.{NamesStay}
use Rattle.c_parser.specs.declared.family_items.Conditions.{Conditions}
use Rattle.c_parser.specs.declared.family.Family.{Family}
use Rattle.c_parser.specs.declared.numbering.Numbered.{Numbered}
use Rattle.c_parser.specs.Functions.{own_functions}
use Rattle.c_parser.specs.Items.{Listed}
use Rattle.c_parser.specs.FamilyItems.{HasItems, feature_names, by_line, has}
use Rattle.c_parser.specs.FamilyReading.{IsFamilyOf, IsListedFamily, families_over, context_of, uses_in}
use Rattle.c_parser.specs.FamilyStages.{AreProperConditions}
use Rattle.c_parser.specs.Order.{arranged}
use Rattle.c_parser.specs.Phases.{IsAcceptedFile}
use Rattle.c_parser.specs.Reading.{items_of_code}
use Rattle.c_parser.specs.Stages.{IsSpelledBy, list, listed_in}
use Rattle.c_parser.proofs.BlockNames.{block_has}
use Rattle.c_parser.proofs.FamilyNames.{family_occurs}
use Rattle.c_parser.proofs.FewNames.{few_names}
use Rattle.c_parser.proofs.ValueTests.{few_value_tests}

-- ---- the phases before the grammar

pub listed_family : (dialect : Dialect) (model : Plain) (bytes text code : List ℕ) (s : Sections) (functions : List (List ℕ)) (first tokens : Numbered) (items : List Item) → blanked_file bytes ≡ Ok text → AreSectionsOf dialect model text s → code ≡ code_of text → functions ≡ own_functions code → items_of_code functions [] code ≡ Ok (listed_in first)
    → items_of_code functions (arranged (feature_names model) (listed_in first)) code ≡ Ok (listed_in tokens) → items ≡ by_line s.lines tokens.items.items → IsListedFamily dialect model bytes (list tokens.names items) (record { formulas = s.conditions; atoms = s.atoms; functions = functions })
listed_family dialect model bytes text code s functions first tokens items b r e o f t i = record {
  told = record { lines = s.lines; conditions = r.conditions };
  items = record {
    blanked = text;
    without_comments = b;
    read = r.read;
    first = listed_in first;
    first_are = subst (λ (c : List ℕ). items_of_code (own_functions c) [] c ≡ Ok (listed_in first)) e (subst (λ (fs : List (List ℕ)). items_of_code fs [] code ≡ Ok (listed_in first)) o f);
    tokens = listed_in tokens;
    tokens_are =
        subst (λ (c : List ℕ). items_of_code (own_functions c) (arranged (feature_names model) (listed_in first)) c ≡ Ok (listed_in tokens)) e
        (subst (λ (fs : List (List ℕ)). items_of_code fs (arranged (feature_names model) (listed_in first)) code ≡ Ok (listed_in tokens)) o t);
    is = ap (λ (xs : List Item). list tokens.names xs) i;
  };
  functions = o ∙ ap own_functions e;
  conditions = r.are;
}

-- ---- a text has no more conditions than lines

in_first_few : (b : ℕ) (ps : List (List ℕ)) → length (in_first b ps) ≤ suc (length ps)
in_first_few b [] = omega arith
in_first_few b (p ∷ ps) = omega arith

few_pieces : (text : List ℕ) → length (pieces text) ≤ length text + 1
few_pieces [] = omega arith
few_pieces (b ∷ bs) = elim (is_newline b) as (λ t. length (if t then [] ∷ pieces bs else in_first b (pieces bs)) ≤ suc (length bs) + 1) [
  | true ↦ omega (arith, few_pieces bs)
  | false ↦ omega (arith, few_pieces bs, in_first_few b (pieces bs))
]

one_more : (r : Result Told (FileCode × Place)) (qs : List (Proposition Atom)) (lines : List (List ℕ)) (l : Line) → length qs ≤ 1 → IfOk r (λ told. length told.conditions ≤ length lines) → IfOk (in_front (l ∷ []) qs r) (λ told. length told.conditions ≤ suc (length lines))
one_more (Ok told) qs lines l one h = omega (arith, length-append qs told.conditions, one, h)
one_more (Err fault) qs lines l one h = tt

at_most_one : (dialect : Dialect) (macros : Macros) (model : Plain) (opens : List Bool) (ps : List (Proposition Atom)) (line : List ℕ) (qs : List (Proposition Atom)) → IsRead dialect macros model opens ps line qs → length qs ≤ 1
at_most_one dialect macros model opens ps line [] h = omega arith
at_most_one dialect macros model opens ps line (q ∷ []) h = omega arith
at_most_one dialect macros model opens ps line (q ∷ (_ ∷ _)) h = elim h [ ]

few_read : (dialect : Dialect) (model : Plain) (text : List ℕ) (above : List (List ℕ)) (opens : List Bool) (ps : List (Proposition Atom)) (start : ℕ) (lines : List (List ℕ)) (r : Result Told (FileCode × Place)) → AreRead dialect model text above opens ps start lines r → IfOk r (λ told. length told.conditions ≤ length lines)
few_read dialect model text above opens ps start [] r (sections.none o q s) = omega arith
few_read dialect model text above opens ps start (line ∷ lines) r (sections.unclosed o q s l ls u) = tt
few_read dialect model text above opens ps start (line ∷ lines) r (sections.faulty o q s l ls code u f) = tt
few_read dialect model text above opens ps start (line ∷ lines) r (sections.goes_on o q s l ls qs x u h k) =
    one_more x qs lines (line_at (length ps) start (place_at text start) line) (at_most_one dialect (macros_behind dialect.unknown text above) model opens ps line qs h) (few_read dialect model text (above ++ names_in line) (opened_by (named_in line) opens) (ps ++ qs) (start + length line + 1) lines x k)

pub few_conditions : (dialect : Dialect) (model : Plain) (text : List ℕ) (s : Sections) → AreSectionsOf dialect model text s → length s.conditions ≤ length text + 1
few_conditions dialect model text s r =
    omega (arith, same_count s.atoms r.conditions s.conditions r.are.numbered, few_read dialect model text [] [] [] 0 (pieces text) (Ok (record { lines = s.lines; conditions = r.conditions })) r.read, few_pieces text)

-- ---- an accepted family

-- what a law says of the names of a family
abbrev pub NamesOccur : Type 0
NamesOccur = (dialect : Dialect) (model : Plain) (bytes : List ℕ) (told : Told) (l : Listed) (x : ℕ) → HasItems dialect model bytes told l → x < length l.names → has x l.items ≡ true

-- and of the names of its blocks
abbrev pub NamesStandInBlocks : Type 0
NamesStandInBlocks = (dialect : Dialect) (model : Plain) (bytes : List ℕ) (told : Told) (l : Listed) (x : ℕ) → HasItems dialect model bytes told l → x < length l.names → has x (unfolded l.items) ≡ true

pub in_blocks : NamesStay → NamesOccur → NamesStandInBlocks
in_blocks stay occur dialect model bytes told l x h lt = block_has stay x l.items ∙ occur dialect model bytes told l x h lt

pub names_are_few : NamesStandInBlocks → (dialect : Dialect) (model : Model) (bytes : List ℕ) (known : Conditions) (p : Whole) → IsAcceptedFile (families_over dialect model) bytes known p → length p.names ≤ 48
names_are_few stand dialect model bytes known p o =
    let l = o.listed in
    subst (λ (ns : List (List ℕ)). length ns ≤ 48) (sym (ap (λ (w : Whole). w.names) o.spelled.is))
    (few_names (context_of model known.atoms known.formulas o.listed.names known.functions) (unfolded l.items) (length l.names) o.names (λ x lt. stand dialect (plain model) bytes o.are.told l x o.are.items lt))

pub conditioned : Conditioned → WithinIsFile → (features : ℕ) (p : Whole) (known : Conditions) → IsSpelledBy (AreProperConditions features) p known → IsConditioned (length known.formulas) p
conditioned law is_file features p known h = law (length known.formulas) h.listed.names h.listed.items p h.has.numbered (is_file h.listed.names h.listed.items p h.spelled)

-- the family of a program and of its conditions with the tests of the features that it names behind them
pub family_of : (dialect : Dialect) (model : Model) (bytes : List ℕ) (known : Conditions) (spelled : Whole) (f : Family) → IsAcceptedFile (families_over dialect model) bytes known spelled → whole f.code ≡ with_values (length known.formulas) model.features (uses_in model spelled) spelled
    → AddsTests model.features (uses_in model spelled) known.atoms known.formulas f.atoms f.conditions → IsFamilyOf dialect model bytes f
family_of dialect model bytes known spelled f accepted code adds = record {
  known = known;
  spelled = spelled;
  accepted = accepted;
  code = code;
  conditions = adds (plain model) accepted.are.told.conditions accepted.are.conditions;
}

pub tests_are_few : NamesStandInBlocks → (dialect : Dialect) (model : Model) (bytes : List ℕ) (known : Conditions) (p : Whole) → IsAcceptedFile (families_over dialect model) bytes known p → test_count model.features (uses_in model p) ≤ 256
tests_are_few stand dialect model bytes known p o =
    let l = o.listed in
    subst (λ (ns : List (List ℕ)). test_count model.features (uses_of model.features ns) ≤ 256) (sym (ap (λ (w : Whole). w.names) o.spelled.is))
    (few_value_tests (context_of model known.atoms known.formulas l.names known.functions) (unfolded l.items) o.names (λ x lt. stand dialect (plain model) bytes o.are.told l x o.are.items lt))

-- each name of a family occurs among its items
names_occur : NamesOccur
names_occur = family_occurs (record { read = is_reading; literal = small; rise = rising }) apart one

-- the tests of the features that an accepted family names are at most 256
pub few_tests : (dialect : Dialect) (model : Model) (bytes : List ℕ) (known : Conditions) (p : Whole) → IsAcceptedFile (families_over dialect model) bytes known p → test_count model.features (uses_in model p) ≤ 256
few_tests = tests_are_few (in_blocks names_stay names_occur)
