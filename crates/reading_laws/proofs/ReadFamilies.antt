-- What is read as a family has all that is promised of one.
use Rattle.std.proofs.Common.{◌≡◌, inl, inr, ℕ, ◌+◌, ◌≤◌, ◌<◌, ◌^◌, Bool, Box, Global, Vec, List, [], ◌∷◌, ◌++◌, length, map, Result, Ok, Err, refl, sym, ap, ap₂, subst, ◌∙◌, append_assoc, append-nil, arith}
use Rattle.std.specs.Ptr.{null_ptr}
use Rattle.std.specs.List.{All, AllByRecursion}
use Rattle.std.proofs.lemmas.Bool.{cases_lt}
use Rattle.std.proofs.lemmas.List.{length-append}
use Rattle.std.proofs.lemmas.List.Elements.{All-cons, All-nil, recursion_from_All}
use Rattle.fam_outer.specs.declared.dialect.Dialect.{Dialect}
use Rattle.fam_outer.specs.declared.faults.FileCode.{FileCode}
use Rattle.fam_outer.specs.declared.faults.FileRefusal.{FileRefusal}
use Rattle.fam_outer.specs.declared.faults.FileRefusal.TheVariants as refusals
use Rattle.fam_outer.specs.declared.faults.Place.{Place}
use Rattle.fam_outer.specs.Places.{place_at}
use Rattle.linear_atoms.specs.declared.atoms.Atom.{Atom}
use Rattle.linear_atoms.specs.declared.atoms.Feature.{Feature}
use Rattle.linear_atoms.specs.Atoms.{AreAtoms, AreRanges}
use Rattle.cpp_conditions.specs.declared.conditions.Condition.{Condition}
use Rattle.cpp_conditions.specs.declared.conditions.Condition.TheVariants as conditions
use Rattle.cpp_conditions.specs.declared.formulas.Formula.{Formula}
use Rattle.cpp_conditions.specs.declared.models.Model.{Model}
use Rattle.cpp_conditions.specs.Distinct.{AreAtomsOf, HaveFewAtoms, HaveMoreAtoms}
use Rattle.cpp_conditions.specs.Grammar.{ReadsAs}
use Rattle.cpp_conditions.specs.Macros.{Macros}
use Rattle.cpp_conditions.specs.Naming.{AreFeatures}
use Rattle.cpp_conditions.specs.Propositions.{Proposition, Const, Test, Not, And, Or, IsBelow, IsFit}
use Rattle.cpp_conditions.specs.Validity.{Plain, plain, AreFit}
use Rattle.cpp_conditions.specs.View.{formula, proposition}
use Rattle.cpp_conditions.proofs.Numbers.{numbered_below}
use Rattle.cpp_lines.specs.declared.line.Line.{Line}
use Rattle.cpp_lines.specs.Code.{code_of}
use Rattle.cpp_lines.specs.Defined.{names_in, macros_behind}
use Rattle.cpp_lines.specs.Lines.{pieces}
use Rattle.cpp_lines.specs.Nesting.{named_in, opened_by}
use Rattle.cpp_lines.specs.Sections as sections
use Rattle.cpp_lines.specs.Sections.{Told, AreNumbered, AreConditionsOf, IsRead, in_front, line_at}
use Rattle.cpp_lines.proofs.Adding.{atoms_fit}
use Rattle.cpp_lines.proofs.LineNumbers.{counted}
use Rattle.cpp_lines.proofs.Numbering.{numbers_are, same_count}
use Rattle.c_grammar.specs.declared.items.Item.{Item}
use Rattle.c_grammar.specs.Facts as facts
use Rattle.c_grammar.specs.Facts.{Conditioned, WellFormed}
use Rattle.c_grammar.specs.Within.{WithinIsFile}
use Rattle.c_tree.specs.Project.{IsConditioned}
use Rattle.c_tree.specs.Tree.{Whole}
use Rattle.c_tree.specs.View.{whole}
use Rattle.c_tree.specs.Whole.{IsProgram}
use Rattle.c_tokens.specs.declared.token.Token.{Token}
use Rattle.c_tokens.specs.Reading.{tokens_of}
use Rattle.fam_outer.specs.Results.{and_then}
use Rattle.c_parser.specs.declared.family.Family.{Family}
use Rattle.feature_values.specs.declared.feature_uses.Use.{Use}
use Rattle.feature_values.specs.Laws.{UsesStand, TestsAreCounted, TestsAreFit, ValuesKeepPrograms, ValuesAddConditions}
use Rattle.feature_values.specs.Values.{test_count, tests_of}
use Rattle.c_parser.specs.FamilyItems.{HasItems, feature_names}
use Rattle.c_parser.specs.FamilyReading.{IsFamilyOf, IsFamilyRead, uses_in}
use Rattle.c_parser.specs.Functions.{own_functions}
use Rattle.c_parser.specs.Items.{Listed, listed}
use Rattle.c_parser.specs.Order.{arranged}
use Rattle.c_parser.specs.Stages.{AreProper}
use Rattle.c_parser.specs.Variants.{FamilyNamesAreFew}
use Rattle.c_parser.proofs.FamilyFacts.{all_fit, all_conditions, all_rise}
use Rattle.c_parser.proofs.Lexical.{TokenLaws}
use Rattle.c_parser.proofs.Stepwise.{proper_items}
use Rattle.reading_laws.specs.Answered.{FilesAreAnswered, IsTold}
use Rattle.reading_laws.specs.Families.{FamiliesArePromised, FamiliesHaveAnswers, HasFamily, IsReadFamily, spells, refused}
use Rattle.reading_laws.proofs.FewTests.{tests_are, few_with_tests}
use Rattle.reading_laws.proofs.FewTokens.{BlanksKeepLengths, blanked_short, items_few}

-- the features that the code of a family uses have few tests
abbrev pub TestsAreFew : Type 0
TestsAreFew = (dialect : Dialect) (model : Model) (bytes : List ℕ) (f : Family) → (h : IsFamilyOf dialect model bytes f) → test_count model.features (uses_in model h.spelled) ≤ 256

-- what laws of lower crates say
pub record FamilyLaws : Type 0 where
  pub tokens : TokenLaws
  pub names : FamilyNamesAreFew
  pub few_tests : TestsAreFew
  pub blanked_length : BlanksKeepLengths
  pub code_length : (text : List ℕ) → length (code_of text) ≡ length text
  pub formed : WellFormed
  pub conditions : Conditioned
  pub within : WithinIsFile
  pub few : (most : ℕ) (conditions : List (Proposition Atom)) → HaveFewAtoms most conditions → HaveMoreAtoms most conditions → ⊥
  pub fit : (macros : Macros) (features : List Feature) (bytes : List ℕ) (p : Proposition Atom) → AreRanges features → ReadsAs macros features bytes (Ok p) → IsFit (length features) p
  pub uses : UsesStand
  pub counted : TestsAreCounted
  pub fit_tests : TestsAreFit
  pub values : ValuesKeepPrograms
  pub values_conditions : ValuesAddConditions

-- ---- the conditions are over the features

-- a box without its value: a condition is made of them, and none is ever held
abbrev block : Box (Unit {0}) Global
block = record { ptr = null_ptr; alloc = record { memory = record { seal = tt } }; value = tt }

some_condition : (p : Proposition Atom) → (c : Condition) × (proposition c ≡ p)
some_condition (Const b) = (conditions.Const b, refl)
some_condition (Test a) = (conditions.Test a, refl)
some_condition (Not p) = let c = some_condition p in (conditions.Not' block c.0, ap (λ (x : Proposition Atom). Not x) c.1)
some_condition (And p q) = let c = some_condition p in let d = some_condition q in (conditions.And' block c.0 block d.0, ap₂ (λ (x y : Proposition Atom). And x y) c.1 d.1)
some_condition (Or p q) = let c = some_condition p in let d = some_condition q in (conditions.Or' block c.0 block d.0, ap₂ (λ (x y : Proposition Atom). Or x y) c.1 d.1)

abbrev AllFit : ℕ → List (Proposition Atom) → Type 0
AllFit n [] = Unit {0}
AllFit n (p ∷ ps) = IsFit n p × AllFit n ps

some_conditions : (n : ℕ) (ps : List (Proposition Atom)) → AllFit n ps → (cs : List Condition) × (map proposition cs ≡ ps) × AreFit n cs
some_conditions n [] h = ([], refl, tt)
some_conditions n (p ∷ ps) h =
    let c = some_condition p in
    let cs = some_conditions n ps h.1 in
    (c.0 ∷ cs.0, ap₂ (λ (x : Proposition Atom) (xs : List (Proposition Atom)). x ∷ xs) c.1 cs.1, (subst (IsFit n) (sym c.1) h.0, cs.2))

both_fit : (n : ℕ) (ps qs : List (Proposition Atom)) → AllFit n ps → AllFit n qs → AllFit n (ps ++ qs)
both_fit n [] qs h k = k
both_fit n (p ∷ ps) qs h k = (h.0, both_fit n ps qs h.1 k)

module _ (laws : FamilyLaws) (dialect : Dialect) (m : Plain) (ranges : AreRanges m.features) where
  read_fit : (macros : Macros) (opens : List Bool) (ps qs : List (Proposition Atom)) (line : List ℕ) → IsRead dialect macros m opens ps line qs → AllFit (length m.features) qs
  read_fit macros opens ps [] line (sections.untested e k) = tt
  read_fit macros opens ps (q ∷ []) line (sections.tested (Ok bytes) p e k h few) = (laws.fit macros m.features bytes q ranges h, tt)
  read_fit macros opens ps (q ∷ []) line (sections.tested (Err fault) p e k h few) = absurd cc
  read_fit macros opens ps (q ∷ (_ ∷ _)) line h = elim h [ ]

  abbrev ToldFit : Result Told (FileCode × Place) → Type 0
  ToldFit (Ok told) = AllFit (length m.features) told.conditions
  ToldFit (Err fault) = Unit {0}

  one_more_fit : (l : Line) (qs : List (Proposition Atom)) (r : Result Told (FileCode × Place)) → AllFit (length m.features) qs → ToldFit r → ToldFit (in_front (l ∷ []) qs r)
  one_more_fit l qs (Ok told) h k = both_fit (length m.features) qs told.conditions h k
  one_more_fit l qs (Err fault) h k = tt

  told_fit : (text : List ℕ) (above : List (List ℕ)) (opens : List Bool) (ps : List (Proposition Atom)) (start : ℕ) (lines : List (List ℕ)) (r : Result Told (FileCode × Place)) → sections.AreRead dialect m text above opens ps start lines r → ToldFit r
  told_fit text above opens ps start [] r (sections.none o q s) = tt
  told_fit text above opens ps start (line ∷ lines) r (sections.unclosed o q s l ls u) = tt
  told_fit text above opens ps start (line ∷ lines) r (sections.faulty o q s l ls code u f) = tt
  told_fit text above opens ps start (line ∷ lines) r (sections.goes_on o q s l ls qs x u h k) =
      one_more_fit (line_at (length ps) start (place_at text start) line) qs x (read_fit (macros_behind dialect.unknown text above) opens ps qs line h) (told_fit text (above ++ names_in line) (opened_by (named_in line) opens) (ps ++ qs) (start + length line + 1) lines x k)

  -- ---- and have few atoms

  abbrev ToldFew : List (Proposition Atom) → Result Told (FileCode × Place) → Type 0
  ToldFew ps (Ok told) = HaveFewAtoms 64 (m.constraints ++ (ps ++ told.conditions))
  ToldFew ps (Err fault) = Unit {0}

  read_few : (macros : Macros) (opens : List Bool) (ps qs : List (Proposition Atom)) (line : List ℕ) → HaveFewAtoms 64 (m.constraints ++ ps) → IsRead dialect macros m opens ps line qs → HaveFewAtoms 64 (m.constraints ++ (ps ++ qs))
  read_few macros opens ps [] line few (sections.untested e k) = subst (λ (xs : List (Proposition Atom)). HaveFewAtoms 64 (m.constraints ++ xs)) (sym (append-nil ps)) few
  read_few macros opens ps (q ∷ []) line few (sections.tested text p e k h next) = next
  read_few macros opens ps (q ∷ (_ ∷ _)) line few h = elim h [ ]

  one_more_few : (l : Line) (ps qs : List (Proposition Atom)) (r : Result Told (FileCode × Place)) → ToldFew (ps ++ qs) r → ToldFew ps (in_front (l ∷ []) qs r)
  one_more_few l ps qs (Ok told) h = subst (λ (xs : List (Proposition Atom)). HaveFewAtoms 64 (m.constraints ++ xs)) (append_assoc ps qs told.conditions) h
  one_more_few l ps qs (Err fault) h = tt

  told_few : (text : List ℕ) (above : List (List ℕ)) (opens : List Bool) (ps : List (Proposition Atom)) (start : ℕ) (lines : List (List ℕ)) (r : Result Told (FileCode × Place)) → HaveFewAtoms 64 (m.constraints ++ ps) → sections.AreRead dialect m text above opens ps start lines r → ToldFew ps r
  told_few text above opens ps start [] r few (sections.none o q s) = subst (λ (xs : List (Proposition Atom)). HaveFewAtoms 64 (m.constraints ++ xs)) (sym (append-nil ps)) few
  told_few text above opens ps start (line ∷ lines) r few (sections.unclosed o q s l ls u) = tt
  told_few text above opens ps start (line ∷ lines) r few (sections.faulty o q s l ls code u f) = tt
  told_few text above opens ps start (line ∷ lines) r few (sections.goes_on o q s l ls qs x u h k) =
      one_more_few (line_at (length ps) start (place_at text start) line) ps qs x (told_few text (above ++ names_in line) (opened_by (named_in line) opens) (ps ++ qs) (start + length line + 1) lines x (read_few (macros_behind dialect.unknown text above) opens ps qs line few h) k)

-- ---- what is known of the conditions

few_by : FamilyLaws → (most : ℕ) (ps : List (Proposition Atom)) (atoms : List Atom) → AreAtomsOf ps atoms → HaveFewAtoms most ps → length atoms ≤ most
few_by laws most ps atoms h few = elim (cases_lt most (length atoms)) [
  | inl more ↦ absurd (laws.few most ps few (record { atoms = atoms; rising = h.rising; only = h.only; more = more }))
  | inr le ↦ le
]

all_fit_by : (n : ℕ) (ps : List (Proposition Atom)) → AllByRecursion (IsFit n) ps → AllFit n ps
all_fit_by n [] h = tt
all_fit_by n (p ∷ ps) h = (h.0, all_fit_by n ps h.1)

all_below : (atoms : List Atom) (ps : List (Proposition Atom)) (fs : List Formula) → AreNumbered atoms ps fs → All (λ f. IsBelow (length atoms) (formula f)) fs
all_below atoms [] [] h = All-nil (λ (f : Formula). IsBelow (length atoms) (formula f))
all_below atoms [] (f ∷ fs) h = absurd h
all_below atoms (p ∷ ps) [] h = absurd h
all_below atoms (p ∷ ps) (f ∷ fs) h = All-cons (λ (g : Formula). IsBelow (length atoms) (formula g)) f fs (numbered_below atoms p (formula f) h.0) (all_below atoms ps fs h.1)

-- ---- the items of code

-- items as the code has them
stored : (items : List Item) → length items < 2 ^ 63 → (made : Vec Item Global) × (made.items ≡ items)
stored items few = (
  record { ptr = null_ptr; len = length items; cap = length items; alloc = record { memory = record { seal = tt } }; items = items; ok = (refl, omega arith); small = few },
  refl,
)

proper_by : (functions : List (List ℕ)) → TokenLaws → (given : List (List ℕ)) (code : List ℕ) (l : Listed) (r : Result (List Token) (FileCode × Place)) → tokens_of code ≡ r → and_then r (λ ts. Ok (listed functions given code ts)) ≡ Ok l → length l.items < 2 ^ 63 → AreProper l.names l.items
proper_by functions laws given code l (Ok ts) is e few =
    let same : listed functions given code ts ≡ l = cc in
    let made = stored l.items few in
    subst (λ (xs : List Item). AreProper l.names xs) made.1
    (proper_items functions laws given code ts (record { names = l.names; items = made.0 }) is (record { names_are = ap (λ (x : Listed). x.names) (sym same); items_are = made.1 ∙ ap (λ (x : Listed). x.items) (sym same) }))
proper_by functions laws given code l (Err fault) is e few = absurd cc

-- ---- a family

few_bytes : (n : ℕ) → n ≤ 1048576 → n < 2 ^ 63
few_bytes n h = omega arith

all_few : (n count : ℕ) → n ≤ 64 + count → count ≤ 256 → n ≤ 320
all_few n count h k = omega arith

module _ (laws : FamilyLaws) (dialect : Dialect) (model : Model) (bytes : List ℕ) (features : AreFeatures model.features) (fit : AreFit (length model.features) model.constraints) (few : HaveFewAtoms 64 (plain model).constraints) where
  proper : (told : Told) (l : Listed) → (items : HasItems dialect (plain model) bytes told l) → AreProper items.tokens.names items.tokens.items
  proper told l items =
      let given = arranged (feature_names (plain model)) items.first in
      let short = blanked_short laws.blanked_length bytes items.blanked items.without_comments in
      let functions = own_functions (code_of items.blanked) in
      let tokens = items_few functions laws.tokens.read given (code_of items.blanked) items.tokens items.tokens_are in
      let token_count : length items.tokens.items < 2 ^ 63 = few_bytes (length items.tokens.items) (omega (arith, tokens, laws.code_length items.blanked, short)) in
      proper_by functions laws.tokens given (code_of items.blanked) items.tokens (tokens_of (code_of items.blanked)) refl items.tokens_are token_count

  -- the program that the items spell
  module _ (f : Family) (h : IsFamilyOf dialect model bytes f) where
    formed : IsProgram h.spelled
    formed =
        let a = h.accepted in
        let items = a.are.items in
        let told = a.are.told in
        let own = proper told a.listed items in
        let counts = counted dialect (plain model) items.blanked [] [] [] 0 items.blanked (pieces items.blanked) 1 (Ok told) refl refl refl items.read in
        let names = (laws.names dialect model bytes f h).0 in
        let own_names : (whole f.code).names ≡ a.listed.names = ap (λ (w : Whole). w.names) h.code ∙ ap (λ (w : Whole). w.names) a.spelled.is in
        let few_names : length a.listed.names ≤ 48 = omega (arith, names, ap length own_names) in
        let fits : facts.AreFit (length a.listed.names) a.listed.items =
        subst (λ (x : Listed). facts.AreFit (length x.names) x.items) (sym items.is) (all_fit (length items.tokens.names) told.lines items.tokens.items own.fit) in
        let rises : facts.AreRising a.listed.items = subst (λ (x : Listed). facts.AreRising x.items) (sym items.is) (all_rise 1 told.lines items.tokens.items counts own.rising) in
        subst IsProgram (sym a.spelled.is) (laws.formed a.listed.names a.listed.items a.spelled.file few_names fits rises a.spelled.forms)

    conditioned : IsConditioned (length h.known.formulas) h.spelled
    conditioned =
        let a = h.accepted in
        let items = a.are.items in
        let told = a.are.told in
        let own = proper told a.listed items in
        let numbers = numbers_are dialect (plain model) items.blanked [] [] [] 0 (pieces items.blanked) (Ok told) items.read in
        let count : length h.known.formulas ≡ length told.conditions = sym (same_count h.known.atoms told.conditions h.known.formulas a.are.conditions.numbered) in
        let numbered : facts.AreConditionsOf (length h.known.formulas) a.listed.items =
        subst (λ (x : Listed). facts.AreConditionsOf (length h.known.formulas) x.items) (sym items.is) (all_conditions (length h.known.formulas) told.lines items.tokens.items (numbers (length h.known.formulas) count) own.plain) in
        laws.conditions (length h.known.formulas) a.listed.names a.listed.items h.spelled numbered (laws.within a.listed.names a.listed.items h.spelled a.spelled)

    abbrev own_conditions : List (Proposition Atom)
    own_conditions = h.accepted.are.told.conditions

    abbrev uses : List Use
    uses = uses_in model h.spelled

    abbrev tests : List (Proposition Atom)
    tests = tests_of model.features (uses_in model h.spelled)

    -- as many formulas as conditions, and tests behind them
    formula_count : length f.conditions ≡ length h.known.formulas + test_count model.features uses
    formula_count =
        let own = same_count h.known.atoms own_conditions h.known.formulas h.accepted.are.conditions.numbered in
        let all = same_count f.atoms (own_conditions ++ tests) f.conditions h.conditions.numbered in
        omega (arith, own, all, length-append own_conditions tests, laws.counted model.features uses)

    few_atoms : length f.atoms ≤ 320
    few_atoms =
        let items = h.accepted.are.items in
        let nothing : (plain model).constraints ++ [] ≡ (plain model).constraints = append-nil (plain model).constraints in
        let own = told_few laws dialect (plain model) features.ranges items.blanked [] [] [] 0 (pieces items.blanked) (Ok h.accepted.are.told) (subst (HaveFewAtoms 64) (sym nothing) few) items.read in
        let le = few_by laws (64 + length tests) ((plain model).constraints ++ (own_conditions ++ tests)) f.atoms h.conditions.atoms_are
        (few_with_tests 64 (plain model).constraints own_conditions tests (tests_are model.features uses) own) in
        all_few (length f.atoms) (length tests) le (subst (λ (n : ℕ). n ≤ 256) (sym (laws.counted model.features uses)) (laws.few_tests dialect model bytes f h))

    fit_atoms : AreAtoms (length model.features) f.atoms
    fit_atoms =
        let items = h.accepted.are.items in
        let stand = laws.uses model.features h.spelled.names in
        let own = told_fit laws dialect (plain model) features.ranges items.blanked [] [] [] 0 (pieces items.blanked) (Ok h.accepted.are.told) items.read in
        let more = all_fit_by (length model.features) tests (recursion_from_All (IsFit (length model.features)) tests (laws.fit_tests model.features uses features.ranges stand.0)) in
        let made = some_conditions (length model.features) (own_conditions ++ tests) (both_fit (length model.features) own_conditions tests own more) in
        atoms_fit (length model.features) f.atoms model.constraints made.0 fit made.2
        (subst (λ (ps : List (Proposition Atom)). AreAtomsOf ((plain model).constraints ++ ps) f.atoms) (sym made.1) h.conditions.atoms_are)

    promised : IsReadFamily dialect model bytes f
    promised =
        let stand = laws.uses model.features h.spelled.names in
        record {
          spelled = h;
          program = subst IsProgram (sym h.code) (laws.values (length h.known.formulas) model.features uses h.spelled features.ranges stand.1 formed);
          conditioned = subst (λ (n : ℕ). IsConditioned n (whole f.code)) (sym formula_count)
              (subst (IsConditioned (length h.known.formulas + test_count model.features uses)) (sym h.code) (laws.values_conditions (length h.known.formulas) model.features uses h.spelled conditioned));
          few = few_atoms;
          atoms = fit_atoms;
          below = all_below f.atoms (own_conditions ++ tests) f.conditions h.conditions.numbered;
        }

-- what is read as a family has all that is promised of one
pub families_promised : FamilyLaws → FamiliesArePromised
families_promised laws dialect model bytes f features fit few h = promised laws dialect model bytes features fit few f h

by_answer : FamilyLaws → (dialect : Dialect) (model : Model) (bytes : List ℕ) → AreFeatures model.features → AreFit (length model.features) model.constraints → HaveFewAtoms 64 (plain model).constraints
    → (answer : Result Family FileRefusal) → IsTold answer → IsFamilyRead dialect model bytes answer → HasFamily dialect model bytes
by_answer laws dialect model bytes features fit few (Ok f) told h = spells f (promised laws dialect model bytes features fit few f h)
by_answer laws dialect model bytes features fit few (Err (refusals.Fault code place)) told h = refused (code, place) h
by_answer laws dialect model bytes features fit few (Err refusals.NoMemory) told h = absurd told

pub families_answered : FamilyLaws → FilesAreAnswered → FamiliesHaveAnswers
families_answered laws files dialect model bytes features fit few = let a = files dialect model bytes in by_answer laws dialect model bytes features fit few a.answer a.told a.read
