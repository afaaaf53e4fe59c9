-- Preprocessing and then reading is reading and then projecting: the laws of variants.
use Rattle.std.proofs.Common.{◌≡◌, ℕ, ℤ, ◌≤◌, ◌<◌, nat_eq, Bool, true, false, not, ◌||◌, ◌&&◌, List, [], ◌∷◌, ◌++◌, length, map, None, Result, Ok, Err, inl, inr, refl, sym, ap, subst, ◌∙◌}
use Rattle.std.specs.Prelude.{if◌then◌else◌}
use Rattle.std.specs.List.{list_any}
use Rattle.std.proofs.lemmas.List.{length-map, map-append}
use Rattle.fam_outer.specs.declared.dialect.Dialect.{Dialect}
use Rattle.fam_outer.specs.declared.dialect.Includes.{Includes}
use Rattle.fam_outer.specs.declared.faults.FileCode.{FileCode}
use Rattle.fam_outer.specs.declared.faults.Place.{Place}
use Rattle.linear_atoms.specs.declared.atoms.Atom.{Atom}
use Rattle.linear_atoms.specs.declared.atoms.Feature.{Feature}
use Rattle.cpp_conditions.specs.declared.models.Model.{Model}
use Rattle.cpp_conditions.specs.Propositions.{Proposition, true_at}
use Rattle.cpp_conditions.specs.Validity.{Plain, plain, IsValid}
use Rattle.cpp_conditions.proofs.Within.{valid_parts}
use Rattle.cpp_lines.specs.Lines.{pieces}
use Rattle.cpp_lines.specs.Preprocessed.{preprocessed}
use Rattle.cpp_lines.specs.Sections.{Told, TextIsRead, AreNumberedBelow, truths_at}
use Rattle.cpp_lines.proofs.Numbering.{numbers_are}
use Rattle.cpp_lines.specs.Whole.{blanked_file, IsPreprocessed, IsPlainText}
use Rattle.c_tree.specs.Project.{IsConditioned, projected_program}
use Rattle.c_tree.specs.Tree.{Whole}
use Rattle.c_tree.specs.View.{whole}
use Rattle.c_grammar.specs.declared.items.Item.{Item}
use Rattle.c_grammar.specs.declared.items.Sign.{Sign}
use Rattle.c_grammar.specs.declared.items.Sign.TheVariants as signs
use Rattle.c_grammar.specs.Facts.{Conditioned, IsFit, AreFit}
use Rattle.c_grammar.specs.Constants.{is_name}
use Rattle.c_grammar.specs.Kept.{kept}
use Rattle.c_grammar.specs.Locals.{is_main, is_declaring, declarations_from, of_declarations}
use Rattle.c_grammar.specs.Grammar.{Forms}
use Rattle.c_grammar.specs.Within.{SpellsWithin, KeepsWithin, WithinIsFile}
use Rattle.for_blocks.specs.Blocks.{unfolded}
use Rattle.for_blocks.specs.Laws.{BlocksAreKept, BlocksFormTheFile}
use Rattle.c_parser.specs.declared.family.Family.{Family}
use Rattle.c_parser.specs.FamilyReading.{IsFamilyOf, context_of}
use Rattle.c_parser.specs.Functions.{functions_of_bytes}
use Rattle.c_parser.specs.Items.{Listed, AreDistinct}
use Rattle.feature_values.specs.Declarators.{presets, with_presets}
use Rattle.feature_values.specs.Laws.{ConditionsAreEnough, ValuesAreStarts}
use Rattle.feature_values.specs.Values.{tests_of, uses_of}
use Rattle.family_names.specs.Names as names
use Rattle.c_parser.specs.Names.{name_of, names_of, declared_by, first_name_fault}
use Rattle.c_parser.specs.Reading.{items_of, outside, AreAmong}
use Rattle.c_parser.specs.Variants.{given_at, projection, starting_at, truths_in, names_in, TextsSpellProjections, VariantsAreTexts, FamilyNamesAreFew, VariantsDeclareAmong, VariantsAreRead, FamiliesHaveTexts}
use Rattle.c_parser.proofs.FamilyAnswers.{NamesStandInBlocks}
use Rattle.c_parser.proofs.FamilyNames.{family_distinct}
use Rattle.c_parser.proofs.FamilyOnce.{HasValues, has_values}
use Rattle.c_parser.proofs.AmongNumbers.{is_same}
use Rattle.c_parser.proofs.FewNames.{few_names}
use Rattle.c_parser.proofs.FirstOccurrences.{names_below}
use Rattle.c_parser.proofs.KeptItems.{fit_kept}
use Rattle.c_grammar.proofs.Apart.{directives_apart}
use Rattle.c_grammar.proofs.Beside.{directives_beside}
use Rattle.c_grammar.proofs.Level.{directives_level}
use Rattle.c_grammar.proofs.Outside.{directives_outside}
use Rattle.c_parser.proofs.KeptFaults.{kept_fine}
use Rattle.c_parser.proofs.KeptNames.{AreOutside}
use Rattle.c_parser.proofs.MainItems.{main_stays}
use Rattle.c_parser.proofs.KeptTexts.{TextLaws, TextsAreReadOnce, same_blanked, same_told, family_conditions, family_fit, variant_items}
use Rattle.c_parser.proofs.MoreTruths.{same_text}
use Rattle.c_parser.proofs.ValueNames.{numbers_of_values}

-- what a law of lines says of the text of a variant
abbrev pub VariantsArePlain : Type 0
VariantsArePlain = (dialect : Dialect) (model : Plain) (truths : List (Proposition Atom) → List Bool) (bytes text : List ℕ) → IsPreprocessed dialect model truths bytes text → IsPlainText text

pub names_are : (dialect : Dialect) (model : Model) (bytes : List ℕ) (f : Family) → (o : IsFamilyOf dialect model bytes f) → names_in f ≡ o.accepted.listed.names
names_are dialect model bytes f o = ap (λ (w : Whole). w.names) o.code ∙ ap (λ (w : Whole). w.names) o.accepted.spelled.is

-- what stays of the text of a family has the items that stay
stays : TextLaws → VariantsArePlain → (dialect : Dialect) (model : Model) (bytes text : List ℕ) (f : Family) (truths : List Bool) → (o : IsFamilyOf dialect model bytes f) → IsPreprocessed dialect (plain model) (λ conditions. truths) bytes text → (includes : Includes)
    → items_of includes (functions_of_bytes bytes) (names_in f) text ≡ Ok (record { names = names_in f; items = kept truths o.accepted.listed.items })
stays laws are_plain dialect model bytes text f truths o q includes =
    subst (λ (ns : List (List ℕ)). items_of includes (functions_of_bytes bytes) ns text ≡ Ok (record { names = ns; items = kept truths o.accepted.listed.items })) (sym (names_are dialect model bytes f o))
    (variant_items laws dialect (plain model) bytes text o.accepted.are.told o.accepted.listed truths o.accepted.are.items q (are_plain dialect (plain model) (λ conditions. truths) bytes text q) includes)

-- and spells the projection of the program that the family's items spell
stays_spelled : KeepsWithin → (dialect : Dialect) (model : Model) (bytes : List ℕ) (f : Family) (truths : List Bool) → (o : IsFamilyOf dialect model bytes f) → SpellsWithin (names_in f) (projected_program truths o.spelled) (kept truths o.accepted.listed.items)
stays_spelled keeps dialect model bytes f truths o =
    subst (λ (ns : List (List ℕ)). SpellsWithin ns (projected_program truths o.spelled) (kept truths o.accepted.listed.items)) (sym (names_are dialect model bytes f o))
    (keeps o.accepted.listed.names o.accepted.listed.items o.spelled truths o.accepted.spelled)

pub spelled : TextLaws → KeepsWithin → VariantsArePlain → TextsSpellProjections
spelled laws keeps are_plain dialect model bytes text f truths o q =
    let start = (projected_program truths o.spelled).start in
    let same : starting_at (projected_program truths o.spelled).start (projection f truths) ≡ projected_program truths o.spelled =
    ap (λ (w : Whole). starting_at (projected_program truths o.spelled).start (projected_program truths w)) o.code in
    record {
      items = kept truths o.accepted.listed.items;
      are = stays laws are_plain dialect model bytes text f truths o q;
      start = start;
      spelled = subst (λ (w : Whole). SpellsWithin (names_in f) w (kept truths o.accepted.listed.items)) (sym same) (stays_spelled keeps dialect model bytes f truths o);
    }

-- ---- the text of a configuration

-- it stays where the conditions of the file have their truths
at_conditions : TextLaws → (dialect : Dialect) (model : Model) (bytes text : List ℕ) (f : Family) (values : List ℤ) → (o : IsFamilyOf dialect model bytes f) → IsPreprocessed dialect (plain model) (truths_at values) bytes text
    → IsPreprocessed dialect (plain model) (λ conditions. truths_at values o.accepted.are.told.conditions) bytes text
at_conditions laws dialect model bytes text f values o q =
    let h = o.accepted.are.items in
    let same = same_told laws dialect (plain model) bytes q.blanked h.blanked q.told o.accepted.are.told q.without_comments h.without_comments q.read h.read in
    record {
      blanked = q.blanked;
      told = q.told;
      without_comments = q.without_comments;
      read = q.read;
      is = q.is ∙ ap (λ (t : Told). preprocessed (truths_at values t.conditions) q.told.lines q.blanked) same.told;
    }

more_truths : (features : List Feature) (told : Told) (spelled : Whole) (f : Family) (values : List ℤ) → HasValues features told spelled f
    → truths_in f values ≡ truths_at values told.conditions ++ truths_at values (tests_of features (uses_of features spelled.names))
more_truths features told spelled f values h = h.truths values ∙ map-append (true_at values) told.conditions (tests_of features (uses_of features spelled.names))

pub texts : TextLaws → VariantsAreTexts
texts laws dialect model bytes text f values o q =
    let h = o.accepted.are.items in
    let told = o.accepted.are.told in
    let same = same_told laws dialect (plain model) bytes q.blanked h.blanked q.told told q.without_comments h.without_comments q.read h.read in
    let first = truths_at values q.told.conditions in
    let more = truths_at values (tests_of model.features (uses_of model.features o.spelled.names)) in
    let now : truths_in f values ≡ truths_at values q.told.conditions ++ truths_at values (tests_of model.features (uses_of model.features o.spelled.names)) =
    more_truths model.features told o.spelled f values (has_values dialect model bytes f o)
    ∙ ap (λ (t : Told). truths_at values t.conditions ++ truths_at values (tests_of model.features (uses_of model.features o.spelled.names))) (sym same.told) in
    let below : AreNumberedBelow (length (truths_at values q.told.conditions)) q.told.lines =
    numbers_are dialect (plain model) q.blanked [] [] [] 0 (pieces q.blanked) (Ok q.told) q.read (length (truths_at values q.told.conditions)) (length-map q.told.conditions (true_at values)) in
    record {
      blanked = q.blanked;
      told = q.told;
      without_comments = q.without_comments;
      read = q.read;
      is = q.is ∙ sym (same_text first more q.told.lines q.blanked below) ∙ ap (λ (ts : List Bool). preprocessed ts q.told.lines q.blanked) (sym now);
    }

-- ---- the names

pub few : NamesStandInBlocks → FamilyNamesAreFew
few stand dialect model bytes f o =
    let l = o.accepted.listed in
    let same = names_are dialect model bytes f o in (
      subst (λ (ns : List (List ℕ)). length ns ≤ 48) (sym same) (few_names (context_of model o.known.atoms o.known.formulas o.accepted.listed.names o.known.functions) (unfolded l.items) (length l.names) o.accepted.names (λ x lt. stand dialect (plain model) bytes o.accepted.are.told l x o.accepted.are.items lt)),
      subst AreDistinct (sym same) (family_distinct dialect (plain model) bytes o.accepted.are.told l o.accepted.are.items),
    )

declarations_fit : (count : ℕ) (main declaring : Bool) (xs : List Item) → AreFit count xs → AreFit count (declarations_from main declaring xs)
declarations_fit count main declaring [] f = tt
declarations_fit count main declaring (y ∷ ys) f =
    let rest = declarations_fit count (main || is_main y.sign) (is_declaring y.sign) ys f.1 in
    elim (main && not declaring && is_name y.sign) as (λ b. AreFit count (if b then declarations_from (main || is_main y.sign) (is_declaring y.sign) ys else y ∷ declarations_from (main || is_main y.sign) (is_declaring y.sign) ys)) [
      | true ↦ rest
      | false ↦ (f.0, rest)
    ]

declared_below : (count : ℕ) (xs : List Item) (x : ℕ) → AreFit count xs → list_any (nat_eq x) (declared_by xs) ≡ true → x < count
declared_below count xs x f h = names_below count (of_declarations xs) (declarations_fit count false false xs f) x h

abbrev listed_ok : Listed → Result Listed (FileCode × Place)
listed_ok l = Ok l

pub same_listed : (r : Result Listed (FileCode × Place)) (l m : Listed) → r ≡ listed_ok l → r ≡ listed_ok m → l ≡ m
same_listed r l m h k = let e : listed_ok l ≡ listed_ok m = sym h ∙ k in cc

pub declared : TextLaws → VariantsArePlain → VariantsDeclareAmong
declared laws are_plain dialect model bytes text f truths o q includes l is =
    let items = o.accepted.listed.items in
    let same = names_are dialect model bytes f o in
    let e : l ≡ record { names = names_in f; items = kept truths o.accepted.listed.items } = same_listed (items_of includes (functions_of_bytes bytes) (names_in f) text) l (record { names = names_in f; items = kept truths o.accepted.listed.items }) is (stays laws are_plain dialect model bytes text f truths o q includes) in
    let fit : AreFit (length (names_in f)) (kept truths o.accepted.listed.items) =
    subst (λ (ns : List (List ℕ)). AreFit (length ns) (kept truths o.accepted.listed.items)) (sym same)
    (fit_kept (length o.accepted.listed.names) truths [] items (family_fit laws dialect (plain model) bytes o.accepted.are.told o.accepted.listed o.accepted.are.items)) in
    subst (λ (k : Listed). AreAmong (names_in f) k.items) (sym e) (λ x h. declared_below (length (names_in f)) (kept truths o.accepted.listed.items) x fit h)

-- ---- reading a variant

-- what laws say of programs and of values
pub record ProgramLaws : Type 0 where
  pub keeps : KeepsWithin
  pub is_file : WithinIsFile
  pub conditions : Conditioned
  pub starts : ValuesAreStarts
  pub enough : ConditionsAreEnough

-- and of loops that declare variables
pub record LoopLaws : Type 0 where
  pub file : BlocksFormTheFile
  pub kept : BlocksAreKept

-- the program of a configuration has the features' values as start values
starts : TextLaws → ProgramLaws → (dialect : Dialect) (model : Model) (bytes : List ℕ) (f : Family) (values : List ℤ) → (o : IsFamilyOf dialect model bytes f) → IsValid (plain model) values
    → projection f (truths_in f values) ≡ with_presets (presets (uses_of model.features (names_in f)) values) (projected_program (truths_at values o.accepted.are.told.conditions) o.spelled)
starts laws programs dialect model bytes f values o v =
    let l = o.accepted.listed in
    let told = o.accepted.are.told in
    let has = has_values dialect model bytes f o in
    let numbered : IsConditioned (length o.accepted.are.told.conditions) o.spelled =
    programs.conditions (length told.conditions) l.names l.items o.spelled (family_conditions laws dialect (plain model) bytes told l o.accepted.are.items) (programs.is_file l.names l.items o.spelled o.accepted.spelled) in
    let names : names_in f ≡ o.spelled.names = ap (λ (w : Whole). w.names) o.code in
    ap (λ (ts : List Bool). projected_program ts (whole f.code)) (has.truths values)
    ∙ ap (projected_program (truths_at values (told.conditions ++ tests_of model.features (uses_of model.features o.spelled.names)))) has.code
    ∙ programs.starts model.features values told.conditions (uses_of model.features o.spelled.names) o.spelled (valid_parts (plain model) values v).0
    ∙ ap (λ (ts : List Bool). with_presets (presets (uses_of model.features o.spelled.names) values) (projected_program ts o.spelled)) (map-append (true_at values) told.conditions (tests_of model.features (uses_of model.features o.spelled.names)))
    ∙ ap (with_presets (presets (uses_of model.features o.spelled.names) values))
    (programs.enough (truths_at values told.conditions) (truths_at values (tests_of model.features (uses_of model.features o.spelled.names))) o.spelled
    (subst (λ (n : ℕ). IsConditioned n o.spelled) (sym (length-map told.conditions (true_at values))) numbered))
    ∙ ap (λ (ns : List (List ℕ)). with_presets (presets (uses_of model.features ns) values) (projected_program (truths_at values o.accepted.are.told.conditions) o.spelled)) (sym names)

-- the values from outside are those of the features that are used
outside_are : NamesStandInBlocks → (dialect : Dialect) (model : Model) (bytes : List ℕ) (f : Family) (values : List ℤ) → (o : IsFamilyOf dialect model bytes f) → AreOutside (context_of model o.known.atoms o.known.formulas o.accepted.listed.names o.known.functions) (outside (given_at model (functions_of_bytes bytes) f values))
outside_are stand dialect model bytes f values o =
    let context = context_of model o.known.atoms o.known.formulas o.accepted.listed.names o.known.functions in
    let l = o.accepted.listed in
    record {
      variables = refl;
      locals = refl;
      constants = refl;
      values = λ n. subst (λ (ns : List (List ℕ)). list_any (nat_eq n) (map (λ v. v.0) (presets (uses_of model.features ns) values)) ≡ names.is_value (context_of model o.known.atoms o.known.formulas o.accepted.listed.names o.known.functions) n) (sym (names_are dialect model bytes f o))
          (numbers_of_values context (unfolded l.items) values o.accepted.names (λ x lt. stand dialect (plain model) bytes o.accepted.are.told l x o.accepted.are.items lt) n);
    }

pub read : NamesStandInBlocks → TextLaws → ProgramLaws → LoopLaws → VariantsArePlain → VariantsAreRead
read stand laws programs loops are_plain dialect model bytes text f values o v q includes =
    let l = o.accepted.listed in
    let told = o.accepted.are.told in
    let truths = truths_at values told.conditions in
    let context = context_of model o.known.atoms o.known.formulas l.names o.known.functions in
    let blocks = unfolded l.items in
    let file = o.accepted.spelled.file in
    let forms : Forms (unfolded o.accepted.listed.items) o.accepted.spelled.file = loops.file l.items file o.accepted.spelled.forms in
    let given = given_at model (functions_of_bytes bytes) f values in
    let fine : first_name_fault (outside (given_at model (functions_of_bytes bytes) f values)) (kept (names.truths_at (context_of model o.known.atoms o.known.formulas o.accepted.listed.names o.known.functions) values) (unfolded o.accepted.listed.items)) ≡ None =
    kept_fine context (outside given) blocks values (outside_are stand dialect model bytes f values o) (directives_apart blocks file forms) (directives_outside blocks file forms) (directives_level blocks file forms) (directives_beside blocks file forms) o.accepted.names v
    (main_stays (names.truths_at context values) forms) in
    let fine_there : first_name_fault (outside (given_at model (functions_of_bytes bytes) f values)) (kept (truths_at values o.accepted.are.told.conditions) (unfolded o.accepted.listed.items)) ≡ None =
    subst (λ (ts : List Bool). first_name_fault (outside (given_at model (functions_of_bytes bytes) f values)) (kept ts (unfolded o.accepted.listed.items)) ≡ None) (o.accepted.are.conditions.truths values) fine in
    record {
      spelled = projected_program truths o.spelled;
      accepted = record {
        listed = record { names = names_in f; items = kept truths l.items };
        are = stays laws are_plain dialect model bytes text f truths o (at_conditions laws dialect model bytes text f values o q) includes;
        spelled = stays_spelled programs.keeps dialect model bytes f truths o;
        names = ap (first_name_fault (outside given)) (sym (loops.kept l.items file truths o.accepted.spelled.forms)) ∙ fine_there;
      };
      is = starts laws programs dialect model bytes f values o v;
    }

-- ---- an accepted family is not refused by its lines

abbrev blanked_ok : List ℕ → Result (List ℕ) (FileCode × Place)
blanked_ok b = Ok b

abbrev blanked_err : FileCode × Place → Result (List ℕ) (FileCode × Place)
blanked_err f = Err f

not_both : (r : Result (List ℕ) (FileCode × Place)) (b : List ℕ) (f : FileCode × Place) → r ≡ blanked_ok b → r ≡ blanked_err f → ⊥
not_both r b f h k = let e : blanked_ok b ≡ blanked_err f = sym h ∙ k in cc

abbrev told_ok : Told → Result Told (FileCode × Place)
told_ok t = Ok t

abbrev told_err : FileCode × Place → Result Told (FileCode × Place)
told_err f = Err f

not_told : (t : Told) (f : FileCode × Place) → told_ok t ≡ told_err f → ⊥
not_told t f e = let k : told_ok t ≡ told_err f = e in cc

pub accepted : TextsAreReadOnce → FamiliesHaveTexts
accepted once dialect model bytes f fault o (inl e) = not_both (blanked_file bytes) o.accepted.are.items.blanked fault o.accepted.are.items.without_comments e
accepted once dialect model bytes f fault o (inr h) =
    let same = same_blanked bytes h.blanked o.accepted.are.items.blanked h.without_comments o.accepted.are.items.without_comments in
    not_told o.accepted.are.told fault (once dialect (plain model) o.accepted.are.items.blanked (Ok o.accepted.are.told) (Err fault) o.accepted.are.items.read (subst (λ (b : List ℕ). TextIsRead dialect (plain model) b (Err fault)) same h.read))
