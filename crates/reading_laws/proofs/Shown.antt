-- A refusal of a name that has an example is shown by the variant of this example.
use Rattle.std.proofs.Common.{◌≡◌, ℕ, Bool, true, false, not, ◌&&◌, ◌||◌, cond, List, [], ◌∷◌, ◌++◌, Option, Some, None, refl, sym, ap, subst, ◌∙◌, append_assoc, append-nil, inl, inr}
use Rattle.std.specs.Prelude.{ℤ, option_map, if◌then◌else◌}
use Rattle.fam_outer.specs.declared.dialect.Dialect.{Dialect}
use Rattle.fam_outer.specs.declared.faults.FileCode.{FileCode}
use Rattle.fam_outer.specs.declared.faults.FileCode.TheVariants.{Undeclared, Twice, FeatureInCode}
use Rattle.fam_outer.specs.declared.faults.Place.{Place}
use Rattle.linear_atoms.specs.declared.atoms.Atom.{Atom}
use Rattle.cpp_conditions.specs.declared.formulas.Formula.{Formula}
use Rattle.cpp_conditions.specs.declared.models.Model.{Model}
use Rattle.cpp_conditions.specs.Validity.{plain, IsValid}
use Rattle.cpp_groups.specs.declared.section.Section.{Section}
use Rattle.cpp_groups.specs.Kept.{all_kept, sections_after}
use Rattle.cpp_lines.specs.Faults.{or_later}
use Rattle.cpp_lines.specs.Preprocessed.{preprocessed}
use Rattle.cpp_lines.specs.Sections.{Told, AreConditionsOf, truths_at}
use Rattle.cpp_lines.specs.Whole.{IsPreprocessed}
use Rattle.c_tree.specs.Tree.{Whole}
use Rattle.c_tree.specs.Project.{projected_program}
use Rattle.c_grammar.specs.declared.constants.NameKind.TheVariants as kinds
use Rattle.c_grammar.specs.declared.items.Item.{Item}
use Rattle.c_grammar.specs.declared.items.Sign.{Sign}
use Rattle.c_grammar.specs.declared.items.Sign.TheVariants as signs
use Rattle.c_grammar.specs.Constants.{AreApart}
use Rattle.c_grammar.specs.Grammar.{is_group, Forms}
use Rattle.c_grammar.specs.Kept.{directive_of, kept_from, kept}
use Rattle.c_grammar.specs.Locals.{is_in_own, is_open, AreOutside as StandOutside}
use Rattle.c_grammar.specs.Scopes.{names_in_scope, names_taken, AreLevel, AreBeside}
use Rattle.c_grammar.specs.Within.{SpellsWithin, KeepsWithin}
use Rattle.for_blocks.specs.Blocks.{unfolded}
use Rattle.family_names.specs.Names as family
use Rattle.family_names.specs.Names.{NameContext, has_main, in_scope_at, taken_at, is_among, is_kept, is_feature, is_used_behind, sections_behind, IsFirstNameFault}
use Rattle.c_parser.specs.FamilyItems.{HasItems}
use Rattle.c_parser.specs.FamilyReading.{context_of, IsFamilyRefused}
use Rattle.c_parser.specs.Items.{Listed}
use Rattle.c_parser.specs.Names as alone
use Rattle.c_parser.specs.Names.{Outside}
use Rattle.c_parser.specs.Reading.{outside}
use Rattle.c_parser.specs.Variants.{given_of}
use Rattle.c_parser.proofs.Declared.{later_none}
use Rattle.c_grammar.proofs.Apart.{directives_apart}
use Rattle.c_grammar.proofs.Beside.{directives_beside}
use Rattle.c_grammar.proofs.Level.{directives_level}
use Rattle.c_grammar.proofs.Outside.{directives_outside}
use Rattle.c_parser.proofs.KeptConstants.{apart_before, same_sections}
use Rattle.c_parser.proofs.KeptFaults.{kept_fine}
use Rattle.c_parser.proofs.KeptFunctions.{call_alone, prototype_alone}
use Rattle.c_parser.proofs.KeptNames.{MainStays, kept_more, stays_before, has_main_kept, stand_before, used_kept, open_kept}
use Rattle.c_parser.proofs.KeptLocals.{beside_before, names_taken_kept}
use Rattle.c_parser.proofs.KeptScopes.{level_before, names_in_scope_kept}
use Rattle.c_parser.proofs.KeptTexts.{TextLaws, same_told, variant_items}
use Rattle.c_parser.proofs.MainItems.{main_stays}
use Rattle.c_parser.proofs.Projecting.{VariantsArePlain, LoopLaws}
use Rattle.reading_laws.specs.Shown.{IsShown, UndeclaredNamesAreShown, SecondDeclarationsAreShown}
use Rattle.reading_laws.proofs.Early.{is_of_name, TokensAreRead, early_other, wrong_other}
use Rattle.reading_laws.proofs.Examples.{FirstAt, some_fault, find_first, is_there, names_for, functions_for, IsExample, name_used, name_again}
use Rattle.reading_laws.proofs.OtherFaults.{some_code}
use Rattle.reading_laws.proofs.OutsideFaults.{uncounted, values_at, values_outside, same_outside}
use Rattle.reading_laws.proofs.OutsideNames.{none_outside}

-- ---- the same fault alone

split_none : (o : Option FileCode) (p : Place) (later : Option (FileCode × Place)) → or_later (option_map (λ code. (code, p)) o) later ≡ None → (o ≡ None) × (later ≡ None)
split_none None p later h = (refl, h)
split_none (Some code) p later h = absurd cc

-- the first item with a fault decides
decides : (outer : Outside) (before ks ms : List Item) (x : Item) (code : FileCode) → alone.name_fault_from outer before ks ≡ None → alone.name_fault outer (before ++ ks) x.sign ≡ Some code → alone.name_fault_from outer before (ks ++ x ∷ ms) ≡ Some (code, x.place)
decides outer before [] ms x code h e =
    let here : alone.name_fault outer before x.sign ≡ Some code = ap (λ (w : List Item). alone.name_fault outer w x.sign) (sym (append-nil before)) ∙ e in
    ap (λ (o : Option FileCode). or_later (option_map (λ c. (c, x.place)) o) (or_later (alone.change_fault outer before x) (alone.name_fault_from outer (before ++ x ∷ []) ms))) here
decides outer before (k ∷ ks) ms x code h e =
    let s = split_none (alone.name_fault outer before k.sign) k.place (or_later (alone.change_fault outer before k) (alone.name_fault_from outer (before ++ k ∷ []) ks)) h in
    let c = later_none (alone.change_fault outer before k) (alone.name_fault_from outer (before ++ k ∷ []) ks) s.1 in
    let rest : alone.name_fault_from outer (before ++ k ∷ []) (ks ++ x ∷ ms) ≡ Some (code, x.place) =
    decides outer (before ++ k ∷ []) ks ms x code c.1 (ap (λ (w : List Item). alone.name_fault outer w x.sign) (append_assoc before (k ∷ []) ks) ∙ e) in
    ap (λ (o : Option FileCode). or_later (option_map (λ c. (c, k.place)) o) (or_later (alone.change_fault outer before k) (alone.name_fault_from outer (before ++ k ∷ []) (ks ++ x ∷ ms)))) s.0
    ∙ ap (λ (o : Option (FileCode × Place)). or_later o (alone.name_fault_from outer (before ++ k ∷ []) (ks ++ x ∷ ms))) c.0
    ∙ rest

-- the code of a name that stays
abbrev shown : Bool → FileCode
shown missed = cond missed (Undeclared None) (Twice None)

by_kind : (outer : Outside) (own : Bool) (truths : List Bool) (front : List Item) (n : ℕ) (b : Bool) → (b ≡ true → alone.has_value outer n ≡ false) → is_there b own (is_among n (names_for b truths front)) ≡ not b
    → (if b then alone.use_fault outer own (in_scope_at truths front) n else alone.declaration_fault outer (taken_at truths front) n) ≡ Some (shown b)
by_kind outer own truths front n true v d =
    ap (λ (c : Bool). if c || (not own && is_among n (in_scope_at truths front)) then None else some_code (Undeclared None)) (v refl) ∙ ap (λ (c : Bool). if c then None else some_code (Undeclared None)) d
by_kind outer own truths front n false v d = ap (λ (c : Bool). if c then some_code (Twice None) else (if alone.has_value outer n then Some FeatureInCode else alone.limit_fault outer n)) d

here_alone : (outer : Outside) (truths : List Bool) (front : List Item) (n : ℕ) (b : Bool) → (b ≡ true → alone.has_value outer n ≡ false) → StandOutside false None front → AreLevel [] 0 front → AreBeside false front → MainStays truths [] front → is_kept truths front ≡ true → is_used_behind front ≡ b
    → is_there b (is_in_own front n) (is_among n (names_for b truths front)) ≡ not b → alone.name_fault outer (kept truths front) (signs.Name n) ≡ Some (shown b)
here_alone outer truths front n b v s l w m k h d =
    let used : is_used_behind (kept truths front) ≡ b = used_kept truths front s m k ∙ h in
    let own : is_in_own (kept truths front) n ≡ is_in_own front n = ap (is_open n) (open_kept truths front s k) in
    let names : names_in_scope (kept truths front) ≡ in_scope_at truths front = names_in_scope_kept truths front s m l in
    let taken : names_taken (kept truths front) ≡ taken_at truths front = names_taken_kept truths front s m l w k in
    ap (λ (c : Bool). if c then alone.use_fault outer (is_in_own (kept truths front) n) (names_in_scope (kept truths front)) n else alone.declaration_fault outer (names_taken (kept truths front)) n) used
    ∙ ap (λ (c : Bool). if b then alone.use_fault outer c (names_in_scope (kept truths front)) n else alone.declaration_fault outer (names_taken (kept truths front)) n) own
    ∙ ap (λ (ns : List ℕ). if b then alone.use_fault outer (is_in_own front n) ns n else alone.declaration_fault outer (names_taken (kept truths front)) n) names
    ∙ ap (λ (ns : List ℕ). if b then alone.use_fault outer (is_in_own front n) (in_scope_at truths front) n else alone.declaration_fault outer ns n) taken
    ∙ by_kind outer (is_in_own front n) truths front n b v d

-- a function that stays
function_alone : (outer : Outside) (truths : List Bool) (front : List Item) (k : ℕ) (b : Bool) → AreApart kinds.Variable false front → MainStays truths [] front → is_kept truths front ≡ true → has_main front ≡ b → is_among k (functions_for b truths front) ≡ not b
    → alone.name_fault outer (kept truths front) (signs.Function k) ≡ Some (shown b)
function_alone outer truths front k b apart m s h d =
    ap (λ (c : Bool). if c then alone.call_fault (kept truths front) k else alone.prototype_fault (kept truths front) k) (has_main_kept truths [] front m ∙ h)
    ∙ (elim b as (λ c. is_among k (functions_for c truths front) ≡ not c → (if c then alone.call_fault (kept truths front) k else alone.prototype_fault (kept truths front) k) ≡ Some (shown c)) [
      | true ↦ λ none. call_alone truths front k apart m s ∙ ap (λ (c : Bool). if c then None else some_code (Undeclared None)) none
      | false ↦ λ there. prototype_alone truths front k apart m s ∙ ap (λ (c : Bool). if c then some_code (Twice None) else None) there
    ] d)

-- the sign is no directive, and what stays has the fault there
record HasFault (outer : Outside) (front : List Item) (sign : Sign) (code : FileCode) : Type 0 where
  is_token : is_group sign ≡ false
  fault_is : alone.name_fault outer front sign ≡ Some code

has_fault : (context : NameContext) (outer : Outside) (front : List Item) (sign : Sign) (values : List ℤ) (b : Bool) → ((n : ℕ) → is_feature context n ≡ false → alone.has_value outer n ≡ false) → AreApart kinds.Variable false front → StandOutside false None front → AreLevel [] 0 front → AreBeside false front → MainStays (family.truths_at context values) [] front
    → IsExample context front sign values b → HasFault outer (kept (family.truths_at context values) front) sign (shown b)
has_fault context outer front sign values b none apart s l w m e = elim e.is [
  | inl n ↦ subst (λ (s : Sign). HasFault outer (kept (family.truths_at context values) front) s (shown b)) (sym n.sign_is) (record {
    is_token = refl;
    fault_is = here_alone outer (family.truths_at context values) front n.name b (λ q. none n.name (n.free q)) s l w m e.stays n.use_is n.declared;
  })
  | inr f ↦ subst (λ (s : Sign). HasFault outer (kept (family.truths_at context values) front) s (shown b)) (sym f.sign_is) (record {
    is_token = refl;
    fault_is = function_alone outer (family.truths_at context values) front f.function b apart m e.stays f.main_is f.declared;
  })
]

token_stays : (truths : List Bool) (front : List Item) (x : Item) (back : List Item) → is_group x.sign ≡ false → is_kept truths front ≡ true → kept_from truths (sections_behind truths [] front) (x ∷ back) ≡ x ∷ kept_from truths (sections_behind truths [] front) back
token_stays truths front x back e k =
    let secs = sections_behind truths [] front in
    let more = kept_from truths (sections_after truths secs (directive_of x.sign)) back in
    ap (λ (g : Bool). cond (not g && all_kept secs) (x ∷ more) more) e
    ∙ ap (λ (b : Bool). cond b (x ∷ more) more) k
    ∙ ap (λ (us : List Section). x ∷ kept_from truths us back) (same_sections truths secs x.sign e)

-- what is known from outside at these values
abbrev outer_at : NameContext → List ℤ → Outside
outer_at context values = outside (given_of context.model.features context.functions context.names values)

-- the items that stay have the fault at the same place
alone_at : (context : NameContext) (items : List Item) (code : FileCode) (place : Place) (values : List ℤ) (b : Bool) → AreApart kinds.Variable false items → StandOutside false None items → AreLevel [] 0 items → AreBeside false items → (f : FirstAt context items code place) → IsExample context f.front f.item.sign values b → MainStays (family.truths_at context values) [] items
    → alone.first_name_fault (outer_at context values) (kept (family.truths_at context values) items) ≡ Some (shown b, place)
unfolding alone.first_name_fault
alone_at context items code place values b apart stand level beside f e m =
    let truths = family.truths_at context values in
    let inner = sections_behind (family.truths_at context values) [] f.front in
    let more : List Item = kept_from (family.truths_at context values) (sections_behind (family.truths_at context values) [] f.front) f.back in
    let main : MainStays (family.truths_at context values) [] f.front = stays_before (family.truths_at context values) [] f.front (f.item ∷ f.back) (subst (MainStays (family.truths_at context values) []) f.are m) in
    let outer = outer_at context values in
    let front_apart = apart_before kinds.Variable false f.front (f.item ∷ f.back) (subst (AreApart kinds.Variable false) f.are apart) in
    let front_stands = stand_before f.front (f.item ∷ f.back) (subst (StandOutside false None) f.are stand) in
    let front_level = level_before [] 0 f.front (f.item ∷ f.back) (subst (AreLevel [] 0) f.are level) in
    let front_beside = beside_before f.front (f.item ∷ f.back) (subst (AreBeside false) f.are beside) in
    let fine : alone.first_name_fault (outer_at context values) (kept (family.truths_at context values) f.front) ≡ None =
    same_outside context values (family.truths_at context values) f.front f.fine
    ∙ kept_fine context (uncounted (values_at context values)) f.front values (values_outside context values) front_apart front_stands front_level front_beside f.fine e.valid main in
    let here = has_fault context (outer_at context values) f.front f.item.sign values b (none_outside context values) front_apart front_stands front_level front_beside main e in
    let are : kept (family.truths_at context values) items ≡ kept (family.truths_at context values) f.front ++ f.item ∷ more =
    ap (kept (family.truths_at context values)) f.are ∙ kept_more (family.truths_at context values) [] f.front (f.item ∷ f.back) ∙ ap (λ (w : List Item). kept (family.truths_at context values) f.front ++ w) (token_stays (family.truths_at context values) f.front f.item f.back here.is_token e.stays) in
    ap (alone.first_name_fault (outer_at context values)) are
    ∙ decides outer [] (kept (family.truths_at context values) f.front) more f.item (shown b) fine here.fault_is
    ∙ ap (λ (p : Place). some_fault (shown b, p)) f.stands

-- ---- the text of the variant

-- what laws of lower crates say
pub record ShownLaws : Type 0 where
  pub texts : TextLaws
  pub keeps : KeepsWithin
  pub plain_texts : VariantsArePlain
  pub loops : LoopLaws
  pub tokens : TokensAreRead

-- the fault of a file is that of a name where loops that declare variables stand as blocks, behind all other phases
record IsOfName (dialect : Dialect) (model : Model) (bytes : List ℕ) (fault : FileCode × Place) : Type 0 where
  told : Told
  listed : Listed
  items : HasItems dialect (plain model) bytes told listed
  atoms : List Atom
  formulas : List Formula
  functions : List (List ℕ)
  conditions : AreConditionsOf (plain model) told.conditions atoms formulas
  program : Whole
  spelled : SpellsWithin listed.names program listed.items
  names : IsFirstNameFault (context_of model atoms formulas listed.names functions) (unfolded listed.items) (Some fault)

both_ways : (code : FileCode) → is_of_name code ≡ true → is_of_name code ≡ false → ⊥
both_ways code h k = let bad : true ≡ false = sym h ∙ k in cc

of_name : ShownLaws → (dialect : Dialect) (model : Model) (bytes : List ℕ) (fault : FileCode × Place) → is_of_name fault.0 ≡ true → IsFamilyRefused dialect model bytes fault → IsOfName dialect model bytes fault
of_name laws dialect model bytes fault h (inl early) = absurd (both_ways fault.0 h (early_other laws.tokens dialect (plain model) bytes fault early))
of_name laws dialect model bytes fault h (inr f) = elim f.is [
  | inl w ↦ absurd (both_ways fault.0 h (ap (λ (c : FileCode × Place). is_of_name c.0) w.is ∙ wrong_other f.listed.items w.position))
  | inr r ↦ (elim r [
    | inl d ↦ absurd (both_ways fault.0 h (ap (λ (c : FileCode × Place). is_of_name c.0) d.is))
    | inr n ↦ record {
      told = f.are.told;
      listed = f.listed;
      items = f.are.items;
      atoms = f.known.atoms;
      formulas = f.known.formulas;
      functions = f.known.functions;
      conditions = f.are.conditions;
      program = n.program;
      spelled = n.spelled;
      names = n.names;
    }
  ])
]

-- the text at the values of an example is the text at the truths of the conditions there
text_at : ShownLaws → (dialect : Dialect) (model : Model) (bytes text : List ℕ) (fault : FileCode × Place) (values : List ℤ) → (n : IsOfName dialect model bytes fault) → IsPreprocessed dialect (plain model) (truths_at values) bytes text
    → IsPreprocessed dialect (plain model) (λ conditions. family.truths_at (context_of model n.atoms n.formulas n.listed.names n.functions) values) bytes text
text_at laws dialect model bytes text fault values n q =
    let same = same_told laws.texts dialect (plain model) bytes q.blanked n.items.blanked q.told n.told q.without_comments n.items.without_comments q.read n.items.read in
    let now : truths_at values q.told.conditions ≡ family.truths_at (context_of model n.atoms n.formulas n.listed.names n.functions) values = ap (λ (t : Told). truths_at values t.conditions) same.told ∙ sym (n.conditions.truths values) in
    record {
      blanked = q.blanked;
      told = q.told;
      without_comments = q.without_comments;
      read = q.read;
      is = q.is ∙ ap (λ (ts : List Bool). preprocessed ts q.told.lines q.blanked) now;
    }

variant_shows : ShownLaws → (dialect : Dialect) (model : Model) (bytes text : List ℕ) (fault : FileCode × Place) (values : List ℤ) (place : Place) (b : Bool) → (n : IsOfName dialect model bytes fault)
    → IsPreprocessed dialect (plain model) (truths_at values) bytes text → IsValid (plain model) values
    → alone.first_name_fault (outer_at (context_of model n.atoms n.formulas n.listed.names n.functions) values) (kept (family.truths_at (context_of model n.atoms n.formulas n.listed.names n.functions) values) (unfolded n.listed.items)) ≡ Some (shown b, place) → IsShown dialect (plain model) bytes text values (shown b, place)
variant_shows laws dialect model bytes text fault values place b n q v e =
    let truths = family.truths_at (context_of model n.atoms n.formulas n.listed.names n.functions) values in
    let there = text_at laws dialect model bytes text fault values n q in
    record {
      valid = v;
      told = n.told;
      listed = n.listed;
      items = n.items;
      refused = λ includes. inr (record {
        listed = record { names = n.listed.names; items = kept truths n.listed.items };
        known = tt;
        are = variant_items laws.texts dialect (plain model) bytes text n.told n.listed truths n.items there (laws.plain_texts dialect (plain model) (λ conditions. truths) bytes text there) includes;
        is = inr (inr (record { program = projected_program truths n.program; spelled = laws.keeps n.listed.names n.listed.items n.program truths n.spelled; names = ap (alone.first_name_fault (outer_at (context_of model n.atoms n.formulas n.listed.names n.functions) values)) (sym (laws.loops.kept n.listed.items n.spelled.file truths n.spelled.forms)) ∙ e }));
      });
    }

-- ---- a refused family

pub undeclared_names_are_shown : ShownLaws → UndeclaredNamesAreShown
undeclared_names_are_shown laws dialect model bytes text values place r q =
    let n = of_name laws dialect model bytes (Undeclared (Some values), place) refl r in
    let first = find_first (context_of model n.atoms n.formulas n.listed.names n.functions) [] (unfolded n.listed.items) (Undeclared (Some values)) place (λ e. cc) n.names refl in
    let example = name_used (context_of model n.atoms n.formulas n.listed.names n.functions) first.front first.item.sign values first.here in
    let blocks : List Item = unfolded n.listed.items in
    let forms : Forms (unfolded n.listed.items) n.spelled.file = laws.loops.file n.listed.items n.spelled.file n.spelled.forms in
    let main = main_stays (family.truths_at (context_of model n.atoms n.formulas n.listed.names n.functions) values) forms in
    variant_shows laws dialect model bytes text (Undeclared (Some values), place) values place true n q example.valid
    (alone_at (context_of model n.atoms n.formulas n.listed.names n.functions) blocks (Undeclared (Some values)) place values true (directives_apart blocks n.spelled.file forms) (directives_outside blocks n.spelled.file forms) (directives_level blocks n.spelled.file forms) (directives_beside blocks n.spelled.file forms) first example main)

pub second_declarations_are_shown : ShownLaws → SecondDeclarationsAreShown
second_declarations_are_shown laws dialect model bytes text values place r q =
    let n = of_name laws dialect model bytes (Twice (Some values), place) refl r in
    let first = find_first (context_of model n.atoms n.formulas n.listed.names n.functions) [] (unfolded n.listed.items) (Twice (Some values)) place (λ e. cc) n.names refl in
    let example = name_again (context_of model n.atoms n.formulas n.listed.names n.functions) first.front first.item.sign values first.here in
    let blocks : List Item = unfolded n.listed.items in
    let forms : Forms (unfolded n.listed.items) n.spelled.file = laws.loops.file n.listed.items n.spelled.file n.spelled.forms in
    let main = main_stays (family.truths_at (context_of model n.atoms n.formulas n.listed.names n.functions) values) forms in
    variant_shows laws dialect model bytes text (Twice (Some values), place) values place false n q example.valid
    (alone_at (context_of model n.atoms n.formulas n.listed.names n.functions) blocks (Twice (Some values)) place values false (directives_apart blocks n.spelled.file forms) (directives_outside blocks n.spelled.file forms) (directives_level blocks n.spelled.file forms) (directives_beside blocks n.spelled.file forms) first example main)
