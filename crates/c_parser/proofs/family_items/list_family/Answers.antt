use Rattle.std.proofs.Common.{◌≡◌, ℕ, List, [], length, map, Ok, sym, ap, subst, ◌∙◌, arith}
use Rattle.linear_atoms.specs.declared.atoms.Feature.{Feature}
use Rattle.cpp_conditions.specs.Validity.{plain}
use Rattle.c_grammar.specs.declared.items.Item.{Item}
use Rattle.c_grammar.specs.Facts.{AreFit, AreRising, AreConditionsOf}
use Rattle.cpp_lines.specs.Code.{code_of}
use Rattle.cpp_lines.specs.Sections.{AreSectionsOf}
use Rattle.cpp_lines.specs.declared.line.Line.{Line}
use Rattle.c_parser.specs.declared.numbering.Numbered.{Numbered}
use Rattle.c_parser.specs.FamilyItems.{by_line, feature_names}
use Rattle.c_parser.specs.Functions.{own_functions}
use Rattle.c_parser.specs.Items.{AreDistinct}
use Rattle.c_parser.specs.Order.{arranged}
use Rattle.c_parser.specs.Reading.{items_of_code}
use Rattle.c_parser.specs.Stages.{list, listed_in}
use Rattle.c_parser.proofs.Arranging.{arranged_distinct, arranged_length}
use Rattle.c_parser.proofs.FamilyAnswers.{few_conditions, listed_family}
use Rattle.c_parser.proofs.FamilyFacts.{all_fit, all_conditions, all_rise}
use Rattle.c_parser.proofs.family_items.list_family.Goals as goal

-- the names that are given are those of the text in their order
given_are : (features given_features : List Feature) (first : Numbered) (names : List (List ℕ)) (items : List Item) (made given : List (List ℕ)) → given_features ≡ features → names ≡ first.names → items ≡ first.items.items → made ≡ arranged (map (λ f. f.name) given_features) (list names items) → given ≡ made
    → given ≡ arranged (map (λ f. f.name) features) (listed_in first)
given_are features given_features first names items made given f n i m g =
    g ∙ m ∙ ap (λ (fs : List Feature). arranged (map (λ f. f.name) fs) (list names items)) f
    ∙ ap (λ (ns : List (List ℕ)). arranged (map (λ f. f.name) features) (list ns items)) n ∙ ap (λ (xs : List Item). arranged (map (λ f. f.name) features) (list first.names xs)) i

pub arrange-requires : goal.arrange-requires
arrange-requires c =
    subst (λ (xs : List Item). AreFit (length c.items-3.result.now) xs) (sym c.as_slice.ensures.value)
    (subst (λ (ns : List (List ℕ)). AreFit (length ns) c.in_ok-first.first.items.items) (sym c.items-3.ensures) c.in_ok-first.ensures.proper.fit)

pub number_code-requires-2-clause-distinct : goal.number_code-requires-2-clause-distinct
number_code-requires-2-clause-distinct c =
    subst AreDistinct (sym (given_are c.args.model.now.features c.items-2.result.now c.in_ok-first.first c.items-3.result.now c.as_slice.result.now c.in_ok-arranged.arranged.names c.items-5.result.now c.items-2.ensures c.items-3.ensures c.as_slice.ensures.value c.in_ok-arranged.ensures.names c.items-5.ensures))
    (arranged_distinct (map (λ f. f.name) c.args.model.now.features) (listed_in c.in_ok-first.first) c.in_ok-first.ensures.distinct)

pub number_code-requires-2-clause-few : goal.number_code-requires-2-clause-few
number_code-requires-2-clause-few c =
    let given = given_are c.args.model.now.features c.items-2.result.now c.in_ok-first.first c.items-3.result.now c.as_slice.result.now c.in_ok-arranged.arranged.names c.items-5.result.now c.items-2.ensures c.items-3.ensures c.as_slice.ensures.value c.in_ok-arranged.ensures.names c.items-5.ensures in
    let same = arranged_length (map (λ f. f.name) c.args.model.now.features) (listed_in c.in_ok-first.first) c.in_ok-first.ensures.distinct in
    omega (arith, ap (λ (ns : List (List ℕ)). length ns) given, same, c.in_ok-first.ensures.few, ap (λ (ns : List ℕ). length ns) c.bytes-4.ensures, ap (λ (ns : List ℕ). length ns) c.in_ok-code.ensures, c.places_stay.ensures.code_len c.bytes-2.result.now, ap (λ (ns : List ℕ). length ns) c.bytes-2.ensures, c.in_ok-blanked.ensures.short)

pub returns-clause-listed : goal.returns-clause-listed
returns-clause-listed c =
    let made : c.in_ok-items.items.items ≡ by_line c.in_ok-sections.sections.lines c.in_ok-listed.listed.items.items =
    c.in_ok-items.ensures ∙ ap (λ (ls : List Line). by_line ls c.as_slice-2.result.now) c.items-6.ensures
    ∙ ap (λ (xs : List Item). by_line c.in_ok-sections.sections.lines xs) c.as_slice-2.ensures.value in
    listed_family c.args.dialect (plain c.args.model.now) c.args.bytes.now c.in_ok-blanked.blanked c.in_ok-code.code c.in_ok-sections.sections c.in_ok-functions.functions c.in_ok-first.first c.in_ok-listed.listed c.in_ok-items.items.items c.in_ok-blanked.ensures.value
    (subst (λ (b : List ℕ). AreSectionsOf c.args.dialect (plain c.args.model.now) b c.in_ok-sections.sections) c.bytes.ensures c.in_ok-sections.ensures.read)
    (c.in_ok-code.ensures ∙ ap code_of c.bytes-2.ensures)
    (c.in_ok-functions.ensures.functions ∙ ap own_functions c.bytes-3.ensures)
    (subst (λ (b : List ℕ). items_of_code c.in_ok-functions.functions [] b ≡ Ok (listed_in c.in_ok-first.first)) c.bytes-4.ensures
    (subst (λ (fs : List (List ℕ)). items_of_code fs [] c.bytes-4.result.now ≡ Ok (listed_in c.in_ok-first.first)) c.items.ensures c.in_ok-first.ensures.listed))
    (subst (λ (b : List ℕ). items_of_code c.in_ok-functions.functions (arranged (feature_names (plain c.args.model.now)) (listed_in c.in_ok-first.first)) b ≡ Ok (listed_in c.in_ok-listed.listed)) c.bytes-5.ensures
    (subst (λ (fs : List (List ℕ)). items_of_code fs (arranged (feature_names (plain c.args.model.now)) (listed_in c.in_ok-first.first)) c.bytes-5.result.now ≡ Ok (listed_in c.in_ok-listed.listed)) c.items-4.ensures
    (subst (λ (ns : List (List ℕ)). items_of_code c.items-4.result.now ns c.bytes-5.result.now ≡ Ok (listed_in c.in_ok-listed.listed))
    (given_are c.args.model.now.features c.items-2.result.now c.in_ok-first.first c.items-3.result.now c.as_slice.result.now c.in_ok-arranged.arranged.names c.items-5.result.now c.items-2.ensures c.items-3.ensures c.as_slice.ensures.value c.in_ok-arranged.ensures.names c.items-5.ensures)
    c.in_ok-listed.ensures.listed))) made

pub returns-clause-fit : goal.returns-clause-fit
returns-clause-fit c =
    let made : c.in_ok-items.items.items ≡ by_line c.in_ok-sections.sections.lines c.in_ok-listed.listed.items.items =
    c.in_ok-items.ensures ∙ ap (λ (ls : List Line). by_line ls c.as_slice-2.result.now) c.items-6.ensures
    ∙ ap (λ (xs : List Item). by_line c.in_ok-sections.sections.lines xs) c.as_slice-2.ensures.value in
    subst (λ (xs : List Item). AreFit (length c.in_ok-listed.listed.names) xs) (sym made)
    (all_fit (length c.in_ok-listed.listed.names) c.in_ok-sections.sections.lines c.in_ok-listed.listed.items.items c.in_ok-listed.ensures.proper.fit)

pub returns-clause-rising : goal.returns-clause-rising
returns-clause-rising c =
    let made : c.in_ok-items.items.items ≡ by_line c.in_ok-sections.sections.lines c.in_ok-listed.listed.items.items =
    c.in_ok-items.ensures ∙ ap (λ (ls : List Line). by_line ls c.as_slice-2.result.now) c.items-6.ensures
    ∙ ap (λ (xs : List Item). by_line c.in_ok-sections.sections.lines xs) c.as_slice-2.ensures.value in
    subst AreRising (sym made) (all_rise 1 c.in_ok-sections.sections.lines c.in_ok-listed.listed.items.items c.in_ok-sections.ensures.numbers c.in_ok-listed.ensures.proper.rising)

pub returns-clause-proper : goal.returns-clause-proper
returns-clause-proper c =
    let made : c.in_ok-items.items.items ≡ by_line c.in_ok-sections.sections.lines c.in_ok-listed.listed.items.items =
    c.in_ok-items.ensures ∙ ap (λ (ls : List Line). by_line ls c.as_slice-2.result.now) c.items-6.ensures
    ∙ ap (λ (xs : List Item). by_line c.in_ok-sections.sections.lines xs) c.as_slice-2.ensures.value in
    record {
      numbered = subst (AreConditionsOf (length c.in_ok-sections.sections.conditions)) (sym made)
          (all_conditions (length c.in_ok-sections.sections.conditions) c.in_ok-sections.sections.lines c.in_ok-listed.listed.items.items c.in_ok-sections.ensures.numbered c.in_ok-listed.ensures.proper.plain);
      conditions = record {
        few = c.in_ok-sections.ensures.few;
        atoms = c.in_ok-sections.ensures.atoms;
        rising = c.in_ok-sections.ensures.read.are.atoms_are.rising;
        below = c.in_ok-sections.ensures.below;
        count = omega (arith, few_conditions c.args.dialect (plain c.args.model.now) c.bytes.result.now c.in_ok-sections.sections c.in_ok-sections.ensures.read, ap (λ (b : List ℕ). length b) c.bytes.ensures, c.in_ok-blanked.ensures.short);
      };
    }
