-- The names in scope behind declarations before `main`, and the constants among them, are those that the grammar declares.
use Rattle.std.proofs.Common.{◌≡◌, false, List, [], refl, sym, ap, ◌∙◌, append-nil}
use Rattle.c_tree.specs.declared.lists.Declared.{Declared}
use Rattle.c_grammar.specs.declared.constants.NameKind.TheVariants as kinds
use Rattle.c_grammar.specs.declared.items.Item.{Item}
use Rattle.c_grammar.specs.Constants.{of_constants}
use Rattle.c_grammar.specs.Kept.{kept}
use Rattle.c_grammar.specs.Locals.{names_of}
use Rattle.c_grammar.proofs.Scoping.{still_before_main}
use Rattle.family_names.specs.AroundMain.{has_main}
use Rattle.family_names.proofs.Holding.{from_main}
use Rattle.c_parser.specs.Names.{targets}
use Rattle.c_parser.proofs.LocalDeclarations.{names_before}
use Rattle.reading_laws.specs.Declaring.{holding, constants_in, OuterScopesHold}
use Rattle.reading_laws.proofs.OuterNames.{standing, holds}
use Rattle.reading_laws.proofs.OuterConstants.{constants_standing, constants_hold}

pub outer_scopes_hold : OuterScopesHold
outer_scopes_hold t us ds d =
    let main : has_main us ≡ false = (names_before d).no_main in
    let cs : List Declared = constants_in d in
    record {
      names = ap (λ (w : List Item). names_of (kept t w)) (still_before_main 0 us main) ∙ ap (standing t []) (sym (append-nil us)) ∙ holds t d [] refl [] ∙ append-nil (targets (holding t ds));
      constants = ap (λ (w : List Item). names_of (kept t w)) (still_before_main 0 (of_constants us) (from_main kinds.Variable us ∙ main))
          ∙ ap (constants_standing t []) (sym (append-nil us)) ∙ constants_hold t d [] refl [] ∙ append-nil (targets (holding t cs));
    }
