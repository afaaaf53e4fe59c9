use Rattle.std.proofs.Common.{◌∙◌, rules, tests}
use Rattle.std.proofs.lemmas.Iterator.{YieldsList-from_slice}
use Rattle.std.proofs.lemmas.Iterator.Search.{any_from_yields_List}
use Rattle.c_grammar.specs.declared.items.Item.{Item}
use Rattle.c_grammar.specs.Grammar.{is_group}
use Rattle.item_reader.proofs.Directives.{any_group}
use Rattle.item_reader.proofs.programs.has_groups.Goals as goal

pub returns : goal.returns
returns c =
    any_from_yields_List (λ (x : Item). is_group x.sign) _ _ _ c.any.ensures.ran (YieldsList-from_slice c.args.items.now (cc)) (λ x b q k. search (rules, tests))
    ∙ any_group c.args.items.now
