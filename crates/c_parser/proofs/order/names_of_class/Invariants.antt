use Rattle.std.proofs.Common.{◌≡◌, List, length, map}
use Rattle.std.specs.List.{filter, range_with_len}
use Rattle.c_grammar.specs.declared.items.Item.{Item}
use Rattle.c_parser.specs.Names.{names_at}
use Rattle.c_parser.specs.Order.{AreClasses, is_of_class}
use Rattle.c_parser.specs.Stages.{list}
use Rattle.c_parser.proofs.order.names_of_class.Given as goal

abbrev pub invariant-loop-number : goal.invariant-loop-number
invariant-loop-number l = (items : List Item) → AreClasses (length l.names) items l.kept → l.made.items ≡ names_at l.names (filter (is_of_class l.class (map (λ f. f.name) l.features) (list l.names items)) (range_with_len 0 l.number))
