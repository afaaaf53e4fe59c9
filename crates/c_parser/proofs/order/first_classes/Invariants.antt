use Rattle.std.proofs.Common.{◌≡◌, ℕ, length, take, drop}
use Rattle.c_grammar.specs.Changes.{IsTrack}
use Rattle.c_grammar.specs.Facts.{AreFit}
use Rattle.c_grammar.specs.Classes.{class_in}
use Rattle.c_parser.specs.Names.{has_main}
use Rattle.c_parser.specs.Order.{class_by}
use Rattle.c_parser.proofs.Ordering.{classes_behind}
use Rattle.c_parser.proofs.order.first_classes.Given as goal

abbrev pub invariant-loop-item : goal.invariant-loop-item
invariant-loop-item l = record {
  count : length l.kept.items ≡ l.count;
  fit : AreFit l.count (drop l.item-index l.items);
  main : l.in_main ≡ has_main (take l.item-index l.items);
  track : IsTrack (take l.item-index l.items) l.track;
  first : (x : ℕ) → class_by l.kept.items (classes_behind (take l.item-index l.items) (drop l.item-index l.items)) x ≡ class_in l.items x;
}
