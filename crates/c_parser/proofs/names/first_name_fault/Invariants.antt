use Rattle.std.proofs.Common.{◌≡◌, take, drop}
use Rattle.c_parser.specs.Names.{first_name_fault, name_fault_from}
use Rattle.c_parser.specs.Judging.{IsKnown, AreHeld, counted}
use Rattle.c_parser.proofs.names.first_name_fault.Given as goal

abbrev pub invariant-loop-item : goal.invariant-loop-item
invariant-loop-item l = record {
  known : IsKnown (take l.item-index l.items) l.known;
  held : AreHeld (take l.item-index l.items) l.constants;
  fault : first_name_fault (counted l.limits) l.items ≡ name_fault_from (counted l.limits) (take l.item-index l.items) (drop l.item-index l.items);
}
