use Rattle.std.proofs.Common.{take, drop}
use Rattle.family_names.specs.NameContexts.{plain}
use Rattle.family_names.specs.Judging.{IsSeen, AreUsed, AreSettled, AreHeld}
use Rattle.family_names.proofs.Walking.{Leads}
use Rattle.family_names.proofs.judging.first_name_fault.Given as goal

abbrev pub invariant-loop-item : goal.invariant-loop-item
invariant-loop-item l = record {
  seen : IsSeen (take l.item-index l.items) l.seen;
  used : AreUsed (plain l.context) (take l.item-index l.items) l.used;
  settled : AreSettled (plain l.context) l.seen.declarations l.settled;
  held : AreHeld (take l.item-index l.items) l.constants;
  fault : Leads (plain l.context) l.items (take l.item-index l.items) (drop l.item-index l.items);
}
