use Rattle.std.proofs.Common.{◌≡◌, take}
use Rattle.c_grammar.specs.Deep.{tail_depth}
use Rattle.item_reader.specs.Limits.{capped}
use Rattle.reading_states.specs.Views.{as_parts}
use Rattle.item_reader.proofs.limits.tail_depth.Given as goal

abbrev pub invariant-loop-part : goal.invariant-loop-part
invariant-loop-part l = l.total ≡ capped (tail_depth (as_parts (take l.part-index l.parts)))
