use Rattle.std.proofs.Common.{◌≡◌, ◌++◌, take}
use Rattle.alarm_page.specs.Escapes.{escaped}
use Rattle.alarm_page.specs.Laws.{AreBytes}
use Rattle.alarm_page.proofs.escapes.push_escaped.Given as goal

abbrev pub invariant-loop-byte : goal.invariant-loop-byte
invariant-loop-byte l = (l.text.items ≡ l.fn.text.items ++ escaped (take l.byte-index l.bytes)) × AreBytes (take l.byte-index l.bytes)
