use Rattle.std.proofs.Common.{◌≡◌, ◌++◌}
use Rattle.alarm_page.specs.Pages.{numbers_up_to}
use Rattle.alarm_page.proofs.page.push_numbers.Given as goal

abbrev pub invariant-loop-before : goal.invariant-loop-before
invariant-loop-before l = l.text.items ≡ l.fn.text.items ++ numbers_up_to l.before
