use Rattle.std.proofs.Common.{◌≡◌, true, false, List, ℕ, ap, ◌∙◌}
use Rattle.c_grammar.specs.Scoped.{still}
use Rattle.c_parser.specs.Names.{constant_fault}
use Rattle.c_parser.specs.Judging.{counted}
use Rattle.c_parser.proofs.Holding.{unchanged, changed}
use Rattle.c_parser.proofs.constants.change_fault.Goals as goal

pub returns-then-not-known : goal.returns-then-not-known
returns-then-not-known c = λ before k h limits.
    let main : c.args.known.now.in_main ≡ false = cc in
    unchanged (counted limits) before c.args.known.now c.args.item k main

pub returns : goal.returns
returns c = λ before k h limits.
    let main : c.args.known.now.in_main ≡ true = cc in
    c.constant_fault.ensures
    ∙ ap (λ (ns : List ℕ). constant_fault ns c.change.result) c.items.ensures
    ∙ ap (constant_fault (still 0 c.args.constants.now.names)) (c.change.ensures before h.track)
    ∙ changed limits before c.args.known.now c.args.constants.now c.args.item k h main
