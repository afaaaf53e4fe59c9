use Rattle.std.proofs.Common.{refl, sym, ◌∙◌}
use Rattle.std.proofs.lemmas.Result.{IfOk-weaker}
use Rattle.c_grammar.specs.declared.items.Sign.TheVariants as signs
use Rattle.c_parser.specs.declared.names.Known.{Known}
use Rattle.c_parser.specs.Judging.{JudgesFunction, Judges, counted}
use Rattle.c_parser.proofs.Judging.{at_main, at_use, at_declaration, at_function, at_other, other_sign}
use Rattle.c_parser.proofs.names.judge.Goals as goal

pub returns-in_ok-follow_blocks-in-Main : goal.returns-in_ok-follow_blocks-in-Main
returns-in_ok-follow_blocks-in-Main c = λ before k t.
    at_main (counted c.args.limits) before c.args.sign c.args.known.now c.follow_blocks.new.names c.in-Main.is k (c.in_ok-follow_blocks-in-Main.ensures before k.declared k.main)

pub returns-then-uses_next : goal.returns-then-uses_next
returns-then-uses_next c = λ before k t.
    at_use (counted c.args.limits) before c.args.sign c.args.known.now c.in-Name.number c.uses_next.result c.is_in_own-is_in_own.result c.items.result.now c.use_fault.result c.in-Name.is c.if-uses_next.true (c.uses_next.ensures before k.main t) (c.is_in_own-is_in_own.ensures before t) k
    c.items.ensures (c.use_fault.ensures c.args.limits)

pub returns-else-uses_next : goal.returns-else-uses_next
returns-else-uses_next c = λ before k t.
    IfOk-weaker c.declare.result (λ fault. Judges (counted c.args.limits) before (signs.Name c.in-Name.number) c.declare.new.known fault) (λ fault. Judges (counted c.args.limits) before c.args.sign c.declare.new.known fault)
    (λ fault j. at_declaration (counted c.args.limits) before c.args.sign c.declare.new.known c.in-Name.number fault c.in-Name.is j) (c.declare.ensures before k t (sym (c.uses_next.ensures before k.main t) ∙ c.if-uses_next.false))

pub returns-in_ok-follow_blocks-in_default : goal.returns-in_ok-follow_blocks-in_default
returns-in_ok-follow_blocks-in_default c = λ before k t.
    at_other (counted c.args.limits) before c.args.sign c.args.known.now c.follow_blocks-in_default.new.names (other_sign c.args.sign c.in_default.not-Name c.in_default.not-Main c.in_default.not-Function) k
    (c.in_ok-follow_blocks-in_default.ensures before k.declared k.main)

pub returns-in-Function : goal.returns-in-Function
returns-in-Function c = λ before k t.
    let new : Known = record { declared = c.args.known.now.declared; locals = c.args.known.now.locals; prototypes = c.judge.new.self; in_main = c.args.known.now.in_main } in
    IfOk-weaker c.judge.result (λ fault. JudgesFunction before c.in-Function.number c.judge.new.self fault) (λ fault. Judges (counted c.args.limits) before c.args.sign new fault)
    (λ fault f. at_function (counted c.args.limits) before c.args.sign c.args.known.now new c.in-Function.number fault c.in-Function.is refl refl refl k f) (c.judge.ensures before k.main k.prototypes t)
