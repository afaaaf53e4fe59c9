use Rattle.std.proofs.Common.{refl}
use Rattle.c_parser.specs.declared.names.Known.{Known}
use Rattle.c_parser.specs.Judging.{counted}
use Rattle.c_parser.proofs.InScope.{pushed_in_scope}
use Rattle.c_parser.proofs.Judging.{not_declared, now_declared}
use Rattle.c_parser.proofs.names.declare.Goals as goal

pub returns-in-Some : goal.returns-in-Some
returns-in-Some c = λ before k t u.
    not_declared (counted c.args.limits) before c.args.number c.args.known.now c.items.result.now c.barring-barred.result.now c.declaration_fault.result c.in-Some.fault u k c.items.ensures
    (c.barring-barred.ensures before k.locals (c.is_static-is_static.ensures before t)) c.declaration_fault.ensures c.in-Some.is

pub returns : goal.returns
returns c = λ before k t u.
    let static = c.is_static-is_static.ensures before t in
    let new : Known = record { declared = c.push.new.self; locals = c.add.new.self; prototypes = c.args.known.now.prototypes; in_main = c.args.known.now.in_main } in
    now_declared (counted c.args.limits) before c.args.number c.args.known.now new c.items.result.now c.barring-barred.result.now c.declaration_fault.result u k c.items.ensures
    (c.barring-barred.ensures before k.locals static) c.declaration_fault.ensures c.in_default.is refl refl (c.in_ok-add.ensures before k.locals k.main static u)
    (λ p. pushed_in_scope before p c.args.number c.args.known.now.declared c.push.new.self u k.declared c.in_ok-push.ensures.sound c.in_ok-push.ensures.inside c.in_ok-push.ensures.now c.in_ok-push.ensures.later)
