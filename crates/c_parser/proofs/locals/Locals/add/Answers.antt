use Rattle.std.proofs.Common.{refl}
use Rattle.c_parser.specs.declared.locals.Locals.{Locals}
use Rattle.c_parser.proofs.LocalNames.{declared_outside, declared_static, declared_automatic}
use Rattle.c_parser.proofs.locals.Locals.add.Goals as goal

pub returns-then-not-in_main : goal.returns-then-not-in_main
returns-then-not-in_main c = λ before h m s u. declared_outside before c.args.number c.args.in_main c.args.self.now c.if-not-in_main.true m u h

pub returns-in_ok-push-2 : goal.returns-in_ok-push-2
returns-in_ok-push-2 c = λ before h m s u.
    let new : Locals = record { all = c.push.new.self; statics = c.push-then-is_static.new.self } in
    declared_static before c.args.number c.args.in_main c.args.is_static c.args.self.now new c.if-not-in_main.false m c.if-is_static.true s u h c.in_ok-push.ensures.items c.in_ok-push-2.ensures.items

pub returns-else-is_static : goal.returns-else-is_static
returns-else-is_static c = λ before h m s u.
    let new : Locals = record { all = c.push.new.self; statics = c.args.self.now.statics } in
    declared_automatic before c.args.number c.args.in_main c.args.is_static c.args.self.now new c.if-not-in_main.false m c.if-is_static.false s u h c.in_ok-push.ensures.items refl
