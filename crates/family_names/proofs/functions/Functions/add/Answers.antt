use Rattle.std.proofs.Common.{refl}
use Rattle.family_names.proofs.Calling.{adds_void, adds_value}
use Rattle.family_names.proofs.functions.Functions.add.Goals as goal

pub returns-in_ok-push-2 : goal.returns-in_ok-push-2
returns-in_ok-push-2 c =
    adds_void c.args.self.now _ c.args.groups.now c.in_ok-groups.groups c.in_ok-copy.copy c.args.is_void c.args.name c.if-is_void.true refl c.in_ok-push-2.ensures.items c.in_ok-groups.ensures c.in_ok-push.ensures.items c.in_ok-copy.ensures

pub returns-in_ok-push-3 : goal.returns-in_ok-push-3
returns-in_ok-push-3 c =
    adds_value c.args.self.now _ c.args.groups.now c.in_ok-groups.groups c.in_ok-copy.copy c.args.is_void c.args.name c.if-is_void.false refl c.in_ok-push-3.ensures.items c.in_ok-groups.ensures c.in_ok-push.ensures.items c.in_ok-copy.ensures
