use Rattle.std.proofs.Common.{to_z, of_z, w64}
use Rattle.feature_model.proofs.Setting.{value_small, read_small, values_more}
use Rattle.feature_model.proofs.settings.+settle.Goals as goal

pub returns-clause-small : goal.returns-clause-small
returns-clause-small t c h =
    c.settle.ensures.small (values_more c.args.values.now.items c.push.new.self.items (to_z w64 (of_z w64 c.in-Ok.value)) c.in_ok-push-in-Ok.ensures.items
    (read_small c.in-Ok.value (value_small c.args.number c.in-Some-Some.feature.now c.in-Some-Some.slot c.in-Some-Some.slots.now c.args.slots.now c.in-Ok.value c.in-Some-Some.ensures' c.requires.small c.in-Ok.ensures)) h)
