use Rattle.std.specs.Prelude.{option_map}
use Rattle.feature_model.proofs.Setting.{word_sets}
use Rattle.feature_model.proofs.slots.step.Goals as goal

pub returns-clause-sets : goal.returns-clause-sets
returns-clause-sets c =
    word_sets c.args.features.now c.args.number c.args.slots.now c.set.new.slots c.set.result c.args.word.now c.parts.result.0.now c.as_bytes.result.now (option_map (λ t. t.now) c.parts.result.1) c.value_of-value.result c.requires.features.ranges c.parts.ensures
    c.as_bytes.ensures.value c.value_of-value.ensures c.set.ensures.sets
