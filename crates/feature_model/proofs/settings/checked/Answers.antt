use Rattle.std.proofs.Common.{sym, ◌∙◌}
use Rattle.cpp_conditions.specs.Validity.{plain}
use Rattle.cpp_conditions.proofs.Within.{valid_parts, config_of}
use Rattle.feature_model.proofs.settings.checked.Goals as goal

pub returns-then-is_valid-clause-config : goal.returns-then-is_valid-clause-config
returns-then-is_valid-clause-config c =
    config_of c.args.model.now.features c.args.config.values c.requires.features.ranges (valid_parts (plain c.args.model.now) c.args.config.values (sym c.is_valid.ensures ∙ c.if-is_valid.true)).0
