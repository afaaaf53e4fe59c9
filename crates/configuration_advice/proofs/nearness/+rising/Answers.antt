use Rattle.std.proofs.Common.{◌∙◌, ap, sym}
use Rattle.configuration_advice.specs.Choices.{changes}
use Rattle.configuration_advice.proofs.Chosen.{open_changes}
use Rattle.configuration_advice.proofs.nearness.+rising.Goals as goal

pub search-requires-clause-changed : goal.search-requires-clause-changed
search-requires-clause-changed t c = sym (ap changes c.requires.nothing ∙ open_changes c.args.question.now.given.now.values)
