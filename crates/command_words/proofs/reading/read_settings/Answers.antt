use Rattle.command_words.proofs.Ranges.{parts_ranged}
use Rattle.command_words.proofs.reading.read_settings.Goals as goal

pub returns-clause-ranges : goal.returns-clause-ranges
returns-clause-ranges c = parts_ranged c.args.values.now c.in_ok-chosen.chosen c.in_ok-inputs.inputs c.in_ok-chosen.ensures c.in_ok-inputs.ensures
