use Rattle.famlint_core.proofs.Theorem.{quiet_programs, read_programs}
use Rattle.famlint_core.proofs.laws.quiet_programs_are_safe.Goals as goal

pub returns-clause-safe : goal.returns-clause-safe
returns-clause-safe c = quiet_programs c.reads_at_most_once.ensures

pub returns-clause-read : goal.returns-clause-read
returns-clause-read c = read_programs
