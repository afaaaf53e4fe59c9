use Rattle.certificate_laws.proofs.AcceptedIntervals.{intervals_told, interval_joins}
use Rattle.certificate_laws.proofs.laws.analyses_are_accepted.Goals as goal

pub returns : goal.returns
returns c = c.analyses_told_by_bounds_are_accepted.ensures intervals_told interval_joins
