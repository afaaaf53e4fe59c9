use Rattle.std.proofs.Common.{vec_len}
use Rattle.run_meaning.proofs.Nests.{nest-pop}
use Rattle.run_meaning.proofs.levels.leave_level.Goals as goal

pub returns-clause-level : goal.returns-clause-level
returns-clause-level c =
    nest-pop c.pop.result c.args.levels.now.items c.pop.new.self.items (vec_len c.args.levels.now) (vec_len c.pop.new.self) c.args.levels.now.ok.0 c.pop.new.self.ok.0 c.pop.ensures.items c.pop.ensures.cases
