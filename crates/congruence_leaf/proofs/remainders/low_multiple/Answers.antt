use Rattle.std.proofs.Common.{◌≤◌, unsigned_abs, sym, subst}
use Rattle.congruence_leaf.proofs.Sizes.{own_in_int}
use Rattle.congruence_leaf.proofs.Back.{multiple_back, multiple_small}
use Rattle.congruence_leaf.proofs.remainders.low_multiple.Goals as goal

pub returns-clause-value : goal.returns-clause-value
returns-clause-value c = multiple_back c.args.d.low c.args.m (own_in_int c.args.d c.requires.own).low c.requires.int c.requires.some

pub returns-clause-size : goal.returns-clause-size
returns-clause-size c =
    let i = (own_in_int c.args.d c.requires.own).low in
    subst (λ n. unsigned_abs n ≤ 4294967296) (sym (multiple_back c.args.d.low c.args.m i c.requires.int c.requires.some)) (multiple_small c.args.d.low c.args.m i c.requires.int c.requires.some)
