use Rattle.std.proofs.Common.{rules}
use Rattle.feature_model.proofs.Judging.{features_so, distinct_so, named_so, switches_so}
use Rattle.feature_model.proofs.models.told.Goals as goal

pub returns-in_ok-features-in-None-clause-features : goal.returns-in_ok-features-in-None-clause-features
returns-in_ok-features-in-None-clause-features c =
    features_so c.args.made.now.entries.items c.deref.result.now c.deref-in-None.result.now c.in_ok-features-in-None.field-0.items c.deref.ensures.value c.deref-in-None.ensures.value c.in-None.ensures c.in_ok-features-in-None.ensures (search rules)

pub returns-in_ok-features-in-None-clause-distinct : goal.returns-in_ok-features-in-None-clause-distinct
returns-in_ok-features-in-None-clause-distinct c =
    distinct_so c.args.made.now.entries.items c.deref.result.now c.deref-in-None.result.now c.in_ok-features-in-None.field-0.items c.deref.ensures.value c.deref-in-None.ensures.value c.in-None.ensures c.in_ok-features-in-None.ensures

pub returns-in_ok-features-in-None-clause-named : goal.returns-in_ok-features-in-None-clause-named
returns-in_ok-features-in-None-clause-named c =
    named_so c.args.made.now.entries.items c.deref.result.now c.deref-in-None.result.now c.in_ok-features-in-None.field-0.items c.deref.ensures.value c.deref-in-None.ensures.value c.in-None.ensures c.in_ok-features-in-None.ensures

pub returns-in_ok-features-in-None-clause-switches : goal.returns-in_ok-features-in-None-clause-switches
returns-in_ok-features-in-None-clause-switches c = switches_so c.deref-in-None.result.now c.in_ok-features-in-None.field-0.items c.in_ok-features-in-None.ensures
