use Rattle.std.proofs.lemmas.Result.{err_from_is_err_and}
use Rattle.feature_model.proofs.Answering.{untold_so, refused_so, read_so, few_so, valid_so}
use Rattle.feature_model.proofs.models.read_model.Goals as goal

pub returns-in_err-features-clause-read : goal.returns-in_err-features-clause-read
returns-in_err-features-clause-read c =
    let p = err_from_is_err_and c.from_residual.result c.from_residual.ensures.1 in
    rw (p.1, p.2) (untold_so c.args.unknown c.args.bytes.now c.in_err-features.field-0.0 c.in_err-features.ensures.told)

pub returns-in_err-add_constraints-clause-read : goal.returns-in_err-add_constraints-clause-read
returns-in_err-add_constraints-clause-read c =
    let p = err_from_is_err_and c.from_residual-in_err-add_constraints.result c.from_residual-in_err-add_constraints.ensures.1 in
    rw (p.1, p.2)
    (refused_so c.args.unknown c.args.bytes.now c.in_ok-features.features.items c.deref.result.now c.in_ok-features.texts.items c.deref-2.result.now c.new-constraints.result.items c.add_constraints.new.made.items c.in_err-add_constraints.field-0.0 c.in_ok-features.ensures.told
    c.deref.ensures.value c.deref-2.ensures.value c.in_err-add_constraints.ensures.read)

pub returns-clause-read : goal.returns-clause-read
returns-clause-read c =
    read_so c.args.unknown c.args.bytes.now c.in_ok-features.features.items c.deref.result.now c.in_ok-features.texts.items c.deref-2.result.now (record { features = c.from_vec.result; constraints = c.from_vec-2.result }) c.new-constraints.result.items c.add_constraints.new.made.items
    c.in_ok-add_constraints.field-0 c.judged.result c.in_ok-features.ensures.told c.deref.ensures.value c.deref-2.ensures.value c.new-constraints.ensures.items c.in_ok-add_constraints.ensures.read c.from_vec.ensures c.from_vec-2.ensures c.judged.ensures.judged

pub returns-clause-atoms : goal.returns-clause-atoms
returns-clause-atoms c = few_so _ c.judged.result c.judged.ensures.judged

pub returns-clause-valid : goal.returns-clause-valid
returns-clause-valid c = valid_so _ c.judged.result c.judged.ensures.judged
