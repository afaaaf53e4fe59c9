use Rattle.std.proofs.lemmas.Result.{err_from_is_err_and}
use Rattle.cpp_conditions.specs.Descent.{expression}
use Rattle.cpp_conditions.specs.Macros.{macros as plain_macros}
use Rattle.cpp_conditions.proofs.Read.{stopped_scan, stopped_parse, deep, tree_read, values_of}
use Rattle.cpp_conditions.proofs.reading.read_condition.Goals as goal

pub returns-in_err-tokens-clause-read : goal.returns-in_err-tokens-clause-read
returns-in_err-tokens-clause-read c =
    let p = err_from_is_err_and c.from_residual.result c.from_residual.ensures.1 in
    rw (p.1, p.2) (stopped_scan (plain_macros c.args.macros) c.args.features.now c.args.bytes.now c.in_err-tokens.field-0.0 c.in_err-tokens.ensures)

pub returns-then-count_deep-gt-MOST_OPERATORS-clause-read :
    goal.returns-then-count_deep-gt-MOST_OPERATORS-clause-read
returns-then-count_deep-gt-MOST_OPERATORS-clause-read c =
    deep (plain_macros c.args.macros) c.args.features.now c.args.bytes.now c.deref.result.now c.in_ok-tokens.tokens.items c.count_deep.result c.in_ok-tokens.ensures c.deref.ensures.value c.count_deep.ensures c.if-count_deep-gt-MOST_OPERATORS.true

pub returns-in_err-tree-clause-read : goal.returns-in_err-tree-clause-read
returns-in_err-tree-clause-read c =
    let p = err_from_is_err_and c.from_residual-in_err-tree.result c.from_residual-in_err-tree.ensures.1 in
    rw (p.1, p.2)
    (stopped_parse (plain_macros c.args.macros) c.args.features.now c.args.bytes.now c.deref.result.now c.deref-2.result.now c.in_ok-tokens.tokens.items c.count_deep.result c.in_err-tree.field-0.0 c.in_ok-tokens.ensures c.deref.ensures.value c.deref-2.ensures.value c.count_deep.ensures
    c.if-count_deep-gt-MOST_OPERATORS.false c.in_err-tree.ensures)

pub returns-clause-read : goal.returns-clause-read
returns-clause-read c =
    tree_read (plain_macros c.args.macros) c.args.features.now _ c.args.bytes.now c.deref.result.now c.deref-2.result.now c.in_ok-tokens.tokens.items c.count_deep.result (expression c.in_ok-tree.tree) c.judge.result c.in_ok-tokens.ensures c.deref.ensures.value c.deref-2.ensures.value c.count_deep.ensures
    c.if-count_deep-gt-MOST_OPERATORS.false c.in_ok-tree.ensures c.in_ok-names.ensures c.judge.ensures.is

pub returns-clause-value : goal.returns-clause-value
returns-clause-value c = values_of (plain_macros c.args.macros) c.args.features.now c.args.bytes.now c.judge.result
    (tree_read (plain_macros c.args.macros) c.args.features.now _ c.args.bytes.now c.deref.result.now c.deref-2.result.now c.in_ok-tokens.tokens.items c.count_deep.result (expression c.in_ok-tree.tree) c.judge.result c.in_ok-tokens.ensures c.deref.ensures.value c.deref-2.ensures.value c.count_deep.ensures
    c.if-count_deep-gt-MOST_OPERATORS.false c.in_ok-tree.ensures c.in_ok-names.ensures c.judge.ensures.is)
