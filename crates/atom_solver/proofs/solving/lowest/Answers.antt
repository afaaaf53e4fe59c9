use Rattle.std.specs.Prelude.{IfSome}
use Rattle.std.proofs.lemmas.Result.{IfOk-weaker}
use Rattle.std.proofs.Common.{ℕ, ℤ, List, Option, Some, true, length, map, sym, ap, subst, ◌∙◌}
use Rattle.linear_atoms.specs.declared.atoms.Config.{Config}
use Rattle.cpp_conditions.specs.Propositions.{Const, IsFit}
use Rattle.cpp_conditions.specs.Validity.{AreFit}
use Rattle.cpp_conditions.specs.View.{proposition}
use Rattle.atom_solver.specs.Solutions.{Finds, all_hold}
use Rattle.atom_solver.specs.Spans.{span_of, meets, FindsLow}
use Rattle.atom_solver.proofs.Foremost.{low_count, low_first}
use Rattle.atom_solver.proofs.Pointing.{box_is}
use Rattle.atom_solver.proofs.Wants.{literals_fit}
use Rattle.atom_solver.proofs.solving.lowest.Goals as goal

pub at_lows-requires-clause-constraints : goal.at_lows-requires-clause-constraints
at_lows-requires-clause-constraints c =
    let m = c.args.model.now in
    low_count m c.deref.result.now c.in_ok-spans.spans.items (λ (n : ℕ). AreFit n c.items-2.result.now) c.deref.ensures.value (c.in_ok-spans.ensures ∙ ap (map span_of) c.items.ensures)
    (subst (λ x. AreFit (length m.features) x) (sym c.items-2.ensures) c.requires.constraints)

pub at_lows-requires-clause-wanted : goal.at_lows-requires-clause-wanted
at_lows-requires-clause-wanted c =
    let m = c.args.model.now in
    let p = proposition c.in_ok-wanted.wanted in
    low_count m c.deref.result.now c.in_ok-spans.spans.items (λ (n : ℕ). IsFit n p) c.deref.ensures.value (c.in_ok-spans.ensures ∙ ap (map span_of) c.items.ensures)
    (subst (IsFit (length m.features)) (sym c.in_ok-wanted.ensures) (literals_fit (length m.features) c.args.literals.now (Const true) c.requires.literals tt))

pub at_lows-requires-clause-ranges : goal.at_lows-requires-clause-ranges
at_lows-requires-clause-ranges c =
    box_is c.args.model.now.features c.deref.result.now (c.deref.ensures.value ∙ c.in_ok-spans.ensures ∙ ap (map span_of) c.items.ensures) c.requires.ranges

pub returns : goal.returns
returns c =
    let m = c.args.model.now in
    let ls = c.args.literals.now in
    let p = proposition c.in_ok-wanted.wanted in
    let box = c.deref.result.now in
    let cs = c.items-2.result.now in
    IfOk-weaker c.at_lows.result (λ (found : Option Config). FindsLow box (meets cs p) found) (λ (found : Option Config). IfSome found (λ (k : Config). Finds m (λ (values : List ℤ). all_hold ls values) (Some k)))
    (λ found f. low_first m ls p box cs found c.in_ok-wanted.ensures (c.deref.ensures.value ∙ c.in_ok-spans.ensures ∙ ap (map span_of) c.items.ensures) c.items-2.ensures f)
    c.at_lows.ensures
