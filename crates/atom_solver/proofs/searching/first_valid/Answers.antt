use Rattle.std.specs.Prelude.{IfSome}
use Rattle.std.proofs.lemmas.Result.{IfOk-weaker}
use Rattle.std.proofs.Common.{ℤ, List, Option, None, sym, subst}
use Rattle.linear_atoms.specs.declared.atoms.Config.{Config}
use Rattle.cpp_conditions.specs.Propositions.{true_at}
use Rattle.cpp_conditions.specs.Validity.{IsConfig}
use Rattle.cpp_conditions.specs.View.{proposition, formula}
use Rattle.atom_solver.specs.Solutions.{Finds}
use Rattle.atom_solver.specs.Spans.{ranges, meets, FindsIn}
use Rattle.atom_solver.specs.Truths.{StandsFor}
use Rattle.atom_solver.proofs.Listed.{stands_too}
use Rattle.atom_solver.proofs.Boxed.{fit_box, wanted_box, found_box}
use Rattle.atom_solver.proofs.Pointing.{found_config}
use Rattle.atom_solver.proofs.searching.first_valid.Goals as goal

pub search-requires-clause-constraints : goal.search-requires-clause-constraints
search-requires-clause-constraints c = fit_box c.args.model.now c.args.spans.now (meets c.args.model.now.constraints (proposition c.args.wanted.now)) c.items-constraints.result.now c.requires.spans c.items-constraints.ensures c.requires.constraints

pub search-requires-clause-wanted : goal.search-requires-clause-wanted
search-requires-clause-wanted c = wanted_box c.args.model.now c.args.spans.now (meets c.args.model.now.constraints (proposition c.args.wanted.now)) (proposition c.args.wanted.now) c.requires.spans c.requires.wanted

pub search-requires-clause-ranges : goal.search-requires-clause-ranges
search-requires-clause-ranges c = c.requires.spans.some

pub search-requires-clause-asked : goal.search-requires-clause-asked
search-requires-clause-asked c =
    let p = proposition c.args.wanted.now in
    let old = c.args.question.now in
    let new = c.in_ok-whole.whole in
    subst (λ x. StandsFor c.items-constraints.result.now p x (formula new.asked)) (sym c.deref.ensures.value)
    (subst (λ x. StandsFor x p new.atoms.items (formula new.asked)) (sym c.items-constraints.ensures)
    (stands_too c.args.model.now.constraints p old.atoms.items new.atoms.items (formula old.asked) (formula new.asked) c.requires.question c.in_ok-whole.ensures))

pub returns-clause-first : goal.returns-clause-first
returns-clause-first c =
    let p = proposition c.args.wanted.now in
    IfOk-weaker c.search.result (λ (found : Option Config). FindsIn (ranges c.args.spans.now) (meets c.items-constraints.result.now p) found) (λ (found : Option Config). Finds c.args.model.now (λ (values : List ℤ). true_at values p) found)
    (λ found f. found_box c.args.model.now p c.args.spans.now c.items-constraints.result.now found c.requires.spans c.items-constraints.ensures f)
    c.search.ensures

pub returns-clause-config : goal.returns-clause-config
returns-clause-config c =
    let p = proposition c.args.wanted.now in
    IfOk-weaker c.search.result (λ (found : Option Config). FindsIn (ranges c.args.spans.now) (meets c.items-constraints.result.now p) found) (λ (found : Option Config). IfSome found (λ config. IsConfig c.args.model.now.features config.values))
    (λ found f. found_config c.args.model.now (λ (values : List ℤ). true_at values p) found c.requires.ranges
    (found_box c.args.model.now p c.args.spans.now c.items-constraints.result.now found c.requires.spans c.items-constraints.ensures f))
    c.search.ensures

pub returns-then-branch-clause-first : goal.returns-then-branch-clause-first
returns-then-branch-clause-first c = found_box c.args.model.now (proposition c.args.wanted.now) c.args.spans.now c.items-constraints.result.now None c.requires.spans c.items-constraints.ensures (c.in_ok-are_opposed.ensures c.if-branch.true)
