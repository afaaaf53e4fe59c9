use Rattle.std.proofs.Common.{◌+◌, ◌-◌, ◌*◌, ◌<◌, ℤ, List, Option, not, length, sym, subst, arith}
use Rattle.std.proofs.lemmas.Result.{IfOk-weaker}
use Rattle.linear_atoms.specs.declared.atoms.Config.{Config}
use Rattle.cpp_conditions.specs.Numbering.{vector_at}
use Rattle.cpp_conditions.specs.Propositions.{true_on}
use Rattle.cpp_conditions.specs.View.{formula}
use Rattle.decision_tree.specs.View.{numbered, plain}
use Rattle.atom_solver.specs.Solutions.{IsFirst}
use Rattle.tree_questions.specs.Least.{Improves, is_met}
use Rattle.tree_questions.proofs.Asked.{side_asked}
use Rattle.tree_questions.proofs.Sides.{near_first, sides_found}
use Rattle.tree_questions.proofs.searching.+search.Goals as goal

pub improve-improve-requires : goal.improve-improve-requires
improve-improve-requires t c =
    let q = c.args.question.now in
    let wanted = formula c.args.wanted.now in
    let truth = c.truth_at-truth.result in
    let test : (c.in-Some.test < 320) × (c.in-Some.test < length q.atoms.now) = rw c.in-Some.is at c.in_ok-next_test.ensures in
    let said = c.in_ok-wanted_near-in-Some.ensures in
    let near = c.in_ok-near-in-Some.near in
    let falls : 2 * (c.args.left - 1) < t = omega (arith, c.decreases, c.if-left-eq0.false) in (
      falls,
      (
        side_asked q wanted (formula c.in_ok-wanted_near-in-Some.wanted_near) (numbered c.args.tree.now) (numbered near) c.args.best c.args.best c.in-Some.test truth c.requires.asked test.1 said
            c.in_ok-near-in-Some.ensures.tests c.in_ok-near-in-Some.ensures.numbered c.requires.asked.count,
        (
          subst (λ p. IsFirst q.prepared.now (λ (values : List ℤ). true_on (vector_at q.atoms.now values) p) c.args.least.values) (sym said)
              (near_first q.atoms.now wanted (plain c.args.tree.now) c.in-Some.test q.prepared.now truth c.args.least.values c.requires.least c.truth_at-truth.ensures),
          (c.requires.config, c.requires.ahead),
        ),
      ),
    )

pub improve-search-requires : goal.improve-search-requires
improve-search-requires t c =
    let q = c.args.question.now in
    let test : (c.in-Some.test < 320) × (c.in-Some.test < length q.atoms.now) = rw c.in-Some.is at c.in_ok-next_test.ensures in
    let falls : 2 * (c.args.left - 1) + 1 < t = omega (arith, c.decreases, c.if-left-eq0.false) in (
      falls,
      side_asked q (formula c.args.wanted.now) (formula c.in_ok-wanted_far-in-Some.wanted_far) (numbered c.args.tree.now) (numbered c.in_ok-far-in-Some.far) c.args.best c.in_ok-found-in-Some.found c.in-Some.test
          (not c.truth_at-truth.result) c.requires.asked test.1 c.in_ok-wanted_far-in-Some.ensures c.in_ok-far-in-Some.ensures.tests c.in_ok-far-in-Some.ensures.numbered c.in_ok-found-in-Some.ensures.count,
    )

pub improve-returns-in_ok-found-in-Some-clause-found : goal.improve-returns-in_ok-found-in-Some-clause-found
improve-returns-in_ok-found-in-Some-clause-found t c =
    let q = c.args.question.now in
    let atoms = q.atoms.now in
    let model = q.prepared.now in
    let wanted = formula c.args.wanted.now in
    let tree = plain c.args.tree.now in
    let near = plain c.in_ok-near-in-Some.near in
    let far = plain c.in_ok-far-in-Some.far in
    let found = c.in_ok-found-in-Some.found in
    IfOk-weaker c.search.result (Improves model (is_met atoms (formula c.in_ok-wanted_far-in-Some.wanted_far) far) found) (Improves model (is_met atoms wanted tree) c.args.best)
    (λ (made : Option Config) h. sides_found atoms wanted tree c.in-Some.test model c.truth_at-truth.result near far c.in_ok-near-in-Some.ensures.leads c.in_ok-far-in-Some.ensures.leads c.args.best found made
    (subst (λ p. Improves model (is_met atoms p near) c.args.best found) c.in_ok-wanted_near-in-Some.ensures c.in_ok-found-in-Some.ensures.found)
    (subst (λ p. Improves model (is_met atoms p far) found made) c.in_ok-wanted_far-in-Some.ensures h))
    c.search.ensures.found
