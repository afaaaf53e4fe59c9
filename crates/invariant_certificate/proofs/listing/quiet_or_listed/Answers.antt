use Rattle.cpp_conditions.specs.View.{formula}
use Rattle.decision_tree.specs.View.{numbered, plain}
use Rattle.decision_tree.proofs.Numbers.{numbered_tree}
use Rattle.invariant_certificate.proofs.Covering.{covers, covers_below, numbered_in_forest}
use Rattle.invariant_certificate.proofs.listing.quiet_or_listed.Goals as goal

pub unify_in-requires-clause-u : goal.unify_in-requires-clause-u
unify_in-requires-clause-u g c = numbered_tree 0 320 _ (numbered c.in_ok-region.region) c.in_ok-region.ensures.tree

pub returns-clause-truth : goal.returns-clause-truth
returns-clause-truth g c =
    covers c.unify_in.result (plain c.args.tree.now) (plain c.in_ok-region.region) (formula c.args.listed.now) c.in_ok-region.ensures.means _ (λ a b d h. h) c.unify_in.ensures.unified

pub returns-clause-tests : goal.returns-clause-tests
returns-clause-tests g c =
    covers_below c.unify_in.result (plain c.args.tree.now) (plain c.in_ok-region.region) (formula c.args.listed.now) c.in_ok-region.ensures.means c.unify_in.ensures.tests

pub returns-clause-numbered : goal.returns-clause-numbered
returns-clause-numbered g c = numbered_in_forest c.unify_in.result c.unify_in.new.forest c.unify_in.ensures.tree
