use Rattle.std.proofs.Common.{rules, List, Bool, ◌≡◌, sym, ◌∙◌, ap, subst, Some, inr}
use Rattle.std.specs.Map.{lookup}
use Rattle.std.proofs.lemmas.Result.{IfOk-weaker}
use Rattle.decision_tree.specs.Plain.{node, leaf_of, IsNodeOf}
use Rattle.decision_tree.specs.declared.forest.Key.TheVariants as key
use Rattle.decision_tree.specs.Keys.{same_key}
use Rattle.decision_tree.specs.Entries.{trees, AreEntries}
use Rattle.decision_tree.specs.Numbered.{erase, root}
use Rattle.decision_tree.specs.Listed.{IsListed, IsOf, IsTreeIn}
use Rattle.decision_tree.specs.View.{numbered}
use Rattle.decision_tree.proofs.Grows.{keeps_more}
use Rattle.decision_tree.proofs.Nodes.{node_found, node_added_at, new_node_listed, differ_of_roots, leads_of_made, tree_made}
use Rattle.decision_tree.proofs.forest.Forest.node.Goals as goal

pub returns-in-Some-clause-made : goal.returns-in-Some-clause-made
returns-in-Some-clause-made g c =
    let es = c.self.inside.entries.entries in
    let no = numbered c.args.no.now in
    let yes = numbered c.args.yes.now in
    let hn : IsListed (trees es) no = rw c.self.view_is c.requires.no.own.listed in
    let hy : IsListed (trees es) yes = rw c.self.view_is c.requires.yes.own.listed in
    let there : lookup (same_key g.L.PartialEq.eq (key.Node c.args.test (root no) (root yes))) es ≡ Some c.in-Some.known.now = search rules in
    let known = node_found g.L.PartialEq.eq c.args.test no yes es c.in-Some.known.now c.self.invariant hn hy there in
    IfOk-weaker c.share-in-Some.result (λ t. numbered t ≡ numbered c.in-Some.known.now) (λ t. IsNodeOf c.args.test (erase no) (erase yes) (erase (numbered t)))
    (λ t e. inr (differ_of_roots (trees es) no yes c.self.invariant.distinct hn hy (search rules), ap erase e ∙ known.0)) (search rules)

pub returns-in-Some-clause-tree : goal.returns-in-Some-clause-tree
returns-in-Some-clause-tree g c =
    let es = c.self.inside.entries.entries in
    let no = numbered c.args.no.now in
    let yes = numbered c.args.yes.now in
    let hn : IsListed (trees es) no = rw c.self.view_is c.requires.no.own.listed in
    let hy : IsListed (trees es) yes = rw c.self.view_is c.requires.yes.own.listed in
    let there : lookup (same_key g.L.PartialEq.eq (key.Node c.args.test (root no) (root yes))) es ≡ Some c.in-Some.known.now = search rules in
    let known = node_found g.L.PartialEq.eq c.args.test no yes es c.in-Some.known.now c.self.invariant hn hy there in
    let made : IsNodeOf c.args.test (erase no) (erase yes) (erase (numbered c.in-Some.known.now)) = inr (differ_of_roots (trees es) no yes c.self.invariant.distinct hn hy (search rules), known.0) in
    let own : IsOf c.args.self.now (numbered c.in-Some.known.now) = rw (← c.self.view_is) (record { listed = known.1; distinct = c.self.invariant.distinct }) in
    IfOk-weaker c.share-in-Some.result (λ t. numbered t ≡ numbered c.in-Some.known.now) (λ t. IsTreeIn c.args.test 320 c.args.self.now (numbered t))
    (λ t e. subst (IsTreeIn c.args.test 320 c.args.self.now) (sym e) (tree_made c.args.test c.args.self.now c.args.self.now no yes (numbered c.in-Some.known.now) c.requires.small c.requires.no c.requires.yes made own)) (search rules)

pub returns-in-Some-clause-leads : goal.returns-in-Some-clause-leads
returns-in-Some-clause-leads g c =
    let es = c.self.inside.entries.entries in
    let no = numbered c.args.no.now in
    let yes = numbered c.args.yes.now in
    let hn : IsListed (trees es) no = rw c.self.view_is c.requires.no.own.listed in
    let hy : IsListed (trees es) yes = rw c.self.view_is c.requires.yes.own.listed in
    let there : lookup (same_key g.L.PartialEq.eq (key.Node c.args.test (root no) (root yes))) es ≡ Some c.in-Some.known.now = search rules in
    let known = node_found g.L.PartialEq.eq c.args.test no yes es c.in-Some.known.now c.self.invariant hn hy there in
    IfOk-weaker c.share-in-Some.result (λ t. numbered t ≡ numbered c.in-Some.known.now) (λ t. (v : List Bool) → leaf_of (erase (numbered t)) v ≡ leaf_of (node c.args.test (erase no) (erase yes)) v)
    (λ t e. leads_of_made c.args.test (erase no) (erase yes) (erase (numbered t)) (inr (differ_of_roots (trees es) no yes c.self.invariant.distinct hn hy (search rules), ap erase e ∙ known.0))) (search rules)

pub invariant_of-self-2 : goal.invariant_of-self-2
invariant_of-self-2 g c =
    let es = c.self.inside.entries.entries in
    let no = numbered c.args.no.now in
    let yes = numbered c.args.yes.now in
    let hn : IsListed (trees es) no = rw c.self.view_is c.requires.no.own.listed in
    let hy : IsListed (trees es) yes = rw c.self.view_is c.requires.yes.own.listed in
    node_added_at g.L.PartialEq.eq c.args.test c.number-3.result c.number-4.result no yes _ es c.add.new.entries.entries c.self.invariant hn hy (search rules) (search rules) (search rules) (search rules) c.in_ok-add.ensures.ok

pub returns-clause-tree : goal.returns-clause-tree
returns-clause-tree g c =
    let es = c.self.inside.entries.entries in
    let no = numbered c.args.no.now in
    let yes = numbered c.args.yes.now in
    let hn : IsListed (trees es) no = rw c.self.view_is c.requires.no.own.listed in
    let hy : IsListed (trees es) yes = rw c.self.view_is c.requires.yes.own.listed in
    let ok : AreEntries c.add.new.entries.entries = node_added_at g.L.PartialEq.eq c.args.test c.number-3.result c.number-4.result no yes _ es c.add.new.entries.entries c.self.invariant hn hy (search rules) (search rules) (search rules) (search rules) c.in_ok-add.ensures.ok in
    let own : IsOf (trees c.add.new.entries.entries) (numbered c.in_ok-answer.answer) = record {
      listed = new_node_listed es c.add.new.entries.entries _ _ c.args.test no yes (numbered c.in_ok-answer.answer) c.in_ok-add.ensures.ok (search rules) hn hy (search rules);
      distinct = ok.distinct;
    } in
    let differ = differ_of_roots (trees es) no yes c.self.invariant.distinct hn hy (search rules) in
    tree_made c.args.test c.args.self.now _ no yes (numbered c.in_ok-answer.answer) c.requires.small c.requires.no c.requires.yes (inr (differ, search rules)) own

pub returns-clause-keeps : goal.returns-clause-keeps
returns-clause-keeps g c =
    let es = c.self.inside.entries.entries in
    let no = numbered c.args.no.now in
    let yes = numbered c.args.yes.now in
    let hn : IsListed (trees es) no = rw c.self.view_is c.requires.no.own.listed in
    let hy : IsListed (trees es) yes = rw c.self.view_is c.requires.yes.own.listed in
    let ok : AreEntries c.add.new.entries.entries = node_added_at g.L.PartialEq.eq c.args.test c.number-3.result c.number-4.result no yes _ es c.add.new.entries.entries c.self.invariant hn hy (search rules) (search rules) (search rules) (search rules) c.in_ok-add.ensures.ok in
    keeps_more es c.add.new.entries.entries _ _ c.args.self.now c.in_ok-add.ensures.ok c.self.view_is ok
