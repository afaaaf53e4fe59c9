use Rattle.std.proofs.Common.{rules, ◌≡◌, ◌+◌, length, sym, ◌∙◌, ap, subst, Some}
use Rattle.std.specs.Map.{lookup}
use Rattle.std.proofs.lemmas.Result.{IfOk-weaker}
use Rattle.decision_tree.specs.Plain.{leaf}
use Rattle.decision_tree.specs.declared.forest.Key.TheVariants as key
use Rattle.decision_tree.specs.declared.tree.Tree.TheVariants as tree
use Rattle.decision_tree.specs.Keys.{same_key}
use Rattle.decision_tree.specs.Entries.{trees, AreEntries}
use Rattle.decision_tree.specs.Numbered.{erase}
use Rattle.decision_tree.specs.Listed.{IsListed, IsOf, IsTreeIn}
use Rattle.decision_tree.specs.View.{numbered}
use Rattle.decision_tree.proofs.Grows.{leaf_added, keys_of_leaf, known_leaf, new_listed, keeps_more}
use Rattle.decision_tree.proofs.Nodes.{leaf_tree}
use Rattle.decision_tree.proofs.forest.Forest.leaf.Goals as goal

pub invariant_of-self-2 : goal.invariant_of-self-2
invariant_of-self-2 g c =
    let es = c.self.inside.entries.entries in
    let count : c.in_ok-kept.kept.value.number ≡ length es + 1 = search rules in
    let value : c.in_ok-kept.kept.value.value ≡ c.args.value = search rules in
    let copied : c.in_ok-clone.field-0.value.value ≡ c.args.value = search rules in
    leaf_added g.L.PartialEq.eq c.args.value (key.Leaf c.in_ok-clone.field-0) (tree.Leaf c.in_ok-kept.kept) es _ (g.met.L.Eq.laws.refl _) c.self.invariant (search rules)
    (keys_of_leaf g.L.PartialEq.eq c.in_ok-clone.field-0 c.args.value copied) (search rules) (search rules) (search rules)

pub returns-in-Some-clause-same : goal.returns-in-Some-clause-same
returns-in-Some-clause-same g c =
    let es = c.self.inside.entries.entries in
    let copied : c.in_ok-clone.field-0.value.value ≡ c.args.value = search rules in
    let there : lookup (same_key g.L.PartialEq.eq (key.Leaf c.in_ok-clone.field-0)) es ≡ Some c.in-Some.found.now = search rules in
    let known = known_leaf g.L.PartialEq.eq c.in_ok-clone.field-0 c.args.value es c.in-Some.found.now c.requires copied c.self.invariant there in
    IfOk-weaker c.share.result (λ t. numbered t ≡ numbered c.in-Some.found.now) (λ t. erase (numbered t) ≡ leaf c.args.value) (λ t e. ap erase e ∙ known.0) (search rules)

pub returns-in-Some-clause-tree : goal.returns-in-Some-clause-tree
returns-in-Some-clause-tree g c =
    let es = c.self.inside.entries.entries in
    let copied : c.in_ok-clone.field-0.value.value ≡ c.args.value = search rules in
    let there : lookup (same_key g.L.PartialEq.eq (key.Leaf c.in_ok-clone.field-0)) es ≡ Some c.in-Some.found.now = search rules in
    let known = known_leaf g.L.PartialEq.eq c.in_ok-clone.field-0 c.args.value es c.in-Some.found.now c.requires copied c.self.invariant there in
    rw (← c.self.view_is) (IfOk-weaker c.share.result (λ t. numbered t ≡ numbered c.in-Some.found.now) (λ t. IsTreeIn 0 320 (trees es) (numbered t)) (λ t e. leaf_tree 0 320 (trees es) (numbered t) c.args.value (ap erase e ∙ known.0) (record { listed = subst (IsListed (trees es)) (sym e) known.1; distinct = c.self.invariant.distinct })) (search rules))

pub returns-clause-tree : goal.returns-clause-tree
returns-clause-tree g c =
    let es = c.self.inside.entries.entries in
    let t = tree.Leaf c.in_ok-kept.kept in
    let count : c.in_ok-kept.kept.value.number ≡ length es + 1 = search rules in
    let value : c.in_ok-kept.kept.value.value ≡ c.args.value = search rules in
    let copied : c.in_ok-clone.field-0.value.value ≡ c.args.value = search rules in
    let ok : AreEntries c.add.new.entries.entries = leaf_added g.L.PartialEq.eq c.args.value (key.Leaf c.in_ok-clone.field-0) t es _ (g.met.L.Eq.laws.refl _) c.self.invariant (search rules)
    (keys_of_leaf g.L.PartialEq.eq c.in_ok-clone.field-0 c.args.value copied) (search rules) (search rules) (search rules) in
    let own : IsOf (trees c.add.new.entries.entries) (numbered c.in_ok-answer.answer) = record {
      listed = new_listed es c.add.new.entries.entries (key.Leaf c.in_ok-clone.field-0) t c.args.value (numbered c.in_ok-answer.answer) (search rules) (search rules) (search rules);
      distinct = ok.distinct;
    } in
    leaf_tree 0 320 _ (numbered c.in_ok-answer.answer) c.args.value (search rules) own

pub returns-clause-keeps : goal.returns-clause-keeps
returns-clause-keeps g c =
    let es = c.self.inside.entries.entries in
    let t = tree.Leaf c.in_ok-kept.kept in
    let count : c.in_ok-kept.kept.value.number ≡ length es + 1 = search rules in
    let value : c.in_ok-kept.kept.value.value ≡ c.args.value = search rules in
    let copied : c.in_ok-clone.field-0.value.value ≡ c.args.value = search rules in
    let ok : AreEntries c.add.new.entries.entries = leaf_added g.L.PartialEq.eq c.args.value (key.Leaf c.in_ok-clone.field-0) t es _ (g.met.L.Eq.laws.refl _) c.self.invariant (search rules)
    (keys_of_leaf g.L.PartialEq.eq c.in_ok-clone.field-0 c.args.value copied) (search rules) (search rules) (search rules) in
    keeps_more es c.add.new.entries.entries (key.Leaf c.in_ok-clone.field-0) t c.args.self.now (search rules) c.self.view_is ok
