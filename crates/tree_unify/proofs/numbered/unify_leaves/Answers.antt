use Rattle.std.proofs.Common.{◌≡◌, rules, refl, None, Some}
use Rattle.std.specs.Map.{lookup}
use Rattle.decision_tree.specs.Numbered.{kept}
use Rattle.decision_tree.specs.View.{numbered}
use Rattle.tree_unify.specs.Made.{same_pair}
use Rattle.tree_unify.proofs.Making.{known_leaf, counted_leaf, bounded_leaf, bounded_known, made_found}
use Rattle.tree_unify.proofs.numbered.unify_leaves.Goals as goal

pub returns-in-Some-clause-made : goal.returns-in-Some-clause-made
returns-in-Some-clause-made g c =
    let there : lookup (same_pair (record { left = c.args.a.now.number; right = c.args.b.now.number })) c.args.memo.now.leaves.entries ≡ Some c.in-Some.known.now = search rules in
    made_found c.share.result _ c.in-Some.known.now (kept c.args.a.now.number c.args.a.now.value) (kept c.args.b.now.number c.args.b.now.value) c.requires.known.of_leaves there c.requires.a_within c.requires.b_within refl refl c.share.ensures

pub returns-in-Some-clause-bounded : goal.returns-in-Some-clause-bounded
returns-in-Some-clause-bounded g c =
    bounded_known (numbered c.args.whole.now.t.now) (numbered c.args.whole.now.u.now) c.args.memo.now.leaves.entries c.args.memo.now.nodes.entries c.args.steps.now c.requires.t_numbered c.requires.u_numbered c.requires.known

pub returns-clause-known : goal.returns-clause-known
returns-clause-known g c =
    let none : lookup (same_pair (record { left = c.args.a.now.number; right = c.args.b.now.number })) c.args.memo.now.leaves.entries ≡ None = search rules in
    known_leaf c.args.memo.now.leaves.entries c.unify_new.new.entries.entries c.args.memo.now.nodes.entries c.unify_new.result _ c.args.a.now.number c.args.b.now.number c.args.a.now.value c.args.b.now.value c.requires.t_numbered c.requires.u_numbered c.unify_new.ensures.keeps c.requires.known none c.requires.a_within c.requires.b_within refl refl c.unify_new.ensures.made c.unify_new.ensures.noted

pub returns-clause-counted : goal.returns-clause-counted
returns-clause-counted g c =
    let none : lookup (same_pair (record { left = c.args.a.now.number; right = c.args.b.now.number })) c.args.memo.now.leaves.entries ≡ None = search rules in
    counted_leaf c.args.memo.now.leaves.entries c.unify_new.new.entries.entries c.unify_new.result _ c.args.steps.now c.unify_new.new.steps none c.unify_new.ensures.counted c.unify_new.ensures.noted

pub returns-clause-bounded : goal.returns-clause-bounded
returns-clause-bounded g c =
    let none : lookup (same_pair (record { left = c.args.a.now.number; right = c.args.b.now.number })) c.args.memo.now.leaves.entries ≡ None = search rules in
    bounded_leaf (numbered c.args.whole.now.t.now) (numbered c.args.whole.now.u.now) c.args.memo.now.leaves.entries c.args.memo.now.nodes.entries _ c.args.a.now.number c.args.b.now.number c.args.a.now.value c.args.b.now.value c.args.steps.now c.unify_new.new.steps c.requires.t_numbered c.requires.u_numbered c.requires.known none c.requires.a_within c.requires.b_within refl refl c.unify_new.ensures.counted
