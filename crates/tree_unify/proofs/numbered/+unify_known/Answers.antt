use Rattle.std.proofs.Common.{true, false, ◌≡◌, ◌<◌, ◌+◌, length, rules, arith, refl, None, Some}
use Rattle.std.proofs.lemmas.Grind.{common_steps}
use Rattle.std.specs.Map.{lookup}
use Rattle.decision_tree.specs.Numbered.{root, IsNumbered}
use Rattle.decision_tree.specs.View.{numbered, plain}
use Rattle.tree_unify.specs.Made.{same_pair}
use Rattle.tree_unify.proofs.Making.{known_node, made_node_ok, bounded_known, made_found, side_tree, made_at_leaves}
use Rattle.decision_tree.proofs.Numbers.{keeps_same, keeps_both, tree_stays}
use Rattle.tree_unify.specs.Known.{IsWalked}
use Rattle.tree_unify.proofs.Within.{within_self}
use Rattle.tree_unify.proofs.Walked.{on_ok, noted_none, walk_known, AreSides, sides, noted_within, walked_node, counted_node, room_for_node}
use Rattle.tree_unify.proofs.numbered.+unify_known.Goals as goal

pub returns-in-Some-clause-made : goal.returns-in-Some-clause-made
returns-in-Some-clause-made g t c =
    let there : lookup (same_pair (record { left = root (numbered c.args.t.now); right = root (numbered c.args.u.now) })) c.args.memo.now.nodes.entries ≡ Some c.in-Some.known.now = search rules in
    made_found c.share.result (record { left = root (numbered c.args.t.now); right = root (numbered c.args.u.now) }) c.in-Some.known.now (numbered c.args.t.now) (numbered c.args.u.now) c.requires.known.of_nodes there c.requires.t_within c.requires.u_within refl refl c.share.ensures

pub returns-in-Some-clause-bounded : goal.returns-in-Some-clause-bounded
returns-in-Some-clause-bounded g t c =
    bounded_known (numbered c.args.whole.now.t.now) (numbered c.args.whole.now.u.now) c.args.memo.now.leaves.entries c.args.memo.now.nodes.entries c.args.steps.now c.requires.t_numbered c.requires.u_numbered c.requires.known

pub note_node-requires-clause-no : goal.note_node-requires-clause-no
note_node-requires-clause-no g t c =
    tree_stays _ 320 _ _ (numbered c.in_ok-no.no) c.in_ok-yes.ensures.keeps (side_tree (plain c.args.t.now) (plain c.args.u.now) c.min-k.result false _ _ (numbered c.in_ok-no.no) c.requires.t_small c.requires.u_small c.requires.t_reduced c.requires.u_reduced (search rules) c.side.ensures.side c.side-2.ensures.side c.in_ok-no.ensures.made)

pub note_node-requires-clause-yes : goal.note_node-requires-clause-yes
note_node-requires-clause-yes g t c =
    side_tree (plain c.args.t.now) (plain c.args.u.now) c.min-k.result true _ _ (numbered c.in_ok-yes.yes) c.requires.t_small c.requires.u_small c.requires.t_reduced c.requires.u_reduced (search rules) c.side-3.ensures.side c.side-4.ensures.side c.in_ok-yes.ensures.made

pub returns-clause-made : goal.returns-clause-made
returns-clause-made g t c =
    let small : c.min-k.result < 320 = grind (arith, common_steps) in
    made_node_ok _ c.note_node.result (plain c.args.t.now) _ _ (plain c.args.u.now) _ _ c.min-k.result (numbered c.in_ok-no.no) (numbered c.in_ok-yes.yes) (search rules) small c.side.ensures.side c.side-3.ensures.side c.side-2.ensures.side c.side-4.ensures.side c.requires.t_reduced c.requires.u_reduced c.in_ok-no.ensures.made c.in_ok-yes.ensures.made c.note_node.ensures.made c.note_node.ensures.own

pub returns-clause-known : goal.returns-clause-known
returns-clause-known g t c =
    let small : c.min-k.result < 320 = grind (arith, common_steps) in
    known_node _ _ c.note_node.new.entries.entries c.note_node.result _ (numbered c.args.t.now) (numbered c.args.u.now) c.requires.t_numbered c.requires.u_numbered c.note_node.ensures.keeps c.in_ok-yes.ensures.known c.requires.t_within c.requires.u_within (search rules) (search rules) (made_node_ok _ c.note_node.result (plain c.args.t.now) _ _ (plain c.args.u.now) _ _ c.min-k.result (numbered c.in_ok-no.no) (numbered c.in_ok-yes.yes) (search rules) small c.side.ensures.side c.side-3.ensures.side c.side-2.ensures.side c.side-4.ensures.side c.requires.t_reduced c.requires.u_reduced c.in_ok-no.ensures.made c.in_ok-yes.ensures.made c.note_node.ensures.made c.note_node.ensures.own) c.note_node.ensures.noted

pub returns-clause-bounded : goal.returns-clause-bounded
returns-clause-bounded g t c = λ xs ys hx hy. omega (arith, c.in_ok-no.ensures.counted, c.in_ok-yes.ensures.bounded xs ys hx hy)

pub returns-clause-keeps : goal.returns-clause-keeps
returns-clause-keeps g t c = keeps_both _ _ _ c.in_ok-no.ensures.keeps (keeps_both _ _ _ c.in_ok-yes.ensures.keeps c.note_node.ensures.keeps)

pub returns-in-Some-clause-keeps : goal.returns-in-Some-clause-keeps
returns-in-Some-clause-keeps g t c = keeps_same _ _ refl

pub returns-in-Leaf-Leaf-clause-made : goal.returns-in-Leaf-Leaf-clause-made
returns-in-Leaf-Leaf-clause-made g t c = made_at_leaves _ _ c.unify_leaves.result (plain c.args.t.now) (plain c.args.u.now) _ _ (search rules) (search rules) c.unify_leaves.ensures.made

-- ---- the walk
pub returns-in-Leaf-Leaf-clause-within : goal.returns-in-Leaf-Leaf-clause-within
returns-in-Leaf-Leaf-clause-within g t c = on_ok c.unify_leaves.result _ (noted_none _ _ _ _ c.unify_leaves.ensures.nodes)

pub returns-in-Leaf-Leaf-clause-room : goal.returns-in-Leaf-Leaf-clause-room
returns-in-Leaf-Leaf-clause-room g t c = walk_known _ _ c.args.memo.now.nodes.entries c.args.memo.now.nodes.entries _ _ c.requires.t_numbered c.requires.u_numbered c.requires.walked refl

pub returns-in-Some-clause-within : goal.returns-in-Some-clause-within
returns-in-Some-clause-within g t c = on_ok c.share.result _ (noted_none _ _ _ _ refl)

pub returns-in-Some-clause-room : goal.returns-in-Some-clause-room
returns-in-Some-clause-room g t c = walk_known _ _ c.args.memo.now.nodes.entries c.args.memo.now.nodes.entries _ _ c.requires.t_numbered c.requires.u_numbered c.requires.walked refl

pub returns-clause-walked : goal.returns-clause-walked
returns-clause-walked g t c =
    let small : c.min-k.result < 320 = grind (arith, common_steps) in
    let no : AreSides (numbered c.args.t.now) (numbered c.args.u.now) (numbered c.side.result.now) (numbered c.side-2.result.now) =
    sides (numbered c.args.t.now) (numbered c.args.u.now) c.min-k.result false _ _ (search rules) small (c.side.ensures.within _ (within_self _)) (c.side-2.ensures.within _ (within_self _)) c.side.ensures.side c.side-2.ensures.side in
    let yes : AreSides (numbered c.args.t.now) (numbered c.args.u.now) (numbered c.side-3.result.now) (numbered c.side-4.result.now) =
    sides (numbered c.args.t.now) (numbered c.args.u.now) c.min-k.result true _ _ (search rules) small (c.side-3.ensures.within _ (within_self _)) (c.side-4.ensures.within _ (within_self _)) c.side-3.ensures.side c.side-4.ensures.side in
    let none : lookup (same_pair (record { left = c.number.result; right = c.number-2.result })) c.args.memo.now.nodes.entries ≡ None = search rules in
    walked_node (numbered c.args.t.now) (numbered c.args.u.now) (numbered c.args.whole.now.t.now) (numbered c.args.whole.now.u.now) c.requires.t_numbered c.requires.u_numbered c.requires.t_within c.requires.u_within (record { left = c.number.result; right = c.number-2.result }) c.number.ensures.number c.number-2.ensures.number
    c.args.memo.now.nodes.entries _ _ _ _ _ _ no yes c.in_ok-no.ensures.within c.in_ok-yes.ensures.within c.note_node.new.entries.entries c.note_node.result none c.in_ok-yes.ensures.walked c.note_node.ensures.noted

pub returns-clause-within : goal.returns-clause-within
returns-clause-within g t c =
    let small : c.min-k.result < 320 = grind (arith, common_steps) in
    let no : AreSides (numbered c.args.t.now) (numbered c.args.u.now) (numbered c.side.result.now) (numbered c.side-2.result.now) =
    sides (numbered c.args.t.now) (numbered c.args.u.now) c.min-k.result false _ _ (search rules) small (c.side.ensures.within _ (within_self _)) (c.side-2.ensures.within _ (within_self _)) c.side.ensures.side c.side-2.ensures.side in
    let yes : AreSides (numbered c.args.t.now) (numbered c.args.u.now) (numbered c.side-3.result.now) (numbered c.side-4.result.now) =
    sides (numbered c.args.t.now) (numbered c.args.u.now) c.min-k.result true _ _ (search rules) small (c.side-3.ensures.within _ (within_self _)) (c.side-4.ensures.within _ (within_self _)) c.side-3.ensures.side c.side-4.ensures.side in
    let none : lookup (same_pair (record { left = c.number.result; right = c.number-2.result })) c.args.memo.now.nodes.entries ≡ None = search rules in
    noted_within (numbered c.args.t.now) (numbered c.args.u.now) (numbered c.args.whole.now.t.now) (numbered c.args.whole.now.u.now) c.requires.t_numbered c.requires.u_numbered c.requires.t_within c.requires.u_within (record { left = c.number.result; right = c.number-2.result }) c.number.ensures.number c.number-2.ensures.number
    c.args.memo.now.nodes.entries _ _ _ _ _ _ no yes c.in_ok-no.ensures.within c.in_ok-yes.ensures.within c.note_node.new.entries.entries c.note_node.result none c.note_node.ensures.noted

pub returns-clause-nodes : goal.returns-clause-nodes
returns-clause-nodes g t c =
    let small : c.min-k.result < 320 = grind (arith, common_steps) in
    let no : AreSides (numbered c.args.t.now) (numbered c.args.u.now) (numbered c.side.result.now) (numbered c.side-2.result.now) =
    sides (numbered c.args.t.now) (numbered c.args.u.now) c.min-k.result false _ _ (search rules) small (c.side.ensures.within _ (within_self _)) (c.side-2.ensures.within _ (within_self _)) c.side.ensures.side c.side-2.ensures.side in
    let yes : AreSides (numbered c.args.t.now) (numbered c.args.u.now) (numbered c.side-3.result.now) (numbered c.side-4.result.now) =
    sides (numbered c.args.t.now) (numbered c.args.u.now) c.min-k.result true _ _ (search rules) small (c.side-3.ensures.within _ (within_self _)) (c.side-4.ensures.within _ (within_self _)) c.side-3.ensures.side c.side-4.ensures.side in
    let none : lookup (same_pair (record { left = c.number.result; right = c.number-2.result })) c.args.memo.now.nodes.entries ≡ None = search rules in
    counted_node (numbered c.args.t.now) (numbered c.args.u.now) (numbered c.args.whole.now.t.now) (numbered c.args.whole.now.u.now) c.requires.t_numbered c.requires.u_numbered c.requires.t_within c.requires.u_within (record { left = c.number.result; right = c.number-2.result }) c.number.ensures.number c.number-2.ensures.number
    c.args.memo.now.nodes.entries _ _ _ _ _ _ no yes c.in_ok-no.ensures.within c.in_ok-yes.ensures.within c.note_node.new.entries.entries c.note_node.result none c.args.nodes.now _ _ (omega (arith, c.in_ok-no.ensures.nodes, c.in_ok-yes.ensures.nodes)) c.note_node.ensures.counted c.note_node.ensures.noted

pub returns-clause-room : goal.returns-clause-room
returns-clause-room g t c =
    let small : c.min-k.result < 320 = grind (arith, common_steps) in
    let no : AreSides (numbered c.args.t.now) (numbered c.args.u.now) (numbered c.side.result.now) (numbered c.side-2.result.now) =
    sides (numbered c.args.t.now) (numbered c.args.u.now) c.min-k.result false _ _ (search rules) small (c.side.ensures.within _ (within_self _)) (c.side-2.ensures.within _ (within_self _)) c.side.ensures.side c.side-2.ensures.side in
    let yes : AreSides (numbered c.args.t.now) (numbered c.args.u.now) (numbered c.side-3.result.now) (numbered c.side-4.result.now) =
    sides (numbered c.args.t.now) (numbered c.args.u.now) c.min-k.result true _ _ (search rules) small (c.side-3.ensures.within _ (within_self _)) (c.side-4.ensures.within _ (within_self _)) c.side-3.ensures.side c.side-4.ensures.side in
    let none : lookup (same_pair (record { left = c.number.result; right = c.number-2.result })) c.args.memo.now.nodes.entries ≡ None = search rules in
    room_for_node (numbered c.args.t.now) (numbered c.args.u.now) (numbered c.args.whole.now.t.now) (numbered c.args.whole.now.u.now) c.requires.t_numbered c.requires.u_numbered c.requires.t_within c.requires.u_within (record { left = c.number.result; right = c.number-2.result }) c.number.ensures.number c.number-2.ensures.number
    c.args.memo.now.nodes.entries _ _ _ _ _ _ no yes c.in_ok-no.ensures.within c.in_ok-yes.ensures.within c.note_node.new.entries.entries c.note_node.result none c.args.nodes.now _ _ c.in_ok-yes.ensures.walked (omega (arith, c.in_ok-no.ensures.nodes, c.in_ok-yes.ensures.nodes)) c.note_node.ensures.counted
