use Rattle.std.proofs.Common.{rules, ◌≡◌, ◌+◌, ◌<◌, ◌≤◌, true, false, refl, inl, inr, sym, ◌∙◌, ap, arith}
use Rattle.decision_tree.specs.Plain.{node}
use Rattle.decision_tree.specs.Numbered.{branch, erase}
use Rattle.decision_tree.specs.View.{numbered, plain}
use Rattle.decision_tree.proofs.Numbers.{tree_stays}
use Rattle.tree_unify.specs.Sides.{node_count}
use Rattle.tree_restrict.specs.Reached.{measure}
use Rattle.tree_restrict.proofs.Answered.{keep_same, keep_both, keep_trees, keep_cares, known_kept, answer_kept}
use Rattle.tree_restrict.proofs.Growing.{node_is, part_self, part_low, part_high, unknown_stays, grown_part, grown_both, counted_step, counted_same, always_ok}
use Rattle.tree_restrict.proofs.Steps.{at_care, answer_same, answer_tree, by_union, are_sides, by_yes, by_no, by_both}
use Rattle.tree_restrict.proofs.Unions.{union_alike, low_part, high_part, low_child, high_child, lowered, fewer_union, fewer_side, reached_side, reached_union}
use Rattle.tree_restrict.proofs.restricted.+restrict_known.Goals as goal

pub returns-in-Some-clause-keep : goal.returns-in-Some-clause-keep
returns-in-Some-clause-keep g t c =
    keep_same _ _

pub returns-in-Leaf-clause-keep : goal.returns-in-Leaf-clause-keep
returns-in-Leaf-clause-keep g t c =
    keep_same _ _

pub returns-in-Leaf-care-clause-keep : goal.returns-in-Leaf-care-clause-keep
returns-in-Leaf-care-clause-keep g t c =
    keep_same _ _

pub returns-in-Some-clause-counted : goal.returns-in-Some-clause-counted
returns-in-Some-clause-counted g t c =
    always_ok c.share-in-Some.result (counted_same _ _ (numbered c.args.tree.now) (numbered c.args.care.now) _ _)

pub returns-in-Leaf-clause-counted : goal.returns-in-Leaf-clause-counted
returns-in-Leaf-clause-counted g t c =
    always_ok c.share.result (counted_same _ _ (numbered c.args.tree.now) (numbered c.args.care.now) _ _)

pub returns-in-Leaf-care-clause-counted : goal.returns-in-Leaf-care-clause-counted
returns-in-Leaf-care-clause-counted g t c =
    always_ok c.share-in-Leaf-care.result (counted_same _ _ (numbered c.args.tree.now) (numbered c.args.care.now) _ _)

pub returns-in-Leaf-care-clause-answer : goal.returns-in-Leaf-care-clause-answer
returns-in-Leaf-care-clause-answer g t c =
    at_care g.L.PartialEq.eq c.share-in-Leaf-care.result (numbered c.args.tree.now) (numbered c.args.care.now) c.in-Leaf-care._truth.value.value c.requires.exact (search rules) c.requires.tree.reduced c.requires.tree.own c.requires.care.own c.share-in-Leaf-care.ensures

pub union-requires-clause-no : goal.union-requires-clause-no
union-requires-clause-no g t c =
    let w = c.deref-then-deref-test.result.now in
    let e : numbered c.args.care.now ≡ branch w.number w.test (numbered w.no) (numbered w.yes) = search rules in
    low_part 0 w.number w.test _ (numbered c.args.care.now) (numbered w.no) (numbered w.yes) e c.requires.care

pub union-requires-clause-yes : goal.union-requires-clause-yes
union-requires-clause-yes g t c =
    let w = c.deref-then-deref-test-2.result.now in
    let e : numbered c.args.care.now ≡ branch w.number w.test (numbered w.no) (numbered w.yes) = search rules in
    high_part 0 w.number w.test _ (numbered c.args.care.now) (numbered w.no) (numbered w.yes) e c.requires.care

pub returns-in_err-either-in-Node-care-clause-keep : goal.returns-in_err-either-in-Node-care-clause-keep
returns-in_err-either-in-Node-care-clause-keep g t c =
    keep_cares _ c.union.ensures.keeps

pub restrict_known-requires : goal.restrict_known-requires
restrict_known-requires g t c κs within =
    let n = c.in-Node.node.value in
    let w = c.in-Node-care.guard.value in
    let p = c.deref-then-deref-test.result.now.no in
    let q = c.deref-then-deref-test-2.result.now.yes in
    let u = c.in_ok-either-in-Node-care.either in
    let e : numbered c.args.care.now ≡ branch w.number w.test (numbered p) (numbered q) = search rules in
    let made = c.in_ok-either-in-Node-care.ensures.tree (w.test + 1) (low_child 0 w.number w.test _ (numbered c.args.care.now) (numbered p) (numbered q) e c.requires.care) (high_child 0 w.number w.test _ (numbered c.args.care.now) (numbered p) (numbered q) e c.requires.care) in
    let fewer : measure (plain c.args.tree.now) (plain u) < measure (plain c.args.tree.now) (plain c.args.care.now) =
    fewer_union (node_count (plain c.args.tree.now)) w.test (plain c.args.care.now) (plain u) (plain p) (plain q) (ap erase e) c.requires.care.small made.reduced in
    (search rules, (within.0, (within.1, (c.requires.tree, (lowered (w.test + 1) _ (numbered u) made, (c.requires.exact, known_kept (keep_cares _ c.union.ensures.keeps) c.requires.known))))))

pub returns-in_err-made-in-Node-care-clause-keep : goal.returns-in_err-made-in-Node-care-clause-keep
returns-in_err-made-in-Node-care-clause-keep g t c =
    keep_both (keep_cares _ c.union.ensures.keeps) c.restrict_known.ensures.keep

pub returns-then-deref-test-clause-answer : goal.returns-then-deref-test-clause-answer
returns-then-deref-test-clause-answer g t c =
    let n = c.in-Node.node.value in
    let w = c.in-Node-care.guard.value in
    let p = c.deref-then-deref-test.result.now.no in
    let q = c.deref-then-deref-test-2.result.now.yes in
    let u = c.in_ok-either-in-Node-care.either in
    let e : numbered c.args.care.now ≡ branch w.number w.test (numbered p) (numbered q) = search rules in
    let made = c.in_ok-either-in-Node-care.ensures.tree (w.test + 1) (low_child 0 w.number w.test _ (numbered c.args.care.now) (numbered p) (numbered q) e c.requires.care) (high_child 0 w.number w.test _ (numbered c.args.care.now) (numbered p) (numbered q) e c.requires.care) in
    let fewer : measure (plain c.args.tree.now) (plain u) < measure (plain c.args.tree.now) (plain c.args.care.now) =
    fewer_union (node_count (plain c.args.tree.now)) w.test (plain c.args.care.now) (plain u) (plain p) (plain q) (ap erase e) c.requires.care.small made.reduced in
    let f : plain c.args.tree.now ≡ node n.test (plain n.no) (plain n.yes) = search rules in
    let less : w.test < n.test = search rules in
    let alike = union_alike (plain p) (plain q) (plain u) (low_child 0 w.number w.test _ (numbered c.args.care.now) (numbered p) (numbered q) e c.requires.care).small (high_child 0 w.number w.test _ (numbered c.args.care.now) (numbered p) (numbered q) e c.requires.care).small made.small c.in_ok-either-in-Node-care.ensures.means.either in
    let keep = keep_both (keep_cares c.args.forest.now c.union.ensures.keeps) c.restrict_known.ensures.keep in
    let a = by_union g.L.PartialEq.eq (numbered c.args.tree.now) (numbered c.args.care.now) (numbered u) (numbered c.in_ok-made-in-Node-care.made) n.test w.test (plain n.no) (plain n.yes) (plain p) (plain q) f (ap erase e) less c.requires.care.reduced (lowered (w.test + 1) _ (numbered u) made).reduced
    alike (keep.of_cares.stay (numbered c.args.care.now) c.requires.care.own) c.in_ok-made-in-Node-care.ensures.answer in
    answer_same g.L.PartialEq.eq c.noted.result (numbered c.args.tree.now) (numbered c.args.care.now) (numbered c.in_ok-made-in-Node-care.made) a c.noted.ensures.same

pub returns-then-deref-test-clause-known : goal.returns-then-deref-test-clause-known
returns-then-deref-test-clause-known g t c =
    let n = c.in-Node.node.value in
    let w = c.in-Node-care.guard.value in
    let p = c.deref-then-deref-test.result.now.no in
    let q = c.deref-then-deref-test-2.result.now.yes in
    let u = c.in_ok-either-in-Node-care.either in
    let e : numbered c.args.care.now ≡ branch w.number w.test (numbered p) (numbered q) = search rules in
    let made = c.in_ok-either-in-Node-care.ensures.tree (w.test + 1) (low_child 0 w.number w.test _ (numbered c.args.care.now) (numbered p) (numbered q) e c.requires.care) (high_child 0 w.number w.test _ (numbered c.args.care.now) (numbered p) (numbered q) e c.requires.care) in
    let fewer : measure (plain c.args.tree.now) (plain u) < measure (plain c.args.tree.now) (plain c.args.care.now) =
    fewer_union (node_count (plain c.args.tree.now)) w.test (plain c.args.care.now) (plain u) (plain p) (plain q) (ap erase e) c.requires.care.small made.reduced in
    let f : plain c.args.tree.now ≡ node n.test (plain n.no) (plain n.yes) = search rules in
    let less : w.test < n.test = search rules in
    let alike = union_alike (plain p) (plain q) (plain u) (low_child 0 w.number w.test _ (numbered c.args.care.now) (numbered p) (numbered q) e c.requires.care).small (high_child 0 w.number w.test _ (numbered c.args.care.now) (numbered p) (numbered q) e c.requires.care).small made.small c.in_ok-either-in-Node-care.ensures.means.either in
    let keep = keep_both (keep_cares c.args.forest.now c.union.ensures.keeps) c.restrict_known.ensures.keep in
    let a = by_union g.L.PartialEq.eq (numbered c.args.tree.now) (numbered c.args.care.now) (numbered u) (numbered c.in_ok-made-in-Node-care.made) n.test w.test (plain n.no) (plain n.yes) (plain p) (plain q) f (ap erase e) less c.requires.care.reduced (lowered (w.test + 1) _ (numbered u) made).reduced
    alike (keep.of_cares.stay (numbered c.args.care.now) c.requires.care.own) c.in_ok-made-in-Node-care.ensures.answer in
    let unknown = unknown_stays (numbered c.args.tree.now) (numbered c.args.tree.now) (numbered c.args.care.now) (numbered u) (keep.of_trees.stay (numbered c.args.tree.now) c.requires.tree.own) (keep.of_cares.stay (numbered c.args.care.now) c.requires.care.own) (lowered (w.test + 1) _ (numbered u) made).reduced made.small fewer c.in_default.ensures.unknown c.in_ok-made-in-Node-care.ensures.counted.grown in
    c.noted.ensures.known g.L.PartialEq.eq _ _ c.in_ok-made-in-Node-care.ensures.known unknown a

pub returns-then-deref-test-clause-counted : goal.returns-then-deref-test-clause-counted
returns-then-deref-test-clause-counted g t c =
    let n = c.in-Node.node.value in
    let w = c.in-Node-care.guard.value in
    let p = c.deref-then-deref-test.result.now.no in
    let q = c.deref-then-deref-test-2.result.now.yes in
    let u = c.in_ok-either-in-Node-care.either in
    let e : numbered c.args.care.now ≡ branch w.number w.test (numbered p) (numbered q) = search rules in
    let made = c.in_ok-either-in-Node-care.ensures.tree (w.test + 1) (low_child 0 w.number w.test _ (numbered c.args.care.now) (numbered p) (numbered q) e c.requires.care) (high_child 0 w.number w.test _ (numbered c.args.care.now) (numbered p) (numbered q) e c.requires.care) in
    let fewer : measure (plain c.args.tree.now) (plain u) < measure (plain c.args.tree.now) (plain c.args.care.now) =
    fewer_union (node_count (plain c.args.tree.now)) w.test (plain c.args.care.now) (plain u) (plain p) (plain q) (ap erase e) c.requires.care.small made.reduced in
    let f : plain c.args.tree.now ≡ node n.test (plain n.no) (plain n.yes) = search rules in
    let less : w.test < n.test = search rules in
    let alike = union_alike (plain p) (plain q) (plain u) (low_child 0 w.number w.test _ (numbered c.args.care.now) (numbered p) (numbered q) e c.requires.care).small (high_child 0 w.number w.test _ (numbered c.args.care.now) (numbered p) (numbered q) e c.requires.care).small made.small c.in_ok-either-in-Node-care.ensures.means.either in
    let keep = keep_both (keep_cares c.args.forest.now c.union.ensures.keeps) c.restrict_known.ensures.keep in
    let a = by_union g.L.PartialEq.eq (numbered c.args.tree.now) (numbered c.args.care.now) (numbered u) (numbered c.in_ok-made-in-Node-care.made) n.test w.test (plain n.no) (plain n.yes) (plain p) (plain q) f (ap erase e) less c.requires.care.reduced (lowered (w.test + 1) _ (numbered u) made).reduced
    alike (keep.of_cares.stay (numbered c.args.care.now) c.requires.care.own) c.in_ok-made-in-Node-care.ensures.answer in
    let unknown = unknown_stays (numbered c.args.tree.now) (numbered c.args.tree.now) (numbered c.args.care.now) (numbered u) (keep.of_trees.stay (numbered c.args.tree.now) c.requires.tree.own) (keep.of_cares.stay (numbered c.args.care.now) c.requires.care.own) (lowered (w.test + 1) _ (numbered u) made).reduced made.small fewer c.in_default.ensures.unknown c.in_ok-made-in-Node-care.ensures.counted.grown in
    counted_step c.noted.result (numbered c.args.tree.now) (numbered c.args.care.now) _ _ _ _ _ (keep.of_trees.stay (numbered c.args.tree.now) c.requires.tree.own) (keep.of_cares.stay (numbered c.args.care.now) c.requires.care.own) (node_is (plain c.args.tree.now) (plain n.no) (plain n.yes) n.test f) (node_is (plain c.args.care.now) (plain p) (plain q) w.test (ap erase e))
    (grown_part (numbered c.args.tree.now) (numbered c.args.tree.now) (numbered u) (numbered c.args.care.now) (keep_same _ _) (part_self (plain c.args.tree.now)) (reached_union (plain c.args.care.now) (plain p) (plain q) (plain u) w.test (ap erase e) c.in_ok-either-in-Node-care.ensures.means) c.in_ok-made-in-Node-care.ensures.counted.grown)
    (omega (arith, c.tick.ensures, c.in_ok-either-in-Node-care.ensures.steps, c.in_ok-made-in-Node-care.ensures.counted.count)) (c.noted.ensures.added unknown)

pub returns-then-deref-test-clause-keep : goal.returns-then-deref-test-clause-keep
returns-then-deref-test-clause-keep g t c =
    keep_both (keep_cares _ c.union.ensures.keeps) c.restrict_known.ensures.keep

pub restrict_known-requires-then-is_false : goal.restrict_known-requires-then-is_false
restrict_known-requires-then-is_false g t c κs within =
    let n = c.in-Node.node.value in
    let w = c.in-Node-care.guard.value in
    let k = c.deref.result.now.test in
    let lo = n.no in
    let hi = c.deref-then-is_false.result.now.yes in
    let f : numbered c.args.tree.now ≡ branch n.number k (numbered lo) (numbered hi) = search rules in
    let fewer : measure (plain hi) (plain c.side-high.result.now) < measure (plain c.args.tree.now) (plain c.args.care.now) =
    fewer_side (plain c.args.tree.now) (plain hi) (plain lo) (plain hi) k (plain c.args.care.now) (plain c.side-high.result.now) true (ap erase f) (inr refl) c.side-high.ensures.side c.requires.care.small c.requires.care.reduced in
    (search rules, (within.0, (within.1, (high_part 0 n.number k _ (numbered c.args.tree.now) (numbered lo) (numbered hi) f c.requires.tree, (c.side-high.ensures.tree _ c.requires.care, (c.requires.exact, c.requires.known))))))

pub restrict_known-requires-then-is_false-2 : goal.restrict_known-requires-then-is_false-2
restrict_known-requires-then-is_false-2 g t c κs within =
    let n = c.in-Node.node.value in
    let w = c.in-Node-care.guard.value in
    let k = c.deref.result.now.test in
    let lo = c.deref-then-is_false-2.result.now.no in
    let hi = n.yes in
    let f : numbered c.args.tree.now ≡ branch n.number k (numbered lo) (numbered hi) = search rules in
    let fewer : measure (plain lo) (plain c.side-low.result.now) < measure (plain c.args.tree.now) (plain c.args.care.now) =
    fewer_side (plain c.args.tree.now) (plain lo) (plain lo) (plain hi) k (plain c.args.care.now) (plain c.side-low.result.now) false (ap erase f) (inl refl) c.side-low.ensures.side c.requires.care.small c.requires.care.reduced in
    (search rules, (within.0, (within.1, (low_part 0 n.number k _ (numbered c.args.tree.now) (numbered lo) (numbered hi) f c.requires.tree, (c.side-low.ensures.tree _ c.requires.care, (c.requires.exact, c.requires.known))))))

pub restrict_known-requires-in-Node-care : goal.restrict_known-requires-in-Node-care
restrict_known-requires-in-Node-care g t c κs within =
    let n = c.in-Node.node.value in
    let w = c.in-Node-care.guard.value in
    let k = c.deref.result.now.test in
    let lo = c.deref-in-Node-care-2.result.now.no in
    let hi = n.yes in
    let f : numbered c.args.tree.now ≡ branch n.number k (numbered lo) (numbered hi) = search rules in
    let fewer : measure (plain lo) (plain c.side-low.result.now) < measure (plain c.args.tree.now) (plain c.args.care.now) =
    fewer_side (plain c.args.tree.now) (plain lo) (plain lo) (plain hi) k (plain c.args.care.now) (plain c.side-low.result.now) false (ap erase f) (inl refl) c.side-low.ensures.side c.requires.care.small c.requires.care.reduced in
    (search rules, (within.0, (within.1, (low_part 0 n.number k _ (numbered c.args.tree.now) (numbered lo) (numbered hi) f c.requires.tree, (c.side-low.ensures.tree _ c.requires.care, (c.requires.exact, c.requires.known))))))

pub restrict_known-requires-in-Node-care-2 : goal.restrict_known-requires-in-Node-care-2
restrict_known-requires-in-Node-care-2 g t c κs within =
    let n = c.in-Node.node.value in
    let w = c.in-Node-care.guard.value in
    let k = c.deref.result.now.test in
    let lo = n.no in
    let hi = c.deref-in-Node-care-3.result.now.yes in
    let f : numbered c.args.tree.now ≡ branch n.number k (numbered lo) (numbered hi) = search rules in
    let fewer : measure (plain hi) (plain c.side-high.result.now) < measure (plain c.args.tree.now) (plain c.args.care.now) =
    fewer_side (plain c.args.tree.now) (plain hi) (plain lo) (plain hi) k (plain c.args.care.now) (plain c.side-high.result.now) true (ap erase f) (inr refl) c.side-high.ensures.side c.requires.care.small c.requires.care.reduced in
    (search rules, (within.0, (within.1, (tree_stays 0 320 _ _ (numbered hi) c.restrict_known-in-Node-care.ensures.keep.of_trees (high_part 0 n.number k _ (numbered c.args.tree.now) (numbered lo) (numbered hi) f c.requires.tree), (tree_stays 0 320 _ _ (numbered c.side-high.result.now) c.restrict_known-in-Node-care.ensures.keep.of_cares (c.side-high.ensures.tree _ c.requires.care), (c.requires.exact, c.in_ok-no-in-Node-care.ensures.known))))))

pub returns-then-is_false-clause-answer : goal.returns-then-is_false-clause-answer
returns-then-is_false-clause-answer g t c =
    let n = c.in-Node.node.value in
    let w = c.in-Node-care.guard.value in
    let k = c.deref.result.now.test in
    let lo = n.no in
    let hi = c.deref-then-is_false.result.now.yes in
    let f : numbered c.args.tree.now ≡ branch n.number k (numbered lo) (numbered hi) = search rules in
    let e : plain c.args.care.now ≡ node w.test (plain w.no) (plain w.yes) = search rules in
    let le : k ≤ w.test = search rules in
    let s = are_sides g.L.PartialEq.eq (numbered c.args.tree.now) (numbered c.args.care.now) k w.test (numbered lo) (numbered hi) (plain w.no) (plain w.yes) (numbered c.side-low.result.now) (numbered c.side-high.result.now) (ap erase f) e le c.requires.care.reduced c.side-low.ensures.side c.side-high.ensures.side in
    let a = by_yes g.L.PartialEq.eq (numbered c.args.tree.now) (numbered c.args.care.now) k (numbered lo) (numbered hi) (numbered c.side-low.result.now) (numbered c.side-high.result.now) (numbered c.in_ok-made-in-Node-care-2.made) s (sym c.is_false.ensures ∙ c.if-is_false.true) (c.restrict_known-then-is_false.ensures.keep.of_trees.stay (numbered c.args.tree.now) c.requires.tree.own) (c.restrict_known-then-is_false.ensures.keep.of_cares.stay (numbered c.args.care.now) c.requires.care.own) c.in_ok-made-in-Node-care-2.ensures.answer in
    answer_same g.L.PartialEq.eq c.noted-then-is_false.result (numbered c.args.tree.now) (numbered c.args.care.now) (numbered c.in_ok-made-in-Node-care-2.made) a c.noted-then-is_false.ensures.same

pub returns-then-is_false-clause-known : goal.returns-then-is_false-clause-known
returns-then-is_false-clause-known g t c =
    let n = c.in-Node.node.value in
    let w = c.in-Node-care.guard.value in
    let k = c.deref.result.now.test in
    let lo = n.no in
    let hi = c.deref-then-is_false.result.now.yes in
    let f : numbered c.args.tree.now ≡ branch n.number k (numbered lo) (numbered hi) = search rules in
    let e : plain c.args.care.now ≡ node w.test (plain w.no) (plain w.yes) = search rules in
    let le : k ≤ w.test = search rules in
    let s = are_sides g.L.PartialEq.eq (numbered c.args.tree.now) (numbered c.args.care.now) k w.test (numbered lo) (numbered hi) (plain w.no) (plain w.yes) (numbered c.side-low.result.now) (numbered c.side-high.result.now) (ap erase f) e le c.requires.care.reduced c.side-low.ensures.side c.side-high.ensures.side in
    let a = by_yes g.L.PartialEq.eq (numbered c.args.tree.now) (numbered c.args.care.now) k (numbered lo) (numbered hi) (numbered c.side-low.result.now) (numbered c.side-high.result.now) (numbered c.in_ok-made-in-Node-care-2.made) s (sym c.is_false.ensures ∙ c.if-is_false.true) (c.restrict_known-then-is_false.ensures.keep.of_trees.stay (numbered c.args.tree.now) c.requires.tree.own) (c.restrict_known-then-is_false.ensures.keep.of_cares.stay (numbered c.args.care.now) c.requires.care.own) c.in_ok-made-in-Node-care-2.ensures.answer in
    let fewer : measure (plain hi) (plain c.side-high.result.now) < measure (plain c.args.tree.now) (plain c.args.care.now) =
    fewer_side (plain c.args.tree.now) (plain hi) (plain lo) (plain hi) k (plain c.args.care.now) (plain c.side-high.result.now) true (ap erase f) (inr refl) c.side-high.ensures.side c.requires.care.small c.requires.care.reduced in
    let unknown = unknown_stays (numbered c.args.tree.now) (numbered hi) (numbered c.args.care.now) (numbered c.side-high.result.now) (c.restrict_known-then-is_false.ensures.keep.of_trees.stay (numbered c.args.tree.now) c.requires.tree.own) (c.restrict_known-then-is_false.ensures.keep.of_cares.stay (numbered c.args.care.now) c.requires.care.own) (c.side-high.ensures.tree _ c.requires.care).reduced (c.side-high.ensures.tree _ c.requires.care).small fewer c.in_default.ensures.unknown c.in_ok-made-in-Node-care-2.ensures.counted.grown in
    c.noted-then-is_false.ensures.known g.L.PartialEq.eq _ _ c.in_ok-made-in-Node-care-2.ensures.known unknown a

pub returns-then-is_false-clause-counted : goal.returns-then-is_false-clause-counted
returns-then-is_false-clause-counted g t c =
    let n = c.in-Node.node.value in
    let w = c.in-Node-care.guard.value in
    let k = c.deref.result.now.test in
    let lo = n.no in
    let hi = c.deref-then-is_false.result.now.yes in
    let f : numbered c.args.tree.now ≡ branch n.number k (numbered lo) (numbered hi) = search rules in
    let e : plain c.args.care.now ≡ node w.test (plain w.no) (plain w.yes) = search rules in
    let le : k ≤ w.test = search rules in
    let s = are_sides g.L.PartialEq.eq (numbered c.args.tree.now) (numbered c.args.care.now) k w.test (numbered lo) (numbered hi) (plain w.no) (plain w.yes) (numbered c.side-low.result.now) (numbered c.side-high.result.now) (ap erase f) e le c.requires.care.reduced c.side-low.ensures.side c.side-high.ensures.side in
    let a = by_yes g.L.PartialEq.eq (numbered c.args.tree.now) (numbered c.args.care.now) k (numbered lo) (numbered hi) (numbered c.side-low.result.now) (numbered c.side-high.result.now) (numbered c.in_ok-made-in-Node-care-2.made) s (sym c.is_false.ensures ∙ c.if-is_false.true) (c.restrict_known-then-is_false.ensures.keep.of_trees.stay (numbered c.args.tree.now) c.requires.tree.own) (c.restrict_known-then-is_false.ensures.keep.of_cares.stay (numbered c.args.care.now) c.requires.care.own) c.in_ok-made-in-Node-care-2.ensures.answer in
    let fewer : measure (plain hi) (plain c.side-high.result.now) < measure (plain c.args.tree.now) (plain c.args.care.now) =
    fewer_side (plain c.args.tree.now) (plain hi) (plain lo) (plain hi) k (plain c.args.care.now) (plain c.side-high.result.now) true (ap erase f) (inr refl) c.side-high.ensures.side c.requires.care.small c.requires.care.reduced in
    let unknown = unknown_stays (numbered c.args.tree.now) (numbered hi) (numbered c.args.care.now) (numbered c.side-high.result.now) (c.restrict_known-then-is_false.ensures.keep.of_trees.stay (numbered c.args.tree.now) c.requires.tree.own) (c.restrict_known-then-is_false.ensures.keep.of_cares.stay (numbered c.args.care.now) c.requires.care.own) (c.side-high.ensures.tree _ c.requires.care).reduced (c.side-high.ensures.tree _ c.requires.care).small fewer c.in_default.ensures.unknown c.in_ok-made-in-Node-care-2.ensures.counted.grown in
    counted_step c.noted-then-is_false.result (numbered c.args.tree.now) (numbered c.args.care.now) _ _ _ _ _ (c.restrict_known-then-is_false.ensures.keep.of_trees.stay (numbered c.args.tree.now) c.requires.tree.own) (c.restrict_known-then-is_false.ensures.keep.of_cares.stay (numbered c.args.care.now) c.requires.care.own) (node_is (plain c.args.tree.now) (plain lo) (plain hi) k (ap erase f)) (node_is (plain c.args.care.now) (plain w.no) (plain w.yes) w.test e)
    (grown_part (numbered hi) (numbered c.args.tree.now) (numbered c.side-high.result.now) (numbered c.args.care.now) (keep_same _ _) (part_high (plain c.args.tree.now) (plain lo) (plain hi) k (ap erase f)) (reached_side (plain c.args.care.now) (plain c.side-high.result.now) k true c.side-high.ensures.side) c.in_ok-made-in-Node-care-2.ensures.counted.grown)
    (omega (arith, c.tick.ensures, c.in_ok-made-in-Node-care-2.ensures.counted.count)) (c.noted-then-is_false.ensures.added unknown)

pub returns-then-is_false-clause-keep : goal.returns-then-is_false-clause-keep
returns-then-is_false-clause-keep g t c =
    c.restrict_known-then-is_false.ensures.keep

pub returns-then-is_false-2-clause-answer : goal.returns-then-is_false-2-clause-answer
returns-then-is_false-2-clause-answer g t c =
    let n = c.in-Node.node.value in
    let w = c.in-Node-care.guard.value in
    let k = c.deref.result.now.test in
    let lo = c.deref-then-is_false-2.result.now.no in
    let hi = n.yes in
    let f : numbered c.args.tree.now ≡ branch n.number k (numbered lo) (numbered hi) = search rules in
    let e : plain c.args.care.now ≡ node w.test (plain w.no) (plain w.yes) = search rules in
    let le : k ≤ w.test = search rules in
    let s = are_sides g.L.PartialEq.eq (numbered c.args.tree.now) (numbered c.args.care.now) k w.test (numbered lo) (numbered hi) (plain w.no) (plain w.yes) (numbered c.side-low.result.now) (numbered c.side-high.result.now) (ap erase f) e le c.requires.care.reduced c.side-low.ensures.side c.side-high.ensures.side in
    let a = by_no g.L.PartialEq.eq (numbered c.args.tree.now) (numbered c.args.care.now) k (numbered lo) (numbered hi) (numbered c.side-low.result.now) (numbered c.side-high.result.now) (numbered c.in_ok-made-in-Node-care-3.made) s (sym c.is_false.ensures ∙ c.if-is_false.false) (sym c.is_false-in-Node-care.ensures ∙ c.if-is_false-2.true) (c.restrict_known-then-is_false-2.ensures.keep.of_trees.stay (numbered c.args.tree.now) c.requires.tree.own) (c.restrict_known-then-is_false-2.ensures.keep.of_cares.stay (numbered c.args.care.now) c.requires.care.own) c.in_ok-made-in-Node-care-3.ensures.answer in
    answer_same g.L.PartialEq.eq c.noted-then-is_false-2.result (numbered c.args.tree.now) (numbered c.args.care.now) (numbered c.in_ok-made-in-Node-care-3.made) a c.noted-then-is_false-2.ensures.same

pub returns-then-is_false-2-clause-known : goal.returns-then-is_false-2-clause-known
returns-then-is_false-2-clause-known g t c =
    let n = c.in-Node.node.value in
    let w = c.in-Node-care.guard.value in
    let k = c.deref.result.now.test in
    let lo = c.deref-then-is_false-2.result.now.no in
    let hi = n.yes in
    let f : numbered c.args.tree.now ≡ branch n.number k (numbered lo) (numbered hi) = search rules in
    let e : plain c.args.care.now ≡ node w.test (plain w.no) (plain w.yes) = search rules in
    let le : k ≤ w.test = search rules in
    let s = are_sides g.L.PartialEq.eq (numbered c.args.tree.now) (numbered c.args.care.now) k w.test (numbered lo) (numbered hi) (plain w.no) (plain w.yes) (numbered c.side-low.result.now) (numbered c.side-high.result.now) (ap erase f) e le c.requires.care.reduced c.side-low.ensures.side c.side-high.ensures.side in
    let a = by_no g.L.PartialEq.eq (numbered c.args.tree.now) (numbered c.args.care.now) k (numbered lo) (numbered hi) (numbered c.side-low.result.now) (numbered c.side-high.result.now) (numbered c.in_ok-made-in-Node-care-3.made) s (sym c.is_false.ensures ∙ c.if-is_false.false) (sym c.is_false-in-Node-care.ensures ∙ c.if-is_false-2.true) (c.restrict_known-then-is_false-2.ensures.keep.of_trees.stay (numbered c.args.tree.now) c.requires.tree.own) (c.restrict_known-then-is_false-2.ensures.keep.of_cares.stay (numbered c.args.care.now) c.requires.care.own) c.in_ok-made-in-Node-care-3.ensures.answer in
    let fewer : measure (plain lo) (plain c.side-low.result.now) < measure (plain c.args.tree.now) (plain c.args.care.now) =
    fewer_side (plain c.args.tree.now) (plain lo) (plain lo) (plain hi) k (plain c.args.care.now) (plain c.side-low.result.now) false (ap erase f) (inl refl) c.side-low.ensures.side c.requires.care.small c.requires.care.reduced in
    let unknown = unknown_stays (numbered c.args.tree.now) (numbered lo) (numbered c.args.care.now) (numbered c.side-low.result.now) (c.restrict_known-then-is_false-2.ensures.keep.of_trees.stay (numbered c.args.tree.now) c.requires.tree.own) (c.restrict_known-then-is_false-2.ensures.keep.of_cares.stay (numbered c.args.care.now) c.requires.care.own) (c.side-low.ensures.tree _ c.requires.care).reduced (c.side-low.ensures.tree _ c.requires.care).small fewer c.in_default.ensures.unknown c.in_ok-made-in-Node-care-3.ensures.counted.grown in
    c.noted-then-is_false-2.ensures.known g.L.PartialEq.eq _ _ c.in_ok-made-in-Node-care-3.ensures.known unknown a

pub returns-then-is_false-2-clause-counted : goal.returns-then-is_false-2-clause-counted
returns-then-is_false-2-clause-counted g t c =
    let n = c.in-Node.node.value in
    let w = c.in-Node-care.guard.value in
    let k = c.deref.result.now.test in
    let lo = c.deref-then-is_false-2.result.now.no in
    let hi = n.yes in
    let f : numbered c.args.tree.now ≡ branch n.number k (numbered lo) (numbered hi) = search rules in
    let e : plain c.args.care.now ≡ node w.test (plain w.no) (plain w.yes) = search rules in
    let le : k ≤ w.test = search rules in
    let s = are_sides g.L.PartialEq.eq (numbered c.args.tree.now) (numbered c.args.care.now) k w.test (numbered lo) (numbered hi) (plain w.no) (plain w.yes) (numbered c.side-low.result.now) (numbered c.side-high.result.now) (ap erase f) e le c.requires.care.reduced c.side-low.ensures.side c.side-high.ensures.side in
    let a = by_no g.L.PartialEq.eq (numbered c.args.tree.now) (numbered c.args.care.now) k (numbered lo) (numbered hi) (numbered c.side-low.result.now) (numbered c.side-high.result.now) (numbered c.in_ok-made-in-Node-care-3.made) s (sym c.is_false.ensures ∙ c.if-is_false.false) (sym c.is_false-in-Node-care.ensures ∙ c.if-is_false-2.true) (c.restrict_known-then-is_false-2.ensures.keep.of_trees.stay (numbered c.args.tree.now) c.requires.tree.own) (c.restrict_known-then-is_false-2.ensures.keep.of_cares.stay (numbered c.args.care.now) c.requires.care.own) c.in_ok-made-in-Node-care-3.ensures.answer in
    let fewer : measure (plain lo) (plain c.side-low.result.now) < measure (plain c.args.tree.now) (plain c.args.care.now) =
    fewer_side (plain c.args.tree.now) (plain lo) (plain lo) (plain hi) k (plain c.args.care.now) (plain c.side-low.result.now) false (ap erase f) (inl refl) c.side-low.ensures.side c.requires.care.small c.requires.care.reduced in
    let unknown = unknown_stays (numbered c.args.tree.now) (numbered lo) (numbered c.args.care.now) (numbered c.side-low.result.now) (c.restrict_known-then-is_false-2.ensures.keep.of_trees.stay (numbered c.args.tree.now) c.requires.tree.own) (c.restrict_known-then-is_false-2.ensures.keep.of_cares.stay (numbered c.args.care.now) c.requires.care.own) (c.side-low.ensures.tree _ c.requires.care).reduced (c.side-low.ensures.tree _ c.requires.care).small fewer c.in_default.ensures.unknown c.in_ok-made-in-Node-care-3.ensures.counted.grown in
    counted_step c.noted-then-is_false-2.result (numbered c.args.tree.now) (numbered c.args.care.now) _ _ _ _ _ (c.restrict_known-then-is_false-2.ensures.keep.of_trees.stay (numbered c.args.tree.now) c.requires.tree.own) (c.restrict_known-then-is_false-2.ensures.keep.of_cares.stay (numbered c.args.care.now) c.requires.care.own) (node_is (plain c.args.tree.now) (plain lo) (plain hi) k (ap erase f)) (node_is (plain c.args.care.now) (plain w.no) (plain w.yes) w.test e)
    (grown_part (numbered lo) (numbered c.args.tree.now) (numbered c.side-low.result.now) (numbered c.args.care.now) (keep_same _ _) (part_low (plain c.args.tree.now) (plain lo) (plain hi) k (ap erase f)) (reached_side (plain c.args.care.now) (plain c.side-low.result.now) k false c.side-low.ensures.side) c.in_ok-made-in-Node-care-3.ensures.counted.grown)
    (omega (arith, c.tick.ensures, c.in_ok-made-in-Node-care-3.ensures.counted.count)) (c.noted-then-is_false-2.ensures.added unknown)

pub returns-then-is_false-2-clause-keep : goal.returns-then-is_false-2-clause-keep
returns-then-is_false-2-clause-keep g t c =
    c.restrict_known-then-is_false-2.ensures.keep

pub returns-in_err-yes-in-Node-care-clause-keep : goal.returns-in_err-yes-in-Node-care-clause-keep
returns-in_err-yes-in-Node-care-clause-keep g t c =
    keep_both c.restrict_known-in-Node-care.ensures.keep c.restrict_known-in-Node-care-2.ensures.keep

pub node-requires-clause-no : goal.node-requires-clause-no
node-requires-clause-no g t c =
    let n = c.in-Node.node.value in
    let w = c.in-Node-care.guard.value in
    let k = c.deref.result.now.test in
    let lo = c.deref-in-Node-care-2.result.now.no in
    let hi = c.deref-in-Node-care-3.result.now.yes in
    let f : numbered c.args.tree.now ≡ branch n.number k (numbered lo) (numbered hi) = search rules in
    answer_tree g.L.PartialEq.eq (k + 1) (λ a. g.met.L.Eq.laws.refl a) (answer_kept c.restrict_known-in-Node-care-2.ensures.keep c.in_ok-no-in-Node-care.ensures.answer) (low_child 0 n.number k _ (numbered c.args.tree.now) (numbered lo) (numbered hi) f c.requires.tree)

pub node-requires-clause-yes : goal.node-requires-clause-yes
node-requires-clause-yes g t c =
    let n = c.in-Node.node.value in
    let w = c.in-Node-care.guard.value in
    let k = c.deref.result.now.test in
    let lo = c.deref-in-Node-care-2.result.now.no in
    let hi = c.deref-in-Node-care-3.result.now.yes in
    let f : numbered c.args.tree.now ≡ branch n.number k (numbered lo) (numbered hi) = search rules in
    answer_tree g.L.PartialEq.eq (k + 1) (λ a. g.met.L.Eq.laws.refl a) c.in_ok-yes-in-Node-care.ensures.answer (high_child 0 n.number k _ (numbered c.args.tree.now) (numbered lo) (numbered hi) f c.requires.tree)

pub returns-in_err-made-in-Node-care-4-clause-keep : goal.returns-in_err-made-in-Node-care-4-clause-keep
returns-in_err-made-in-Node-care-4-clause-keep g t c =
    keep_both c.restrict_known-in-Node-care.ensures.keep (keep_both c.restrict_known-in-Node-care-2.ensures.keep (keep_trees _ c.node.ensures.keeps))

pub returns-in_ok-made-in-Node-care-4-clause-answer : goal.returns-in_ok-made-in-Node-care-4-clause-answer
returns-in_ok-made-in-Node-care-4-clause-answer g t c =
    let n = c.in-Node.node.value in
    let w = c.in-Node-care.guard.value in
    let k = c.deref.result.now.test in
    let lo = c.deref-in-Node-care-2.result.now.no in
    let hi = c.deref-in-Node-care-3.result.now.yes in
    let f : numbered c.args.tree.now ≡ branch n.number k (numbered lo) (numbered hi) = search rules in
    let e : plain c.args.care.now ≡ node w.test (plain w.no) (plain w.yes) = search rules in
    let le : k ≤ w.test = search rules in
    let s = are_sides g.L.PartialEq.eq (numbered c.args.tree.now) (numbered c.args.care.now) k w.test (numbered lo) (numbered hi) (plain w.no) (plain w.yes) (numbered c.side-low.result.now) (numbered c.side-high.result.now) (ap erase f) e le c.requires.care.reduced c.side-low.ensures.side c.side-high.ensures.side in
    let keep = keep_both c.restrict_known-in-Node-care.ensures.keep (keep_both c.restrict_known-in-Node-care-2.ensures.keep (keep_trees _ c.node.ensures.keeps)) in
    let a = by_both g.L.PartialEq.eq (numbered c.args.tree.now) (numbered c.args.care.now) k (numbered lo) (numbered hi) (numbered c.side-low.result.now) (numbered c.side-high.result.now) (numbered c.in_ok-no-in-Node-care.no) (numbered c.in_ok-yes-in-Node-care.yes) (numbered c.in_ok-made-in-Node-care-4.made) c.requires.exact (λ x. g.met.L.Eq.laws.refl x) s
    (sym c.is_false.ensures ∙ c.if-is_false.false) (sym c.is_false-in-Node-care.ensures ∙ c.if-is_false-2.false) (keep.of_trees.stay (numbered c.args.tree.now) c.requires.tree.own) (keep.of_cares.stay (numbered c.args.care.now) c.requires.care.own) c.in_ok-no-in-Node-care.ensures.answer c.in_ok-yes-in-Node-care.ensures.answer c.in_ok-made-in-Node-care-4.ensures.made c.in_ok-made-in-Node-care-4.ensures.tree.own in
    answer_same g.L.PartialEq.eq c.noted-in-Node-care.result (numbered c.args.tree.now) (numbered c.args.care.now) (numbered c.in_ok-made-in-Node-care-4.made) a c.noted-in-Node-care.ensures.same

pub returns-in_ok-made-in-Node-care-4-clause-known : goal.returns-in_ok-made-in-Node-care-4-clause-known
returns-in_ok-made-in-Node-care-4-clause-known g t c =
    let n = c.in-Node.node.value in
    let w = c.in-Node-care.guard.value in
    let k = c.deref.result.now.test in
    let lo = c.deref-in-Node-care-2.result.now.no in
    let hi = c.deref-in-Node-care-3.result.now.yes in
    let f : numbered c.args.tree.now ≡ branch n.number k (numbered lo) (numbered hi) = search rules in
    let e : plain c.args.care.now ≡ node w.test (plain w.no) (plain w.yes) = search rules in
    let le : k ≤ w.test = search rules in
    let s = are_sides g.L.PartialEq.eq (numbered c.args.tree.now) (numbered c.args.care.now) k w.test (numbered lo) (numbered hi) (plain w.no) (plain w.yes) (numbered c.side-low.result.now) (numbered c.side-high.result.now) (ap erase f) e le c.requires.care.reduced c.side-low.ensures.side c.side-high.ensures.side in
    let keep = keep_both c.restrict_known-in-Node-care.ensures.keep (keep_both c.restrict_known-in-Node-care-2.ensures.keep (keep_trees _ c.node.ensures.keeps)) in
    let a = by_both g.L.PartialEq.eq (numbered c.args.tree.now) (numbered c.args.care.now) k (numbered lo) (numbered hi) (numbered c.side-low.result.now) (numbered c.side-high.result.now) (numbered c.in_ok-no-in-Node-care.no) (numbered c.in_ok-yes-in-Node-care.yes) (numbered c.in_ok-made-in-Node-care-4.made) c.requires.exact (λ x. g.met.L.Eq.laws.refl x) s
    (sym c.is_false.ensures ∙ c.if-is_false.false) (sym c.is_false-in-Node-care.ensures ∙ c.if-is_false-2.false) (keep.of_trees.stay (numbered c.args.tree.now) c.requires.tree.own) (keep.of_cares.stay (numbered c.args.care.now) c.requires.care.own) c.in_ok-no-in-Node-care.ensures.answer c.in_ok-yes-in-Node-care.ensures.answer c.in_ok-made-in-Node-care-4.ensures.made c.in_ok-made-in-Node-care-4.ensures.tree.own in
    let fewer_low : measure (plain lo) (plain c.side-low.result.now) < measure (plain c.args.tree.now) (plain c.args.care.now) =
    fewer_side (plain c.args.tree.now) (plain lo) (plain lo) (plain hi) k (plain c.args.care.now) (plain c.side-low.result.now) false (ap erase f) (inl refl) c.side-low.ensures.side c.requires.care.small c.requires.care.reduced in
    let fewer_high : measure (plain hi) (plain c.side-high.result.now) < measure (plain c.args.tree.now) (plain c.args.care.now) =
    fewer_side (plain c.args.tree.now) (plain hi) (plain lo) (plain hi) k (plain c.args.care.now) (plain c.side-high.result.now) true (ap erase f) (inr refl) c.side-high.ensures.side c.requires.care.small c.requires.care.reduced in
    let both = keep_both c.restrict_known-in-Node-care.ensures.keep c.restrict_known-in-Node-care-2.ensures.keep in
    let first = unknown_stays (numbered c.args.tree.now) (numbered lo) (numbered c.args.care.now) (numbered c.side-low.result.now) (c.restrict_known-in-Node-care.ensures.keep.of_trees.stay (numbered c.args.tree.now) c.requires.tree.own) (c.restrict_known-in-Node-care.ensures.keep.of_cares.stay (numbered c.args.care.now) c.requires.care.own) (c.side-low.ensures.tree _ c.requires.care).reduced (c.side-low.ensures.tree _ c.requires.care).small fewer_low c.in_default.ensures.unknown c.in_ok-no-in-Node-care.ensures.counted.grown in
    let unknown = unknown_stays (numbered c.args.tree.now) (numbered hi) (numbered c.args.care.now) (numbered c.side-high.result.now) (both.of_trees.stay (numbered c.args.tree.now) c.requires.tree.own) (both.of_cares.stay (numbered c.args.care.now) c.requires.care.own) (c.side-high.ensures.tree _ c.requires.care).reduced (c.side-high.ensures.tree _ c.requires.care).small fewer_high first c.in_ok-yes-in-Node-care.ensures.counted.grown in
    c.noted-in-Node-care.ensures.known g.L.PartialEq.eq _ _ (known_kept (keep_trees _ c.node.ensures.keeps) c.in_ok-yes-in-Node-care.ensures.known) unknown a

pub returns-in_ok-made-in-Node-care-4-clause-counted : goal.returns-in_ok-made-in-Node-care-4-clause-counted
returns-in_ok-made-in-Node-care-4-clause-counted g t c =
    let n = c.in-Node.node.value in
    let w = c.in-Node-care.guard.value in
    let k = c.deref.result.now.test in
    let lo = c.deref-in-Node-care-2.result.now.no in
    let hi = c.deref-in-Node-care-3.result.now.yes in
    let f : numbered c.args.tree.now ≡ branch n.number k (numbered lo) (numbered hi) = search rules in
    let e : plain c.args.care.now ≡ node w.test (plain w.no) (plain w.yes) = search rules in
    let le : k ≤ w.test = search rules in
    let s = are_sides g.L.PartialEq.eq (numbered c.args.tree.now) (numbered c.args.care.now) k w.test (numbered lo) (numbered hi) (plain w.no) (plain w.yes) (numbered c.side-low.result.now) (numbered c.side-high.result.now) (ap erase f) e le c.requires.care.reduced c.side-low.ensures.side c.side-high.ensures.side in
    let keep = keep_both c.restrict_known-in-Node-care.ensures.keep (keep_both c.restrict_known-in-Node-care-2.ensures.keep (keep_trees _ c.node.ensures.keeps)) in
    let a = by_both g.L.PartialEq.eq (numbered c.args.tree.now) (numbered c.args.care.now) k (numbered lo) (numbered hi) (numbered c.side-low.result.now) (numbered c.side-high.result.now) (numbered c.in_ok-no-in-Node-care.no) (numbered c.in_ok-yes-in-Node-care.yes) (numbered c.in_ok-made-in-Node-care-4.made) c.requires.exact (λ x. g.met.L.Eq.laws.refl x) s
    (sym c.is_false.ensures ∙ c.if-is_false.false) (sym c.is_false-in-Node-care.ensures ∙ c.if-is_false-2.false) (keep.of_trees.stay (numbered c.args.tree.now) c.requires.tree.own) (keep.of_cares.stay (numbered c.args.care.now) c.requires.care.own) c.in_ok-no-in-Node-care.ensures.answer c.in_ok-yes-in-Node-care.ensures.answer c.in_ok-made-in-Node-care-4.ensures.made c.in_ok-made-in-Node-care-4.ensures.tree.own in
    let fewer_low : measure (plain lo) (plain c.side-low.result.now) < measure (plain c.args.tree.now) (plain c.args.care.now) =
    fewer_side (plain c.args.tree.now) (plain lo) (plain lo) (plain hi) k (plain c.args.care.now) (plain c.side-low.result.now) false (ap erase f) (inl refl) c.side-low.ensures.side c.requires.care.small c.requires.care.reduced in
    let fewer_high : measure (plain hi) (plain c.side-high.result.now) < measure (plain c.args.tree.now) (plain c.args.care.now) =
    fewer_side (plain c.args.tree.now) (plain hi) (plain lo) (plain hi) k (plain c.args.care.now) (plain c.side-high.result.now) true (ap erase f) (inr refl) c.side-high.ensures.side c.requires.care.small c.requires.care.reduced in
    let both = keep_both c.restrict_known-in-Node-care.ensures.keep c.restrict_known-in-Node-care-2.ensures.keep in
    let first = unknown_stays (numbered c.args.tree.now) (numbered lo) (numbered c.args.care.now) (numbered c.side-low.result.now) (c.restrict_known-in-Node-care.ensures.keep.of_trees.stay (numbered c.args.tree.now) c.requires.tree.own) (c.restrict_known-in-Node-care.ensures.keep.of_cares.stay (numbered c.args.care.now) c.requires.care.own) (c.side-low.ensures.tree _ c.requires.care).reduced (c.side-low.ensures.tree _ c.requires.care).small fewer_low c.in_default.ensures.unknown c.in_ok-no-in-Node-care.ensures.counted.grown in
    let unknown = unknown_stays (numbered c.args.tree.now) (numbered hi) (numbered c.args.care.now) (numbered c.side-high.result.now) (both.of_trees.stay (numbered c.args.tree.now) c.requires.tree.own) (both.of_cares.stay (numbered c.args.care.now) c.requires.care.own) (c.side-high.ensures.tree _ c.requires.care).reduced (c.side-high.ensures.tree _ c.requires.care).small fewer_high first c.in_ok-yes-in-Node-care.ensures.counted.grown in
    counted_step c.noted-in-Node-care.result (numbered c.args.tree.now) (numbered c.args.care.now) _ _ _ _ _ (keep.of_trees.stay (numbered c.args.tree.now) c.requires.tree.own) (keep.of_cares.stay (numbered c.args.care.now) c.requires.care.own) (node_is (plain c.args.tree.now) (plain lo) (plain hi) k (ap erase f)) (node_is (plain c.args.care.now) (plain w.no) (plain w.yes) w.test e)
    (grown_both (grown_part (numbered lo) (numbered c.args.tree.now) (numbered c.side-low.result.now) (numbered c.args.care.now) (keep_both c.restrict_known-in-Node-care-2.ensures.keep (keep_trees _ c.node.ensures.keeps)) (part_low (plain c.args.tree.now) (plain lo) (plain hi) k (ap erase f)) (reached_side (plain c.args.care.now) (plain c.side-low.result.now) k false c.side-low.ensures.side) c.in_ok-no-in-Node-care.ensures.counted.grown) (grown_part (numbered hi) (numbered c.args.tree.now) (numbered c.side-high.result.now) (numbered c.args.care.now) (keep_trees _ c.node.ensures.keeps) (part_high (plain c.args.tree.now) (plain lo) (plain hi) k (ap erase f)) (reached_side (plain c.args.care.now) (plain c.side-high.result.now) k true c.side-high.ensures.side) c.in_ok-yes-in-Node-care.ensures.counted.grown))
    (omega (arith, c.tick.ensures, c.in_ok-no-in-Node-care.ensures.counted.count, c.in_ok-yes-in-Node-care.ensures.counted.count)) (c.noted-in-Node-care.ensures.added unknown)

pub returns-in_ok-made-in-Node-care-4-clause-keep : goal.returns-in_ok-made-in-Node-care-4-clause-keep
returns-in_ok-made-in-Node-care-4-clause-keep g t c =
    keep_both c.restrict_known-in-Node-care.ensures.keep (keep_both c.restrict_known-in-Node-care-2.ensures.keep (keep_trees _ c.node.ensures.keeps))

pub returns-in-Some-clause-answer : goal.returns-in-Some-clause-answer
returns-in-Some-clause-answer g t c =
    answer_same g.L.PartialEq.eq c.share-in-Some.result (numbered c.args.tree.now) (numbered c.args.care.now) (numbered c.in-Some.known.now) (c.in-Some.ensures.found g.L.PartialEq.eq c.args.forest.now c.args.cares.now c.requires.known c.requires.tree.own c.requires.care.own) c.share-in-Some.ensures
