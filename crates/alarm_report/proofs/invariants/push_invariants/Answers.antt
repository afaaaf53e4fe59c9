use Rattle.std.proofs.Common.{◌≡◌, [], ◌∷◌, ◌++◌, map, sym, subst, ap, ◌∙◌}
use Rattle.alarm_report.specs.Invariants.{AreInvariants, leaf_tree, invariant}
use Rattle.alarm_report.proofs.Leading.{map_joined}
use Rattle.alarm_report.proofs.Placed.{invariants_more}
use Rattle.alarm_report.proofs.invariants.push_invariants.Goals as goal

pub returns-clause-added : goal.returns-clause-added
returns-clause-added g c =
    let value = g.L.Leaf.value in
    let m = c.args.prepared.now in
    let atoms = c.args.atoms.now in
    let t = leaf_tree value c.args.tree.now in
    let old = c.args.list.now.items in
    let own = c.in_ok-own.own.items in
    let added : map (invariant value) c.append.new.self.items ≡ map (invariant value) old ++ map (invariant value) own =
    ap (map (invariant value)) c.in_ok-append.ensures.items ∙ map_joined (invariant value) old own in
    λ ts h. subst (λ xs. AreInvariants m atoms (ts ++ t ∷ []) xs) (sym added)
    (invariants_more m atoms ts (map (invariant value) old) t (map (invariant value) own) h c.in_ok-own.ensures.made)
