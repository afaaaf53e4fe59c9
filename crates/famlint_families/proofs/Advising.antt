-- The trees that advice is asked of.
use Rattle.std.proofs.Common.{◌≡◌, Bool, List, [], ◌∷◌, map, sym, subst, refl}
use Rattle.std.specs.List.{All}
use Rattle.std.proofs.lemmas.List.Elements.{All-cons, All-head, All-nil, All-tail}
use Rattle.decision_tree.specs.declared.tree.Tree.{Tree}
use Rattle.decision_tree.specs.Numbered.{Numbered, erase}
use Rattle.decision_tree.specs.View.{numbered, plain}
use Rattle.lifted_analysis.specs.declared.findings.AlarmTree.{AlarmTree}
use Rattle.alarm_report.specs.Alarms.{plain_alarm_tree}
use Rattle.famlint_families.specs.Advised.{trees_of}

abbrev pub numbered_trees : List AlarmTree → List (Numbered Bool)
numbered_trees alarms = map (λ (a : AlarmTree). numbered a.tree) alarms

-- what holds of each tree holds of each of the same trees
pub all_alike : (P : Numbered Bool → Type 0) (made : List (Tree Bool)) (alarms : List AlarmTree) → map numbered made ≡ numbered_trees alarms
    → All (λ (a : AlarmTree). P (numbered a.tree)) alarms → All (λ (t : Tree Bool). P (numbered t)) made
all_alike P [] alarms e h = All-nil (λ (t : Tree Bool). P (numbered t))
all_alike P (t ∷ made) [] e h = absurd cc
all_alike P (t ∷ made) (a ∷ alarms) e h =
    let here : numbered t ≡ numbered a.tree = cc in
    let rest : map numbered made ≡ numbered_trees alarms = cc in
    All-cons (λ (x : Tree Bool). P (numbered x)) t made
    (subst P (sym here) (All-head (λ (x : AlarmTree). P (numbered x.tree)) a alarms h))
    (all_alike P made alarms rest (All-tail (λ (x : AlarmTree). P (numbered x.tree)) a alarms h))

-- the same trees without numbers
pub plain_alike : (made : List (Tree Bool)) (alarms : List AlarmTree) → map numbered made ≡ numbered_trees alarms → map plain made ≡ trees_of (map plain_alarm_tree alarms)
plain_alike [] [] e = refl
plain_alike [] (a ∷ alarms) e = absurd cc
plain_alike (t ∷ made) [] e = absurd cc
plain_alike (t ∷ made) (a ∷ alarms) e =
    let here : numbered t ≡ numbered a.tree = cc in
    let rest : map plain made ≡ trees_of (map plain_alarm_tree alarms) = plain_alike made alarms cc in
    let same : plain t ≡ plain a.tree = subst (λ n. erase n ≡ plain a.tree) (sym here) refl in
    cc
