use Rattle.std.proofs.Common.{rules, ◌≡◌, subst, OnOk, FitsSigned, w64}
use Rattle.std.proofs.lemmas.Int.{to_z-of_z}
use Rattle.loop_thresholds.proofs.Kept.{kept_candidates}
use Rattle.loop_thresholds.proofs.keeping.keep_candidates.Goals as goal

pub returns : goal.returns
returns c =
    let f = c.ranges.number in
    let g : FitsSigned w64 c.saturating_sub.result = search rules in
    let h : FitsSigned w64 c.saturating_add.result = search rules in
    let before = simp to_z-of_z at c.saturating_sub.ensures in
    let after = simp to_z-of_z at c.saturating_add.ensures in
    let first = simp to_z-of_z at c.in_ok-keep.ensures in
    let second = simp to_z-of_z at c.in_ok-keep-2.ensures in
    let third = simp to_z-of_z at c.keep-3.ensures in
    let all = kept_candidates c.args.kept.now.items c.keep.new.kept.items c.keep-2.new.kept.items c.args.number c.saturating_sub.result c.saturating_add.result before after first second in
    subst (λ l. OnOk c.keep-3.result (c.keep-3.new.kept.items ≡ l)) all third
