use Rattle.std.proofs.Common.{take, sym, ap, ◌∙◌, true, false}
use Rattle.std.proofs.lemmas.Int.{to_z-of_z}
use Rattle.loop_thresholds.proofs.Kept.{kept_where}
use Rattle.loop_thresholds.proofs.keeping.keep.Goals as goal

pub returns-in_ok-insert : goal.returns-in_ok-insert
returns-in_ok-insert c =
    let f = c.ranges.number in
    let e = simp to_z-of_z at c.is_int.ensures in
    let made = simp to_z-of_z at c.in_ok-insert.ensures in
    c.truncate.ensures.items ∙ ap (take 64) made ∙ sym (kept_where true c.args.kept.now.items c.args.number (sym e ∙ c.if-is_int.true))

pub returns-else-is_int : goal.returns-else-is_int
returns-else-is_int c =
    let f = c.ranges.number in
    let e = simp to_z-of_z at c.is_int.ensures in
    sym (kept_where false c.args.kept.now.items c.args.number (sym e ∙ c.if-is_int.false))
