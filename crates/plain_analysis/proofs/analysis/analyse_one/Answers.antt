use Rattle.std.proofs.Common.{◌≡◌, ◌++◌, length, map, ap, sym, subst, ◌∙◌, refl}
use Rattle.c_tree.specs.View.{code, whole}
use Rattle.c_tree.specs.Fit.{IsCodeOf}
use Rattle.leaf_domain.specs.Leaves.{LeafValue}
use Rattle.plain_analysis.specs.Statements.{after_of, entries_of, final_heads}
use Rattle.plain_analysis.specs.Entered.{place_and_leaf, leaves_in, alarms_in}
use Rattle.plain_analysis.specs.View.{ways_of}
use Rattle.plain_analysis.specs.Ways.{Ways, enter, end_of}
use Rattle.plain_analysis.proofs.Listed.{fit_same}
use Rattle.plain_analysis.proofs.Promised.{places, leaves, alarms}
use Rattle.plain_analysis.proofs.StatedLemmas.{has_its_loops, loops_same}
use Rattle.plain_analysis.proofs.analysis.analyse_one.Goals as goal

pub enter_list-requires-clause-part : goal.enter_list-requires-clause-part
enter_list-requires-clause-part g c =
    let p = whole c.args.program.now in
    let n = (g.L.Leaf.value c.in_ok-ways.ways.behind).variables in
    let same : n ≡ length p.names = c.in_ok-ways.ensures.over.behind ∙ (ap (λ (v : LeafValue). v.variables) c.in_ok-entered.ensures ∙ c.requires.variables) in
    (fit_same n _ _ c.deref.ensures.value (subst (λ m. IsCodeOf m p.body) (sym same) c.requires.program.names), loops_same p _ _ c.deref.ensures.value (has_its_loops p c.requires.program.rising))

pub returns-clause-places : goal.returns-clause-places
returns-clause-places g c =
    let value = g.L.Leaf.value in
    let M = g.L.Leaf.meaning in
    let o = c.args.options.now in
    let d = value c.args.start.now in
    let start = c.in_ok-ways.ensures.value ∙ ap enter c.in_ok-entered.ensures in
    let left = c.in_ok-left.ensures.value ∙ (ap (after_of M o (code c.deref.result.now)) start ∙ ap (λ l. after_of M o (code l) (enter d)) c.deref.ensures.value) in
    let after = c.in_ok-leaf.ensures.value ∙ ap (end_of M) left in
    let entered = c.in_ok-left.ensures.entered.leaves
    ∙ (ap (λ l. map (place_and_leaf value) l ++ leaves_in (entries_of M o (code c.deref.result.now) (ways_of value c.in_ok-ways.ways))) c.new.ensures.items
    ∙ (ap (λ (w : Ways). leaves_in (entries_of M o (code c.deref.result.now) w)) start ∙ ap (λ l. leaves_in (entries_of M o (code l) (enter d))) c.deref.ensures.value)) in
    ap (map (λ at. at.place)) (c.from_vec.ensures ∙ c.in_ok-push.ensures.items)
    ∙ places M o.mode (final_heads M o) (whole c.args.program.now) d c.requires.program c.requires.plain value c.enter_list.new.noted.places.items (record { place = c.args.program.now.end; leaf = c.in_ok-leaf.leaf }) entered refl after

pub returns-clause-leaves : goal.returns-clause-leaves
returns-clause-leaves g c =
    let value = g.L.Leaf.value in
    let M = g.L.Leaf.meaning in
    let o = c.args.options.now in
    let d = value c.args.start.now in
    let start = c.in_ok-ways.ensures.value ∙ ap enter c.in_ok-entered.ensures in
    let left = c.in_ok-left.ensures.value ∙ (ap (after_of M o (code c.deref.result.now)) start ∙ ap (λ l. after_of M o (code l) (enter d)) c.deref.ensures.value) in
    let after = c.in_ok-leaf.ensures.value ∙ ap (end_of M) left in
    let entered = c.in_ok-left.ensures.entered.leaves
    ∙ (ap (λ l. map (place_and_leaf value) l ++ leaves_in (entries_of M o (code c.deref.result.now) (ways_of value c.in_ok-ways.ways))) c.new.ensures.items
    ∙ (ap (λ (w : Ways). leaves_in (entries_of M o (code c.deref.result.now) w)) start ∙ ap (λ l. leaves_in (entries_of M o (code l) (enter d))) c.deref.ensures.value)) in
    ap (map (λ at. value at.leaf)) (c.from_vec.ensures ∙ c.in_ok-push.ensures.items)
    ∙ leaves M o.mode (final_heads M o) (whole c.args.program.now) d c.requires.program c.requires.plain value c.enter_list.new.noted.places.items (record { place = c.args.program.now.end; leaf = c.in_ok-leaf.leaf }) entered refl after

pub returns-clause-alarms : goal.returns-clause-alarms
returns-clause-alarms g c =
    let M = g.L.Leaf.meaning in
    let o = c.args.options.now in
    let value = g.L.Leaf.value in
    let d = value c.args.start.now in
    let start = c.in_ok-ways.ensures.value ∙ ap enter c.in_ok-entered.ensures in
    c.from_vec-2.ensures
    ∙ (c.in_ok-left.ensures.entered.alarms
    ∙ (ap (λ l. l ++ alarms_in M o.mode (entries_of M o (code c.deref.result.now) (ways_of value c.in_ok-ways.ways))) c.new-2.ensures.items
    ∙ (ap (λ (w : Ways). alarms_in M o.mode (entries_of M o (code c.deref.result.now) w)) start
    ∙ (ap (λ l. alarms_in M o.mode (entries_of M o (code l) (enter d))) c.deref.ensures.value
    ∙ alarms M o.mode (final_heads M o) (whole c.args.program.now) d c.requires.program c.requires.plain))))
