use Rattle.std.proofs.Common.{◌≡◌, ◌∙◌, ap, sym, subst, length, true, List, Bool}
use Rattle.std.specs.Prelude.{All}
use Rattle.c_tree.specs.Fit.{IsCodeOf}
use Rattle.c_tree.specs.Value.{IsInt}
use Rattle.c_tree.specs.View.{code, whole}
use Rattle.c_tree.specs.Whole.{IsDeclaredOf}
use Rattle.decision_tree.specs.Plain.{leaf_of}
use Rattle.decision_tree.specs.View.{numbered, plain}
use Rattle.plain_analysis.specs.Ways.{enter, end_of}
use Rattle.plain_analysis.proofs.StatedLemmas.{has_its_loops, loops_same}
use Rattle.lifted_analysis.specs.Rules.{IsRuled, chosen_heads, heads_in, heads_where, ruled_heads}
use Rattle.lifted_analysis.specs.Start.{start_at}
use Rattle.lifted_analysis.proofs.Answered.{noted_made, start_valid}
use Rattle.lifted_analysis.proofs.EntryLemmas.{state_reduced}
use Rattle.lifted_analysis.proofs.FinalsLemmas.{memory_empty}
use Rattle.lifted_analysis.proofs.PassedLemmas.{AreFit}
use Rattle.lifted_analysis.proofs.StartLemmas.{leaf_tree, truth_of_tree}
use Rattle.lifted_analysis.proofs.WalkLemmas.{ruled_fit, rule_known, rule_heads, known_stays}
use Rattle.lifted_analysis.proofs.analysis.noted_in.Goals as goal

pub start_tree-requires-clause-count : goal.start_tree-requires-clause-count
start_tree-requires-clause-count g c = ap length c.items.ensures ∙ (c.requires.program.starts ∙ sym c.requires.count)

pub start_tree-requires-clause-ints : goal.start_tree-requires-clause-ints
start_tree-requires-clause-ints g c = subst (All IsInt) (sym c.items.ensures) c.requires.program.ints

pub start_tree-requires-clause-declared : goal.start_tree-requires-clause-declared
start_tree-requires-clause-declared g c = subst (λ n. All (IsDeclaredOf n) c.args.family.now.program.now.declared) (sym c.requires.count) c.requires.program.declared

pub enter_list-requires-clause-part : goal.enter_list-requires-clause-part
enter_list-requires-clause-part g c =
    let p = whole c.args.family.now.program.now in (
      subst (λ l. IsCodeOf c.args.family.now.variables (code l)) (sym c.deref.ensures.value) (subst (λ n. IsCodeOf n (code c.args.family.now.program.now.body.items)) (sym c.requires.count) c.requires.program.names),
      loops_same p _ _ c.deref.ensures.value (has_its_loops p c.requires.program.rising),
    )

pub enter_list-requires-clause-here : goal.enter_list-requires-clause-here
enter_list-requires-clause-here g c =
    truth_of_tree c.args.family.now (λ v. true) c.in_ok-here.here (leaf_tree c.args.family.now c.leaf.new.self c.in_ok-here.here true c.in_ok-here.ensures.same c.in_ok-here.ensures.tree)

pub enter_list-requires-clause-memory : goal.enter_list-requires-clause-memory
enter_list-requires-clause-memory g c =
    let value = g.L.Leaf.value in
    let M = g.L.Leaf.meaning in
    let family = c.args.family.now in
    let p = whole family.program.now in
    let sound = c.transfer_is_sound.ensures in
    let started : (v : List Bool) → value (leaf_of (plain c.in_ok-start.start) v) ≡ start_at M family p.start p.declared v =
    λ v. c.in_ok-start.ensures.at_each v ∙ ap (λ l. start_at M family l p.declared v) c.items.ensures in
    let known : IsRuled value M family c.start_tree.new.tables.leaves c.in_ok-rule.rule = rule_known value M family c.args.is_given c.start_tree.new.tables.leaves c.in_ok-start.start c.in_ok-rule.rule c.in_ok-rule.ensures c.in_ok-start.ensures.state
    (λ v. subst M.valid (sym (started v)) (start_valid value family M g.met.L.Leaf.laws (sound.answers family.options.now.mode) (sound.nothing family.options.now.mode) p c.requires.program c.requires.count v)) in
    known_stays value M family c.in_ok-rule.rule c.start_tree.new.tables.leaves c.enter.new.tables.leaves _ c.in_ok-entered.ensures.keeps (record { memory = memory_empty value M family c.start_tree.new.tables.leaves _ c.new.ensures.empty; ruled = known })

pub add_end-requires-clause-tree : goal.add_end-requires-clause-tree
add_end-requires-clause-tree g c = state_reduced g.L.Leaf.value c.args.family.now c.end.new.tables.leaves (numbered c.in_ok-tree.tree) c.in_ok-tree.ensures.state

pub returns : goal.returns
returns g c =
    let value = g.L.Leaf.value in
    let M = g.L.Leaf.meaning in
    let laws = g.met.L.Leaf.laws in
    let family = c.args.family.now in
    let sound = c.transfer_is_sound.ensures in
    let p = whole family.program.now in
    let A = sound.answers family.options.now.mode in
    let N = sound.nothing family.options.now.mode in
    let r = c.in_ok-rule.rule in
    let started : (v : List Bool) → value (leaf_of (plain c.in_ok-start.start) v) ≡ start_at M family p.start p.declared v =
    λ v. c.in_ok-start.ensures.at_each v ∙ ap (λ l. start_at M family l p.declared v) c.items.ensures in
    let known : IsRuled value M family c.start_tree.new.tables.leaves r = rule_known value M family c.args.is_given c.start_tree.new.tables.leaves c.in_ok-start.start r c.in_ok-rule.ensures c.in_ok-start.ensures.state
    (λ v. subst M.valid (sym (started v)) (start_valid value family M laws A N p c.requires.program c.requires.count v)) in
    let same : (v : List Bool) → ruled_heads value M family r v ≡ chosen_heads M family c.args.is_given v (start_at M family p.start p.declared v) =
    λ v. rule_heads value M family c.args.is_given c.in_ok-start.start r v (start_at M family p.start p.declared v) c.in_ok-rule.ensures (started v) in
    noted_made value family M laws A N p c.requires.program c.requires.count
    (heads_in value M family r (plain c.in_ok-here.here)) (λ v. chosen_heads M family c.args.is_given v (start_at M family p.start p.declared v))
    c.new-noted.result c.enter_list.new.noted c.add_end.new.noted (code c.deref.result.now) c.in_ok-entered.entered (plain c.in_ok-tree.tree)
    (λ v. ap (λ t. heads_where (leaf_of t v) (ruled_heads value M family r v)) c.in_ok-here.ensures.same ∙ same v)
    (λ v. subst (λ G. AreFit M family.options.now.mode (length p.names) G) (same v) (subst (λ n. AreFit M family.options.now.mode n (ruled_heads value M family r v)) c.requires.count (ruled_fit value M family laws A c.start_tree.new.tables.leaves r v known c.requires.family.bounds)))
    (ap code c.deref.ensures.value) c.new-noted.ensures.places c.new-noted.ensures.alarms c.new-noted.ensures.turns c.in_ok-ways.ensures.entered
    (λ v. c.in_ok-entered.ensures.at_each v ∙ ap enter (started v)) (λ v. c.in_ok-tree.ensures.at_each v ∙ ap (end_of M) (c.in_ok-ways.ensures.made.at_each v)) c.in_ok-add_end.ensures
