use Rattle.std.proofs.Common.{◌≤◌, ap, sym, subst, length, inl, refl}
use Rattle.c_tree.specs.View.{whole}
use Rattle.lifted_analysis.specs.Conditions.{AreTreesOf}
use Rattle.lifted_analysis.proofs.ConditionLemmas.{numbered_each}
use Rattle.std.proofs.lemmas.List.Elements.{All-nil}
use Rattle.cpp_conditions.specs.Propositions.{IsBelow}
use Rattle.cpp_conditions.specs.View.{formula}
use Rattle.lifted_analysis.specs.declared.lines.LoopLine.{LoopLine}
use Rattle.lifted_analysis.specs.Lines.{AreVariableBounds}
use Rattle.lifted_analysis.proofs.Answered.{are_findings}
use Rattle.lifted_analysis.proofs.analysis.findings_in.Goals as goal

pub noted_in-requires-clause-family : goal.noted_in-requires-clause-family
noted_in-requires-clause-family g c =
    let trees : AreTreesOf c.args.conditions.now c.deref.result.now = subst (AreTreesOf c.args.conditions.now) (sym c.deref.ensures.value) c.in_ok-trees.ensures.choices in
    let few : length c.items.result.now ≤ 48 = subst (λ n. n ≤ 48) (sym (ap length c.items.ensures)) c.requires.program.few in
    record {
      few = few;
      never = c.in_ok-trees.ensures.never;
      regions = All-nil (λ (l : LoopLine). IsBelow 320 (formula l.region));
      bounds = All-nil (λ (l : LoopLine). AreVariableBounds (length c.items.result.now) l.bounds);
      choices = λ i t e. numbered_each c.args.conditions.now c.deref.result.now i t trees e;
    }

pub noted_in-requires-clause-plausible : goal.noted_in-requires-clause-plausible
noted_in-requires-clause-plausible g c =
    record { tree = c.in_ok-trees.ensures.tree; tests = λ k w. inl w }

pub returns : goal.returns
returns g c =
    let trees : AreTreesOf c.args.conditions.now c.deref.result.now = subst (AreTreesOf c.args.conditions.now) (sym c.deref.ensures.value) c.in_ok-trees.ensures.choices in
    are_findings g.L.Leaf.value c.equality_is_exact.ensures.value g.L.Leaf.meaning _ (whole c.args.code.now) c.args.conditions.now c.args.plausible.now trees c.in_ok-trees.ensures.plausible (ap length c.items.ensures) refl c.in_ok-noted.noted c.in_ok-noted.ensures
