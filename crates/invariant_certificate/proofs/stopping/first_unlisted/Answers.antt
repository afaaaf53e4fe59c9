use Rattle.std.proofs.Common.{length, not, take, drop, ◌+◌, refl, ap, sym, subst, arith}
use Rattle.std.proofs.lemmas.List.{take_all}
use Rattle.cpp_conditions.specs.Numbering.{vector_at}
use Rattle.atom_solver.specs.Solutions.{Finds}
use Rattle.decision_tree.specs.Listed.{IsNumberedTree}
use Rattle.decision_tree.specs.Plain.{TestsBelow, leaf_of}
use Rattle.decision_tree.specs.View.{numbered, plain}
use Rattle.lifted_analysis.specs.declared.findings.AlarmTree.{AlarmTree}
use Rattle.invariant_certificate.specs.Failing.{AllHold}
use Rattle.invariant_certificate.specs.FirstFailing.{stop_holds}
use Rattle.invariant_certificate.proofs.Belows.{more_lines}
use Rattle.invariant_certificate.proofs.First.{first_as}
use Rattle.invariant_certificate.proofs.Halves.{splits_at}
use Rattle.invariant_certificate.proofs.stopping.first_unlisted.Goals as goal

pub covered-requires-clause-tree : goal.covered-requires-clause-tree
covered-requires-clause-tree c =
    let one = c.alarm-item.result in
    subst (λ (a : AlarmTree). IsNumberedTree 0 320 (numbered a.tree)) (sym c.alarm-item.is) (c.requires.trees c.alarms.alarm-index one c.alarms-test.true)

pub covered-requires-clause-lines : goal.covered-requires-clause-lines
covered-requires-clause-lines c = more_lines (length c.args.atoms.now) 320 c.requires.few c.args.lines.now c.requires.lines

pub least_untrue-requires-clause-tests : goal.least_untrue-requires-clause-tests
least_untrue-requires-clause-tests c =
    let one = c.alarm-item.result in
    c.in_ok-covered.ensures.tests (length c.args.atoms.now)
    (subst (λ (a : AlarmTree). TestsBelow (length c.args.atoms.now) (plain a.tree)) (sym c.alarm-item.is) (c.requires.tests c.alarms.alarm-index one c.alarms-test.true))
    c.requires.lines

pub returns-in-Some : goal.returns-in-Some
returns-in-Some c =
    let one = c.alarm-item.result in
    let atoms = c.args.atoms.now in
    let tree = plain c.in_ok-covered.covered in
    record {
      one = one;
      place_is = refl;
      kind_is = refl;
      first = record {
        before = take c.alarms.alarm-index c.args.alarms.now;
        after = drop (c.alarms.alarm-index + 1) c.args.alarms.now;
        there = splits_at c.args.alarms.now c.alarms.alarm-index one c.alarms-test.true c.alarm-item.is;
        earlier = c.alarms.invariant;
        least = first_as c.args.prepared.now (λ values. not (leaf_of tree (vector_at atoms values))) (λ values. not (stop_holds atoms c.args.lines.now one values))
            c.in-Some.config.values (λ k. ap not (c.in_ok-covered.ensures.truth (vector_at atoms k)))
            (subst (Finds c.args.prepared.now (λ values. not (leaf_of tree (vector_at atoms values)))) c.in-Some.is c.in_ok-config.ensures);
      };
    }

pub returns : goal.returns
returns c =
    subst (AllHold c.args.prepared.now (stop_holds c.args.atoms.now c.args.lines.now)) (take_all c.alarms.alarm-index c.args.alarms.now (omega (arith, c.alarms-test.false))) c.alarms.invariant
