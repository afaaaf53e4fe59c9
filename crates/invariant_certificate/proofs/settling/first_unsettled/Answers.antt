use Rattle.std.proofs.Common.{not, take, drop, ◌+◌, refl, subst, arith}
use Rattle.std.proofs.lemmas.List.{take_all}
use Rattle.atom_solver.specs.Solutions.{Finds}
use Rattle.invariant_certificate.specs.Failing.{AllHold}
use Rattle.invariant_certificate.specs.FirstFailing.{loop_holds}
use Rattle.invariant_certificate.proofs.Halves.{splits_at}
use Rattle.invariant_certificate.proofs.settling.first_unsettled.Goals as goal

pub returns-in-Some : goal.returns-in-Some
returns-in-Some c =
    let one = c.one-item.result in
    record {
      one = one;
      place_is = refl;
      first = record {
        before = take c.loops.one-index c.args.loops.now;
        after = drop (c.loops.one-index + 1) c.args.loops.now;
        there = splits_at c.args.loops.now c.loops.one-index one c.loops-test.true c.one-item.is;
        earlier = c.loops.invariant;
        least = subst (Finds c.args.prepared.now (λ values. not (loop_holds c.args.atoms.now one values))) c.in-Some.is c.in_ok-config.ensures;
      };
    }

pub returns : goal.returns
returns c =
    subst (AllHold c.args.prepared.now (loop_holds c.args.atoms.now)) (take_all c.loops.one-index c.args.loops.now (omega (arith, c.loops-test.false))) c.loops.invariant
