use Rattle.std.proofs.Common.{◌≡◌, ◌+◌, ◌<◌, ◌^◌, ◌++◌, length}
use Rattle.linear_atoms.specs.Atoms.{AreValues}
use Rattle.configuration_advice.specs.Searching.{pairs}
use Rattle.configuration_advice.proofs.question.with_pairs.Given as goal

abbrev pub invariant-features : goal.invariant-features
invariant-features l = record {
  all : l.list.items ++ pairs l.number l.rest ≡ l.fn.atoms ++ pairs 0 l.fn.given;
  few : l.number + length l.rest < 2 ^ 32;
  values : AreValues l.rest;
}

abbrev pub decreases-features : goal.decreases-features
decreases-features l = length l.rest
