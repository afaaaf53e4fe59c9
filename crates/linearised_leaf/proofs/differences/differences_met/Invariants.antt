use Rattle.std.proofs.Common.{◌≡◌, length}
use Rattle.leaf_domain.specs.Forms.{AreTerms}
use Rattle.linearised_leaf.specs.Differences.{differences_met}
use Rattle.linearised_leaf.proofs.differences.differences_met.Given as goal

abbrev pub invariant-terms : goal.invariant-terms
invariant-terms g l = record {
  terms : AreTerms 0 (g.L.Leaf.value l.leaf).variables l.rest;
  same : (g.L.Leaf.value l.kept).variables ≡ (g.L.Leaf.value l.leaf).variables;
  left : differences_met g.L.Leaf.meaning (g.L.Leaf.value l.leaf) l.least l.own l.rest (g.L.Leaf.value l.kept) ≡ differences_met g.L.Leaf.meaning (g.L.Leaf.value l.leaf) l.least l.own l.initial.rest (g.L.Leaf.value l.initial.kept);
}

abbrev pub decreases-terms : goal.decreases-terms
decreases-terms g l = length l.rest
