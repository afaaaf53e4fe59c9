use Rattle.std.proofs.Common.{◌≡◌, ◌∷◌, length}
use Rattle.leaf_domain.specs.Forms.{AreTerms}
use Rattle.linearised_leaf.specs.Sides.{pairs_met}
use Rattle.linearised_leaf.proofs.sides.pairs_met.Given as goal

abbrev pub invariant-others : goal.invariant-others
invariant-others g l = record {
  terms : AreTerms 0 (g.L.Leaf.value l.leaf).variables (l.first ∷ l.rest);
  same : (g.L.Leaf.value l.kept).variables ≡ (g.L.Leaf.value l.leaf).variables;
  left : pairs_met g.L.Leaf.meaning (g.L.Leaf.value l.leaf) l.least l.first l.rest (g.L.Leaf.value l.kept) ≡ pairs_met g.L.Leaf.meaning (g.L.Leaf.value l.leaf) l.least l.first l.initial.rest (g.L.Leaf.value l.initial.kept);
}

abbrev pub decreases-others : goal.decreases-others
decreases-others g l = length l.rest
