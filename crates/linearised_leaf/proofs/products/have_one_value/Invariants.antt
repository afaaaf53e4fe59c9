use Rattle.std.proofs.Common.{◌≡◌, length}
use Rattle.leaf_domain.specs.Forms.{AreTerms}
use Rattle.linearised_leaf.specs.Products.{have_one_value}
use Rattle.linearised_leaf.proofs.products.have_one_value.Given as goal

abbrev pub invariant-terms : goal.invariant-terms
invariant-terms g l = record {
  terms : AreTerms 0 (g.L.Leaf.value l.leaf).variables l.rest;
  left : have_one_value g.L.Leaf.meaning (g.L.Leaf.value l.leaf) l.rest ≡ have_one_value g.L.Leaf.meaning (g.L.Leaf.value l.leaf) l.initial.rest;
}

abbrev pub decreases-terms : goal.decreases-terms
decreases-terms g l = length l.rest
