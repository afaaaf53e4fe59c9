-- What a contract sees of a tree.
use Rattle.decision_tree.specs.declared.tree.Tree.{Tree}
use Rattle.decision_tree.specs.declared.tree.Tree.TheVariants.{Leaf, Node'}
use Rattle.decision_tree.specs.Plain.{Plain}
use Rattle.decision_tree.specs.Numbered.{Numbered, kept, branch, erase}

module _ {L : Type 0} where
  -- what a tree holds, with its numbers
  abbrev pub numbered : Tree L → Numbered L
  numbered (Leaf r) = kept r.value.number r.value.value
  numbered (Node' p number test low high) = branch number test (numbered low) (numbered high)

  -- the same without numbers
  abbrev pub plain : Tree L → Plain L
  plain t = erase (numbered t)
