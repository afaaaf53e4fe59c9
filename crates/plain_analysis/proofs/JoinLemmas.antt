-- The join of two leaves that answer one.
use Rattle.std.proofs.Common.{sym, ◌∙◌}
use Rattle.leaf_domain.specs.Leaves.{LeafValue, LeafMeaning, LeafLaws, IsLeafLike}
use Rattle.leaf_domain.proofs.Answered.{answers_then}

module _ (M : LeafMeaning) (laws : LeafLaws M) where
  pub join_answer : (x a b : LeafValue) → IsLeafLike M x a → IsLeafLike M x b → IsLeafLike M x (M.join a b)
  join_answer x a b h k = answers_then x a _ h (laws.join_answers a b (record { first = h.valid; second = k.valid; same = h.same ∙ sym k.same }))
