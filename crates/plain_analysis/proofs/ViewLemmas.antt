-- Leaves over as many variables.
use Rattle.std.proofs.Common.{◌≡◌, ℕ, sym, subst}
use Rattle.leaf_domain.specs.Leaves.{LeafValue}
use Rattle.plain_analysis.specs.declared.ways.Ways as rust
use Rattle.plain_analysis.specs.View.{AreOver}

pub over_as : {L : Type 0} (value : L → LeafValue) (w : rust.Ways L) (n m : ℕ) → m ≡ n → AreOver value n w → AreOver value m w
over_as value w n m e h = subst (λ k. AreOver value k w) (sym e) h
