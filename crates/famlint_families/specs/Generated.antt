-- The family that `generate` makes for a number of blocks.
use Rattle.std.specs.Prelude.{ℕ, ◌≡◌, [], Ok}
use Rattle.family_generator.specs.Features.{generated_dialect, generated_features}
use Rattle.family_generator.specs.Texts.{generated_text}
use Rattle.famlint_loads.specs.declared.product_line.ProductLine.{ProductLine}
use Rattle.famlint_loads.specs.Loads.{IsFamily}

-- the generated model, the generated text, and the family that it spells over the model
pub record IsGeneratedLine (number : ℕ) (l : ProductLine) : Type 0 where
  pub dialect : l.dialect ≡ generated_dialect
  pub features : l.model.features ≡ generated_features
  pub constraints : l.model.constraints ≡ []
  pub text : l.text ≡ generated_text number
  pub family : IsFamily l.dialect l.model l.text (Ok l.family)
