-- The texts of advice.
use Rattle.std.specs.Prelude.{ℕ, ℤ, Option, Some, None, List, [], ◌∷◌, ◌++◌, codes}
use Rattle.std.specs.Fmt.{decimal, signed_decimal}
use Rattle.linear_atoms.specs.declared.atoms.Feature.{Feature}
use Rattle.linear_atoms.specs.SettingTexts.{config_text}
use Rattle.configuration_advice.specs.declared.comparing.Advice.{Advice}
use Rattle.configuration_advice.specs.declared.feature_uses.FeatureUse.{FeatureUse}
use Rattle.configuration_advice.specs.declared.feature_uses.FeatureUse.TheVariants.{Free, Dead, Always, Span}

abbrev pub span_text : ℤ → ℤ → List ℕ
span_text low high = signed_decimal low ++ codes " to " ++ signed_decimal high

abbrev pub use_text : FeatureUse → List ℕ
use_text Free = codes "free"
use_text Dead = codes "dead"
use_text Always = codes "always"
use_text (Span low high) = span_text low high

-- a feature with its use, as a line
abbrev pub use_line : Feature → FeatureUse → List ℕ
use_line feature use' = feature.name ++ codes ": " ++ use_text use' ++ codes "\n"

-- a line for each feature that has a use
abbrev pub uses_text : List Feature → List FeatureUse → List ℕ
uses_text [] us = []
uses_text (f ∷ fs) [] = []
uses_text (f ∷ fs) (u ∷ us) = use_line f u ++ uses_text fs us

abbrev pub changed_text : ℕ → List ℕ
changed_text changed = codes "; changed " ++ decimal changed ++ codes "\n"

abbrev pub advice_line : List Feature → Advice → List ℕ
advice_line features advice = codes "advice: " ++ config_text features advice.config.values ++ changed_text advice.changed

abbrev pub advice_text : List Feature → Option Advice → List ℕ
advice_text features None = codes "advice: none\n"
advice_text features (Some advice) = advice_line features advice
