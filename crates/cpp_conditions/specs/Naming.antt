-- The features by name.
use Rattle.std.specs.Prelude.{◌≡◌, ℕ, ◌+◌, ◌≤◌, List, length, option_map}
use Rattle.std.specs.Borrow.{Bor}
use Rattle.std.specs.Map.{lookup}
use Rattle.std.specs.Str.{bytes_eq}
use Rattle.linear_atoms.specs.Atoms.{AreRanges}
use Rattle.linear_atoms.specs.declared.atoms.Feature.{Feature}
use Rattle.cpp_conditions.specs.Expressions.{found}

-- the entries have the places of the features, counted from the first number
abbrev pub Finds : List (Bor (List ℕ) × ℕ) → ℕ → List Feature → Type 0
Finds entries first features = (q : Bor (List ℕ)) → lookup (λ k. bytes_eq q.now k.now) entries ≡ option_map (λ n. first + n) (found q.now features)

-- features as those of a model: at most 32, whose ranges are not empty and have ends of at most 2^20 in size
pub record AreFeatures (features : List Feature) : Type 0 where
  pub few : length features ≤ 32
  pub ranges : AreRanges features
