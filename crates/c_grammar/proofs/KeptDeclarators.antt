-- The declarators that stay where each condition has a truth.
use Rattle.std.proofs.Common.{◌≡◌, Bool, true, false, cond, List, [], ◌∷◌, ◌++◌, refl, ap}
use Rattle.c_tree.specs.declared.lists.Declared.{Declared}
use Rattle.c_tree.specs.Project.{guards_hold}
use Rattle.c_grammar.specs.Groups.{declared}

-- the declarators that stay, without guards
unfoldable pub kept_declared : List Bool → List Declared → List Declared
kept_declared t [] = []
kept_declared t (d ∷ ds) = cond (guards_hold t d.guards) (declared d.target d.value [] ∷ kept_declared t ds) (kept_declared t ds)

pub kept_both : (t : List Bool) (ds es : List Declared) → kept_declared t (ds ++ es) ≡ kept_declared t ds ++ kept_declared t es
unfolding kept_declared
kept_both t [] es = refl
kept_both t (d ∷ ds) es = elim (guards_hold t d.guards) as (λ b. cond b (declared d.target d.value [] ∷ kept_declared t (ds ++ es)) (kept_declared t (ds ++ es)) ≡ cond b (declared d.target d.value [] ∷ kept_declared t ds) (kept_declared t ds) ++ kept_declared t es) [
  | true ↦ ap (λ (y : List Declared). declared d.target d.value [] ∷ y) (kept_both t ds es)
  | false ↦ kept_both t ds es
]
