use Rattle.std.proofs.Common.{◌≡◌, ℕ, List, sym, subst, ◌∙◌}
use Rattle.linear_atoms.specs.declared.atoms.Feature.{Feature}
use Rattle.feature_values.specs.Laws.{UsesStand}
use Rattle.feature_values.specs.Values.{AreUses, uses_of}
use Rattle.feature_values.specs.declared.feature_uses.Use.{Use}
use Rattle.c_parser.proofs.family.with_values.Goals as goal

-- what is given is what was made of the names
given_are : UsesStand → (features : List Feature) (names : List (List ℕ)) (given made : List Use) → given ≡ made → made ≡ uses_of features names → AreUses features given
given_are law features names given made g m = subst (AreUses features) (sym (g ∙ m)) (law features names).0

pub add_tests-requires-clause-uses : goal.add_tests-requires-clause-uses
add_tests-requires-clause-uses c =
    given_are c.uses_stand.ensures c.items-features.result.now c.items.result.now c.deref.result.now c.in_ok-used.used.items c.deref.ensures.value c.in_ok-used.ensures

pub add_values-requires-clause-uses : goal.add_values-requires-clause-uses
add_values-requires-clause-uses c =
    given_are c.uses_stand.ensures c.items-features.result.now c.items.result.now c.deref-2.result.now c.in_ok-used.used.items c.deref-2.ensures.value c.in_ok-used.ensures
