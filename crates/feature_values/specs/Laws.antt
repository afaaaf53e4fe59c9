-- Laws of features that code uses as values.
use Rattle.std.specs.Prelude.{◌≡◌, ℕ, ◌+◌, ℤ, Bool, List, ◌++◌, length}
use Rattle.std.specs.List.{All}
use Rattle.linear_atoms.specs.declared.atoms.Atom.{Atom}
use Rattle.linear_atoms.specs.declared.atoms.Feature.{Feature}
use Rattle.linear_atoms.specs.Atoms.{AreRanges, IsWithin}
use Rattle.cpp_conditions.specs.Propositions.{Proposition, IsFit, IsOpen}
use Rattle.cpp_lines.specs.Sections.{truths_at}
use Rattle.c_tree.specs.Project.{projected_program, IsConditioned}
use Rattle.c_tree.specs.Tree.{Whole}
use Rattle.c_tree.specs.Whole.{IsProgram}
use Rattle.feature_values.specs.declared.feature_uses.Use.{Use}
use Rattle.feature_values.specs.Declarators.{with_values, presets, with_presets}
use Rattle.feature_values.specs.Values.{uses_of, AreUses, AreNamed, test_count, tests_of}

-- at a configuration, the program with values is the one without them, with the features' values as start values
abbrev pub ValuesAreStarts : Type 0
ValuesAreStarts = (features : List Feature) (values : List ℤ) (conditions : List (Proposition Atom)) (uses : List Use) (p : Whole) → IsWithin features values
    → projected_program (truths_at values (conditions ++ tests_of features uses)) (with_values (length conditions) features uses p)
    ≡ with_presets (presets uses values) (projected_program (truths_at values (conditions ++ tests_of features uses)) p)

-- what a program with fewer conditions is at a configuration, it is with more
abbrev pub ConditionsAreEnough : Type 0
ConditionsAreEnough = (truths more : List Bool) (p : Whole) → IsConditioned (length truths) p → projected_program (truths ++ more) p ≡ projected_program truths p

-- a well-formed program stays so
abbrev pub ValuesKeepPrograms : Type 0
ValuesKeepPrograms = (first : ℕ) (features : List Feature) (uses : List Use) (p : Whole) → AreRanges features → AreNamed (length p.names) uses → IsProgram p → IsProgram (with_values first features uses p)

-- a program with so many conditions has the tests beside them
abbrev pub ValuesAddConditions : Type 0
ValuesAddConditions = (first : ℕ) (features : List Feature) (uses : List Use) (p : Whole) → IsConditioned first p → IsConditioned (first + test_count features uses) (with_values first features uses p)

-- there are as many tests as their count
abbrev pub TestsAreCounted : Type 0
TestsAreCounted = (features : List Feature) (uses : List Use) → length (tests_of features uses) ≡ test_count features uses

-- each test is well formed over the features
abbrev pub TestsAreFit : Type 0
TestsAreFit = (features : List Feature) (uses : List Use) → AreRanges features → AreUses features uses → All (IsFit (length features)) (tests_of features uses)

-- the ranges decide none
abbrev pub TestsAreOpen : Type 0
TestsAreOpen = (features : List Feature) (uses : List Use) → AreRanges features → AreUses features uses → All (IsOpen features) (tests_of features uses)

-- uses are of the features and of the names
abbrev pub UsesStand : Type 0
UsesStand = (features : List Feature) (names : List (List ℕ)) → AreUses features (uses_of features names) × AreNamed (length names) (uses_of features names)
