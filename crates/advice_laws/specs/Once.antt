-- What is answered of a model and of advice, once.
use Rattle.std.specs.Prelude.{◌≡◌, ℕ, ℤ, Bool, List, Option, Some, None}
use Rattle.linear_atoms.specs.declared.atoms.Atom.{Atom}
use Rattle.cpp_conditions.specs.declared.models.Model.{Model}
use Rattle.cpp_conditions.specs.Validity.{plain, IsValid}
use Rattle.decision_tree.specs.Plain.{Plain}
use Rattle.configuration_advice.specs.declared.comparing.Advice.{Advice}
use Rattle.configuration_advice.specs.declared.feature_uses.FeatureUse.{FeatureUse}
use Rattle.configuration_advice.specs.Nearest.{is_quiet, Advises}
use Rattle.configuration_advice.specs.Uses.{AreUses}

-- over models with the same features and the same constraints, and a valid configuration, each feature has one use
abbrev pub UsesAreOne : Type 0
UsesAreOne = (a b : Model) (values : List ℤ) (us ws : List FeatureUse) → plain a ≡ plain b → IsValid (plain a) values → AreUses a a.features us → AreUses b b.features ws → us ≡ ws

-- what is printed of advice: its configuration, and how many features differ
abbrev pub told_of : Option Advice → Option (List ℤ × ℕ)
told_of None = None
told_of (Some advice) = Some (advice.config.values, advice.changed)

-- over such models there is one advice, or none, where the trees are alike quiet at each valid configuration
abbrev pub AdviceIsOne : Type 0
AdviceIsOne = (a b : Model) (xs ys : List Atom) (ts us : List (Plain Bool)) (given : List ℤ) (found other : Option Advice) → plain a ≡ plain b → ((values : List ℤ) → IsValid (plain a) values → is_quiet xs ts values ≡ is_quiet ys us values)
    → Advises a xs ts given found → Advises b ys us given other → told_of found ≡ told_of other
