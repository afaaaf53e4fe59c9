-- Models that are accepted, and those that have no valid configuration.
use Rattle.std.proofs.Common.{◌≡◌, ℤ, List, [], map, None, Some, Ok, Err, subst, true≢false}
use Rattle.linear_atoms.specs.declared.atoms.Config.{Config}
use Rattle.cpp_conditions.specs.declared.conditions.Condition.{Condition}
use Rattle.cpp_conditions.specs.declared.models.Model.{Model}
use Rattle.cpp_conditions.specs.Distinct.{HaveFewAtoms, HaveMoreAtoms}
use Rattle.cpp_conditions.specs.Validity.{plain}
use Rattle.cpp_conditions.specs.View.{proposition}
use Rattle.atom_solver.specs.Solutions.{Finds, all_hold}
use Rattle.feature_model.specs.declared.faults.ModelFault.TheVariants as faults
use Rattle.feature_model.specs.Models.{Ends, too_many_tests, void, accepted}

pub many_atoms : (model : Model) (cs : List Condition) → cs ≡ model.constraints → HaveMoreAtoms 64 (map proposition cs) → Ends (plain model) (Err faults.TooManyTests)
many_atoms model cs e h = too_many_tests (subst (λ x. HaveMoreAtoms 64 (map proposition x)) e h)

pub some_valid : (model : Model) (cs : List Condition) (config : Config) → cs ≡ model.constraints → HaveFewAtoms 64 (map proposition cs) → Finds model (λ (values : List ℤ). all_hold [] values) (Some config) → Ends (plain model) (Ok (plain model))
some_valid model cs config e f h = accepted (subst (λ x. HaveFewAtoms 64 (map proposition x)) e f) config.values h.valid

pub none_valid : (model : Model) (cs : List Condition) → cs ≡ model.constraints → HaveFewAtoms 64 (map proposition cs) → Finds model (λ (values : List ℤ). all_hold [] values) None → Ends (plain model) (Err faults.Void)
none_valid model cs e f h = void (subst (λ x. HaveFewAtoms 64 (map proposition x)) e f) (λ values v. true≢false (h values v))
