-- What is asked of a generated family is answered.
use Rattle.std.proofs.Common.{◌≡◌, ℕ, zero, suc, ◌+◌, ◌≤◌, List, [], ◌∷◌, ◌++◌, length, Result, Ok, refl, arith}
use Rattle.std.proofs.lemmas.Int.{ints}
use Rattle.linear_atoms.specs.declared.regions.Regions.{Regions}
use Rattle.linear_atoms.specs.Atoms.{AreRanges}
use Rattle.linear_atoms.specs.declared.atoms.Feature.{Feature}
use Rattle.cpp_conditions.specs.declared.models.Model.{Model}
use Rattle.cpp_conditions.specs.Distinct.{HaveFewAtoms}
use Rattle.cpp_conditions.specs.Naming.{AreFeatures}
use Rattle.c_tree.specs.View.{whole}
use Rattle.family_generator.specs.Features.{switches, number, generated_dialect, generated_features}
use Rattle.family_generator.specs.Laws.{GeneratedFamiliesAreAccepted}
use Rattle.family_generator.specs.Texts.{generated_text}
use Rattle.reading_laws.specs.Families.{HasFamily, spells, refused}
use Rattle.famlint_requests.specs.declared.request.Analysis.{Analysis}
use Rattle.famlint_requests.specs.declared.request.FamilyTask.TheVariants.{Generate}
use Rattle.famlint_loads.specs.declared.fault.Done.{Done}
use Rattle.famlint_loads.specs.declared.fault.Fault.{Fault}
use Rattle.famlint_loads.specs.declared.product_line.ProductLine.{ProductLine}
use Rattle.famlint_programs.specs.AnalysisOptions.{options_of}
use Rattle.famlint_programs.specs.ProgramAnswers.{meaning_of}
use Rattle.famlint_families.specs.FamilyAnswers.{AnswersGenerate}
use Rattle.famlint_families.specs.Generated.{IsGeneratedLine}
use Rattle.famlint_core.proofs.SomeFamily.{have_constraints, some_family_done}
use Rattle.famlint_core.proofs.SomeLine.{AnswerLaws}

-- ---- the generated model

abbrev generated_model : Model
generated_model = record { features = generated_features; constraints = [] }

ranges_from : (left n : ℕ) (rest : List Feature) → AreRanges rest → AreRanges (switches n left ++ rest)
ranges_from zero n rest h = h
ranges_from (suc left) n rest h = (omega (arith, ints), omega (arith, ints), omega (arith, ints), ranges_from left (n + 1) rest h)

count_from : (left n : ℕ) (rest : List Feature) → length (switches n left ++ rest) ≡ left + length rest
count_from zero n rest = omega arith
count_from (suc left) n rest = omega (arith, count_from left (n + 1) rest)

features : AreFeatures generated_features
features = record {
  few = omega (arith, count_from 8 0 (number ∷ []));
  ranges = ranges_from 8 0 (number ∷ []) (omega (arith, ints), omega (arith, ints), omega (arith, ints), tt);
}

no_atoms : HaveFewAtoms 64 []
no_atoms = record { atoms = []; are_atoms = record { rising = tt; all = tt; only = λ a h. h }; few = omega arith }

-- ---- the generated line

line_by : GeneratedFamiliesAreAccepted → (blocks : ℕ) → blocks ≤ 2000 → HasFamily generated_dialect generated_model (generated_text blocks) → (l : ProductLine) × IsGeneratedLine blocks l
line_by accepted blocks le (spells family h) = (
  record { dialect = generated_dialect; model = generated_model; family = family; text = generated_text blocks },
  record { dialect = refl; features = refl; constraints = refl; text = refl; family = h.spelled },
)
line_by accepted blocks le (refused (code, place) h) = absurd (accepted generated_model blocks code place refl refl le h)

some_generated_line : AnswerLaws → GeneratedFamiliesAreAccepted → (blocks : ℕ) → blocks ≤ 2000 → (l : ProductLine) × IsGeneratedLine blocks l
some_generated_line laws accepted blocks le = line_by accepted blocks le (laws.families generated_dialect generated_model (generated_text blocks) features tt no_atoms)

-- `generate` is answered
pub some_generated : AnswerLaws → GeneratedFamiliesAreAccepted → (analysis : Analysis) (r : Regions) (blocks : ℕ) → blocks ≤ 2000 → (answer : Result Done Fault) × AnswersGenerate analysis r blocks answer
some_generated laws accepted analysis r blocks le =
    let l = some_generated_line laws accepted blocks le in
    let done = some_family_done laws.configurations (meaning_of analysis.domain) (options_of analysis (whole l.0.family.code)) r l.0 (have_constraints l.0 l.0.dialect l.0.text l.1.family) Generate in
    (Ok done.0, (l.0, l.1, done.1))
