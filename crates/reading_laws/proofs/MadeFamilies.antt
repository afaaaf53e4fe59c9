-- What a file is answered is a family or a refusal that `read_family` may answer.
use Rattle.std.proofs.Common.{◌≡◌, ℕ, ◌≤◌, ◌<◌, ◌^◌, List, ◌++◌, length, Ok, Err, arith}
use Rattle.fam_outer.specs.declared.dialect.Dialect.{Dialect}
use Rattle.fam_outer.specs.declared.faults.FileRefusal.TheVariants as refusals
use Rattle.linear_atoms.specs.declared.atoms.Atom.{Atom}
use Rattle.cpp_conditions.specs.declared.formulas.Formula.{Formula}
use Rattle.cpp_conditions.specs.declared.models.Model.{Model}
use Rattle.cpp_conditions.specs.Validity.{plain}
use Rattle.cpp_lines.specs.Code.{code_of}
use Rattle.c_tree.specs.Tree.{Whole}
use Rattle.feature_values.specs.Declarators.{with_values}
use Rattle.feature_values.specs.Values.{tests_of}
use Rattle.c_parser.specs.FamilyReading.{families_over, uses_in}
use Rattle.c_parser.specs.Phases.{IsAcceptedFile}
use Rattle.c_parser.proofs.Lexical.{TokenLaws}
use Rattle.reading_laws.specs.Answered.{FilesAreAnswered, IsAnswered}
use Rattle.reading_laws.proofs.FileAnswers.{HasAnswer, PhaseLaws, accepted, refused, has_answer}
use Rattle.reading_laws.proofs.FewItems.{few_items}
use Rattle.reading_laws.proofs.FewStatements.{few_statements}
use Rattle.reading_laws.proofs.MadePrograms.{HasProgram, count_of, program_of}
use Rattle.reading_laws.proofs.NumberedFormulas.{conditions_of}

fewer : (a b n : ℕ) → a ≤ b → b < n → a < n
fewer a b n h k = omega arith

few_in : TokenLaws → ((text : List ℕ) → length (code_of text) ≡ length text) → (dialect : Dialect) (model : Model) (bytes : List ℕ) (conditions : List Formula) (atoms : List Atom) (functions : List (List ℕ)) (p : Whole) → IsAcceptedFile (families_over dialect model) bytes (record { formulas = conditions; atoms = atoms; functions = functions }) p → count_of p.body < 2 ^ 63
few_in laws code_len dialect model bytes conditions atoms functions p a =
    fewer (count_of p.body) (length a.listed.items) (2 ^ 63) (few_statements a.listed.names p a.listed.items a.spelled) (few_items laws code_len dialect (plain model) bytes a.are.told a.listed a.are.items)

-- the family of a program, in which each feature that it names has its value
made : (dialect : Dialect) (model : Model) (bytes : List ℕ) (conditions : List Formula) (atoms : List Atom) (functions : List (List ℕ)) (p : Whole) → HasProgram (with_values (length conditions) model.features (uses_in model p) p)
    → IsAcceptedFile (families_over dialect model) bytes (record { formulas = conditions; atoms = atoms; functions = functions }) p → IsAnswered dialect model bytes
made dialect model bytes conditions atoms functions p h a =
    let all = conditions_of (plain model) (a.are.told.conditions ++ tests_of model.features (uses_in model p)) in
    record {
      answer = Ok (record { code = h.made; conditions = all.conditions; atoms = all.atoms });
      told = tt;
      read = record { known = record { formulas = conditions; atoms = atoms; functions = functions }; spelled = p; accepted = a; code = h.is; conditions = all.are };
    }

by_answer : TokenLaws → ((text : List ℕ) → length (code_of text) ≡ length text) → (dialect : Dialect) (model : Model) (bytes : List ℕ) → HasAnswer dialect model bytes → IsAnswered dialect model bytes
by_answer laws code_len dialect model bytes (accepted conditions atoms functions p a) = made dialect model bytes conditions atoms functions p (program_of (with_values (length conditions) model.features (uses_in model p) p) (few_in laws code_len dialect model bytes conditions atoms functions p a)) a
by_answer laws code_len dialect model bytes (refused fault r) = record { answer = Err (refusals.Fault fault.0 fault.1); told = tt; read = r }

pub files_are_answered : TokenLaws → ((text : List ℕ) → length (code_of text) ≡ length text) → PhaseLaws → FilesAreAnswered
files_are_answered laws code_len phases dialect model bytes = by_answer laws code_len dialect model bytes (has_answer phases dialect model bytes)
