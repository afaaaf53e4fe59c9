-- What is read is not refused.
use Rattle.std.proofs.Common.{◌≡◌, refl}
use Rattle.std.specs.Prelude.{Result, Ok, Err}
use Rattle.c_parser.proofs.KeptTexts.{TextsAreReadOnce}
use Rattle.famlint_loads.specs.declared.fault.Done.{Done}
use Rattle.famlint_loads.specs.declared.fault.Fault.{Fault}
use Rattle.famlint_loads.specs.Contents.{Contents}
use Rattle.famlint_requests.specs.declared.request.Request.{Request}
use Rattle.famlint_requests.specs.declared.request.Request.TheVariants as request
use Rattle.famlint_programs.specs.ProgramAnswers.{plain_done}
use Rattle.famlint_core.specs.Answers.{Answers, IsRead}
use Rattle.famlint_core.proofs.Answering.{one_answer}
use Rattle.famlint_core.proofs.CheckOnce.{spelled_or_refused}
use Rattle.famlint_core.proofs.VariantOnce.{VariantLaws, no_line_refusal, no_model_fault, no_refusal}

abbrev done_ok : Done → Result Done Fault
done_ok done = Ok done

abbrev fault_err : Fault → Result Done Fault
fault_err fault = Err fault

done_or_fault : (done : Done) (fault : Fault) → done_ok done ≡ fault_err fault → ⊥
done_or_fault done fault e = let k : done_ok done ≡ fault_err fault = e in cc

pub accepted : VariantLaws → TextsAreReadOnce → (r : Request) (told : Contents) → IsRead r told → (fault : Fault) → Answers r told (Err fault) → ⊥
accepted laws texts (request.Plain file includes analysis) told (p, read) fault h =
    done_or_fault (plain_done analysis p) fault (one_answer laws.programs includes analysis told.file (Ok (plain_done analysis p)) (Err fault) (p, read, refl) h)
accepted laws texts (request.Variant model file dialect settings task) told (s, selected) fault h = no_refusal laws dialect told.model told.file settings s fault selected h
accepted laws texts (request.Family model file dialect analysis regions task) told (l, line) fault h = no_line_refusal laws dialect told.model told.file l fault line h
accepted laws texts (request.Page model file dialect analysis regions) told (l, line) fault h = no_line_refusal laws dialect told.model told.file l fault line h
accepted laws texts (request.Generate number analysis regions) told read fault h = h
accepted laws texts (request.Check model file certificate dialect) told (l, line, c, read) fault h =
    spelled_or_refused laws texts dialect told.model told.file told.certificate l c fault line read h
accepted laws texts (request.Advice model file dialect settings analysis) told (s, selected) fault h = no_refusal laws dialect told.model told.file settings s fault selected h
accepted laws texts (request.Features model unknown) told (m, is) fault h = no_model_fault laws unknown told.model m fault is h
accepted laws texts (request.Guide guide) told read fault h = h
