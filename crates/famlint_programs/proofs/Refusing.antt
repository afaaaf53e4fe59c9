-- A text that is refused is what its command is answered.
use Rattle.std.proofs.Common.{ℕ, List, refl, sym, subst}
use Rattle.std.specs.Prelude.{Err}
use Rattle.fam_outer.specs.declared.dialect.Includes.{Includes}
use Rattle.c_parser.specs.Reading.{own}
use Rattle.c_parser.proofs.Readings.{reads_too_long}
use Rattle.famlint_requests.specs.declared.request.Analysis.{Analysis}
use Rattle.famlint_loads.specs.declared.fault.Done.{Done}
use Rattle.famlint_loads.specs.declared.fault.Fault.{Fault}
use Rattle.famlint_loads.specs.declared.fault.Failure.{Failure}
use Rattle.famlint_loads.specs.declared.fault.Failure.TheVariants as failure
use Rattle.famlint_programs.specs.ProgramAnswers.{AnswersPlain}
use Rattle.famlint_loads.specs.Loads.{Comes, IsFileText}

-- a file's text that is refused, for `plain`
pub plain_refused : (includes : Includes) (analysis : Analysis) (bytes : List ℕ) (s : Failure) → Comes {X = List ℕ} (IsFileText bytes) (Err s) → Comes {X = Done} (AnswersPlain includes analysis bytes) (Err s)
plain_refused includes analysis bytes (failure.Refused given) h =
    subst (λ (x : Fault). AnswersPlain includes analysis bytes (Err x)) (sym h.1) (reads_too_long includes (own includes bytes) bytes h.0, refl)
plain_refused includes analysis bytes failure.ReadFault h = h
plain_refused includes analysis bytes failure.NoMemory h = h
