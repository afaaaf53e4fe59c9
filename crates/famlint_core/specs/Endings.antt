-- How the program ends.
use Rattle.std.specs.Prelude.{ℕ, false, ◌≡◌, ◌≢◌, ◌≤◌, ◌⊎◌, ◌==◌, List, [], codes, if◌then◌else◌, Option, Result, Ok, Err}
use Rattle.std.specs.Io.KnownBytes.{Appends}
use Rattle.fam_outer.specs.Causes.{one_more}
use Rattle.fam_outer.specs.Writing.{Delivers, Reports}
use Rattle.famlint_loads.specs.declared.fault.Done.{Done}
use Rattle.famlint_loads.specs.declared.fault.Fault.{Fault}
use Rattle.famlint_loads.specs.declared.fault.Failure.{Failure}
use Rattle.famlint_loads.specs.declared.fault.Failure.TheVariants as failure
use Rattle.famlint_requests.specs.declared.request.Role.{Role}
use Rattle.famlint_loads.specs.Faults.{status_of, line_of}
use Rattle.famlint_loads.specs.Loads.{IsReadFault}
use Rattle.famlint_requests.specs.declared.request.Role.TheVariants as role

abbrev pub usage_line : List ℕ
usage_line = codes "usage: famlint plain FILE, project MODEL FILE SETTINGS, variant MODEL FILE SETTINGS, run MODEL FILE SETTINGS, analyse MODEL FILE, invariants MODEL FILE, page MODEL FILE, generate NUMBER, certify MODEL FILE, check MODEL FILE CERTIFICATE, advise MODEL FILE SETTINGS, features MODEL\n"

-- the line that tells a failed load
abbrev pub read_fault_line : Role → List ℕ
read_fault_line role.Model = codes "read fault: model\n"
read_fault_line role.File = codes "read fault: file\n"
read_fault_line role.Certificate = codes "read fault: certificate\n"

abbrev pub write_fault_line : List ℕ
write_fault_line = codes "write fault\n"

abbrev pub memory_line : List ℕ
memory_line = codes "want of memory\n"

-- the two streams at one time: what was written to each, where that is known, and how many writes to it failed
pub record Streams : Type 0 where
  pub out : Option (List ℕ)
  pub err : Option (List ℕ)
  pub out_faults : ℕ
  pub err_faults : ℕ

abbrev pub streams : Option (List ℕ) → Option (List ℕ) → ℕ → ℕ → Streams
streams out err out_faults err_faults = record { out = out; err = err; out_faults = out_faults; err_faults = err_faults }

-- the status of an answer
abbrev pub status_at : Result Done Fault → ℕ
status_at (Ok done) = done.status
status_at (Err fault) = status_of fault

-- the output of an answer
abbrev pub output_of : Result Done Fault → List ℕ
output_of (Ok done) = done.text
output_of (Err fault) = []

-- the line of the fault of an answer
abbrev pub fault_line : Result Done Fault → List ℕ
fault_line (Ok done) = []
fault_line (Err fault) = line_of fault

-- the line for `err` at a status from 2 on
abbrev pub line_at : ℕ → Role → Result Done Fault → List ℕ
line_at status failed answer =
    if status == 6 then read_fault_line failed
    else (if status == 7 then write_fault_line
    else (if status == 8 then memory_line else fault_line answer))

-- the line was written to the error stream, or a prefix of it where a write failed
abbrev pub Tells : Streams → Streams → List ℕ → Type 0
Tells before after line = Reports before.err after.err line before.err_faults after.err_faults

-- the run ended with this answer, but for a failed load, a failed write and want of memory: the status is the answer's, the
-- whole output was appended at 0 and 1 and a prefix of it that is not all at 7, and at 2 to 9 the fault's line was written
pub record Ends (answer : Result Done Fault) (failed : Role) (status : ℕ) (before after : Streams) : Type 0 where
  pub exact : status ≢ 6 → status ≢ 7 → status ≢ 8 → status ≡ status_at answer
  pub whole : status ≤ 1 → Appends before.out after.out (output_of answer)
  pub part : status ≡ 7 → Delivers before.out after.out (output_of answer) false
  pub line : 2 ≤ status → Tells before after (line_at status failed answer)

-- the run ended with an answer that may be, unless a load failed or memory ran out
abbrev pub EndsWith : (Result Done Fault → Type 0) → Role → ℕ → Streams → Streams → Type 0
EndsWith MayBe failed status before after =
    (status ≡ 6) ⊎ ((status ≡ 8) ⊎ ((answer : Result Done Fault) × MayBe answer × Ends answer failed status before after))

-- ---- by what the work came to

-- what holds of the status by what the work came to: a failed load is 6 and want of memory 8, and what was done or refused ends
-- with that answer
abbrev pub EndsAs : Result Done Failure → Role → ℕ → Streams → Streams → Type 0
EndsAs (Ok done) role status before after = Ends (Ok done) role status before after
EndsAs (Err (failure.Refused fault)) role status before after = Ends (Err fault) role status before after
EndsAs (Err failure.ReadFault) role status before after = (status ≡ 6) × Tells before after (read_fault_line role)
EndsAs (Err failure.NoMemory) role status before after = (status ≡ 8) × Tells before after memory_line

-- the line that tells a failed load, a failed write or want of memory
pub record HasLines (failed : Role) (status : ℕ) (before after : Streams) : Type 0 where
  pub read : status ≡ 6 → Tells before after (read_fault_line failed)
  pub write : status ≡ 7 → Tells before after write_fault_line
  pub memory : status ≡ 8 → Tells before after memory_line

-- the count of faults behind a run that ends with this status: one more where it tells such a fault, and else as before
abbrev pub faults_at : (fault status before : ℕ) → ℕ
faults_at fault status before = if status == fault then one_more before else before

-- the run ended with what the work came to
pub record IsEnded (came : Result Done Failure) (failed : Role) (status : ℕ) (before after : Streams) : Type 0 where
  pub known : status ≤ 9
  pub no_usage : status ≢ 2
  pub read : status ≡ 6 → IsReadFault came
  pub ends : EndsAs came failed status before after
  pub lines : HasLines failed status before after
  pub writes : after.out_faults ≡ faults_at 7 status before.out_faults
  pub quiet : 2 ≤ status → status ≢ 7 → after.out ≡ before.out
  pub silent : status ≤ 1 → after.err ≡ before.err
  pub outs_later : before.out_faults ≤ after.out_faults
  pub errs_later : before.err_faults ≤ after.err_faults
