-- What bytes are answered under `plain` is answered once.
use Rattle.std.proofs.Common.{◌≡◌, ℕ, List, [], refl, sym, ap, ◌∙◌}
use Rattle.std.specs.Prelude.{Option, None, Result, Ok, Err}
use Rattle.fam_outer.specs.declared.dialect.Includes.{Includes}
use Rattle.fam_outer.specs.declared.faults.FileCode.{FileCode}
use Rattle.fam_outer.specs.declared.faults.Place.{Place}
use Rattle.c_tree.specs.Tree.{Whole}
use Rattle.c_parser.specs.Reading.{Given, own, IsPlainRead, IsPlainReadOver}
use Rattle.famlint_requests.specs.declared.request.Analysis.{Analysis}
use Rattle.famlint_loads.specs.declared.fault.Done.{Done}
use Rattle.famlint_loads.specs.declared.fault.Fault.{Fault}
use Rattle.famlint_loads.specs.declared.fault.Fault.TheVariants as fault
use Rattle.famlint_programs.specs.ProgramAnswers.{AnswersPlain, plain_done}

-- a file is read in one way
abbrev pub OneReading : Type 0
OneReading = (includes : Includes) (given : Given) (bytes : List ℕ) (r s : Result Whole (FileCode × Place)) → IsPlainReadOver includes given bytes r → IsPlainReadOver includes given bytes s → r ≡ s

pub one_program : OneReading → (includes : Includes) (bytes : List ℕ) (p q : Whole) → IsPlainRead includes bytes (Ok p) → IsPlainRead includes bytes (Ok q) → p ≡ q
one_program once includes bytes p q h k = let e : (let r : Result Whole (FileCode × Place) = Ok p in r) ≡ Ok q = once includes (own includes bytes) bytes (Ok p) (Ok q) h k in cc

-- bytes are answered once
pub one_answer : OneReading → (includes : Includes) (analysis : Analysis) (bytes : List ℕ) (a b : Result Done Fault) → AnswersPlain includes analysis bytes a → AnswersPlain includes analysis bytes b → a ≡ b
one_answer once includes analysis bytes (Ok d) (Ok e) (p, h, i) (q, k, j) =
    ap (λ (x : Done). Ok x) (i ∙ ap (plain_done analysis) (one_program once includes bytes p q h k) ∙ sym j)
one_answer once includes analysis bytes (Ok d) (Err (fault.File code place example)) (p, h, i) (k, none) =
    let e : (let r : Result Whole (FileCode × Place) = Ok p in r) ≡ Err (code, place) = once includes (own includes bytes) bytes (Ok p) (Err (code, place)) h k in cc
one_answer once includes analysis bytes (Err (fault.File code place example)) (Ok d) (h, none) (q, k, j) =
    let e : (let r : Result Whole (FileCode × Place) = Err (code, place) in r) ≡ Ok q = once includes (own includes bytes) bytes (Err (code, place)) (Ok q) h k in cc
one_answer once includes analysis bytes (Err (fault.File code place example)) (Err (fault.File c p x)) (h, none) (k, nothing) =
    let e : (let r : Result Whole (FileCode × Place) = Err (code, place) in r) ≡ Err (c, p) = once includes (own includes bytes) bytes (Err (code, place)) (Err (c, p)) h k in
    let f : (code, place) ≡ (c, p) = cc in
    ap (λ (y : FileCode × Place). Err (fault.File y.0 y.1 example)) f ∙ ap (λ (y : Option (List ℕ)). Err (fault.File c p y)) (none ∙ sym nothing)
one_answer once includes analysis bytes (Ok d) (Err (fault.Model given)) h k = elim k [ ]
one_answer once includes analysis bytes (Ok d) (Err (fault.Settings given name)) h k = elim k [ ]
one_answer once includes analysis bytes (Ok d) (Err (fault.Certificate given)) h k = elim k [ ]
one_answer once includes analysis bytes (Err (fault.Model given)) b h k = elim h [ ]
one_answer once includes analysis bytes (Err (fault.Settings given name)) b h k = elim h [ ]
one_answer once includes analysis bytes (Err (fault.Certificate given)) b h k = elim h [ ]
one_answer once includes analysis bytes (Err (fault.File code place example)) (Err (fault.Model given)) h k = elim k [ ]
one_answer once includes analysis bytes (Err (fault.File code place example)) (Err (fault.Settings given name)) h k = elim k [ ]
one_answer once includes analysis bytes (Err (fault.File code place example)) (Err (fault.Certificate given)) h k = elim k [ ]

-- each file is read as a program, or has a refusal
abbrev pub SomeReading : Type 0
SomeReading = (includes : Includes) (given : Given) (bytes : List ℕ) → (r : Result Whole (FileCode × Place)) × IsPlainReadOver includes given bytes r

answer_by : (includes : Includes) (analysis : Analysis) (bytes : List ℕ) (r : Result Whole (FileCode × Place)) → IsPlainRead includes bytes r → (answer : Result Done Fault) × AnswersPlain includes analysis bytes answer
answer_by includes analysis bytes (Ok p) h = (Ok (plain_done analysis p), (p, h, refl))
answer_by includes analysis bytes (Err (code, place)) h = (Err (fault.File code place None), (h, refl))

-- bytes are answered
pub some_answer : SomeReading → (includes : Includes) (analysis : Analysis) (bytes : List ℕ) → (answer : Result Done Fault) × AnswersPlain includes analysis bytes answer
some_answer some includes analysis bytes = let read = some includes (own includes bytes) bytes in answer_by includes analysis bytes read.0 read.1
