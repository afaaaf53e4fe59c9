-- What a certificate's bytes are read as. `of` gives what a piece of a region stands for.
use Rattle.std.specs.Prelude.{◌≡◌, ◌≢◌, ⊤, ◌⊎◌, ℕ, ◌+◌, ◌<◌, ◌≤◌, List, [], ◌∷◌, ◌++◌, codes, length, Option, Result, Ok, Err}
use Rattle.fam_outer.specs.declared.refusal.Refusal.{Refusal}
use Rattle.fam_outer.specs.declared.refusal.Refusal.TheVariants.{NoMemory, Fault}
use Rattle.fam_outer.specs.Limits.{certificate_bytes}
use Rattle.c_tree.specs.declared.tree.Mode.{Mode}
use Rattle.c_tree.specs.declared.tree.Mode.TheVariants.{Stop, Wrap}
use Rattle.cpp_conditions.specs.View.{formula}
use Rattle.lifted_analysis.specs.declared.lines.LoopLine.{LoopLine}
use Rattle.certificate_format.specs.declared.literals.Piece.{Piece}
use Rattle.certificate_format.specs.declared.certificates.AlarmLine.{AlarmLine}
use Rattle.certificate_format.specs.declared.certificates.Certificate.{Certificate}
use Rattle.certificate_format.specs.declared.certificates.CertificateFault.{CertificateFault}
use Rattle.certificate_format.specs.declared.certificates.CertificateFault.TheVariants.{TooLong, Header, Line, Test}
use Rattle.certificate_format.specs.declared.certificates.Entry.{Entry}
use Rattle.certificate_format.specs.declared.certificates.Entry.TheVariants.{Loop, Alarm}
use Rattle.certificate_format.specs.Cuts.{Lacks, IsCut, Begins}
use Rattle.certificate_format.specs.Lines.{Saying, region_of, Says, IsLoopLine, IsAlarmLine}
use Rattle.certificate_format.specs.Regions.{IsMeant, IsStrange}

-- ---- lines that are read

-- the line says the entry, whose formula is that of the line's region
abbrev pub IsEntry : (List ℕ → Option Piece) → List (List ℕ) → List ℕ → Entry → Type 0
IsEntry of names line (Loop l) = (region : List ℕ) × IsLoopLine names line l.place region l.bounds × IsMeant of region (formula l.region)
IsEntry of names line (Alarm a) = (region : List ℕ) × IsAlarmLine line a.place a.kind region × IsMeant of region (formula a.region)

abbrev pub AreEntries : (List ℕ → Option Piece) → List (List ℕ) → List (List ℕ) → List Entry → Type 0
AreEntries of names [] [] = Unit {0}
AreEntries of names [] (e ∷ entries) = ⊥
AreEntries of names (line ∷ lines) [] = ⊥
AreEntries of names (line ∷ lines) (e ∷ entries) = IsEntry of names line e × AreEntries of names lines entries

abbrev pub loops_of : List Entry → List LoopLine
loops_of [] = []
loops_of (Loop l ∷ entries) = l ∷ loops_of entries
loops_of (Alarm a ∷ entries) = loops_of entries

abbrev pub alarms_of : List Entry → List AlarmLine
alarms_of [] = []
alarms_of (Loop l ∷ entries) = alarms_of entries
alarms_of (Alarm a ∷ entries) = a ∷ alarms_of entries

-- ---- texts

-- the first line, with its newline
abbrev pub header : Mode → List ℕ
header Stop = codes "famlint certificate 1 stop\n"
header Wrap = codes "famlint certificate 1 wrap\n"

-- a text that is not too long begins with the header of the mode and with lines that say the entries, each with its
-- newline; behind them stands the rest
pub record AreRead (of : List ℕ → Option Piece) (names : List (List ℕ)) (bytes : List ℕ) (mode : Mode) (lines : List (List ℕ)) (entries : List Entry) (rest : List ℕ) : Type 0 where
  pub behind : List ℕ
  pub short : length bytes ≤ certificate_bytes
  pub whole : bytes ≡ header mode ++ behind
  pub begins : Begins (codes "\n") behind lines rest
  pub said : AreEntries of names lines entries

-- the certificate of the text: all lines are read, and the loops and the alarms are theirs, in order
pub record SpellsCertificate (of : List ℕ → Option Piece) (names : List (List ℕ)) (bytes : List ℕ) (c : Certificate) : Type 0 where
  pub lines : List (List ℕ)
  pub entries : List Entry
  pub read : AreRead of names bytes c.mode lines entries []
  pub loops : c.loops.items ≡ loops_of entries
  pub alarms : c.alarms.items ≡ alarms_of entries

-- ---- faults

-- lines before line n of the text are read; the rest begins with it
pub record IsLeft (of : List ℕ → Option Piece) (names : List (List ℕ)) (bytes : List ℕ) (n : ℕ) (rest : List ℕ) : Type 0 where
  pub mode : Mode
  pub lines : List (List ℕ)
  pub entries : List Entry
  pub read : AreRead of names bytes mode lines entries rest
  pub number : n ≡ length lines + 2

-- the first line has no newline, or neither form
abbrev pub HasNoForm : List (List ℕ) → List ℕ → Type 0
HasNoForm names rest =
    (rest ≢ []) × (Lacks (codes "\n") rest
    ⊎ ((line : List ℕ) × (behind : List ℕ) × IsCut (codes "\n") rest line behind × ((s : Saying) → ¬ (Says names line s))))

-- the first line has a form, and a region with a piece that is no literal and no value
abbrev pub HasNoFormula : (List ℕ → Option Piece) → List (List ℕ) → List ℕ → Type 0
HasNoFormula of names rest =
    (line : List ℕ) × (behind : List ℕ) × (s : Saying) × IsCut (codes "\n") rest line behind × Says names line s × IsStrange of (region_of s)

-- why the text is refused
abbrev pub HasFault : (List ℕ → Option Piece) → List (List ℕ) → List ℕ → CertificateFault → Type 0
HasFault of names bytes TooLong = certificate_bytes < length bytes
HasFault of names bytes Header = (length bytes ≤ certificate_bytes) × ((mode : Mode) (behind : List ℕ) → bytes ≢ header mode ++ behind)
HasFault of names bytes (Line n) = (rest : List ℕ) × IsLeft of names bytes n rest × HasNoForm names rest
HasFault of names bytes (Test n) = (rest : List ℕ) × IsLeft of names bytes n rest × HasNoFormula of names rest

-- ---- answers

-- the certificate, or the fault; want of memory is free
abbrev pub IsCertificateRead : (List ℕ → Option Piece) → List (List ℕ) → List ℕ → Result Certificate (Refusal CertificateFault) → Type 0
IsCertificateRead of names bytes (Ok c) = SpellsCertificate of names bytes c
IsCertificateRead of names bytes (Err (Fault fault)) = HasFault of names bytes fault
IsCertificateRead of names bytes (Err NoMemory) = ⊤

-- what a line is read as
abbrev pub IsLineRead : (List ℕ → Option Piece) → List (List ℕ) → List ℕ → ℕ → Result Entry (Refusal CertificateFault) → Type 0
IsLineRead of names line n (Ok e) = IsEntry of names line e
IsLineRead of names line n (Err (Fault TooLong)) = ⊥
IsLineRead of names line n (Err (Fault Header)) = ⊥
IsLineRead of names line n (Err (Fault (Line k))) = (k ≡ n) × ((s : Saying) → ¬ (Says names line s))
IsLineRead of names line n (Err (Fault (Test k))) = (k ≡ n) × ((s : Saying) × Says names line s × IsStrange of (region_of s))
IsLineRead of names line n (Err NoMemory) = ⊤
