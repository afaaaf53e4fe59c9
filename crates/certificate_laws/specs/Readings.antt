-- What the bytes of a certificate are read as, over any names and any pieces of regions.
use Rattle.std.specs.Prelude.{◌≡◌, ◌⊎◌, ℕ, ◌≤◌, List, length, Option}
use Rattle.std.specs.List.{All}
use Rattle.fam_outer.specs.Limits.{certificate_bytes}
use Rattle.c_tree.specs.Places.{program_places}
use Rattle.c_tree.specs.Tree.{Whole}
use Rattle.c_tree.specs.Whole.{IsProgram}
use Rattle.linear_atoms.specs.declared.atoms.Atom.{Atom}
use Rattle.cpp_conditions.specs.declared.formulas.Formula.{Formula}
use Rattle.cpp_conditions.specs.declared.models.Model.{Model}
use Rattle.cpp_conditions.specs.View.{formula}
use Rattle.lifted_analysis.specs.declared.lines.LoopLine.{LoopLine}
use Rattle.merged_findings.specs.Pairs.{ArePairs}
use Rattle.plain_analysis.specs.declared.options.Options.{Options}
use Rattle.certificate_format.specs.declared.certificates.AlarmLine.{AlarmLine}
use Rattle.certificate_format.specs.declared.certificates.Certificate.{Certificate}
use Rattle.certificate_format.specs.declared.certificates.CertificateFault.{CertificateFault}
use Rattle.certificate_format.specs.declared.literals.Piece.{Piece}
use Rattle.certificate_format.specs.Certificates.{SpellsCertificate, HasFault}
use Rattle.certificate_format.specs.Lines.{IsPlace}
use Rattle.certificate_format.specs.Regions.{piece_of}
use Rattle.certificate_laws.specs.Certified.{IsWrittenOf}
use Rattle.certificate_laws.specs.Laws.{AreNames}

-- ---- certificates that say the same

pub record AreLoopsAlike (l m : LoopLine) : Type 0 where
  pub place : l.place ≡ m.place
  pub region : formula l.region ≡ formula m.region
  pub bounds : l.bounds ≡ m.bounds

pub record AreAlarmsAlike (a b : AlarmLine) : Type 0 where
  pub place : a.place ≡ b.place
  pub kind : a.kind ≡ b.kind
  pub region : formula a.region ≡ formula b.region

-- the same mode, and line by line the same places, kinds, bounds and formulas of regions
pub record AreCertificatesAlike (c d : Certificate) : Type 0 where
  pub mode : c.mode ≡ d.mode
  pub loops : ArePairs AreLoopsAlike c.loops.items d.loops.items
  pub alarms : ArePairs AreAlarmsAlike c.alarms.items d.alarms.items

-- ---- one reading

-- each text spells a certificate, or has a fault
abbrev pub EachTextIsRead : Type 0
EachTextIsRead =
    (of : List ℕ → Option Piece) (names : List (List ℕ)) (bytes : List ℕ)
    → ((c : Certificate) × SpellsCertificate of names bytes c) ⊎ ((fault : CertificateFault) × HasFault of names bytes fault)

-- no text spells a certificate and has a fault
abbrev pub NoneIsReadAndRefused : Type 0
NoneIsReadAndRefused =
    (of : List ℕ → Option Piece) (names : List (List ℕ)) (bytes : List ℕ) (c : Certificate) (fault : CertificateFault)
    → SpellsCertificate of names bytes c → HasFault of names bytes fault → ⊥

-- all certificates that a text spells say the same
abbrev pub CertificatesAreAlike : Type 0
CertificatesAreAlike =
    (of : List ℕ → Option Piece) (names : List (List ℕ)) (bytes : List ℕ) (c d : Certificate)
    → SpellsCertificate of names bytes c → SpellsCertificate of names bytes d → AreCertificatesAlike c d

-- a text has one fault
abbrev pub FaultsAreOne : Type 0
FaultsAreOne =
    (of : List ℕ → Option Piece) (names : List (List ℕ)) (bytes : List ℕ) (a b : CertificateFault)
    → HasFault of names bytes a → HasFault of names bytes b → a ≡ b

-- ---- what is written

-- what is written of an analysis of a family, which is not too long, spells a certificate over the family
abbrev pub WrittenAnalysesAreSpelled : Type 0
WrittenAnalysesAreSpelled =
    (o : Options) (model : Model) (p : Whole) (conditions : List Formula) (atoms : List Atom) (bytes : List ℕ)
    → IsProgram p → All IsPlace (program_places p) → AreNames model atoms p.names → IsWrittenOf o model p conditions atoms bytes → length bytes ≤ certificate_bytes
    → (c : Certificate) × SpellsCertificate (piece_of model.features atoms) p.names bytes c
