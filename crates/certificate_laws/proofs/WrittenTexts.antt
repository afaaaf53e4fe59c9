-- What is written of an analysis spells a certificate.
use Rattle.std.proofs.Common.{◌⊎◌, inl, inr, ℕ, ◌≤◌, List, length}
use Rattle.std.specs.Prelude.{Err}
use Rattle.std.specs.List.{All}
use Rattle.fam_outer.specs.Limits.{certificate_bytes}
use Rattle.fam_outer.specs.declared.refusal.Refusal.TheVariants as refusals
use Rattle.c_tree.specs.Places.{program_places}
use Rattle.c_tree.specs.Tree.{Whole}
use Rattle.c_tree.specs.Whole.{IsProgram}
use Rattle.linear_atoms.specs.declared.atoms.Atom.{Atom}
use Rattle.cpp_conditions.specs.declared.formulas.Formula.{Formula}
use Rattle.cpp_conditions.specs.declared.models.Model.{Model}
use Rattle.plain_analysis.specs.declared.options.Options.{Options}
use Rattle.certificate_format.specs.declared.certificates.Certificate.{Certificate}
use Rattle.certificate_format.specs.declared.certificates.CertificateFault.{CertificateFault}
use Rattle.certificate_format.specs.Certificates.{SpellsCertificate, HasFault}
use Rattle.certificate_format.specs.Lines.{IsPlace}
use Rattle.certificate_format.specs.Regions.{piece_of}
use Rattle.certificate_laws.specs.Certified.{IsWrittenOf, WrittenAnalysesAreAccepted}
use Rattle.certificate_laws.specs.Laws.{AreNames}
use Rattle.certificate_laws.specs.Readings.{EachTextIsRead, WrittenAnalysesAreSpelled}

module _ (accepted : WrittenAnalysesAreAccepted) (o : Options) (model : Model) (p : Whole) (conditions : List Formula) (atoms : List Atom) (bytes : List ℕ)
    (program : IsProgram p) (placed : All IsPlace (program_places p)) (names : AreNames model atoms p.names) (is : IsWrittenOf o model p conditions atoms bytes) (short : length bytes ≤ certificate_bytes) where
  not_refused : (fault : CertificateFault) → HasFault (piece_of model.features atoms) p.names bytes fault → ⊥
  not_refused fault h = accepted o model p conditions atoms bytes (Err (refusals.Fault fault)) program placed names is short h

  spelled_by : ((c : Certificate) × SpellsCertificate (piece_of model.features atoms) p.names bytes c) ⊎ ((fault : CertificateFault) × HasFault (piece_of model.features atoms) p.names bytes fault)
      → (c : Certificate) × SpellsCertificate (piece_of model.features atoms) p.names bytes c
  spelled_by (inl read) = read
  spelled_by (inr (fault, h)) = absurd (not_refused fault h)

pub written_spelled : EachTextIsRead → WrittenAnalysesAreAccepted → WrittenAnalysesAreSpelled
written_spelled some accepted o model p conditions atoms bytes program placed names is short =
    spelled_by accepted o model p conditions atoms bytes program placed names is short (some (piece_of model.features atoms) p.names bytes)
