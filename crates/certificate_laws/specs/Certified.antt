-- What comes of the text of a certificate that is written of an analysis by intervals.
use Rattle.std.specs.Prelude.{◌≡◌, ⊤, ℕ, ◌≤◌, List, length, Result, Ok, Err}
use Rattle.std.specs.List.{All}
use Rattle.fam_outer.specs.declared.refusal.Refusal.{Refusal}
use Rattle.fam_outer.specs.declared.refusal.Refusal.TheVariants.{NoMemory, Fault}
use Rattle.c_tree.specs.Places.{program_places}
use Rattle.c_tree.specs.Tree.{Whole}
use Rattle.c_tree.specs.Whole.{IsProgram}
use Rattle.linear_atoms.specs.declared.atoms.Atom.{Atom}
use Rattle.linear_atoms.specs.declared.regions.Regions.{Regions}
use Rattle.cpp_conditions.specs.declared.formulas.Formula.{Formula}
use Rattle.cpp_conditions.specs.declared.models.Model.{Model}
use Rattle.interval_leaf.specs.Intervals.{intervals}
use Rattle.lifted_analysis.specs.Turns.{loop_places}
use Rattle.plain_analysis.specs.declared.options.Options.{Options}
use Rattle.alarm_report.specs.declared.alarms.FamilyAlarm.{FamilyAlarm}
use Rattle.alarm_report.specs.Alarms.{PlainAlarmTree, AreAlarms}
use Rattle.alarm_report.specs.Invariants.{LeafTree, Invariant, AreInvariants}
use Rattle.certificate_format.specs.declared.certificates.Certificate.{Certificate}
use Rattle.certificate_format.specs.declared.certificates.CertificateFault.{CertificateFault}
use Rattle.fam_outer.specs.Limits.{certificate_bytes}
use Rattle.certificate_format.specs.Certificates.{IsCertificateRead}
use Rattle.certificate_format.specs.Lines.{IsPlace}
use Rattle.certificate_format.specs.Regions.{piece_of}
use Rattle.certificate_format.specs.Loops.{trees_at}
use Rattle.certificate_format.specs.Texts.{certificate_text}
use Rattle.invariant_certificate.specs.declared.verdicts.Verdict.{Verdict}
use Rattle.invariant_certificate.specs.declared.verdicts.Verdict.TheVariants.{Yes}
use Rattle.invariant_certificate.specs.Verdicts.{IsVerdict}
use Rattle.certificate_laws.specs.Accepted.{AreLeaves, AreAlarmTrees}
use Rattle.certificate_laws.specs.Laws.{AreNames}

module _ (o : Options) (model : Model) (p : Whole) (conditions : List Formula) (atoms : List Atom) where
  -- the text of the invariants of the loops and of the alarms that an analysis by intervals finds of a family, in which regions
  -- are told so
  pub record IsWrittenOf (bytes : List ℕ) : Type 0 where
    pub regions : Regions
    pub places : List LeafTree
    pub stops : List PlainAlarmTree
    pub invariants : List Invariant
    pub alarms : List FamilyAlarm
    pub leaves_are : AreLeaves intervals o model p conditions atoms places
    pub stops_are : AreAlarmTrees intervals o model p conditions atoms stops
    pub loops_are : AreInvariants model atoms (trees_at (loop_places p.body) places) invariants
    pub alarms_are : AreAlarms model atoms stops alarms
    pub text : bytes ≡ certificate_text regions intervals model.features p.names o.mode invariants alarms

-- a certificate was read of which a check has no verdict but yes, or memory ran out
abbrev pub IsReadAndAccepted : Model → Whole → List Formula → List Atom → Result Certificate (Refusal CertificateFault) → Type 0
IsReadAndAccepted model p conditions atoms (Ok c) = (verdict : Verdict) → IsVerdict intervals model p conditions atoms c verdict → verdict ≡ Yes
IsReadAndAccepted model p conditions atoms (Err NoMemory) = ⊤
IsReadAndAccepted model p conditions atoms (Err (Fault fault)) = ⊥

-- what is written of an analysis of a family, which is not too long, is read and accepted
abbrev pub WrittenAnalysesAreAccepted : Type 0
WrittenAnalysesAreAccepted =
    (o : Options) (model : Model) (p : Whole) (conditions : List Formula) (atoms : List Atom) (bytes : List ℕ) (result : Result Certificate (Refusal CertificateFault))
    → IsProgram p → All IsPlace (program_places p) → AreNames model atoms p.names → IsWrittenOf o model p conditions atoms bytes → length bytes ≤ certificate_bytes
    → IsCertificateRead (piece_of model.features atoms) p.names bytes result → IsReadAndAccepted model p conditions atoms result
