-- What holds of certificates.
use Rattle.std.specs.Prelude.{◌≡◌, ⊤, ℕ, ◌≤◌, List, length, Result, Ok, Err}
use Rattle.std.specs.List.{All}
use Rattle.fam_outer.specs.declared.dialect.Dialect.{Dialect}
use Rattle.fam_outer.specs.declared.faults.Place.{Place}
use Rattle.fam_outer.specs.declared.refusal.Refusal.{Refusal}
use Rattle.fam_outer.specs.declared.refusal.Refusal.TheVariants.{NoMemory, Fault}
use Rattle.c_tree.specs.declared.tree.Mode.{Mode}
use Rattle.c_tree.specs.Places.{program_places}
use Rattle.c_tree.specs.View.{whole}
use Rattle.c_tree.specs.Whole.{IsProgram}
use Rattle.c_parser.specs.declared.family.Family.{Family}
use Rattle.c_parser.specs.FamilyReading.{IsFamilyOf}
use Rattle.linear_atoms.specs.declared.atoms.Atom.{Atom}
use Rattle.linear_atoms.specs.declared.regions.Regions.{Regions}
use Rattle.linear_atoms.specs.Atoms.{AreAtoms}
use Rattle.cpp_conditions.specs.declared.formulas.Formula.{Formula}
use Rattle.cpp_conditions.specs.declared.models.Model.{Model}
use Rattle.cpp_conditions.specs.View.{formula}
use Rattle.merged_findings.specs.Merged.{IsTreeWhere}
use Rattle.feature_model.specs.Features.{AreDistinct, AreNamed}
use Rattle.leaf_domain.specs.Leaves.{LeafMeaning}
use Rattle.interval_leaf.specs.Intervals.{intervals}
use Rattle.lifted_analysis.specs.Promises.{leaf_at, stop_at}
use Rattle.plain_analysis.specs.declared.options.Options.{Options}
use Rattle.alarm_report.specs.declared.alarms.FamilyAlarm.{FamilyAlarm}
use Rattle.alarm_report.specs.Alarms.{PlainAlarmTree, AreAlarms}
use Rattle.alarm_report.specs.Invariants.{LeafTree, Invariant, AreInvariants}
use Rattle.alarm_report.specs.Trees.{AreTreesOfPlaces, AreTreesOfKinds}
use Rattle.certificate_format.specs.declared.certificates.Certificate.{Certificate}
use Rattle.certificate_format.specs.declared.certificates.CertificateFault.{CertificateFault}
use Rattle.fam_outer.specs.Limits.{certificate_bytes}
use Rattle.certificate_format.specs.Certificates.{IsCertificateRead}
use Rattle.certificate_format.specs.Lines.{IsPlace}
use Rattle.certificate_format.specs.Regions.{piece_of}
use Rattle.certificate_format.specs.Loops.{trees_at}
use Rattle.certificate_format.specs.Texts.{certificate_text}
use Rattle.certificate_laws.specs.ReadBack.{IsReadBack}
use Rattle.certificate_laws.specs.Written.{IsOneLine, IsLoopTree, IsAlarmTree}

-- ---- what is read back

-- a certificate that says these was read, or memory ran out
abbrev pub AnswersBack : LeafMeaning → Model → List Atom → List (List ℕ) → Mode → List Invariant → List FamilyAlarm → Result Certificate (Refusal CertificateFault) → Type 0
AnswersBack M model atoms names mode is told (Ok c) = IsReadBack M model atoms names mode is told c
AnswersBack M model atoms names mode is told (Err NoMemory) = ⊤
AnswersBack M model atoms names mode is told (Err (Fault fault)) = ⊥

-- ---- names and places

-- the places are those of a file, and no name has a newline
pub record AreOfFile (places : List Place) (names : List (List ℕ)) : Type 0 where
  pub placed : All IsPlace places
  pub lines : All IsOneLine names

-- so are those of the program of each family
abbrev pub FamiliesAreOfFiles : Type 0
FamiliesAreOfFiles = (dialect : Dialect) (model : Model) (text : List ℕ) (f : Family) → IsFamilyOf dialect model text f → AreOfFile (program_places (whole f.code)) (whole f.code).names

-- ---- certificates of trees

-- what is known of the names and the atoms over which a certificate is written
pub record AreNames (model : Model) (atoms : List Atom) (names : List (List ℕ)) : Type 0 where
  pub named : AreNamed model.features
  pub distinct : AreDistinct model.features
  pub well : AreAtoms (length model.features) atoms
  pub lines : All IsOneLine names

-- the invariants of trees of loops, and the alarms of trees of stops
pub record AreOfTrees (model : Model) (atoms : List Atom) (names : List (List ℕ)) (is : List Invariant) (alarms : List FamilyAlarm) : Type 0 where
  pub loops : List LeafTree
  pub stops : List PlainAlarmTree
  pub loop_trees : All (IsLoopTree intervals (length atoms) names) loops
  pub alarm_trees : All (IsAlarmTree (length atoms)) stops
  pub invariants_are : AreInvariants model atoms loops is
  pub alarms_are : AreAlarms model atoms stops alarms

-- of a text that is not too long, however its regions are told, the reader answers a certificate that says what it was written of, or memory ran out
abbrev pub CertificatesAreReadBack : Type 0
CertificatesAreReadBack =
    (regions : Regions) (model : Model) (atoms : List Atom) (names : List (List ℕ)) (mode : Mode) (is : List Invariant) (alarms : List FamilyAlarm) (bytes : List ℕ) (result : Result Certificate (Refusal CertificateFault)) → AreNames model atoms names
    → AreOfTrees model atoms names is alarms → bytes ≡ certificate_text regions intervals model.features names mode is alarms → length bytes ≤ certificate_bytes
    → IsCertificateRead (piece_of model.features atoms) names bytes result → AnswersBack intervals model atoms names mode is alarms result

-- ---- certificates of families

-- a model and a family over it
pub record IsFamilyOver (dialect : Dialect) (model : Model) (text : List ℕ) (f : Family) : Type 0 where
  pub named : AreNamed model.features
  pub distinct : AreDistinct model.features
  pub atoms : AreAtoms (length model.features) f.atoms
  pub program : IsProgram (whole f.code)
  pub spelled : IsFamilyOf dialect model text f

-- the tree has the leaf at its place in the analysis of each plausible vector's program
abbrev pub IsLeafTree : Options → Family → Formula → LeafTree → Type 0
IsLeafTree o f plausible t = IsTreeWhere (length f.atoms) (leaf_at intervals o (whole f.code) f.conditions plausible t.place) (formula plausible) t.tree

-- the tree is true at the plausible vectors where that analysis has an alarm of its kind at its place
abbrev pub IsAlarmTreeOf : Options → Family → Formula → PlainAlarmTree → Type 0
IsAlarmTreeOf o f plausible t = IsTreeWhere (length f.atoms) (stop_at intervals o (whole f.code) f.conditions plausible (t.place, t.kind)) (formula plausible) t.tree

-- the invariants of the loops at these places, and the alarms, of an analysis of a family
pub record AreOfAnalysis (model : Model) (o : Options) (f : Family) (loops : List Place) (is : List Invariant) (alarms : List FamilyAlarm) : Type 0 where
  pub plausible : Formula
  pub places : List LeafTree
  pub stops : List PlainAlarmTree
  pub leaf_trees : AreTreesOfPlaces (whole f.code) (IsLeafTree o f plausible) places
  pub stop_trees : AreTreesOfKinds (whole f.code) (IsAlarmTreeOf o f plausible) stops
  pub invariants_are : AreInvariants model f.atoms (trees_at loops places) is
  pub alarms_are : AreAlarms model f.atoms stops alarms

-- the certificate of a family is read back
abbrev pub FamilyCertificatesAreReadBack : Type 0
FamilyCertificatesAreReadBack =
    (regions : Regions) (dialect : Dialect) (model : Model) (text : List ℕ) (f : Family) (o : Options) (loops : List Place) (mode : Mode) (is : List Invariant) (alarms : List FamilyAlarm) (bytes : List ℕ) (result : Result Certificate (Refusal CertificateFault))
    → IsFamilyOver dialect model text f → AreOfAnalysis model o f loops is alarms → bytes ≡ certificate_text regions intervals model.features (whole f.code).names mode is alarms → length bytes ≤ certificate_bytes
    → IsCertificateRead (piece_of model.features f.atoms) (whole f.code).names bytes result → AnswersBack intervals model f.atoms (whole f.code).names mode is alarms result
