-- The first tree of a pass that fails.
use Rattle.std.specs.Prelude.{◌≡◌, ℤ, Bool, not, ◌||◌, List}
use Rattle.fam_outer.specs.declared.faults.Place.{Place}
use Rattle.c_tree.specs.declared.tree.Kind.{Kind}
use Rattle.linear_atoms.specs.declared.atoms.Atom.{Atom}
use Rattle.cpp_conditions.specs.declared.models.Model.{Model}
use Rattle.cpp_conditions.specs.Numbering.{vector_at}
use Rattle.decision_tree.specs.Plain.{leaf_of}
use Rattle.decision_tree.specs.View.{plain}
use Rattle.lifted_analysis.specs.declared.findings.AlarmTree.{AlarmTree}
use Rattle.lifted_analysis.specs.declared.findings.LoopTree.{LoopTree}
use Rattle.certificate_format.specs.declared.certificates.AlarmLine.{AlarmLine}
use Rattle.invariant_certificate.specs.declared.verdicts.Verdict.{Verdict}
use Rattle.invariant_certificate.specs.declared.verdicts.Verdict.TheVariants.{Yes, NotInductive, Unlisted}
use Rattle.invariant_certificate.specs.Failing.{AllHold, IsFirstFailing}
use Rattle.invariant_certificate.specs.Passes.{is_listed}

-- the loop's tree is true at the configuration
abbrev pub loop_holds : List Atom → LoopTree → List ℤ → Bool
loop_holds atoms l values = leaf_of (plain l.tree) (vector_at atoms values)

-- the alarm's tree is false there, or some line lists it
abbrev pub stop_holds : List Atom → List AlarmLine → AlarmTree → List ℤ → Bool
stop_holds atoms lines a values =
    not (leaf_of (plain a.tree) (vector_at atoms values)) || is_listed lines (a.place, a.kind) (vector_at atoms values)

pub record IsFirstLoop (model : Model) (atoms : List Atom) (loops : List LoopTree) (place : Place) (values : List ℤ) : Type 0 where
  pub one : LoopTree
  pub place_is : one.place ≡ place
  pub first : IsFirstFailing model (loop_holds atoms) loops one values

pub record IsFirstStop (model : Model) (atoms : List Atom) (lines : List AlarmLine) (alarms : List AlarmTree) (place : Place) (kind : Kind) (values : List ℤ) : Type 0 where
  pub one : AlarmTree
  pub place_is : one.place ≡ place
  pub kind_is : one.kind ≡ kind
  pub first : IsFirstFailing model (stop_holds atoms lines) alarms one values

-- yes where nothing fails; else the first loop that does, or, where none does, the first stop
abbrev pub IsJudged : Model → List Atom → List AlarmLine → List LoopTree → List AlarmTree → Verdict → Type 0
IsJudged model atoms lines loops alarms Yes = AllHold model (loop_holds atoms) loops × AllHold model (stop_holds atoms lines) alarms
IsJudged model atoms lines loops alarms (NotInductive place config) = IsFirstLoop model atoms loops place config.values
IsJudged model atoms lines loops alarms (Unlisted place kind config) =
    AllHold model (loop_holds atoms) loops × IsFirstStop model atoms lines alarms place kind config.values
