-- The headline: what is promised of the report on all variants of a family at once, one valid configuration after another.
--
-- A line that is printed has a place, a kind of stop and a region; a region is literals over the features, with the least valid
-- configuration that meets them, its example. `Tells line place kind values` says that the line has this place and this kind,
-- and that the configuration with these values meets its region; `TellsOnce` says that exactly one line of a list does.
-- `IsProgramAt line values p` says that p is the program of the configuration's variant: what its preprocessed text is read as.
use Rattle.std.specs.Prelude.{ℕ, ℤ, ◌≡◌, ⊤, true, List, ◌++◌, length, slice_get, Some}
use Rattle.std.specs.List.{All}
use Rattle.fam_outer.specs.declared.faults.Place.{Place}
use Rattle.c_tree.specs.declared.tree.Kind.{Kind}
use Rattle.c_tree.specs.Places.{program_places}
use Rattle.c_tree.specs.Run.{End, AtEnd, StoppedEnd, WaitingEnd, EndedEnd, run_of}
use Rattle.c_tree.specs.Tree.{Whole}
use Rattle.c_tree.specs.Value.{IsInt}
use Rattle.c_tree.specs.View.{whole}
use Rattle.cpp_conditions.specs.Validity.{plain, IsValid}
use Rattle.linear_atoms.specs.declared.regions.Regions.{Regions}
use Rattle.linear_atoms.specs.Atoms.{AreLiterals}
use Rattle.atom_solver.specs.Solutions.{IsFirst, all_hold}
use Rattle.leaf_domain.specs.Leaves.{LeafValue, LeafMeaning}
use Rattle.lifted_analysis.specs.Turns.{loop_places}
use Rattle.plain_analysis.specs.declared.options.Options.{Options}
use Rattle.plain_analysis.specs.Places.{at_of, alarm_of}
use Rattle.alarm_report.specs.declared.alarms.FamilyAlarm.{FamilyAlarm}
use Rattle.alarm_report.specs.Alarms.{Tells, TellsOnce}
use Rattle.alarm_report.specs.Invariants.{Invariant, HasOnce}
use Rattle.alarm_report.specs.LeafTexts.{leaf_text, invariant_text}
use Rattle.alarm_report.specs.Texts.{alarm_text}
use Rattle.certificate_format.specs.Texts.{certificate_text}
use Rattle.report_laws.specs.Stores.{TellsStore}
use Rattle.famlint_loads.specs.declared.product_line.ProductLine.{ProductLine}
use Rattle.famlint_requests.specs.declared.request.FamilyTask.{FamilyTask}
use Rattle.famlint_requests.specs.declared.request.FamilyTask.TheVariants.{Analyse, Invariants, Certify, Generate}
use Rattle.famlint_families.specs.FamilyReports.{sizes_text}
use Rattle.famlint_loads.specs.ProductLines.{IsProgramAt}
use Rattle.famlint_programs.specs.Report.{NeverStops}

-- ---- the alarms of one variant, the program p of the configuration with these values

pub record AreItsAlarms (M : LeafMeaning) (o : Options) (alarms : List FamilyAlarm) (status : ℕ) (values : List ℤ) (p : Whole) : Type 0 where
  -- each stop of each run of the program, on any inputs of `int` and after any number of steps, is told by exactly one line
  pub stops : (inputs : List ℤ) (n : ℕ) (place : Place) (kind : Kind) → All IsInt inputs → run_of p inputs n o.mode ≡ StoppedEnd place kind
      → TellsOnce alarms place kind values
  -- at status 0 no run of it stops
  pub safe : status ≡ 0 → NeverStops o.mode p
  -- regions are exact: a place and a kind are told exactly where the analysis of this program alone has the alarm, and then once
  pub once : (place : Place) (kind : Kind) → alarm_of M o p (M.start p.start) place kind ≡ true → TellsOnce alarms place kind values
  pub only : (place : Place) (kind : Kind) (i : ℕ) (alarm : FamilyAlarm) → slice_get alarms i ≡ Some alarm → Tells alarm place kind values
      → alarm_of M o p (M.start p.start) place kind ≡ true

-- ---- the invariants of one variant

-- exactly one line of this place has a region that the configuration meets; its leaf is what the analysis of this program alone has
-- there, and it holds the store
pub record HasState (M : LeafMeaning) (o : Options) (invariants : List Invariant) (values : List ℤ) (p : Whole) (place : Place) (store : List ℤ) : Type 0 where
  pub once : HasOnce invariants place (at_of M o p (M.start p.start) place) values
  pub holds : M.holds (at_of M o p (M.start p.start) place) store

-- exactly one line of this place has a region that the configuration meets, and what is printed of its leaf is so of the store: each
-- variable lies in its range, by so many of its steps from the low end, and the difference and the sum of two in theirs
pub record ShowsState (M : LeafMeaning) (names : List (List ℕ)) (invariants : List Invariant) (values : List ℤ) (place : Place) (store : List ℤ) : Type 0 where
  pub leaf : LeafValue
  pub once : HasOnce invariants place leaf values
  pub tells : TellsStore names store (leaf_text M names leaf)

-- what a run has reached is so: before a statement, before an input that is not given, or behind the last statement
abbrev pub Reaches : (Place → List ℤ → Type 0) → Place → End → Type 0
Reaches IsSo end (AtEnd place store) = IsSo place store
Reaches IsSo end (WaitingEnd place store) = IsSo place store
Reaches IsSo end (EndedEnd store) = IsSo end store
Reaches IsSo end (StoppedEnd place kind) = ⊤

pub record AreItsInvariants (M : LeafMeaning) (o : Options) (family : Whole) (invariants : List Invariant) (values : List ℤ) (p : Whole) : Type 0 where
  -- each state that a run reaches, on any inputs of `int` and after any number of steps
  pub states : (inputs : List ℤ) (n : ℕ) → All IsInt inputs → Reaches (HasState M o invariants values p) p.end (run_of p inputs n o.mode)
  -- each such state, as it is printed over the names of the family
  pub shown : (inputs : List ℤ) (n : ℕ) → All IsInt inputs → Reaches (ShowsState M family.names invariants values) p.end (run_of p inputs n o.mode)
  -- each place of the family has exactly one such line, with what the analysis of this program alone has there
  pub leaves : (n : ℕ) (place : Place) → slice_get (program_places family) n ≡ Some place → HasOnce invariants place (at_of M o p (M.start p.start) place) values
  -- no line has a place that the family lacks
  pub places : (i : ℕ) (one : Invariant) → slice_get invariants i ≡ Some one → (n : ℕ) × (slice_get (program_places family) n ≡ Some one.place)

-- ---- the invariants of the loops of one variant

-- at the places of the family's loops
abbrev pub AtLoops : Whole → (Place → List ℤ → Type 0) → Place → List ℤ → Type 0
AtLoops family IsSo place store = (n : ℕ) → slice_get (loop_places family.body) n ≡ Some place → IsSo place store

pub record AreItsLoops (M : LeafMeaning) (o : Options) (family : Whole) (loops : List Invariant) (values : List ℤ) (p : Whole) : Type 0 where
  -- each state that a run reaches at a loop, before one more round or the end of the loop
  pub states : (inputs : List ℤ) (n : ℕ) → All IsInt inputs → Reaches (AtLoops family (HasState M o loops values p)) p.end (run_of p inputs n o.mode)
  -- each such state, as it is printed over the names of the family
  pub shown : (inputs : List ℤ) (n : ℕ) → All IsInt inputs → Reaches (AtLoops family (ShowsState M family.names loops values)) p.end (run_of p inputs n o.mode)
  -- each loop of the family has exactly one such line, with what the analysis of this program alone has there
  pub leaves : (n : ℕ) (place : Place) → slice_get (loop_places family.body) n ≡ Some place → HasOnce loops place (at_of M o p (M.start p.start) place) values
  -- no line has a place at which the family has no loop
  pub places : (i : ℕ) (one : Invariant) → slice_get loops i ≡ Some one → (n : ℕ) × (slice_get (loop_places family.body) n ≡ Some one.place)

-- ---- all variants

-- each valid configuration has a variant with a program, and the alarms are those of it; each example is the least valid
-- configuration that meets its line's region, which has literals over the features; and no line has a place that the family lacks
pub record AreAlarmsOfAll (M : LeafMeaning) (o : Options) (l : ProductLine) (alarms : List FamilyAlarm) (status : ℕ) : Type 0 where
  pub variants : (values : List ℤ) → IsValid (plain l.model) values
      → (p : Whole) × IsProgramAt l values p × AreItsAlarms M o alarms status values p
  pub examples : (i : ℕ) (alarm : FamilyAlarm) → slice_get alarms i ≡ Some alarm
      → IsFirst l.model (all_hold alarm.region.literals) alarm.region.example.values
  pub literals : (i : ℕ) (alarm : FamilyAlarm) → slice_get alarms i ≡ Some alarm → AreLiterals (length l.model.features) alarm.region.literals
  pub places : (i : ℕ) (alarm : FamilyAlarm) → slice_get alarms i ≡ Some alarm → (n : ℕ) × (slice_get (program_places (whole l.family.code)) n ≡ Some alarm.place)

-- each valid configuration has a variant with a program, and the invariants are those of it
abbrev pub AreInvariantsOfAll : LeafMeaning → Options → ProductLine → List Invariant → Type 0
AreInvariantsOfAll M o l invariants =
    (values : List ℤ) → IsValid (plain l.model) values
    → (p : Whole) × IsProgramAt l values p × AreItsInvariants M o (whole l.family.code) invariants values p

-- the same of the invariants of the loops
abbrev pub AreLoopsOfAll : LeafMeaning → Options → ProductLine → List Invariant → Type 0
AreLoopsOfAll M o l loops =
    (values : List ℤ) → IsValid (plain l.model) values
    → (p : Whole) × IsProgramAt l values p × AreItsLoops M o (whole l.family.code) loops values p

-- the whole output is the text of such alarms; under `invariants`, the text of such invariants, and then of such alarms; under
-- `certify`, the certificate of such invariants of loops and of such alarms; under `generate`, the sizes, and then the text of such alarms
abbrev pub PromisedOfAll : LeafMeaning → Options → Regions → FamilyTask → ProductLine → ℕ → List ℕ → Type 0
PromisedOfAll M o r Analyse l status text =
    (alarms : List FamilyAlarm) × (text ≡ alarm_text r l.model.features alarms) × AreAlarmsOfAll M o l alarms status
PromisedOfAll M o r Invariants l status text =
    (invariants : List Invariant) × (alarms : List FamilyAlarm)
    × (text ≡ invariant_text r M l.model.features (whole l.family.code).names invariants ++ alarm_text r l.model.features alarms)
    × AreInvariantsOfAll M o l invariants × AreAlarmsOfAll M o l alarms status
PromisedOfAll M o r Certify l status text =
    (loops : List Invariant) × (alarms : List FamilyAlarm)
    × (text ≡ certificate_text r M l.model.features (whole l.family.code).names o.mode loops alarms)
    × AreLoopsOfAll M o l loops × AreAlarmsOfAll M o l alarms status
PromisedOfAll M o r Generate l status text =
    (alarms : List FamilyAlarm) × (text ≡ sizes_text l ++ alarm_text r l.model.features alarms) × AreAlarmsOfAll M o l alarms status
