-- What a product line is answered under `analyse`, `invariants` and `certify`.
use Rattle.std.specs.Prelude.{ℕ, ◌≡◌, ◌++◌, List, codes, length, nat_lt, if◌then◌else◌}
use Rattle.std.specs.Fmt.{decimal}
use Rattle.c_tree.specs.Places.{program_places}
use Rattle.c_tree.specs.View.{whole}
use Rattle.cpp_conditions.specs.declared.formulas.Formula.{Formula}
use Rattle.cpp_conditions.specs.View.{formula}
use Rattle.linear_atoms.specs.declared.regions.Regions.{Regions}
use Rattle.atom_solver.specs.Plausible.{IsPlausible}
use Rattle.leaf_domain.specs.Leaves.{LeafMeaning}
use Rattle.lifted_analysis.specs.Promises.{leaf_at, stop_at}
use Rattle.lifted_analysis.specs.Turns.{loop_places}
use Rattle.plain_analysis.specs.declared.options.Options.{Options}
use Rattle.alarm_report.specs.declared.alarms.FamilyAlarm.{FamilyAlarm}
use Rattle.alarm_report.specs.Alarms.{PlainAlarmTree, AreAlarms}
use Rattle.alarm_report.specs.Invariants.{LeafTree, Invariant, AreInvariants}
use Rattle.alarm_report.specs.LeafTexts.{invariant_text}
use Rattle.alarm_report.specs.Texts.{alarm_text}
use Rattle.alarm_report.specs.Trees.{AreTreesOfPlaces, AreTreesOfKinds}
use Rattle.certificate_format.specs.Loops.{trees_at}
use Rattle.certificate_format.specs.Texts.{certificate_text}
use Rattle.famlint_loads.specs.declared.fault.Done.{Done}
use Rattle.famlint_loads.specs.declared.product_line.ProductLine.{ProductLine}
use Rattle.famlint_requests.specs.declared.request.FamilyTask.{FamilyTask}
use Rattle.famlint_requests.specs.declared.request.FamilyTask.TheVariants.{Analyse, Invariants, Certify, Generate}
use Rattle.famlint_families.specs.Told.{IsToldTree}

-- the formula is true at exactly the vectors that the constraints and the order of the atoms allow
abbrev pub IsPlausibleFor : ProductLine → Formula → Type 0
IsPlausibleFor l plausible = IsPlausible l.model.constraints l.family.atoms (formula plausible)

-- the tree that is told of the function 'the analysis of this vector's variant has an alarm of the kind at the place'
abbrev pub IsAlarmTreeOf : LeafMeaning → Options → Regions → ProductLine → Formula → PlainAlarmTree → Type 0
IsAlarmTreeOf M o r l plausible t =
    IsToldTree r (length l.family.atoms) (stop_at M o (whole l.family.code) l.family.conditions plausible (t.place, t.kind)) (formula plausible) t.tree

-- the tree that is told of the function 'the leaf at the place in the analysis of this vector's variant'
abbrev pub IsLeafTree : LeafMeaning → Options → Regions → ProductLine → Formula → LeafTree → Type 0
IsLeafTree M o r l plausible t =
    IsToldTree r (length l.family.atoms) (leaf_at M o (whole l.family.code) l.family.conditions plausible t.place) (formula plausible) t.tree

-- what is told of a product line by the trees of an analysis, all over one formula of its plausible vectors
pub record IsToldBy {T : Type 0} (l : ProductLine) (AreTrees : Formula → List T → Type 0) (Tells : List T → Type 0) : Type 0 where
  pub plausible : Formula
  pub plausible_is : IsPlausibleFor l plausible
  pub trees : List T
  pub told : AreTrees plausible trees
  pub tells : Tells trees

-- the tree of each place and kind, in the order of the text and of the kinds
abbrev pub AreAlarmTrees : LeafMeaning → Options → Regions → ProductLine → Formula → List PlainAlarmTree → Type 0
AreAlarmTrees M o r l plausible trees = AreTreesOfKinds (whole l.family.code) (IsAlarmTreeOf M o r l plausible) trees

-- the tree of each place, in the order of the text
abbrev pub AreLeafTrees : LeafMeaning → Options → Regions → ProductLine → Formula → List LeafTree → Type 0
AreLeafTrees M o r l plausible trees = AreTreesOfPlaces (whole l.family.code) (IsLeafTree M o r l plausible) trees

-- the alarms of a product line: the regions of the tree of each place and kind
abbrev pub AreAlarmsOf : LeafMeaning → Options → Regions → ProductLine → List FamilyAlarm → Type 0
AreAlarmsOf M o r l alarms = IsToldBy l (AreAlarmTrees M o r l) (λ (trees : List PlainAlarmTree). AreAlarms l.model l.family.atoms trees alarms)

-- the invariants of a product line: the regions of the tree of each place, with their leaves
abbrev pub AreInvariantsOf : LeafMeaning → Options → Regions → ProductLine → List Invariant → Type 0
AreInvariantsOf M o r l invariants = IsToldBy l (AreLeafTrees M o r l) (λ (trees : List LeafTree). AreInvariants l.model l.family.atoms trees invariants)

-- the invariants of the loops of a product line: of the same trees those at the places of loops
abbrev pub AreLoopsOf : LeafMeaning → Options → Regions → ProductLine → List Invariant → Type 0
AreLoopsOf M o r l loops =
    IsToldBy l (AreLeafTrees M o r l) (λ (trees : List LeafTree). AreInvariants l.model l.family.atoms (trees_at (loop_places (whole l.family.code).body) trees) loops)

-- 1 where there is an alarm
abbrev pub family_status : List FamilyAlarm → ℕ
family_status alarms = if nat_lt 0 (length alarms) then 1 else 0

-- how many bytes and places there are
abbrev pub sizes_text : ProductLine → List ℕ
sizes_text l = codes "bytes: " ++ decimal (length l.text) ++ codes "\nplaces: " ++ decimal (length (program_places (whole l.family.code))) ++ codes "\n"

-- what is asked of a product line is this
abbrev pub IsFamilyDone : LeafMeaning → Options → Regions → FamilyTask → ProductLine → Done → Type 0
IsFamilyDone M o r Analyse l done =
    (alarms : List FamilyAlarm) × AreAlarmsOf M o r l alarms
    × (done ≡ record { text = alarm_text r l.model.features alarms; status = family_status alarms })
IsFamilyDone M o r Invariants l done =
    (invariants : List Invariant) × (alarms : List FamilyAlarm) × AreInvariantsOf M o r l invariants × AreAlarmsOf M o r l alarms
    × (done ≡ record {
      text = invariant_text r M l.model.features (whole l.family.code).names invariants ++ alarm_text r l.model.features alarms;
      status = family_status alarms;
    })
IsFamilyDone M o r Certify l done =
    (loops : List Invariant) × (alarms : List FamilyAlarm) × AreLoopsOf M o r l loops × AreAlarmsOf M o r l alarms
    × (done ≡ record {
      text = certificate_text r M l.model.features (whole l.family.code).names o.mode loops alarms;
      status = family_status alarms;
    })
IsFamilyDone M o r Generate l done =
    (alarms : List FamilyAlarm) × AreAlarmsOf M o r l alarms
    × (done ≡ record { text = sizes_text l ++ alarm_text r l.model.features alarms; status = family_status alarms })
