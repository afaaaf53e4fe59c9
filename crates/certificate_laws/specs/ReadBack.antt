-- A certificate that says the invariants of loops and the alarms of a family: what a certificate's text is read back as.
use Rattle.std.specs.Prelude.{◌≡◌, ℕ, ◌+◌, ℤ, true, false, List, [], ◌∷◌, Option, Some, None}
use Rattle.c_tree.specs.declared.tree.Mode.{Mode}
use Rattle.linear_atoms.specs.declared.atoms.Atom.{Atom}
use Rattle.cpp_conditions.specs.declared.models.Model.{Model}
use Rattle.cpp_conditions.specs.Numbering.{vector_at}
use Rattle.cpp_conditions.specs.Propositions.{true_on, Proposition}
use Rattle.cpp_conditions.specs.Validity.{plain, IsValid}
use Rattle.cpp_conditions.specs.View.{formula}
use Rattle.atom_solver.specs.Solutions.{all_hold}
use Rattle.leaf_domain.specs.declared.range.Range.{Range}
use Rattle.leaf_domain.specs.Leaves.{LeafValue, LeafMeaning, is_nothing_of}
use Rattle.lifted_analysis.specs.declared.lines.LoopLine.{LoopLine}
use Rattle.alarm_report.specs.declared.alarms.FamilyAlarm.{FamilyAlarm}
use Rattle.alarm_report.specs.declared.region.Region.{Region}
use Rattle.alarm_report.specs.Invariants.{Invariant}
use Rattle.certificate_format.specs.declared.certificates.AlarmLine.{AlarmLine}
use Rattle.certificate_format.specs.declared.certificates.Certificate.{Certificate}

-- at each valid configuration the formula is true where the region is met
abbrev pub SaysRegion : Model → List Atom → Region → Proposition ℕ → Type 0
SaysRegion model atoms region p =
    (values : List ℤ) → IsValid (plain model) values → true_on (vector_at atoms values) p ≡ all_hold region.literals values

-- the ranges of so many variables from x on
abbrev pub bounds_from : LeafMeaning → LeafValue → ℕ → List (List ℕ) → List Range
bounds_from M v x [] = []
bounds_from M v x (name ∷ names) = M.bounds_of v x ∷ bounds_from M v (x + 1) names

-- none where the leaf holds no store, else the range of each variable
abbrev pub IsBoundsOf : LeafMeaning → List (List ℕ) → LeafValue → Option (List Range) → Type 0
IsBoundsOf M names v None = is_nothing_of v ≡ true
IsBoundsOf M names v (Some ranges) = (is_nothing_of v ≡ false) × (ranges ≡ bounds_from M v 0 names)

pub record SaysInvariant (M : LeafMeaning) (model : Model) (atoms : List Atom) (names : List (List ℕ)) (i : Invariant) (l : LoopLine) : Type 0 where
  pub place_is : l.place ≡ i.place
  pub region_is : SaysRegion model atoms i.region (formula l.region)
  pub bounds_are : IsBoundsOf M names i.leaf l.bounds

pub record SaysAlarm (model : Model) (atoms : List Atom) (a : FamilyAlarm) (l : AlarmLine) : Type 0 where
  pub place_is : l.place ≡ a.place
  pub kind_is : l.kind ≡ a.kind
  pub region_is : SaysRegion model atoms a.region (formula l.region)

-- a line for each, in order
pub data SayInvariants (M : LeafMeaning) (model : Model) (atoms : List Atom) (names : List (List ℕ)) : List Invariant → List LoopLine → Type 0 where
  no_line : SayInvariants M model atoms names [] []
  line : (i : Invariant) (is : List Invariant) (l : LoopLine) (ls : List LoopLine) → SaysInvariant M model atoms names i l
      → SayInvariants M model atoms names is ls → SayInvariants M model atoms names (i ∷ is) (l ∷ ls)

pub data SayAlarms (model : Model) (atoms : List Atom) : List FamilyAlarm → List AlarmLine → Type 0 where
  no_line : SayAlarms model atoms [] []
  line : (a : FamilyAlarm) (others : List FamilyAlarm) (l : AlarmLine) (ls : List AlarmLine) → SaysAlarm model atoms a l
      → SayAlarms model atoms others ls → SayAlarms model atoms (a ∷ others) (l ∷ ls)

-- the certificate says these invariants and alarms in this mode
pub record IsReadBack (M : LeafMeaning) (model : Model) (atoms : List Atom) (names : List (List ℕ)) (mode : Mode) (is : List Invariant) (told : List FamilyAlarm) (c : Certificate) : Type 0 where
  pub mode_is : c.mode ≡ mode
  pub loops : SayInvariants M model atoms names is c.loops.items
  pub alarms : SayAlarms model atoms told c.alarms.items
