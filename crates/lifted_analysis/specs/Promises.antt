-- What the analysis of a family promises.
use Rattle.std.specs.Prelude.{◌⊎◌, ℕ, Bool, List, [], ◌∷◌, map, length, if◌then◌else◌}
use Rattle.std.specs.List.{All}
use Rattle.fam_outer.specs.declared.faults.Place.{Place}
use Rattle.c_tree.specs.declared.tree.Kind.{Kind}
use Rattle.c_tree.specs.declared.tree.Kind.TheVariants.{Overflow, ZeroDivisor, Assertion}
use Rattle.c_tree.specs.Tree.{Whole}
use Rattle.c_tree.specs.Project.{projected_program}
use Rattle.cpp_conditions.specs.declared.formulas.Formula.{Formula}
use Rattle.cpp_conditions.specs.Propositions.{true_on, IsBelow}
use Rattle.cpp_conditions.specs.View.{formula}
use Rattle.decision_tree.specs.Plain.{Plain, leaf, node}
use Rattle.leaf_domain.specs.Leaves.{LeafValue, LeafMeaning, nothing_of}
use Rattle.plain_analysis.specs.declared.options.Options.{Options}
use Rattle.plain_analysis.specs.Places.{at_of, alarm_of}
use Rattle.tree_unify.specs.Formulas.{HasNumber}

-- the truths of the conditions at a vector
abbrev pub truths_of : List Formula → List Bool → List Bool
truths_of conditions v = map (λ c. true_on v (formula c)) conditions

-- the program of a vector
abbrev pub variant_at : Whole → List Formula → List Bool → Whole
variant_at p conditions v = projected_program (truths_of conditions v) p

-- the leaf of the start values of a vector's program, where the vector is plausible, and Nothing elsewhere
abbrev pub begin_at : LeafMeaning → Whole → List Formula → Formula → List Bool → LeafValue
begin_at M p conditions plausible v =
    if true_on v (formula plausible) then M.start (variant_at p conditions v).start else nothing_of (length p.names)

-- the leaf at a place in the analysis of a vector's program, which is Nothing where that program has no such place
abbrev pub leaf_at : LeafMeaning → Options → Whole → List Formula → Formula → Place → List Bool → LeafValue
leaf_at M o p conditions plausible place v = at_of M o (variant_at p conditions v) (begin_at M p conditions plausible v) place

-- whether that analysis has an alarm of a kind at a place
abbrev pub stop_at : LeafMeaning → Options → Whole → List Formula → Formula → Place × Kind → List Bool → Bool
stop_at M o p conditions plausible at v = alarm_of M o (variant_at p conditions v) (begin_at M p conditions plausible v) at.0 at.1

-- each place with each kind, in the order of the places and then of the kinds
abbrev pub by_kind : List Place → List (Place × Kind)
by_kind [] = []
by_kind (p ∷ ps) = (p, Overflow) ∷ ((p, ZeroDivisor) ∷ ((p, Assertion) ∷ by_kind ps))

-- the tree of the leaves' values
abbrev pub valued : {L : Type 0} → (L → LeafValue) → Plain L → Plain LeafValue
valued value (leaf x) = leaf (value x)
valued value (node test low high) = node test (valued value low) (valued value high)

-- a number of some formula
abbrev pub HasNumberIn : ℕ → List Formula → Type 0
HasNumberIn k [] = ⊥
HasNumberIn k (c ∷ cs) = HasNumber k (formula c) ⊎ HasNumberIn k cs

-- a number of the conditions, or of what is plausible
abbrev pub Occurs : List Formula → Formula → ℕ → Type 0
Occurs conditions plausible k = HasNumber k (formula plausible) ⊎ HasNumberIn k conditions

-- all numbers of the conditions and of what is plausible are below this
pub record AreBelow (m : ℕ) (conditions : List Formula) (plausible : Formula) : Type 0 where
  pub each : All (λ (c : Formula). IsBelow m (formula c)) conditions
  pub last : IsBelow m (formula plausible)
