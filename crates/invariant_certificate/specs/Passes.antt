-- The pass that a check makes over the variant of each valid configuration: each loop has at its head what the first of its
-- lines says whose region the configuration meets, and nothing else of the analysis is asked.
use Rattle.std.specs.Prelude.{ℤ, Bool, false, true, not, ◌&&◌, ◌||◌, List, [], ◌∷◌}
use Rattle.fam_outer.specs.declared.faults.Place.{Place}
use Rattle.c_tree.specs.declared.tree.Kind.{Kind}
use Rattle.c_tree.specs.declared.tree.Kind.TheVariants.{Overflow, ZeroDivisor, Assertion}
use Rattle.c_tree.specs.Tree.{Whole}
use Rattle.linear_atoms.specs.declared.atoms.Atom.{Atom}
use Rattle.cpp_conditions.specs.declared.formulas.Formula.{Formula}
use Rattle.cpp_conditions.specs.Numbering.{vector_at}
use Rattle.cpp_conditions.specs.Propositions.{true_on}
use Rattle.cpp_conditions.specs.View.{formula}
use Rattle.leaf_domain.specs.Leaves.{LeafValue, LeafMeaning}
use Rattle.plain_analysis.specs.Places.{is_same_place, alarm_by}
use Rattle.plain_analysis.specs.Statements.{Heads}
use Rattle.plain_analysis.specs.Ways.{enter}
use Rattle.lifted_analysis.specs.Lines.{given_heads}
use Rattle.lifted_analysis.specs.Promises.{variant_at}
use Rattle.lifted_analysis.specs.Turns.{turns_by, inductive_in}
use Rattle.certificate_format.specs.declared.certificates.AlarmLine.{AlarmLine}
use Rattle.certificate_format.specs.declared.certificates.Certificate.{Certificate}

-- ---- what is listed

abbrev pub is_same_kind : Kind → Kind → Bool
is_same_kind Overflow Overflow = true
is_same_kind ZeroDivisor ZeroDivisor = true
is_same_kind Assertion Assertion = true
is_same_kind a b = false

-- the line is for this place and kind, and its region holds at the vector
abbrev pub lists : AlarmLine → Place × Kind → List Bool → Bool
lists l at v = (is_same_place l.place at.0 && is_same_kind l.kind at.1) && true_on v (formula l.region)

-- some line is
abbrev pub is_listed : List AlarmLine → Place × Kind → List Bool → Bool
is_listed [] at v = false
is_listed (l ∷ ls) at v = lists l at v || is_listed ls at v

-- ---- the pass over one variant

module _ (M : LeafMeaning) (p : Whole) (conditions : List Formula) (atoms : List Atom) (c : Certificate) where
  -- the program of the variant of a configuration
  abbrev pub variant_of : List ℤ → Whole
  variant_of values = variant_at p conditions (vector_at atoms values)

  -- the leaf of its start values
  abbrev pub begin_of : List ℤ → LeafValue
  begin_of values = M.start (variant_of values).start

  -- what its loops have at their heads
  abbrev pub heads_of : List ℤ → Heads
  heads_of values = given_heads M c.loops.items (vector_at atoms values) (begin_of values)

  -- whether its loop at a place is inductive
  abbrev pub is_inductive : Place → List ℤ → Bool
  is_inductive place values = inductive_in M (turns_by M c.mode (heads_of values) (variant_of values).body (enter (begin_of values))) place

  -- whether it may stop at a place with a kind
  abbrev pub may_stop : Place × Kind → List ℤ → Bool
  may_stop at values = alarm_by M c.mode (heads_of values) (variant_of values) (begin_of values) at.0 at.1

  -- where it may stop, it is listed
  abbrev pub is_covered : Place × Kind → List ℤ → Bool
  is_covered at values = not (may_stop at values) || is_listed c.alarms.items at (vector_at atoms values)
