-- What the text of a region spells.
use Rattle.std.specs.Prelude.{◌≡◌, ◌⊎◌, ℤ, List}
use Rattle.fam_outer.specs.declared.faults.ConditionFault.{ConditionFault}
use Rattle.fam_outer.specs.declared.faults.ConditionFault.TheVariants as faults
use Rattle.linear_atoms.specs.declared.atoms.Feature.{Feature}
use Rattle.linear_atoms.specs.declared.atoms.Literal.{Literal}
use Rattle.linear_atoms.specs.declared.regions.Regions.{Regions}
use Rattle.linear_atoms.specs.Atoms.{IsWithin}
use Rattle.cpp_conditions.specs.Expressions.{Expression, is_nonzero, value}
use Rattle.cpp_conditions.specs.Grammar.{CSpells}
use Rattle.atom_solver.specs.Solutions.{all_hold}
use Rattle.alarm_report.specs.Texts.{region_text}

-- an expression of C, whose value is not 0 exactly where all literals hold
pub record SpellsRegion (regions : Regions) (features : List Feature) (literals : List Literal) : Type 0 where
  pub expression : Expression
  pub spelled : CSpells expression (region_text regions features literals)
  pub true_where : (values : List ℤ) → IsWithin features values → is_nonzero (value features values expression) ≡ all_hold literals values

-- the refusal is one of size
abbrev pub IsOfSize : ConditionFault → Type 0
IsOfSize fault = (fault ≡ faults.TooDeep) ⊎ (fault ≡ faults.TooLarge)
