-- What a check answers, and what its yes is good for.
use Rattle.std.specs.Prelude.{◌≡◌, ℕ, ℤ, true, List}
use Rattle.std.specs.List.{All}
use Rattle.fam_outer.specs.declared.faults.Place.{Place}
use Rattle.c_tree.specs.declared.tree.Kind.{Kind}
use Rattle.c_tree.specs.Places.{program_places}
use Rattle.c_tree.specs.Run.{StoppedEnd, run_of}
use Rattle.c_tree.specs.Tree.{Whole}
use Rattle.c_tree.specs.Value.{IsInt}
use Rattle.linear_atoms.specs.declared.atoms.Atom.{Atom}
use Rattle.cpp_conditions.specs.declared.formulas.Formula.{Formula}
use Rattle.cpp_conditions.specs.declared.models.Model.{Model}
use Rattle.cpp_conditions.specs.Numbering.{vector_at}
use Rattle.cpp_conditions.specs.Validity.{plain, IsValid}
use Rattle.leaf_domain.specs.Leaves.{LeafMeaning}
use Rattle.lifted_analysis.specs.Promises.{by_kind}
use Rattle.lifted_analysis.specs.Turns.{loop_places}
use Rattle.certificate_format.specs.declared.certificates.Certificate.{Certificate}
use Rattle.invariant_certificate.specs.declared.verdicts.Verdict.{Verdict}
use Rattle.invariant_certificate.specs.declared.verdicts.Verdict.TheVariants.{Yes, NotInductive, Unlisted}
use Rattle.invariant_certificate.specs.Failing.{AllHold, IsFirstFailing}
use Rattle.invariant_certificate.specs.Passes.{variant_of, is_inductive, is_covered, is_listed}

module _ (M : LeafMeaning) (model : Model) (p : Whole) (conditions : List Formula) (atoms : List Atom) (c : Certificate) where
  -- each loop is inductive at every valid configuration
  abbrev pub AllInductive : Type 0
  AllInductive = AllHold model (is_inductive M p conditions atoms c) (loop_places p.body)

  -- yes where each loop is inductive and each stop that may be met is listed, at every valid configuration; else the first loop
  -- that is not inductive, or, where all are, the first place and kind that are not listed, with the least configuration
  abbrev pub IsVerdict : Verdict → Type 0
  IsVerdict Yes = AllInductive × AllHold model (is_covered M p conditions atoms c) (by_kind (program_places p))
  IsVerdict (NotInductive place config) = IsFirstFailing model (is_inductive M p conditions atoms c) (loop_places p.body) place config.values
  IsVerdict (Unlisted place kind config) =
      AllInductive × IsFirstFailing model (is_covered M p conditions atoms c) (by_kind (program_places p)) (place, kind) config.values

  -- each stop of each run of each valid configuration's variant, on any inputs of `int` and after any number of steps, is listed by
  -- a line whose region the configuration meets
  abbrev pub StopsAreListed : Type 0
  StopsAreListed =
      (values inputs : List ℤ) (n : ℕ) (place : Place) (kind : Kind) → IsValid (plain model) values → All IsInt inputs
      → run_of (variant_of M p conditions atoms c values) inputs n c.mode ≡ StoppedEnd place kind
      → is_listed c.alarms.items (place, kind) (vector_at atoms values) ≡ true
