-- What the verdict on a certificate says of the variants is said of the programs of their texts.
use Rattle.std.proofs.Common.{◌≡◌, Bool, true, false, refl}
use Rattle.std.specs.Prelude.{not, ◌||◌}
use Rattle.fam_outer.specs.declared.faults.Place.{Place}
use Rattle.c_tree.specs.declared.tree.Kind.{Kind}
use Rattle.c_tree.specs.View.{whole}
use Rattle.linear_atoms.specs.declared.atoms.Config.{Config}
use Rattle.cpp_conditions.specs.Numbering.{vector_at}
use Rattle.atom_solver.specs.Solutions.{IsFirst}
use Rattle.c_parser.specs.Variants.{VariantsAreRead, projection, truths_in}
use Rattle.interval_leaf.specs.Intervals.{intervals}
use Rattle.certificate_format.specs.declared.certificates.Certificate.{Certificate}
use Rattle.invariant_certificate.specs.declared.verdicts.Verdict.{Verdict}
use Rattle.invariant_certificate.specs.declared.verdicts.Verdict.TheVariants.{Yes, NotInductive, Unlisted}
use Rattle.invariant_certificate.specs.Passes.{is_inductive, is_covered, is_listed}
use Rattle.invariant_certificate.specs.Verdicts.{IsVerdict, StopsAreListed}
use Rattle.famlint_loads.specs.declared.product_line.ProductLine.{ProductLine}
use Rattle.famlint_checks.specs.Checked.{ListsAllStops, may_stop_at, HasLooseLoop, HasUnlistedStop, IsVerdictFor}
use Rattle.famlint_loads.specs.ProductLines.{IsUsableLine}
use Rattle.famlint_loads.proofs.Selecting.{is_program_at}

fails : (b : Bool) → not b ≡ true → b ≡ false
fails true h = cc
fails false h = refl

-- what is not covered may be met and is not listed
not_covered : (may listed : Bool) → not (not may || listed) ≡ true → (may ≡ true) × (listed ≡ false)
not_covered true true h = cc
not_covered true false h = (refl, refl)
not_covered false listed h = cc

module _ (law : VariantsAreRead) (l : ProductLine) (c : Certificate) (u : IsUsableLine l) where
  lists_all : StopsAreListed intervals l.model (whole l.family.code) l.family.conditions l.family.atoms c → ListsAllStops l c
  lists_all sound = λ values valid.
      let p = projection l.family (truths_in l.family values) in
      (p, is_program_at law l values p u.spelled valid refl, λ inputs n place kind ints stopped. sound values inputs n place kind valid ints stopped)

  loose_loop : (place : Place) (config : Config) → IsFirst l.model (λ k. not (is_inductive intervals (whole l.family.code) l.family.conditions l.family.atoms c place k)) config.values
      → HasLooseLoop l c place config.values
  loose_loop place config h =
      let p = projection l.family (truths_in l.family config.values) in
      record { valid = h.valid; program = p; is = is_program_at law l config.values p u.spelled h.valid refl; loose = fails _ h.met }

  unlisted_stop : (place : Place) (kind : Kind) (config : Config)
      → IsFirst l.model (λ k. not (is_covered intervals (whole l.family.code) l.family.conditions l.family.atoms c (place, kind) k)) config.values → HasUnlistedStop l c place kind config.values
  unlisted_stop place kind config h =
      let p = projection l.family (truths_in l.family config.values) in
      let both = not_covered (may_stop_at c (vector_at l.family.atoms config.values) p place kind) (is_listed c.alarms.items (place, kind) (vector_at l.family.atoms config.values)) h.met in
      record { valid = h.valid; program = p; is = is_program_at law l config.values p u.spelled h.valid refl; may_stop = both.0; unlisted = both.1 }

  pub verdict_for : (verdict : Verdict) → IsVerdict intervals l.model (whole l.family.code) l.family.conditions l.family.atoms c verdict
      → (verdict ≡ Yes → StopsAreListed intervals l.model (whole l.family.code) l.family.conditions l.family.atoms c) → IsVerdictFor l c verdict
  verdict_for Yes is sound = lists_all (sound refl)
  verdict_for (NotInductive place config) is sound = loose_loop place config is.least
  verdict_for (Unlisted place kind config) is sound = unlisted_stop place kind config is.1.least
