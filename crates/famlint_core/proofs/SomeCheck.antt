-- A check is answered: a verdict on the certificate that the bytes spell, or a refusal.
use Rattle.std.proofs.Common.{◌≡◌, ◌⊎◌, inl, inr, ℕ, ℤ, Bool, true, false, not, List, [], ◌∷◌, length, Option, Some, None, Result, Ok, Err, refl, ap}
use Rattle.std.proofs.lemmas.List.Elements.{All-cons, All-nil}
use Rattle.fam_outer.specs.declared.dialect.Dialect.{Dialect}
use Rattle.c_tree.specs.Places.{program_places}
use Rattle.c_tree.specs.Tree.{Whole}
use Rattle.c_tree.specs.View.{whole}
use Rattle.linear_atoms.specs.declared.atoms.Atom.{Atom}
use Rattle.linear_atoms.specs.declared.atoms.Config.{Config}
use Rattle.cpp_conditions.specs.declared.formulas.Formula.{Formula}
use Rattle.cpp_conditions.specs.declared.models.Model.{Model}
use Rattle.atom_solver.specs.Solutions.{Finds}
use Rattle.interval_leaf.specs.Intervals.{intervals}
use Rattle.leaf_domain.specs.Leaves.{LeafMeaning}
use Rattle.lifted_analysis.specs.Promises.{by_kind}
use Rattle.lifted_analysis.specs.Turns.{loop_places}
use Rattle.certificate_format.specs.declared.certificates.Certificate.{Certificate}
use Rattle.certificate_format.specs.declared.certificates.CertificateFault.{CertificateFault}
use Rattle.certificate_format.specs.Certificates.{SpellsCertificate, HasFault}
use Rattle.certificate_format.specs.Regions.{piece_of}
use Rattle.certificate_laws.specs.Readings.{EachTextIsRead}
use Rattle.invariant_certificate.specs.declared.verdicts.Verdict.{Verdict}
use Rattle.invariant_certificate.specs.declared.verdicts.Verdict.TheVariants.{Yes, NotInductive, Unlisted}
use Rattle.invariant_certificate.specs.Failing.{HoldsAlways, AllHold, IsFirstFailing}
use Rattle.invariant_certificate.specs.Passes.{is_inductive, is_covered}
use Rattle.invariant_certificate.specs.Verdicts.{AllInductive, IsVerdict}
use Rattle.reading_laws.specs.Answered.{FirstConfigurationsAreFound}
use Rattle.famlint_loads.specs.declared.fault.Done.{Done}
use Rattle.famlint_loads.specs.declared.fault.Fault.{Fault}
use Rattle.famlint_loads.specs.declared.fault.Fault.TheVariants as fault
use Rattle.famlint_loads.specs.declared.product_line.ProductLine.{ProductLine}
use Rattle.famlint_loads.specs.CertificateLoads.{ReadsCertificate}
use Rattle.famlint_loads.specs.CertificateLoads as loads
use Rattle.famlint_loads.specs.Contents.{Contents}
use Rattle.famlint_loads.specs.ProductLines.{IsProductLine}
use Rattle.famlint_checks.specs.Checked.{AnswersCheck, IsCheckDone, verdict_text, verdict_status}
use Rattle.famlint_core.proofs.SomeLine.{AnswerLaws, LineAnswer, line, no_line, some_line}

-- ---- the first that does not hold

not_false : (b : Bool) → not b ≡ false → b ≡ true
not_false true e = refl
not_false false e = cc

module _ {X : Type 0} (first : FirstConfigurationsAreFound) (model : Model) (holds : X → List ℤ → Bool) where
  -- a first one that does not always hold, with the least configuration
  abbrev Fails : List X → Type 0
  Fails xs = (x : X) × (config : Config) × IsFirstFailing model holds xs x config.values

  behind : (x : X) (xs : List X) → HoldsAlways model (holds x) → AllHold model holds xs ⊎ Fails xs → AllHold model holds (x ∷ xs) ⊎ Fails (x ∷ xs)
  behind x xs h (inl all) = inl (All-cons (λ y. HoldsAlways model (holds y)) x xs h all)
  behind x xs h (inr (y, config, f)) =
      inr (
        y,
        config,
        record {
          before = x ∷ f.before;
          after = f.after;
          there = ap (λ (ys : List X). x ∷ ys) f.there;
          earlier = All-cons (λ z. HoldsAlways model (holds z)) x f.before h f.earlier;
          least = f.least;
        },
      )

  found_by : (x : X) (xs : List X) (found : Option Config) → Finds model (λ k. not (holds x k)) found → AllHold model holds xs ⊎ Fails xs → AllHold model holds (x ∷ xs) ⊎ Fails (x ∷ xs)
  found_by x xs None h rest = behind x xs (λ values valid. not_false (holds x values) (h values valid)) rest
  found_by x xs (Some config) h rest = inr (x, config, record { before = []; after = xs; there = refl; earlier = All-nil (λ y. HoldsAlways model (holds y)); least = h })

  hold_or_fail : (xs : List X) → AllHold model holds xs ⊎ Fails xs
  hold_or_fail [] = inl (All-nil (λ y. HoldsAlways model (holds y)))
  hold_or_fail (x ∷ xs) = let found = first model (λ k. not (holds x k)) in found_by x xs found.0 found.1 (hold_or_fail xs)

-- ---- verdicts

module _ (first : FirstConfigurationsAreFound) (M : LeafMeaning) (model : Model) (p : Whole) (conditions : List Formula) (atoms : List Atom) (c : Certificate) where
  verdict_by : AllInductive M model p conditions atoms c ⊎ Fails first model (is_inductive M p conditions atoms c) (loop_places p.body)
      → AllHold model (is_covered M p conditions atoms c) (by_kind (program_places p)) ⊎ Fails first model (is_covered M p conditions atoms c) (by_kind (program_places p))
      → (verdict : Verdict) × IsVerdict M model p conditions atoms c verdict
  verdict_by (inl loops) (inl stops) = (Yes, (loops, stops))
  verdict_by (inl loops) (inr ((place, kind), config, f)) = (Unlisted place kind config, (loops, f))
  verdict_by (inr (place, config, f)) stops = (NotInductive place config, f)

  some_verdict : (verdict : Verdict) × IsVerdict M model p conditions atoms c verdict
  some_verdict =
      verdict_by (hold_or_fail first model (is_inductive M p conditions atoms c) (loop_places p.body)) (hold_or_fail first model (is_covered M p conditions atoms c) (by_kind (program_places p)))

-- ---- answers

check_done : AnswerLaws → (l : ProductLine) (bytes : List ℕ) (c : Certificate) → ReadsCertificate l bytes (Ok c) → (done : Done) × IsCheckDone l bytes done
check_done laws l bytes c h =
    let verdict = some_verdict laws.configurations intervals l.model (whole l.family.code) l.family.conditions l.family.atoms c in (
      record { text = verdict_text l.model.features (length c.alarms.items) verdict.0; status = verdict_status verdict.0 },
      record { certificate = c; is = h; verdict = verdict.0; verdict_is = verdict.1; text = refl; status = refl },
    )

check_of_text : AnswerLaws → (dialect : Dialect) (told : Contents) (l : ProductLine) → IsProductLine dialect told.model told.file l
    → ((c : Certificate) × SpellsCertificate (piece_of l.model.features l.family.atoms) (whole l.family.code).names told.certificate c)
    ⊎ ((given : CertificateFault) × HasFault (piece_of l.model.features l.family.atoms) (whole l.family.code).names told.certificate given)
    → (answer : Result Done Fault) × AnswersCheck dialect told answer
check_of_text laws dialect told l h (inl (c, read)) = let done = check_done laws l told.certificate c read in (Ok done.0, (l, h, done.1))
check_of_text laws dialect told l h (inr (given, refused)) = (Err (fault.Certificate given), loads.no_certificate l h refused)

check_of_line : AnswerLaws → EachTextIsRead → (dialect : Dialect) (told : Contents) → LineAnswer dialect told.model told.file → (answer : Result Done Fault) × AnswersCheck dialect told answer
check_of_line laws texts dialect told (line l h) = check_of_text laws dialect told l h (texts (piece_of l.model.features l.family.atoms) (whole l.family.code).names told.certificate)
check_of_line laws texts dialect told (no_line given h) = (Err given, loads.no_product_line h)

-- a check is answered
pub some_check : AnswerLaws → EachTextIsRead → (dialect : Dialect) (told : Contents) → (answer : Result Done Fault) × AnswersCheck dialect told answer
some_check laws texts dialect told = check_of_line laws texts dialect told (some_line laws dialect told.model told.file)
