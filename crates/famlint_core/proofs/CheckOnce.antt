-- A check is answered once.
use Rattle.std.proofs.Common.{◌≡◌, ℕ, suc, ℤ, Bool, true, false, not, true≢false, ◌&&◌, ◌||◌, List, [], ◌∷◌, ◌++◌, length, Option, Result, Ok, Err, refl, sym, ap, ap₂, subst, ◌∙◌}
use Rattle.std.specs.Prelude.{if◌then◌else◌}
use Rattle.std.specs.List.{AllByRecursion}
use Rattle.std.proofs.lemmas.List.Elements.{recursion_from_All}
use Rattle.fam_outer.specs.declared.dialect.Dialect.{Dialect}
use Rattle.fam_outer.specs.declared.faults.Place.{Place}
use Rattle.c_tree.specs.declared.tree.Kind.{Kind}
use Rattle.c_tree.specs.declared.tree.Mode.{Mode}
use Rattle.c_tree.specs.Tree.{Whole}
use Rattle.c_tree.specs.View.{whole}
use Rattle.linear_atoms.specs.declared.atoms.Atom.{Atom}
use Rattle.atom_solver.specs.Solutions.{IsFirst}
use Rattle.cpp_conditions.specs.declared.formulas.Formula.{Formula}
use Rattle.cpp_conditions.specs.declared.models.Model.{Model}
use Rattle.cpp_conditions.specs.Numbering.{vector_at}
use Rattle.cpp_conditions.specs.Propositions.{Proposition, true_on}
use Rattle.cpp_conditions.specs.Validity.{Plain}
use Rattle.cpp_conditions.specs.View.{formula}
use Rattle.leaf_domain.specs.Leaves.{LeafValue, LeafMeaning}
use Rattle.interval_leaf.specs.Intervals.{intervals}
use Rattle.plain_analysis.specs.Places.{is_same_place, alarm_by}
use Rattle.plain_analysis.specs.Statements.{Heads}
use Rattle.plain_analysis.specs.Ways.{enter}
use Rattle.lifted_analysis.specs.declared.lines.LoopLine.{LoopLine}
use Rattle.lifted_analysis.specs.Lines.{bounded_by, given_at, given_heads}
use Rattle.lifted_analysis.specs.Turns.{turns_by, inductive_in}
use Rattle.merged_findings.specs.Pairs.{ArePairs}
use Rattle.certificate_format.specs.declared.certificates.AlarmLine.{AlarmLine}
use Rattle.certificate_format.specs.declared.certificates.Certificate.{Certificate}
use Rattle.certificate_format.specs.declared.certificates.CertificateFault.{CertificateFault}
use Rattle.certificate_format.specs.declared.literals.Piece.{Piece}
use Rattle.certificate_format.specs.Certificates.{SpellsCertificate, HasFault}
use Rattle.certificate_format.specs.Regions.{piece_of}
use Rattle.certificate_laws.specs.Readings.{AreLoopsAlike, AreAlarmsAlike, AreCertificatesAlike}
use Rattle.certificate_laws.proofs.CertificateOnce.{one_certificate, one_fault, certificate_or_fault}
use Rattle.certificate_laws.proofs.Lists.{first_same, rest_same}
use Rattle.c_parser.proofs.KeptTexts.{TextsAreReadOnce}
use Rattle.invariant_certificate.specs.declared.verdicts.Verdict.{Verdict}
use Rattle.invariant_certificate.specs.declared.verdicts.Verdict.TheVariants.{Yes, NotInductive, Unlisted}
use Rattle.invariant_certificate.specs.Failing.{HoldsAlways, AllHold, IsFirstFailing}
use Rattle.invariant_certificate.specs.Passes.{variant_of, begin_of, is_inductive, is_covered, is_listed, is_same_kind, lists}
use Rattle.invariant_certificate.specs.Verdicts.{IsVerdict}
use Rattle.famlint_loads.specs.declared.fault.Done.{Done}
use Rattle.famlint_loads.specs.declared.fault.Fault.{Fault}
use Rattle.famlint_loads.specs.declared.fault.Fault.TheVariants as fault
use Rattle.famlint_loads.specs.declared.product_line.ProductLine.{ProductLine}
use Rattle.famlint_loads.specs.CertificateLoads.{ReadsCertificate, IsCheckRefused}
use Rattle.famlint_loads.specs.CertificateLoads as checked
use Rattle.famlint_loads.specs.Contents.{Contents}
use Rattle.famlint_loads.specs.ProductLines.{IsProductLine}
use Rattle.famlint_checks.specs.Checked.{AnswersCheck, IsCheckDone, verdict_text, verdict_status}
use Rattle.famlint_core.proofs.Certified.{same_verdict, verdict_over}
use Rattle.famlint_core.proofs.OneRegions.{one_first}
use Rattle.famlint_core.proofs.SameLines.{AreSameLines, are_same, over_line}
use Rattle.famlint_core.proofs.VariantOnce.{VariantLaws, no_line_refusal, same_line_refusal, done}

-- ---- what is asked of a certificate

abbrev given_by : LeafMeaning → Place → Place → Bool → LeafValue → LeafValue → LeafValue
given_by M place q holds here later = if is_same_place place q && holds then here else later

given_alike : (M : LeafMeaning) (ls ms : List LoopLine) (v : List Bool) (d : LeafValue) (q : Place) → ArePairs AreLoopsAlike ls ms → given_at M ls v d q ≡ given_at M ms v d q
given_alike M [] [] v d q h = refl
given_alike M [] (m ∷ ms) v d q h = absurd h
given_alike M (l ∷ ls) [] v d q h = absurd h
given_alike M (l ∷ ls) (m ∷ ms) v d q h =
    ap (λ (place : Place). given_by M place q (true_on v (formula l.region)) (bounded_by M l.bounds d) (given_at M ls v d q)) h.0.place
    ∙ ap (λ (p : Proposition ℕ). given_by M m.place q (true_on v p) (bounded_by M l.bounds d) (given_at M ls v d q)) h.0.region
    ∙ ap₂ (λ (here later : LeafValue). given_by M m.place q (true_on v (formula m.region)) here later) (ap (λ b. bounded_by M b d) h.0.bounds) (given_alike M ls ms v d q h.1)

heads_alike : (M : LeafMeaning) (ls ms : List LoopLine) (v : List Bool) (d : LeafValue) → ArePairs AreLoopsAlike ls ms → given_heads M ls v d ≡ given_heads M ms v d
heads_alike M ls ms v d h = λ i place lap x. given_alike M ls ms v d place h i

abbrev lists_by : Place → Kind → Proposition ℕ → Place × Kind → List Bool → Bool
lists_by place kind p at v = (is_same_place place at.0 && is_same_kind kind at.1) && true_on v p

lists_alike : (a b : AlarmLine) (at : Place × Kind) (v : List Bool) → AreAlarmsAlike a b → lists a at v ≡ lists b at v
lists_alike a b at v h =
    ap₂ (λ (place : Place) (kind : Kind). lists_by place kind (formula a.region) at v) h.place h.kind ∙ ap (λ (p : Proposition ℕ). lists_by b.place b.kind p at v) h.region

listed_alike : (ls ms : List AlarmLine) (at : Place × Kind) (v : List Bool) → ArePairs AreAlarmsAlike ls ms → is_listed ls at v ≡ is_listed ms at v
listed_alike [] [] at v h = refl
listed_alike [] (m ∷ ms) at v h = absurd h
listed_alike (l ∷ ls) [] at v h = absurd h
listed_alike (l ∷ ls) (m ∷ ms) at v h = ap₂ (λ (x y : Bool). x || y) (lists_alike l m at v h.0) (listed_alike ls ms at v h.1)

as_many : {X Y : Type 0} (R : X → Y → Type 0) (xs : List X) (ys : List Y) → ArePairs R xs ys → length xs ≡ length ys
as_many R [] [] h = refl
as_many R [] (y ∷ ys) h = absurd h
as_many R (x ∷ xs) [] h = absurd h
as_many R (x ∷ xs) (y ∷ ys) h = ap (λ n. suc n) (as_many R xs ys h.1)

module _ (M : LeafMeaning) (p : Whole) (cs : List Formula) (atoms : List Atom) (c d : Certificate) (h : AreCertificatesAlike c d) where
  inductive_alike : (x : Place) (values : List ℤ) → is_inductive M p cs atoms c x values ≡ is_inductive M p cs atoms d x values
  inductive_alike x values =
      ap₂ (λ (mode : Mode) (heads : Heads). inductive_in M (turns_by M mode heads (variant_of M p cs atoms c values).body (enter (begin_of M p cs atoms c values))) x) h.mode
      (heads_alike M c.loops.items d.loops.items (vector_at atoms values) (begin_of M p cs atoms c values) h.loops)

  covered_alike : (at : Place × Kind) (values : List ℤ) → is_covered M p cs atoms c at values ≡ is_covered M p cs atoms d at values
  covered_alike at values =
      ap₂ (λ (stops listed : Bool). not stops || listed)
      (ap₂ (λ (mode : Mode) (heads : Heads). alarm_by M mode heads (variant_of M p cs atoms c values) (begin_of M p cs atoms c values) at.0 at.1) h.mode
      (heads_alike M c.loops.items d.loops.items (vector_at atoms values) (begin_of M p cs atoms c values) h.loops))
      (listed_alike c.alarms.items d.alarms.items at (vector_at atoms values) h.alarms)

-- ---- one verdict

module _ {X : Type 0} (model : Model) (holds : X → List ℤ → Bool) where
  -- it does not hold at some valid configuration
  fails : (xs : List X) (x : X) (values : List ℤ) → IsFirstFailing model holds xs x values → HoldsAlways model (holds x) → ⊥
  fails xs x values h always = true≢false (sym (always values h.least.valid) ∙ turned (holds x values) h.least.met)
    where
      turned : (b : Bool) → not b ≡ true → b ≡ false
      turned true e = cc
      turned false e = refl

  amid : (before after : List X) (x : X) → AllByRecursion (λ y. HoldsAlways model (holds y)) (before ++ x ∷ after) → HoldsAlways model (holds x)
  amid [] after x all = all.0
  amid (y ∷ before) after x all = amid before after x all.1

  not_all : (xs : List X) (x : X) (values : List ℤ) → AllHold model holds xs → IsFirstFailing model holds xs x values → ⊥
  not_all xs x values all h =
      fails xs x values h (amid h.before h.after x (recursion_from_All (λ y. HoldsAlways model (holds y)) (h.before ++ x ∷ h.after) (subst (AllHold model holds) h.there all)))

  one_failing : (before after other behind : List X) (x y : X) → before ++ x ∷ after ≡ other ++ y ∷ behind
      → AllByRecursion (λ z. HoldsAlways model (holds z)) before → AllByRecursion (λ z. HoldsAlways model (holds z)) other
      → (HoldsAlways model (holds x) → ⊥) → (HoldsAlways model (holds y) → ⊥) → x ≡ y
  one_failing [] after [] behind x y e a b n m = first_same x y after behind e
  one_failing [] after (z ∷ other) behind x y e a b n m =
      absurd (n (subst (λ w. HoldsAlways model (holds w)) (sym (first_same x z after (other ++ y ∷ behind) e)) b.0))
  one_failing (w ∷ before) after [] behind x y e a b n m =
      absurd (m (subst (λ z. HoldsAlways model (holds z)) (first_same w y (before ++ x ∷ after) behind e) a.0))
  one_failing (w ∷ before) after (z ∷ other) behind x y e a b n m =
      one_failing before after other behind x y (rest_same w z (before ++ x ∷ after) (other ++ y ∷ behind) e) a.1 b.1 n m

  one_first_failing : (xs : List X) (x y : X) (vs ws : List ℤ) → IsFirstFailing model holds xs x vs → IsFirstFailing model holds xs y ws → (x ≡ y) × (vs ≡ ws)
  one_first_failing xs x y vs ws h k =
      let always : List X → Type 0 = AllByRecursion (λ z. HoldsAlways model (holds z)) in
      let same : x ≡ y =
      one_failing h.before h.after k.before k.after x y (sym h.there ∙ k.there) (recursion_from_All (λ z. HoldsAlways model (holds z)) h.before h.earlier)
      (recursion_from_All (λ z. HoldsAlways model (holds z)) k.before k.earlier) (fails xs x vs h) (fails xs y ws k) in
      (same, one_first model model refl (λ values. not (holds y values)) vs ws (subst (λ z. IsFirst model (λ values. not (holds z values)) vs) same h.least) k.least)

module _ (M : LeafMeaning) (model : Model) (p : Whole) (cs : List Formula) (atoms : List Atom) (c : Certificate) where
  abbrev inductive : Place → List ℤ → Bool
  inductive = is_inductive M p cs atoms c

  abbrev covered : Place × Kind → List ℤ → Bool
  covered = is_covered M p cs atoms c

  one_verdict : (v w : Verdict) → IsVerdict M model p cs atoms c v → IsVerdict M model p cs atoms c w → v ≡ w
  one_verdict Yes Yes h k = refl
  one_verdict Yes (NotInductive place config) h k = absurd (not_all model inductive _ place config.values h.0 k)
  one_verdict Yes (Unlisted place kind config) h k = absurd (not_all model covered _ (place, kind) config.values h.1 k.1)
  one_verdict (NotInductive place config) Yes h k = absurd (not_all model inductive _ place config.values k.0 h)
  one_verdict (NotInductive place config) (NotInductive q other) h k =
      let one = one_first_failing model inductive _ place q config.values other.values h k in
      ap₂ (λ (x : Place) (vs : List ℤ). NotInductive x (record { values = vs })) one.0 one.1
  one_verdict (NotInductive place config) (Unlisted q kind other) h k = absurd (not_all model inductive _ place config.values k.0 h)
  one_verdict (Unlisted place kind config) Yes h k = absurd (not_all model covered _ (place, kind) config.values k.1 h.1)
  one_verdict (Unlisted place kind config) (NotInductive q other) h k = absurd (not_all model inductive _ q other.values h.0 k)
  one_verdict (Unlisted place kind config) (Unlisted q j other) h k =
      let one = one_first_failing model covered _ (place, kind) (q, j) config.values other.values h.1 k.1 in
      ap₂ (λ (x : Place × Kind) (vs : List ℤ). Unlisted x.0 x.1 (record { values = vs })) one.0 one.1

-- ---- what is done

module _ (k l : ProductLine) (e : AreSameLines k l) (bytes : List ℕ) where
  abbrev of : List ℕ → Option Piece
  of = piece_of l.model.features l.family.atoms

  abbrev names : List (List ℕ)
  names = (whole l.family.code).names

  abbrev IsJudged : Certificate → Verdict → Type 0
  IsJudged c v = IsVerdict intervals l.model (whole l.family.code) l.family.conditions l.family.atoms c v

  spelled_over : (c : Certificate) → ReadsCertificate k bytes (Ok c) → SpellsCertificate of names bytes c
  spelled_over c h = over_line k l e (λ x ns. SpellsCertificate x ns bytes c) h

  judged_alike : (c d : Certificate) (v : Verdict) → AreCertificatesAlike c d → IsJudged c v → IsJudged d v
  judged_alike c d v alike h =
      same_verdict intervals l.model l.model refl (whole l.family.code) l.family.conditions l.family.conditions l.family.atoms c d
      (inductive_alike intervals (whole l.family.code) l.family.conditions l.family.atoms c d alike)
      (covered_alike intervals (whole l.family.code) l.family.conditions l.family.atoms c d alike) v h

  same_check : (x y : Done) → IsCheckDone k bytes x → IsCheckDone l bytes y → x ≡ y
  same_check x y h i =
      let c : Certificate = h.certificate in
      let d : Certificate = i.certificate in
      let alike : AreCertificatesAlike c d = one_certificate of names bytes c d (spelled_over c h.is) i.is in
      let verdict : h.verdict ≡ i.verdict =
      one_verdict intervals l.model (whole l.family.code) l.family.conditions l.family.atoms d h.verdict i.verdict
      (judged_alike c d h.verdict alike (verdict_over k l c h.verdict e h.verdict_is)) i.verdict_is in
      let text : x.text ≡ y.text =
      h.text ∙ ap (λ (m : Plain). verdict_text m.features (length c.alarms.items) h.verdict) e.model
      ∙ ap₂ (λ (n : ℕ) (v : Verdict). verdict_text l.model.features n v) (as_many AreAlarmsAlike c.alarms.items d.alarms.items alike.alarms) verdict ∙ sym i.text in
      ap (λ (t : List ℕ). done t x.status) text ∙ ap (done y.text) (h.status ∙ ap verdict_status verdict ∙ sym i.status)

  -- ---- refusals

  read_or_refused : (c : Certificate) (g : Fault) → ReadsCertificate k bytes (Ok c) → ReadsCertificate l bytes (Err g) → ⊥
  read_or_refused c (fault.Certificate given) h i = certificate_or_fault of names bytes c given (spelled_over c h) i
  read_or_refused c (fault.Model given) h i = i
  read_or_refused c (fault.File code place example) h i = i
  read_or_refused c (fault.Settings given name) h i = i

  one_read_fault : (f g : Fault) → ReadsCertificate k bytes (Err f) → ReadsCertificate l bytes (Err g) → f ≡ g
  one_read_fault (fault.Certificate x) (fault.Certificate y) h i =
      ap (λ (z : CertificateFault). fault.Certificate z) (one_fault of names bytes x y (over_line k l e (λ u ns. HasFault u ns bytes x) h) i)
  one_read_fault (fault.Certificate x) (fault.Model given) h i = absurd i
  one_read_fault (fault.Certificate x) (fault.File code place example) h i = absurd i
  one_read_fault (fault.Certificate x) (fault.Settings given name) h i = absurd i
  one_read_fault (fault.Model given) g h i = absurd h
  one_read_fault (fault.File code place example) g h i = absurd h
  one_read_fault (fault.Settings given name) g h i = absurd h

-- ---- the answer

module _ (laws : VariantLaws) (once : TextsAreReadOnce) (dialect : Dialect) (m f bytes : List ℕ) where
  -- a certificate that is read over a model and a file that are read is not refused
  pub spelled_or_refused : (k : ProductLine) (c : Certificate) (g : Fault) → IsProductLine dialect m f k → ReadsCertificate k bytes (Ok c) → IsCheckRefused dialect m f bytes g → ⊥
  spelled_or_refused k c g h i (checked.no_product_line r) = no_line_refusal laws dialect m f k g h r
  spelled_or_refused k c g h i (checked.no_certificate l j r) = read_or_refused k l (are_same laws once dialect m f k l h j) bytes c g i r

  done_or_refused : (k : ProductLine) (x : Done) (g : Fault) → IsProductLine dialect m f k → IsCheckDone k bytes x → IsCheckRefused dialect m f bytes g → ⊥
  done_or_refused k x g h i r = spelled_or_refused k i.certificate g h i.is r

  one_refusal : (g other : Fault) → IsCheckRefused dialect m f bytes g → IsCheckRefused dialect m f bytes other → g ≡ other
  one_refusal g other (checked.no_product_line h) (checked.no_product_line i) = same_line_refusal laws dialect m f g other h i
  one_refusal g other (checked.no_product_line h) (checked.no_certificate l j r) = absurd (no_line_refusal laws dialect m f l g j h)
  one_refusal g other (checked.no_certificate k i q) (checked.no_product_line h) = absurd (no_line_refusal laws dialect m f k other i h)
  one_refusal g other (checked.no_certificate k i q) (checked.no_certificate l j r) = one_read_fault k l (are_same laws once dialect m f k l i j) bytes g other q r

pub one_check : VariantLaws → TextsAreReadOnce → (dialect : Dialect) (told : Contents) (a b : Result Done Fault) → AnswersCheck dialect told a → AnswersCheck dialect told b → a ≡ b
one_check laws once dialect told (Ok x) (Ok y) (k, h, i) (l, j, q) =
    ap (λ (d : Done). Ok d) (same_check k l (are_same laws once dialect told.model told.file k l h j) told.certificate x y i q)
one_check laws once dialect told (Ok x) (Err g) (k, h, i) r = absurd (done_or_refused laws once dialect told.model told.file told.certificate k x g h i r)
one_check laws once dialect told (Err g) (Ok x) r (k, h, i) = absurd (done_or_refused laws once dialect told.model told.file told.certificate k x g h i r)
one_check laws once dialect told (Err f) (Err g) h i = ap (λ (x : Fault). Err x) (one_refusal laws once dialect told.model told.file told.certificate f g h i)
