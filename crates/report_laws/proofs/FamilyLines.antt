-- The lines of reports on families are read back: reports with one text tell the same alarms.
use Rattle.std.proofs.Common.{◌≡◌, ◌≢◌, ℕ, ◌<◌, ◌^◌, List, [], ◌∷◌, ◌++◌, codes, length, drop, map, refl, sym, ap, subst, ◌∙◌, arith, append_assoc}
use Rattle.std.specs.Prelude.{flat_map}
use Rattle.std.specs.List.{AllByRecursion}
use Rattle.std.specs.Fmt.{decimal}
use Rattle.std.proofs.lemmas.Fmt.{decimal_nonempty}
use Rattle.std.proofs.lemmas.List.Elements.{recursion_from_All}
use Rattle.linear_atoms.specs.declared.atoms.Feature.{Feature}
use Rattle.linear_atoms.specs.declared.regions.Regions.{Regions}
use Rattle.linear_atoms.specs.SettingTexts.{config_text}
use Rattle.alarm_report.specs.declared.alarms.FamilyAlarm.{FamilyAlarm}
use Rattle.alarm_report.specs.Texts.{place_text, kind_text, region_text, family_line}
use Rattle.certificate_format.specs.Lines.{IsAlarmLine}
use Rattle.certificate_laws.specs.Written.{IsOneLine}
use Rattle.certificate_laws.proofs.Features.{have_names}
use Rattle.certificate_laws.proofs.LineTexts as lines
use Rattle.certificate_laws.proofs.Naming.{HaveNames}
use Rattle.certificate_laws.proofs.Texts.{IsInLine, region_in_line}
use Rattle.certificate_laws.proofs.Words.{AreDigits, are_digits, both_all}
use Rattle.report_laws.specs.FamilyReports.{AreShownFeatures, IsShown, shown_of, ReportsOfFamiliesTellAlarms}
use Rattle.report_laws.proofs.Configurations.{AreSettingBytes, one_config, config_bytes}
use Rattle.report_laws.proofs.RegionTexts.{one_region}

-- ---- bytes that end a text

-- a line ends at its newline
one_line : (xs ys r s : List ℕ) → IsOneLine xs → IsOneLine ys → xs ++ 10 ∷ r ≡ ys ++ 10 ∷ s → (xs ≡ ys) × (r ≡ s)
one_line [] [] r s p q e = (refl, ap (drop 1) e)
one_line [] (y ∷ ys) r s p q e = let same : 10 ≡ y = cc in absurd (q.0 (sym same))
one_line (x ∷ xs) [] r s p q e = let same : x ≡ 10 = cc in absurd (p.0 same)
one_line (x ∷ xs) (y ∷ ys) r s p q e =
    let first : x ≡ y = cc in
    let behind : xs ++ 10 ∷ r ≡ ys ++ 10 ∷ s = cc in
    let rest = one_line xs ys r s p.1 q.1 behind in
    (λ i. first i ∷ rest.0 i, rest.1)

abbrev LackSemicolons : List ℕ → Type 0
LackSemicolons bytes = AllByRecursion (λ b. b ≢ 59) bytes

semicolon_in : (ys s : List ℕ) → LackSemicolons (ys ++ 59 ∷ s) → ⊥
semicolon_in [] s h = h.0 refl
semicolon_in (y ∷ ys) s h = semicolon_in ys s h.1

-- the last semicolon stands in one place
one_end : (xs ys r s : List ℕ) → LackSemicolons r → LackSemicolons s → xs ++ 59 ∷ r ≡ ys ++ 59 ∷ s → (xs ≡ ys) × (r ≡ s)
one_end [] [] r s p q e = (refl, ap (drop 1) e)
one_end [] (y ∷ ys) r s p q e = absurd (semicolon_in ys s (subst LackSemicolons (ap (drop 1) e) p))
one_end (x ∷ xs) [] r s p q e = absurd (semicolon_in xs r (subst LackSemicolons (sym (ap (drop 1) e)) q))
one_end (x ∷ xs) (y ∷ ys) r s p q e =
    let first : x ≡ y = cc in
    let behind : xs ++ 59 ∷ r ≡ ys ++ 59 ∷ s = cc in
    let rest = one_end xs ys r s p q behind in
    (λ i. first i ∷ rest.0 i, rest.1)

no_semicolons : (xs : List ℕ) → AreSettingBytes xs → LackSemicolons xs
no_semicolons [] h = tt
no_semicolons (x ∷ xs) h = (h.0.2, no_semicolons xs h.1)

in_line : (xs : List ℕ) → AreSettingBytes xs → AllByRecursion IsInLine xs
in_line [] h = tt
in_line (x ∷ xs) h = ((h.0.0, h.0.1), in_line xs h.1)

-- ---- one line

-- behind ` if `: the region and the example
abbrev tail_of : Regions → List Feature → FamilyAlarm → List ℕ
tail_of regions fs a = region_text regions fs a.region.literals ++ (59 ∷ (codes " example " ++ config_text fs a.region.example.values))

abbrev body_of : Regions → List Feature → FamilyAlarm → List ℕ
body_of regions fs a = place_text a.place ++ (codes ": " ++ (kind_text a.kind ++ (codes " if " ++ tail_of regions fs a)))

regrouped : (p k r e rest : List ℕ) → (((((((p ++ codes ": ") ++ k) ++ codes " if ") ++ r) ++ codes "; example ") ++ e) ++ codes "\n") ++ rest
    ≡ (p ++ (codes ": " ++ (k ++ (codes " if " ++ (r ++ (59 ∷ (codes " example " ++ e))))))) ++ 10 ∷ rest
regrouped p k r e rest = simp append_assoc

line_is : (regions : Regions) (fs : List Feature) (a : FamilyAlarm) (rest : List ℕ) → family_line regions fs a ++ rest ≡ body_of regions fs a ++ 10 ∷ rest
line_is regions fs a rest = regrouped (place_text a.place) (kind_text a.kind) (region_text regions fs a.region.literals) (config_text fs a.region.example.values) rest

module _ (regions : Regions) (fs : List Feature) (shown : AreShownFeatures fs) where
  named : HaveNames fs
  named = have_names fs shown.named shown.distinct

  example_bytes : (a : FamilyAlarm) → IsShown fs a → AreSettingBytes (codes " example " ++ config_text fs a.region.example.values)
  example_bytes a h =
      ((omega arith, λ e. omega (arith, e), λ e. omega (arith, e)), ((omega arith, λ e. omega (arith, e), λ e. omega (arith, e)), ((omega arith, λ e. omega (arith, e), λ e. omega (arith, e)), ((omega arith, λ e. omega (arith, e), λ e. omega (arith, e)), ((omega arith, λ e. omega (arith, e), λ e. omega (arith, e)), ((omega arith, λ e. omega (arith, e), λ e. omega (arith, e)), ((omega arith, λ e. omega (arith, e), λ e. omega (arith, e)), ((omega arith, λ e. omega (arith, e), λ e. omega (arith, e)), ((omega arith, λ e. omega (arith, e), λ e. omega (arith, e)), config_bytes fs a.region.example.values shown.named shown.ranges h.example)))))))))

  tail_in_line : (a : FamilyAlarm) → IsShown fs a → AllByRecursion IsInLine (tail_of regions fs a)
  tail_in_line a h =
      both_all IsInLine (region_text regions fs a.region.literals) _ (region_in_line regions fs named a.region.literals h.literals)
      ((omega arith, λ e. omega (arith, e)), in_line (codes " example " ++ config_text fs a.region.example.values) (example_bytes a h))

  -- a line has no newline within
  body_line : (a : FamilyAlarm) → IsShown fs a → IsOneLine (body_of regions fs a)
  body_line a h = (lines.alarm_line a.place a.kind (tail_of regions fs a) h.place (tail_in_line a h)).1.1.1.1.1.1

  one_alarm : (a b : FamilyAlarm) → IsShown fs a → IsShown fs b → body_of regions fs a ≡ body_of regions fs b → shown_of a ≡ shown_of b
  one_alarm a b h k e =
      let mine : IsAlarmLine (lines.alarm_text a.place a.kind (tail_of regions fs a)) a.place a.kind (tail_of regions fs a) = lines.alarm_is a.place a.kind (tail_of regions fs a) h.place in
      let yours : IsAlarmLine (lines.alarm_text a.place a.kind (tail_of regions fs a)) b.place b.kind (tail_of regions fs b) =
      record { text = ap (λ t. codes "alarm " ++ t) e; place_is = k.place } in
      let parts = lines.one_alarm (lines.alarm_text a.place a.kind (tail_of regions fs a)) a.place b.place a.kind b.kind (tail_of regions fs a) (tail_of regions fs b) mine yours in
      let ends = one_end (region_text regions fs a.region.literals) (region_text regions fs b.region.literals) (codes " example " ++ config_text fs a.region.example.values) (codes " example " ++ config_text fs b.region.example.values)
      (no_semicolons (codes " example " ++ config_text fs a.region.example.values) (example_bytes a h))
      (no_semicolons (codes " example " ++ config_text fs b.region.example.values) (example_bytes b k)) parts.2 in
      let literals : a.region.literals ≡ b.region.literals = one_region fs named regions a.region.literals b.region.literals h.literals k.literals ends.0 in
      let values : a.region.example.values ≡ b.region.example.values =
      one_config fs a.region.example.values b.region.example.values shown.ranges h.example k.example (ap (drop 9) ends.1) in
      λ i. ((parts.0 i, parts.1 i), (literals i, values i))

  -- ---- all lines

  -- a line begins with a digit, and the last with none
  begins : (a : FamilyAlarm) (r s : List ℕ) → IsShown fs a → family_line regions fs a ++ r ≡ 97 ∷ s → ⊥
  begins a r s h e =
      let small : a.place.line < 2 ^ 64 = omega (arith, h.place.word.0) in
      let start : decimal a.place.line ++ (codes ":" ++ (decimal a.place.column ++ ((codes ": " ++ (kind_text a.kind ++ (codes " if " ++ tail_of regions fs a))) ++ 10 ∷ r))) ≡ 97 ∷ s =
      sym (split (decimal a.place.line) (decimal a.place.column) (codes ": " ++ (kind_text a.kind ++ (codes " if " ++ tail_of regions fs a))) (10 ∷ r)) ∙ sym (line_is regions fs a r) ∙ e in
      by_first (decimal a.place.line) _ (decimal_nonempty a.place.line small) (are_digits a.place.line small) start
    where
      split : (x y z u : List ℕ) → (((x ++ codes ":") ++ y) ++ z) ++ u ≡ x ++ (codes ":" ++ (y ++ (z ++ u)))
      split x y z u = simp append_assoc

      by_first : (ds t : List ℕ) → 0 < length ds → AreDigits ds → ds ++ t ≡ 97 ∷ s → ⊥
      by_first [] t some digits f = omega (arith, some)
      by_first (d ∷ ds) t some digits f = let same : d ≡ 97 = cc in omega (arith, same, digits.0)

  lines_back : (xs ys : List FamilyAlarm) (r s : List ℕ) → AllByRecursion (IsShown fs) xs → AllByRecursion (IsShown fs) ys
      → flat_map (family_line regions fs) xs ++ 97 ∷ r ≡ flat_map (family_line regions fs) ys ++ 97 ∷ s → map shown_of xs ≡ map shown_of ys
  lines_back [] [] r s p q e = refl
  lines_back [] (b ∷ ys) r s p q e = absurd (begins b (flat_map (family_line regions fs) ys ++ 97 ∷ s) r q.0 (sym (append_assoc (family_line regions fs b) (flat_map (family_line regions fs) ys) (97 ∷ s)) ∙ sym e))
  lines_back (a ∷ xs) [] r s p q e = absurd (begins a (flat_map (family_line regions fs) xs ++ 97 ∷ r) s p.0 (sym (append_assoc (family_line regions fs a) (flat_map (family_line regions fs) xs) (97 ∷ r)) ∙ e))
  lines_back (a ∷ xs) (b ∷ ys) r s p q e =
      let mine = flat_map (family_line regions fs) xs ++ 97 ∷ r in
      let yours = flat_map (family_line regions fs) ys ++ 97 ∷ s in
      let f = sym (line_is regions fs a mine) ∙ sym (append_assoc (family_line regions fs a) (flat_map (family_line regions fs) xs) (97 ∷ r)) ∙ e
      ∙ append_assoc (family_line regions fs b) (flat_map (family_line regions fs) ys) (97 ∷ s) ∙ line_is regions fs b yours in
      let both = one_line (body_of regions fs a) (body_of regions fs b) mine yours (body_line a p.0) (body_line b q.0) f in
      let first = one_alarm a b p.0 q.0 both.0 in
      let rest = lines_back xs ys r s p.1 q.1 both.1 in
      λ i. first i ∷ rest i

pub tell_alarms : ReportsOfFamiliesTellAlarms
tell_alarms regions fs alarms others shown h k e =
    lines_back regions fs shown alarms others _ _ (recursion_from_All (IsShown fs) alarms h) (recursion_from_All (IsShown fs) others k) e
