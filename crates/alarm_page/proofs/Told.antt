-- The texts of a page are of bytes, and a page tells them.
use Rattle.std.proofs.Common.{◌≡◌, ℕ, zero, suc, ◌<◌, ◌^◌, true, List, [], ◌∷◌, ◌++◌, length, refl, arith}
use Rattle.std.specs.Prelude.{codes, count_by, nat_lt, ◌==◌}
use Rattle.std.specs.Fmt.{decimal}
use Rattle.std.specs.List.{list_all}
use Rattle.std.specs.Str.{IsAscii}
use Rattle.std.proofs.lemmas.Bool.{and_parts, ltb-true}
use Rattle.std.proofs.lemmas.Fmt.{IsAscii-decimal}
use Rattle.std.proofs.lemmas.List.Elements.{All-append, All-nil, All-from_get_or}
use Rattle.std.proofs.lemmas.List.Sums.{count_by-le-length}
use Rattle.std.proofs.lemmas.Str.Ascii.{IsAscii-nil, IsAscii-cons}
use Rattle.hex.specs.Hex.{lower_digits}
use Rattle.hex.proofs.HexLemmas.{IsAscii-encode_with}
use Rattle.sha2.specs.Sha256.{sha256}
use Rattle.alarm_page.specs.Laws.{AreBytes, HaveBytes}
use Rattle.alarm_page.specs.Pages.{Texts, sections, sum_text, about, number_line, numbers_up_to, line_numbers, closing, page_of, told_by, texts_told}
use Rattle.alarm_page.specs.Parts.{text_of}
use Rattle.alarm_page.specs.declared.part.Part.TheVariants as part
use Rattle.alarm_page.proofs.Sections.{StartsTag, AreReadable, sections_back}

-- ---- bytes

joined : (xs ys : List ℕ) → AreBytes xs → AreBytes ys → AreBytes (xs ++ ys)
joined xs ys = All-append (λ b. b < 2 ^ 8) xs ys

ascii_bytes : (bytes : List ℕ) → IsAscii bytes → AreBytes bytes
ascii_bytes bytes are = All-from_get_or (λ b. b < 2 ^ 8) bytes 0 (λ i below. let h = are i in omega (arith, h))

tested : (bytes : List ℕ) → list_all (λ b. nat_lt b 128) bytes ≡ true → IsAscii bytes
tested [] h = IsAscii-nil
tested (b ∷ bytes) h =
    let parts = and_parts (nat_lt b 128) (list_all (λ c. nat_lt c 128) bytes) h in
    IsAscii-cons b bytes (ltb-true b 128 parts.0) (tested bytes parts.1)

written_out : (bytes : List ℕ) → list_all (λ b. nat_lt b 128) bytes ≡ true → AreBytes bytes
written_out bytes h = ascii_bytes bytes (tested bytes h)

sum_bytes : (bytes : List ℕ) → AreBytes (sum_text bytes)
unfolding sum_text
sum_bytes bytes = ascii_bytes (sum_text bytes) (IsAscii-encode_with lower_digits (sha256 bytes) (tested lower_digits refl))

about_bytes : (texts : Texts) → HaveBytes texts → AreBytes (about texts)
about_bytes texts have =
    joined texts.made_by _ have.made_by (joined (codes "SHA-256 of MODEL: ") _ (written_out (codes "SHA-256 of MODEL: ") refl)
    (joined (sum_text texts.model) _ (sum_bytes texts.model) (joined (codes "\nSHA-256 of FILE: ") _ (written_out (codes "\nSHA-256 of FILE: ") refl)
    (joined (sum_text texts.file) (codes "\n") (sum_bytes texts.file) (written_out (codes "\n") refl)))))

numbers_bytes : (count : ℕ) → count < 2 ^ 64 → AreBytes (numbers_up_to count)
numbers_bytes zero below = All-nil (λ b. b < 2 ^ 8)
numbers_bytes (suc count) below =
    joined (numbers_up_to count) (number_line (suc count)) (numbers_bytes count (omega (arith, below)))
    (joined (decimal (suc count)) (codes "\n") (ascii_bytes (decimal (suc count)) (IsAscii-decimal (suc count) below)) (written_out (codes "\n") refl))

lines_bytes : (text : List ℕ) → length text < 2 ^ 63 → AreBytes (line_numbers text)
lines_bytes text few =
    let h = count_by-le-length (λ byte. byte == 10) text in
    numbers_bytes (suc (count_by (λ byte. byte == 10) text)) (omega (arith, h, few))

-- ---- tags

begins : (front text later rest : List ℕ) → StartsTag front → StartsTag (((front ++ text) ++ later) ++ rest)
begins [] text later rest starts = absurd starts
begins (byte ∷ front) text later rest starts = starts

ends : (front rest : List ℕ) → StartsTag front → StartsTag (front ++ rest)
ends [] rest starts = absurd starts
ends (byte ∷ front) rest starts = starts

numbers_tag : StartsTag (text_of part.BeforeNumbers)
unfolding text_of
numbers_tag = refl

file_tag : StartsTag (text_of part.BeforeFile)
unfolding text_of
file_tag = refl

report_tag : StartsTag (text_of part.BeforeReport)
unfolding text_of
report_tag = refl

model_tag : StartsTag (text_of part.BeforeModel)
unfolding text_of
model_tag = refl

about_tag : StartsTag (text_of part.BeforeAbout)
unfolding text_of
about_tag = refl

script_tag : StartsTag (text_of part.BeforeScript)
unfolding text_of
script_tag = refl

closing_tag : StartsTag closing
closing_tag = ends (text_of part.BeforeScript) (text_of part.Script ++ text_of part.End) script_tag

-- ---- pages

-- the texts that stand in a page are of bytes
pub record AreWritable (texts : Texts) : Type 0 where
  pub alarms : AreBytes texts.alarms
  pub numbers : AreBytes (line_numbers texts.file)
  pub file : AreBytes texts.file
  pub report : AreBytes texts.report
  pub model : AreBytes texts.model
  pub about_is : AreBytes (about texts)

readable : (texts : Texts) → AreWritable texts → AreReadable (sections texts) closing
readable texts are = (
  are.alarms,
  begins (text_of part.BeforeNumbers) _ _ closing numbers_tag,
  (
    are.numbers,
    begins (text_of part.BeforeFile) _ _ closing file_tag,
    (
      are.file,
      begins (text_of part.BeforeReport) _ _ closing report_tag,
      (
        are.report,
        begins (text_of part.BeforeModel) _ _ closing model_tag,
        (
          are.model,
          begins (text_of part.BeforeAbout) _ _ closing about_tag,
          (are.about_is, closing_tag, tt),
        ),
      ),
    ),
  ),
)

pub told_back : (texts : Texts) → AreWritable texts → told_by (page_of texts) ≡ texts_told texts
told_back texts are = sections_back (sections texts) closing (readable texts are)

pub page_told : (texts : Texts) → HaveBytes texts → told_by (page_of texts) ≡ texts_told texts
page_told texts have = told_back texts (record {
  alarms = have.alarms;
  numbers = lines_bytes texts.file have.few;
  file = have.file;
  report = have.report;
  model = have.model;
  about_is = about_bytes texts have;
})
