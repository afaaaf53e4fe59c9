-- What a page is, and what is read of it: texts between fixed parts.
use Rattle.std.specs.Prelude.{ℕ, zero, suc, ◌==◌, if◌then◌else◌, List, [], ◌∷◌, ◌++◌, codes, flat_map, length, drop, count_by}
use Rattle.std.specs.Fmt.{decimal}
use Rattle.hex.specs.Hex.{encode_lower}
use Rattle.sha2.specs.Sha256.{sha256}
use Rattle.alarm_page.specs.declared.page.Told.{Told}
use Rattle.alarm_page.specs.declared.part.Part.TheVariants as part
use Rattle.alarm_page.specs.Escapes.{escaped, read_back}
use Rattle.alarm_page.specs.Parts.{text_of}

-- ---- texts

-- what a page tells, as plain data
pub record Texts : Type 0 where
  pub alarms : List ℕ
  pub report : List ℕ
  pub model : List ℕ
  pub file : List ℕ
  pub made_by : List ℕ

abbrev pub texts_of : Told → Texts
texts_of told = record {
  alarms = told.alarms.now;
  report = told.report.now;
  model = told.model.now;
  file = told.file.now;
  made_by = told.made_by.now;
}

-- the SHA-256 digest (FIPS 180-4) in hexadecimal digits
unfoldable pub sum_text : List ℕ → List ℕ
sum_text bytes = encode_lower (sha256 bytes)

-- what stands at the foot: by what the page was made, and the sums of both files
abbrev pub about : Texts → List ℕ
about texts =
    texts.made_by ++ (codes "SHA-256 of MODEL: " ++ (sum_text texts.model ++ (codes "\nSHA-256 of FILE: " ++ (sum_text texts.file ++ codes "\n"))))

abbrev pub number_line : ℕ → List ℕ
number_line number = decimal number ++ codes "\n"

-- the numbers up to this one, each on a line
abbrev pub numbers_up_to : ℕ → List ℕ
numbers_up_to zero = []
numbers_up_to (suc count) = numbers_up_to count ++ number_line (suc count)

-- a number for each line of a text, and one for what stands behind its last newline
abbrev pub line_numbers : List ℕ → List ℕ
line_numbers text = numbers_up_to (suc (count_by (λ byte. byte == 10) text))

-- ---- a page

-- a fixed part, and the text that stands behind it
pub record Section : Type 0 where
  pub front : List ℕ
  pub text : List ℕ

abbrev pub section : List ℕ → List ℕ → Section
section front text = record { front = front; text = text }

-- the parts that stand before the first text, and behind the last
abbrev pub opening : List ℕ
opening = text_of part.Head ++ (text_of part.Style ++ text_of part.BeforeAlarms)

abbrev pub closing : List ℕ
closing = text_of part.BeforeScript ++ (text_of part.Script ++ text_of part.End)

-- the sections of a page
abbrev pub sections : Texts → List Section
sections texts =
    section opening texts.alarms ∷ section (text_of part.BeforeNumbers) (line_numbers texts.file) ∷ section (text_of part.BeforeFile) texts.file
    ∷ section (text_of part.BeforeReport) texts.report ∷ section (text_of part.BeforeModel) texts.model ∷ section (text_of part.BeforeAbout) (about texts) ∷ []

-- a section as it is written
abbrev pub written : Section → List ℕ
written s = s.front ++ escaped s.text

-- a page, byte for byte
abbrev pub page_of : Texts → List ℕ
page_of texts = flat_map written (sections texts) ++ closing

-- ---- what a page tells

-- a text up to its first `<`, and from there on
abbrev pub before_tag : List ℕ → List ℕ
before_tag [] = []
before_tag (byte ∷ text) = if byte == 60 then [] else byte ∷ before_tag text

abbrev pub from_tag : List ℕ → List ℕ
from_tag [] = []
from_tag (byte ∷ text) = if byte == 60 then byte ∷ text else from_tag text

-- the texts that stand in a page behind these parts: each from behind its part to the next `<`, read back
abbrev pub texts_behind : List (List ℕ) → List ℕ → List (List ℕ)
texts_behind [] page = []
texts_behind (front ∷ fronts) page =
    let rest = drop (length front) page in read_back (before_tag rest) ∷ texts_behind fronts (from_tag rest)

-- the texts of a page, in the order in which they stand
abbrev pub texts_told : Texts → List (List ℕ)
texts_told texts = texts.alarms ∷ line_numbers texts.file ∷ texts.file ∷ texts.report ∷ texts.model ∷ about texts ∷ []

-- the texts that a page tells, in their order
abbrev pub told_by : List ℕ → List (List ℕ)
told_by page =
    texts_behind (opening ∷ text_of part.BeforeNumbers ∷ text_of part.BeforeFile ∷ text_of part.BeforeReport ∷ text_of part.BeforeModel ∷ text_of part.BeforeAbout ∷ []) page
