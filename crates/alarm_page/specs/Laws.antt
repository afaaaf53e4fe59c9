-- What holds of pages: their texts are no markup, and are read back as they were.
use Rattle.std.specs.Prelude.{◌≡◌, ℕ, ◌<◌, ◌^◌, ◌==◌, ◌||◌, List, length}
use Rattle.std.specs.List.{All, AllPass}
use Rattle.alarm_page.specs.Escapes.{is_plain, escaped, read_back}
use Rattle.alarm_page.specs.Pages.{Texts, page_of, told_by, texts_told}

abbrev pub AreBytes : List ℕ → Type 0
AreBytes bytes = All (λ b. b < 2 ^ 8) bytes

-- Whatever the bytes of a text are, those that it is written as are newlines and printable ASCII characters, and none of them is < > " or '.
abbrev pub TextsAreNoMarkup : Type 0
TextsAreNoMarkup = (bytes : List ℕ) → AreBytes bytes → AllPass (λ b. is_plain b || b == 38) (escaped bytes)

-- What a text is written as is read back as the text.
abbrev pub TextsAreReadBack : Type 0
TextsAreReadBack = (bytes : List ℕ) → AreBytes bytes → read_back (escaped bytes) ≡ bytes

-- the texts are of bytes, and the file has less than 2^63 of them
pub record HaveBytes (texts : Texts) : Type 0 where
  pub alarms : AreBytes texts.alarms
  pub report : AreBytes texts.report
  pub model : AreBytes texts.model
  pub file : AreBytes texts.file
  pub made_by : AreBytes texts.made_by
  pub few : length texts.file < 2 ^ 63

-- A page tells exactly its texts.
abbrev pub PagesTellTheirTexts : Type 0
PagesTellTheirTexts = (texts : Texts) → HaveBytes texts → told_by (page_of texts) ≡ texts_told texts
