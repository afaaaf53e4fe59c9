-- Sections, read out of a page.
use Rattle.std.proofs.Common.{◌≡◌, ℕ, true, List, [], ◌∷◌, ◌++◌, length, drop, map, refl, ap, ◌∙◌, append_assoc}
use Rattle.std.specs.Prelude.{⊤, flat_map}
use Rattle.std.specs.List.{AllByRecursion}
use Rattle.std.proofs.lemmas.Bool.{eq-eqb}
use Rattle.std.proofs.lemmas.List.Elements.{recursion_from_All}
use Rattle.std.proofs.Math.Seq.{drop-append_seam}
use Rattle.alarm_page.specs.Escapes.{escaped, read_back}
use Rattle.alarm_page.specs.Laws.{AreBytes}
use Rattle.alarm_page.specs.Pages.{Section, written, before_tag, from_tag, texts_behind}
use Rattle.alarm_page.proofs.Bytes.{is_written, written_apart}
use Rattle.alarm_page.proofs.Reading.{text_back, text_written}

abbrev AreWritten : List ℕ → Type 0
AreWritten text = AllByRecursion (λ b. is_written b ≡ true) text

-- a text begins with `<`
abbrev pub StartsTag : List ℕ → Type 0
StartsTag [] = ⊥
StartsTag (byte ∷ text) = byte ≡ 60

cut_before : (text rest : List ℕ) → AreWritten text → StartsTag rest → before_tag (text ++ rest) ≡ text
cut_before [] [] are starts = absurd starts
cut_before [] (byte ∷ rest) are starts = rw (eq-eqb byte 60 starts) refl
cut_before (byte ∷ text) rest are starts = rw (written_apart byte are.0) (ap (λ t. byte ∷ t) (cut_before text rest are.1 starts))

cut_from : (text rest : List ℕ) → AreWritten text → StartsTag rest → from_tag (text ++ rest) ≡ rest
cut_from [] [] are starts = absurd starts
cut_from [] (byte ∷ rest) are starts = rw (eq-eqb byte 60 starts) refl
cut_from (byte ∷ text) rest are starts = rw (written_apart byte are.0) (cut_from text rest are.1 starts)

-- each text is of bytes, and a tag begins behind it
abbrev pub AreReadable : List Section → List ℕ → Type 0
AreReadable [] rest = ⊤
AreReadable (s ∷ ss) rest = AreBytes s.text × StartsTag (flat_map written ss ++ rest) × AreReadable ss rest

-- what stands behind the front of the first of the sections
behind_front : (s : Section) (later rest : List ℕ) → drop (length s.front) ((written s ++ later) ++ rest) ≡ escaped s.text ++ (later ++ rest)
behind_front s later rest =
    ap (drop (length s.front)) (append_assoc (written s) later rest ∙ append_assoc s.front (escaped s.text) (later ++ rest)) ∙ drop-append_seam s.front (escaped s.text ++ (later ++ rest))

pub sections_back : (ss : List Section) (rest : List ℕ) → AreReadable ss rest → texts_behind (map (λ s. s.front) ss) (flat_map written ss ++ rest) ≡ map (λ s. s.text) ss
sections_back [] rest are = refl
sections_back (s ∷ ss) rest are =
    let later : List ℕ = flat_map written ss in
    let fronts : List (List ℕ) = map (λ t. t.front) ss in
    let behind = behind_front s later rest in
    let all : AreWritten (escaped s.text) = recursion_from_All (λ b. is_written b ≡ true) (escaped s.text) (text_written s.text are.0) in
    let first : read_back (before_tag (drop (length s.front) ((written s ++ later) ++ rest))) ≡ s.text =
    ap (λ t. read_back (before_tag t)) behind ∙ (ap read_back (cut_before (escaped s.text) (later ++ rest) all are.1) ∙ text_back s.text are.0) in
    let others : texts_behind fronts (from_tag (drop (length s.front) ((written s ++ later) ++ rest))) ≡ map (λ t. t.text) ss =
    ap (λ t. texts_behind fronts (from_tag t)) behind ∙ (ap (texts_behind fronts) (cut_from (escaped s.text) (later ++ rest) all are.1) ∙ sections_back ss rest are.2) in
    ap (λ t. t ∷ texts_behind fronts (from_tag (drop (length s.front) ((written s ++ later) ++ rest)))) first ∙ ap (λ ts. s.text ∷ ts) others
