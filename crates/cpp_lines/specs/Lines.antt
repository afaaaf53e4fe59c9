-- The lines of a blanked text.
use Rattle.std.specs.Prelude.{◌≡◌, ⊤, ℕ, ◌+◌, Bool, true, false, not, List, [], ◌∷◌, length, drop, Result, Ok, Err, if◌then◌else◌}
use Rattle.std.specs.List.{prefix_len}
use Rattle.fam_outer.specs.declared.dialect.Includes.{Includes}
use Rattle.fam_outer.specs.declared.faults.Place.{Place}
use Rattle.fam_outer.specs.declared.faults.FileCode.{FileCode}
use Rattle.fam_outer.specs.Places.{is_newline, place_at}
use Rattle.cpp_lines.specs.declared.line.Line.{Line}
use Rattle.cpp_lines.specs.declared.line.LineKind.{LineKind}
use Rattle.cpp_lines.specs.declared.line.LineKind.TheVariants.{Code, Define}
use Rattle.c_words.specs.Bytes.{is_gap}
use Rattle.cpp_lines.specs.Directives.{begins_directive, behind_hash, directive_of, is_define, plain_kind}

-- a byte in front of the first piece
abbrev pub in_first : ℕ → List (List ℕ) → List (List ℕ)
in_first b [] = (b ∷ []) ∷ []
in_first b (p ∷ ps) = (b ∷ p) ∷ ps

-- the pieces between newlines, one more than there are newlines
abbrev pub pieces : List ℕ → List (List ℕ)
pieces [] = [] ∷ []
pieces (b ∷ bs) = if is_newline b then [] ∷ pieces bs else in_first b (pieces bs)

-- the place of `#` in a directive line, and of the first byte of another line
abbrev pub line_place : Place → List ℕ → Place
line_place first line = if begins_directive line then record { line = first.line; column = first.column + prefix_len is_gap line } else first

-- the line with this kind, or the fault, at its place
abbrev pub line_with : Result LineKind FileCode → ℕ → Place → List ℕ → Result Line (FileCode × Place)
line_with (Ok kind) start first line = Ok (record { kind = kind; start = start; end = start + length line; place = line_place first line })
line_with (Err code) start first line = Err (code, line_place first line)

-- a line without a model, whose first byte stands at this offset and place
abbrev pub plain_line : Includes → ℕ → Place → List ℕ → Result Line (FileCode × Place)
plain_line includes start first line = line_with (plain_kind includes line) start first line

-- a line before others; the first fault decides
abbrev pub before : Result Line (FileCode × Place) → Result (List Line) (FileCode × Place) → Result (List Line) (FileCode × Place)
before (Ok line) (Ok lines) = Ok (line ∷ lines)
before (Ok line) (Err fault) = Err fault
before (Err fault) lines = Err fault

-- the lines of these pieces, the first at this offset of the text
abbrev pub plain_lines_from : Includes → List ℕ → ℕ → List (List ℕ) → Result (List Line) (FileCode × Place)
plain_lines_from includes text start [] = Ok []
plain_lines_from includes text start (p ∷ ps) = before (plain_line includes start (place_at text start) p) (plain_lines_from includes text (start + length p + 1) ps)

-- the lines of a text without a model, or the first fault
unfoldable pub plain_lines_of : Includes → List ℕ → Result (List Line) (FileCode × Place)
plain_lines_of includes text = plain_lines_from includes text 0 (pieces text)

abbrev pub is_code : LineKind → Bool
is_code Code = true
is_code other = false

-- a line of this kind stays in the text of a variant, where its groups are kept: code, or a definition
abbrev pub stays : LineKind → Bool
stays Code = true
stays Define = true
stays other = false

abbrev pub AllStay : List Line → Type 0
AllStay [] = ⊤
AllStay (l ∷ ls) = (stays l.kind ≡ true) × AllStay ls

-- the same of a line's bytes
abbrev pub is_text : List ℕ → Bool
is_text piece = if begins_directive piece then is_define (directive_of (behind_hash piece)) else true

-- the line has the bytes of this piece, is code exactly where that is no directive line, and stays exactly where it is code or a
-- definition
pub record IsLineAt (start : ℕ) (piece : List ℕ) (line : Line) : Type 0 where
  pub starts : line.start ≡ start
  pub ends : line.end ≡ start + length piece
  pub kind : is_code line.kind ≡ not (begins_directive piece)
  pub text : stays line.kind ≡ is_text piece

-- these are the lines of these pieces, in their order
abbrev pub AreLinesFrom : ℕ → List (List ℕ) → List Line → Type 0
AreLinesFrom start [] [] = ⊤
AreLinesFrom start [] (l ∷ ls) = ⊥
AreLinesFrom start (p ∷ ps) [] = ⊥
AreLinesFrom start (p ∷ ps) (l ∷ ls) = IsLineAt start p l × AreLinesFrom (start + length p + 1) ps ls

unfoldable pub AreLinesOf : List ℕ → List Line → Type 0
AreLinesOf text lines = AreLinesFrom 0 (pieces text) lines

-- each line has the place of its `#`, behind its white space, or of its first byte where it is code
abbrev pub ArePlaced : List ℕ → List Line → Type 0
ArePlaced text [] = ⊤
ArePlaced text (l ∷ ls) = (l.place ≡ place_at text (if is_code l.kind then l.start else l.start + prefix_len is_gap (drop l.start text))) × ArePlaced text ls

-- the lines are numbered one after another, from this number on
abbrev pub AreCounted : ℕ → List Line → Type 0
AreCounted n [] = ⊤
AreCounted n (l ∷ ls) = (l.place.line ≡ n) × AreCounted (n + 1) ls
