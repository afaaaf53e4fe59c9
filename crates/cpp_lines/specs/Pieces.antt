-- A text as pieces, one behind another: bytes of code, and comments (ISO/IEC 9899:2011, 5.1.1.2 and 6.4.9).
use Rattle.std.specs.Prelude.{◌≡◌, ◌≢◌, ◌⊎◌, ℕ, Bool, true, false, ◌||◌, List, [], ◌∷◌, ◌++◌, length, drop, map, if◌then◌else◌}
use Rattle.std.specs.List.{list_any}
use Rattle.fam_outer.specs.Places.{is_newline}
use Rattle.fam_outer.specs.declared.faults.FileCode.{FileCode}
use Rattle.fam_outer.specs.declared.faults.FileCode.TheVariants.{OpenComment, Splice, CommentAtDirective}
use Rattle.cpp_lines.specs.Bytes.{begins_with}
use Rattle.cpp_lines.specs.Faults.{is_splice, touches_directive}

-- a byte of code, a comment with what stands between `/*` and `*/`, or one with what stands from `//` on in its line
pub data Piece : Type 0 where
  code : ℕ → Piece
  block : List ℕ → Piece
  line : List ℕ → Piece

-- the bytes of a piece
abbrev pub spelled : Piece → List ℕ
spelled (code b) = b ∷ []
spelled (block inner) = 47 ∷ (42 ∷ (inner ++ 42 ∷ (47 ∷ [])))
spelled (line inner) = 47 ∷ (47 ∷ inner)

-- `*/` stands nowhere in the bytes
pub record HasNoEnd (bytes : List ℕ) : Type 0 where
  pub nowhere : (n : ℕ) → begins_with 42 47 (drop n bytes) ≡ false

-- `/*` or `//` comes first
abbrev pub opens : List ℕ → Bool
opens bytes = begins_with 47 42 bytes || begins_with 47 47 bytes

-- nothing, or a newline, comes first
abbrev pub IsLineEnd : List ℕ → Type 0
IsLineEnd [] = Unit {0}
IsLineEnd (b ∷ bs) = is_newline b ≡ true

-- the piece may stand before the rest: no comment opens at a byte of code, a comment ends with the first `*/`, or before the first newline
abbrev pub MayStand : Piece → List ℕ → Type 0
MayStand (code b) rest = opens (b ∷ rest) ≡ false
MayStand (block inner) rest = HasNoEnd (inner ++ 42 ∷ [])
MayStand (line inner) rest = (list_any is_newline inner ≡ false) × IsLineEnd rest

-- nothing, or a comment that opens with `/*` and does not end
abbrev pub IsUnclosedOrNone : List ℕ → Type 0
IsUnclosedOrNone unclosed = (unclosed ≡ []) ⊎ ((inner : List ℕ) × (unclosed ≡ 47 ∷ (42 ∷ inner)) × HasNoEnd inner)

-- the text is these pieces, one behind another, and then nothing or a comment without its end
abbrev pub IsRead : List ℕ → List Piece → List ℕ → Type 0
IsRead text [] unclosed = (text ≡ unclosed) × IsUnclosedOrNone unclosed
IsRead text (p ∷ ps) unclosed = (rest : List ℕ) × (text ≡ spelled p ++ rest) × MayStand p rest × IsRead rest ps unclosed

-- the text is so read in one way
pub record IsReadOnce (text : List ℕ) : Type 0 where
  pub pieces : List Piece
  pub unclosed : List ℕ
  pub reads : IsRead text pieces unclosed
  pub alone : (ps : List Piece) (end : List ℕ) → IsRead text ps end → (ps ≡ pieces) × (end ≡ unclosed)

-- a space for each byte but a newline
abbrev pub space_for : ℕ → ℕ
space_for b = if is_newline b then b else 32

-- the bytes of a piece, with those of a comment blanked
abbrev pub without_comment : Piece → List ℕ
without_comment (code b) = b ∷ []
without_comment (block inner) = map space_for (spelled (block inner))
without_comment (line inner) = map space_for (spelled (line inner))

abbrev pub joined : List Piece → List ℕ → List ℕ
joined [] unclosed = map space_for unclosed
joined (p ∷ ps) unclosed = without_comment p ++ joined ps unclosed

-- ---- faults, said of the pieces

-- the bytes of pieces, one behind another
abbrev pub all_spelled : List Piece → List ℕ
all_spelled [] = []
all_spelled (p ∷ ps) = spelled p ++ all_spelled ps

abbrev pub IsComment : Piece → Type 0
IsComment (code b) = ⊥
IsComment (block inner) = Unit {0}
IsComment (line inner) = Unit {0}

-- one of the pieces is a comment at this offset; it has a newline, and its first or its last line is a directive line
pub record IsAtDirective (text : List ℕ) (ps : List Piece) (offset : ℕ) : Type 0 where
  pub front : List Piece
  pub comment : Piece
  pub back : List Piece
  pub among : ps ≡ front ++ comment ∷ back
  pub begins : offset ≡ length (all_spelled front)
  pub is_comment : IsComment comment
  pub touches : touches_directive text offset (length (spelled comment)) ≡ true

-- what is at fault at an offset of a text that is read as these pieces: the end of a line behind a backslash or `??/`, the
-- comment without its end, or a comment at a directive line
abbrev pub HasFault : List ℕ → List Piece → List ℕ → ℕ → FileCode → Type 0
HasFault text ps unclosed offset Splice = is_splice (drop offset text) ≡ true
HasFault text ps unclosed offset OpenComment = (unclosed ≢ []) × (offset ≡ length (all_spelled ps))
HasFault text ps unclosed offset CommentAtDirective = IsAtDirective text ps offset
HasFault text ps unclosed offset _ = ⊥
