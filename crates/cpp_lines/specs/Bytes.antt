-- Bytes at the front of a line.
use Rattle.std.specs.Prelude.{ℕ, Bool, false, not, ◌&&◌, ◌==◌, List, [], ◌∷◌, take, drop}
use Rattle.std.specs.List.{list_all, prefix_len}
use Rattle.c_words.specs.Bytes.{is_gap, is_word_byte}
use Rattle.fam_outer.specs.Places.{is_newline}

abbrev pub is_line_byte : ℕ → Bool
is_line_byte b = not (is_newline b)

-- the first two bytes are these
abbrev pub begins_with : ℕ → ℕ → List ℕ → Bool
begins_with x y [] = false
begins_with x y (b ∷ []) = false
begins_with x y (b ∷ c ∷ bs) = (b == x) && (c == y)

-- the first byte is this
abbrev pub has_first : ℕ → List ℕ → Bool
has_first x [] = false
has_first x (b ∷ bs) = b == x

-- what stands behind the white space at the front of a line
abbrev pub behind_gap : List ℕ → List ℕ
behind_gap bytes = drop (prefix_len is_gap bytes) bytes

abbrev pub is_gap_only : List ℕ → Bool
is_gap_only bytes = list_all is_gap bytes

-- white space stands at the front
abbrev pub begins_with_gap : List ℕ → Bool
begins_with_gap [] = false
begins_with_gap (b ∷ bs) = is_gap b

-- the letters, digits and underscores at the front
abbrev pub word_of : List ℕ → List ℕ
word_of bytes = take (prefix_len is_word_byte bytes) bytes

-- what stands behind them
abbrev pub behind_word : List ℕ → List ℕ
behind_word bytes = drop (prefix_len is_word_byte bytes) bytes
