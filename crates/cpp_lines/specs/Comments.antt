-- Comments, and the text without them (ISO/IEC 9899:2011, 6.4.9). A quote opens nothing: the subset has no strings and no character constants.
use Rattle.std.specs.Prelude.{ℕ, zero, suc, ◌+◌, ◌-◌, ◌==◌, List, [], ◌∷◌, length, drop, Option, Some, None, option_map, unwrap_or, if◌then◌else◌}
use Rattle.std.specs.List.{prefix_len}
use Rattle.fam_outer.specs.Places.{is_newline}
use Rattle.cpp_lines.specs.Bytes.{begins_with, is_line_byte}

-- up to the end of the first `*/` stand so many bytes; none, where no `*/` comes
abbrev pub block_len : List ℕ → Option ℕ
block_len [] = None
block_len (b ∷ bs) = if begins_with 42 47 (b ∷ bs) then Some 2 else option_map suc (block_len bs)

-- the comment at the front has so many bytes, 0 where none opens there: behind `/*` it goes up to the end of the next `*/`,
-- else to the end of the text, and with `//` up to the newline
abbrev pub comment_len : List ℕ → ℕ
comment_len bytes =
    if begins_with 47 42 bytes then unwrap_or (option_map (λ n. 2 + n) (block_len (drop 2 bytes))) (length bytes)
    else (if begins_with 47 47 bytes then prefix_len is_line_byte bytes else 0)

-- how many bytes of a comment stand from here on: those that are left of one, else those of one that opens here
abbrev pub comment_left : ℕ → List ℕ → ℕ
comment_left left bytes = if left == 0 then comment_len bytes else left

-- a byte of a comment, but a newline, becomes a space
abbrev pub blanked_byte : ℕ → ℕ → ℕ
blanked_byte zero b = b
blanked_byte (suc left) b = if is_newline b then b else 32

-- the text with its comments blanked, where so many bytes are left of a comment
abbrev pub blank_from : ℕ → List ℕ → List ℕ
blank_from left [] = []
blank_from left (b ∷ bs) = blanked_byte (comment_left left (b ∷ bs)) b ∷ blank_from (comment_left left (b ∷ bs) - 1) bs

abbrev pub blank : List ℕ → List ℕ
blank text = blank_from 0 text
