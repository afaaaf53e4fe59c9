-- The first fault of a text at its comments and line ends.
use Rattle.std.specs.Prelude.{◌≡◌, ℕ, zero, suc, ◌+◌, ◌-◌, ◌<◌, ◌≤◌, Bool, ◌&&◌, ◌||◌, ◌==◌, List, [], ◌∷◌, length, take, drop, codes, Option, Some, None, is_none, option_map, Result, Ok, Err, if◌then◌else◌}
use Rattle.std.specs.List.{list_any}
use Rattle.fam_outer.specs.declared.faults.Place.{Place}
use Rattle.fam_outer.specs.declared.faults.FileCode.{FileCode}
use Rattle.fam_outer.specs.declared.faults.FileCode.TheVariants.{OpenComment, Splice, CommentAtDirective}
use Rattle.fam_outer.specs.Places.{is_newline, last_line, place_at}
use Rattle.cpp_lines.specs.Bytes.{begins_with, has_first}
use Rattle.cpp_lines.specs.Comments.{block_len, comment_len, comment_left, blank}
use Rattle.cpp_lines.specs.Directives.{begins_directive}

-- a comment opens at the front with `/*` and does not end
abbrev pub is_open : List ℕ → Bool
is_open bytes = begins_with 47 42 bytes && is_none (block_len (drop 2 bytes))

-- a newline, or a carriage return and a newline
abbrev pub ends_line : List ℕ → Bool
ends_line bytes = has_first 10 bytes || begins_with 13 10 bytes

-- this word comes first, and directly behind it a line ends
abbrev pub ends_line_behind : List ℕ → List ℕ → Bool
ends_line_behind [] bytes = ends_line bytes
ends_line_behind (c ∷ word) bytes = has_first c bytes && ends_line_behind word (drop 1 bytes)

-- a backslash, or the trigraph `??/` that means one (ISO/IEC 9899:2011, 5.2.1.1), directly before the end of a line: phase 1 of
-- translation puts the backslash for the trigraph, and phase 2 splices the next line on (5.1.1.2)
abbrev pub is_splice : List ℕ → Bool
is_splice bytes = ends_line_behind (codes "\\") bytes || ends_line_behind (codes "??/") bytes

-- the line of the blanked text at this offset is a directive line; the line begins behind the last newline before it
abbrev pub is_directive_at : List ℕ → ℕ → Bool
is_directive_at text offset = begins_directive (drop (offset - length (last_line (take offset text))) (blank text))

-- the comment of so many bytes at this offset has a newline, and its first or its last line is a directive line
abbrev pub touches_directive : List ℕ → ℕ → ℕ → Bool
touches_directive text offset len = list_any is_newline (take len (drop offset text)) && (is_directive_at text offset || is_directive_at text (offset + len))

-- the fault of the comment that opens at this offset, where what stands from it on is `rest`; the lower code first
abbrev pub comment_fault : List ℕ → ℕ → List ℕ → Option FileCode
comment_fault text offset rest =
    if is_open rest then Some OpenComment
    else (if touches_directive text offset (comment_len rest) then Some CommentAtDirective else None)

-- the fault at this offset, where so many bytes are left of a comment that opened before; a splice begins with a backslash or `?`,
-- and a comment with `/`
abbrev pub fault_at : List ℕ → ℕ → ℕ → List ℕ → Option FileCode
fault_at text offset left rest =
    if is_splice rest then Some Splice
    else (if left == 0 then comment_fault text offset rest else None)

-- this one, or the other where there is none
abbrev pub or_later : Option (FileCode × Place) → Option (FileCode × Place) → Option (FileCode × Place)
or_later (Some fault) later = Some fault
or_later None later = later

-- the fault at the first offset that has one, from this offset on
abbrev pub first_fault_from : List ℕ → ℕ → ℕ → List ℕ → Option (FileCode × Place)
first_fault_from text offset left [] = None
first_fault_from text offset left (b ∷ bs) =
    or_later (option_map (λ code. (code, place_at text offset)) (fault_at text offset left (b ∷ bs)))
    (first_fault_from text (offset + 1) (comment_left left (b ∷ bs) - 1) bs)

unfoldable pub first_fault : List ℕ → Option (FileCode × Place)
first_fault text = first_fault_from text 0 0 text

-- the blanked text, or the first fault
abbrev pub blanked_or : List ℕ → Option (FileCode × Place) → Result (List ℕ) (FileCode × Place)
blanked_or text None = Ok (blank text)
blanked_or text (Some fault) = Err fault

abbrev pub without_comments : List ℕ → Result (List ℕ) (FileCode × Place)
without_comments text = blanked_or text (first_fault text)

-- ---- the same by offsets

-- how many bytes are left, at this offset, of a comment that opened before it; the first argument is that of offset 0
abbrev pub left_at : ℕ → ℕ → List ℕ → ℕ
left_at left zero bytes = left
left_at left (suc n) [] = 0
left_at left (suc n) (b ∷ bs) = left_at (comment_left left (b ∷ bs) - 1) n bs

-- the fault at an offset of the text
abbrev pub fault_of : List ℕ → ℕ → Option FileCode
fault_of text offset = fault_at text offset (left_at 0 offset text) (drop offset text)

-- no offset from the first to before the second has a fault
abbrev pub HasNoneBetween : List ℕ → ℕ → ℕ → Type 0
HasNoneBetween text start end = (offset : ℕ) → start ≤ offset → offset < end → fault_of text offset ≡ None

-- the fault with its place, at this offset or behind it, with none before; or there is none from here on
abbrev pub IsFirstFrom : List ℕ → ℕ → Option (FileCode × Place) → Type 0
IsFirstFrom text start None = HasNoneBetween text start (length text)
IsFirstFrom text start (Some fault) = (offset : ℕ) × (start ≤ offset) × (offset < length text) × (fault_of text offset ≡ Some fault.0) × (fault.1 ≡ place_at text offset) × HasNoneBetween text start offset

abbrev pub IsFirstFault : List ℕ → Option (FileCode × Place) → Type 0
IsFirstFault text answer = IsFirstFrom text 0 answer
