-- Places in a text.
use Rattle.std.specs.Prelude.{ℕ, ◌+◌, Bool, ◌==◌, ◌&&◌, ◌||◌, nat_lt, nat_eq, List, [], ◌∷◌, length, take, count_by, if◌then◌else◌}
use Rattle.std.specs.List.{list_any}
use Rattle.fam_outer.specs.declared.faults.Place.{Place}

abbrev pub is_newline : ℕ → Bool
is_newline b = b == 10

-- the bytes after the last newline; all of them, where there is none
abbrev pub last_line : List ℕ → List ℕ
last_line [] = []
last_line (b ∷ bs) = if list_any is_newline (b ∷ bs) then last_line bs else b ∷ bs

-- the place at which a text ends: its line is 1 and the number of newlines, its column is 1 and the number of bytes after the last newline
abbrev pub end_place : List ℕ → Place
end_place text = record { line = count_by is_newline text + 1; column = length (last_line text) + 1 }

-- the place of the byte at this offset
abbrev pub place_at : List ℕ → ℕ → Place
place_at text offset = end_place (take offset text)

-- one place comes before the other, by line and then by column
abbrev pub is_before : Place → Place → Bool
is_before p q = nat_lt p.line q.line || (nat_eq p.line q.line && nat_lt p.column q.column)
