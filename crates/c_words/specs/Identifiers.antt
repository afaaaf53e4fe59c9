-- Identifiers of C.
use Rattle.std.specs.Prelude.{ℕ, Bool, false, ◌&&◌, ◌==◌, List, [], ◌∷◌}
use Rattle.std.specs.List.{list_all}
use Rattle.c_words.specs.Bytes.{is_nondigit, is_word_byte}

-- ISO/IEC 9899:2011, 6.4.2.1: a nondigit, and nondigits and digits behind it
abbrev pub is_identifier : List ℕ → Bool
is_identifier [] = false
is_identifier (b ∷ bs) = is_nondigit b && list_all is_word_byte bs

-- two underscores come first
abbrev pub begins_with_two_underscores : List ℕ → Bool
begins_with_two_underscores (a ∷ b ∷ bs) = (a == 95) && (b == 95)
begins_with_two_underscores _ = false
