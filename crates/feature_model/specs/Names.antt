-- Names of features, and the words that are none.
use Rattle.std.specs.Prelude.{ℕ, Bool, not, ◌||◌, List}
use Rattle.c_words.specs.Identifiers.{is_identifier, begins_with_two_underscores}
use Rattle.c_words.specs.Keywords.{is_reserved}

-- no identifier, or one with two underscores before it, or a word with a meaning of its own
abbrev pub is_misnamed : List ℕ → Bool
is_misnamed name = not (is_identifier name) || (begins_with_two_underscores name || is_reserved name)
