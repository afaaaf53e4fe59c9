-- Words that are no names.
use Rattle.std.specs.Prelude.{ℕ, Bool, false, ◌||◌, List, [], ◌∷◌, codes}
use Rattle.std.specs.Str.{bytes_eq}

-- the word is one of the list
abbrev pub is_among : List (List ℕ) → List ℕ → Bool
is_among [] word = false
is_among (w ∷ ws) word = bytes_eq word w || is_among ws word

-- the keywords of C (ISO/IEC 9899:2011, 6.4.1), with `_Imaginary` (annex G)
abbrev pub keywords : List (List ℕ)
keywords =
    codes "auto" ∷ codes "break" ∷ codes "case" ∷ codes "char" ∷ codes "const" ∷ codes "continue" ∷ codes "default" ∷ codes "do"
    ∷ codes "double" ∷ codes "else" ∷ codes "enum" ∷ codes "extern" ∷ codes "float" ∷ codes "for" ∷ codes "goto" ∷ codes "if"
    ∷ codes "inline" ∷ codes "int" ∷ codes "long" ∷ codes "register" ∷ codes "restrict" ∷ codes "return" ∷ codes "short" ∷ codes "signed"
    ∷ codes "sizeof" ∷ codes "static" ∷ codes "struct" ∷ codes "switch" ∷ codes "typedef" ∷ codes "union" ∷ codes "unsigned" ∷ codes "void"
    ∷ codes "volatile" ∷ codes "while" ∷ codes "_Alignas" ∷ codes "_Alignof" ∷ codes "_Atomic" ∷ codes "_Bool" ∷ codes "_Complex"
    ∷ codes "_Generic" ∷ codes "_Imaginary" ∷ codes "_Noreturn" ∷ codes "_Static_assert" ∷ codes "_Thread_local" ∷ []

-- the other words with a meaning of their own in a family of programs
abbrev pub other_words : List (List ℕ)
other_words =
    codes "main" ∷ codes "assert" ∷ codes "input" ∷ codes "defined" ∷ codes "NDEBUG" ∷ []

abbrev pub is_keyword : List ℕ → Bool
is_keyword word = is_among keywords word

-- a keyword, or another word with a meaning of its own
abbrev pub is_reserved : List ℕ → Bool
is_reserved word = is_among keywords word || is_among other_words word
