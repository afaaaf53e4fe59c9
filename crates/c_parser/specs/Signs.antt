-- The signs of words and marks.
use Rattle.std.specs.Prelude.{ℕ, List, [], ◌∷◌, codes, Option, Some, None, unwrap_or, if◌then◌else◌}
use Rattle.std.specs.Str.{bytes_eq}
use Rattle.c_words.specs.Keywords.{is_keyword}
use Rattle.c_tree.specs.declared.tree.Op.TheVariants.{Add, Sub, Mul, Div, Rem, Lt, Le, Gt, Ge, Eq, Ne, And, Or}
use Rattle.c_grammar.specs.declared.items.Sign.{Sign}
use Rattle.c_grammar.specs.declared.items.Sign.TheVariants as signs

-- the sign that a table gives the word
abbrev pub sign_in : List (List ℕ × Sign) → List ℕ → Option Sign
sign_in [] word = None
sign_in (entry ∷ entries) word = if bytes_eq word entry.0 then Some entry.1 else sign_in entries word

-- the keywords that the subset uses, and the words that it reserves besides (`int32_t` is a name in models and conditions)
abbrev pub used_words : List (List ℕ × Sign)
used_words =
    (codes "static", signs.Static) ∷ (codes "const", signs.Const) ∷ (codes "int", signs.Int) ∷ (codes "int32_t", signs.Int32)
    ∷ (codes "signed", signs.Signed) ∷ (codes "extern", signs.Extern) ∷ (codes "input", signs.Input) ∷ (codes "void", signs.Void)
    ∷ (codes "main", signs.Main) ∷ (codes "return", signs.Return) ∷ (codes "assert", signs.Assert) ∷ (codes "if", signs.If)
    ∷ (codes "else", signs.Else) ∷ (codes "while", signs.While) ∷ (codes "for", signs.For) ∷ (codes "do", signs.Do) ∷ (codes "break", signs.Break)
    ∷ (codes "continue", signs.Continue) ∷ (codes "enum", signs.Enum) ∷ []

-- the sign that the subset gives a word; the other keywords of C have one sign
abbrev pub keyword_or : Option Sign → List ℕ → Option Sign
keyword_or (Some sign) word = Some sign
keyword_or None word = if is_keyword word then Some signs.Reserved else None

-- the sign of a reserved word; any other word is an identifier
abbrev pub keyword_of : List ℕ → Option Sign
keyword_of word = keyword_or (sign_in used_words word) word

-- the byte 1 stands for `#define`
abbrev pub marks : List (List ℕ × Sign)
marks =
    (codes "(", signs.Open) ∷ (codes ")", signs.Close) ∷ (codes "{", signs.LeftBrace) ∷ (codes "}", signs.RightBrace) ∷ (codes ";", signs.Semicolon)
    ∷ (codes ",", signs.Comma) ∷ (codes "=", signs.Equals) ∷ (codes "!", signs.Bang) ∷ (codes "+", signs.Oper Add) ∷ (codes "-", signs.Oper Sub)
    ∷ (codes "*", signs.Oper Mul) ∷ (codes "/", signs.Oper Div) ∷ (codes "%", signs.Oper Rem) ∷ (codes "<", signs.Oper Lt) ∷ (codes ">", signs.Oper Gt)
    ∷ (codes "<=", signs.Oper Le) ∷ (codes ">=", signs.Oper Ge) ∷ (codes "==", signs.Oper Eq) ∷ (codes "!=", signs.Oper Ne) ∷ (codes "&&", signs.Oper And)
    ∷ (codes "||", signs.Oper Or) ∷ (codes "++", signs.PlusPlus) ∷ (codes "--", signs.MinusMinus) ∷ (codes "+=", signs.PlusEquals)
    ∷ (codes "-=", signs.MinusEquals) ∷ (codes "*=", signs.StarEquals) ∷ (codes "/=", signs.SlashEquals) ∷ (codes "%=", signs.PercentEquals)
    ∷ (1 ∷ [], signs.Define) ∷ []

-- the sign of a mark; no token is a mark without one
abbrev pub mark_of : List ℕ → Sign
mark_of mark = unwrap_or (sign_in marks mark) signs.Reserved
