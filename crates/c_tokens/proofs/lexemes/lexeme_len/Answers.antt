use Rattle.std.proofs.Common.{◌≡◌, ℕ, suc, ◌+◌, List, ◌∷◌, unwrap_or, eqb, true, false, sym, ap, subst, ◌∙◌, arith, eq-eqb}
use Rattle.std.specs.List.{prefix_len}
use Rattle.std.proofs.lemmas.Bool.{ne_eqb}
use Rattle.c_words.specs.Bytes.{is_word_byte}
use Rattle.c_tokens.specs.Lexemes.{IsLongest, is_mark, lexeme_of, number_len, close_len}
use Rattle.c_tokens.proofs.Lexing.{number_lexeme, word_lexeme, quote_lexeme, mark_lexeme}
use Rattle.c_tokens.proofs.lexemes.lexeme_len.Goals as goal

pub returns-then-is_digit : goal.returns-then-is_digit
returns-then-is_digit c =
    let b = c.in-Some.first in
    let bs = c.in-Some.behind.now in
    let one : 1 + c.number_len.result ≡ suc (number_len b bs) = omega (arith, c.number_len.ensures.value) in
    one ∙ number_lexeme b bs (sym c.is_digit.ensures ∙ c.if-is_digit.true) ∙ ap lexeme_of (sym c.in-Some.ensures)

pub returns-then-is_word_byte : goal.returns-then-is_word_byte
returns-then-is_word_byte c =
    let b = c.in-Some.first in
    let bs = c.in-Some.behind.now in
    c.word_len.ensures ∙ ap (prefix_len is_word_byte) c.in-Some.ensures
    ∙ word_lexeme b bs (sym c.is_digit.ensures ∙ c.if-is_digit.false) (sym c.is_word_byte.ensures ∙ c.if-is_word_byte.true) ∙ ap lexeme_of (sym c.in-Some.ensures)

pub returns-then-first-eq39 : goal.returns-then-first-eq39
returns-then-first-eq39 c =
    let b = c.in-Some.first in
    let bs = c.in-Some.behind.now in
    let found : c.unwrap_or.result ≡ unwrap_or (close_len false bs) 0 = c.unwrap_or.ensures ∙ ap (λ o. unwrap_or o 0) c.close_len.ensures.value in
    let one : 1 + c.unwrap_or.result ≡ suc (unwrap_or (close_len false bs) 0) = omega (arith, found) in
    one ∙ quote_lexeme b bs (eq-eqb b 39 c.if-first-eq39.true) ∙ ap lexeme_of (sym c.in-Some.ensures)

pub returns-else-first-eq39 : goal.returns-else-first-eq39
returns-else-first-eq39 c =
    let b = c.in-Some.first in
    let bs = c.in-Some.behind.now in
    mark_lexeme b bs c.mark_len.result (sym c.is_word_byte.ensures ∙ c.if-is_word_byte.false) (ne_eqb b 39 c.if-first-eq39.false)
    (subst (λ (xs : List ℕ). IsLongest is_mark c.mark_len.result xs) c.in-Some.ensures c.mark_len.ensures)
    ∙ ap lexeme_of (sym c.in-Some.ensures)
