-- One step of the scanner.
use Rattle.std.proofs.Common.{◌≡◌, ℕ, zero, suc, ◌+◌, ◌-◌, ◌<◌, ◌≤◌, true, false, List, [], ◌∷◌, ◌++◌, length, take, drop, Some, None, Result, Ok, Err, refl, sym, ap, subst, ◌∙◌, append_assoc, arith}
use Rattle.std.specs.List.{list_any}
use Rattle.std.proofs.Math.Seq.{take-add}
use Rattle.std.proofs.lemmas.List.{append-nil, drop-drop}
use Rattle.fam_outer.specs.declared.faults.Place.{Place}
use Rattle.fam_outer.specs.declared.faults.FileCode.{FileCode}
use Rattle.c_tokens.specs.declared.token.Token.{Token}
use Rattle.c_tokens.specs.declared.token.TokenKind.{TokenKind}
use Rattle.c_words.specs.Bytes.{is_space}
use Rattle.c_tokens.specs.Lexemes.{is_lexeme, lexeme_of, kind_of}
use Rattle.fam_outer.specs.Places.{is_newline, place_at}
use Rattle.c_tokens.specs.Reading.{known, front_of, before, read_lexeme, read_from}
use Rattle.c_tokens.proofs.Longest.{is_longest}
use Rattle.c_tokens.proofs.Newlines.{in_lexeme}

-- so many bytes are passed
pub passed : (text : List ℕ) (offset n : ℕ) (bytes : List ℕ) → n ≤ length bytes → read_from text offset n bytes ≡ read_from text (offset + n) 0 (drop n bytes)
passed text offset zero bytes le = ap (λ (i : ℕ). read_from text i 0 bytes) (omega arith)
passed text offset (suc n) [] le = absurd (omega arith)
passed text offset (suc n) (b ∷ bs) le = passed text (offset + 1) n bs (omega arith) ∙ ap (λ (i : ℕ). read_from text i 0 (drop n bs)) (omega arith)

-- ---- what a lexeme at the front is

abbrev len_in : Result (TokenKind × ℕ) FileCode → ℕ
len_in (Ok found) = found.1
len_in (Err code) = 0

pub found_len : (bytes : List ℕ) (kind : TokenKind) (n : ℕ) → front_of bytes ≡ Ok (kind, n) → n ≡ lexeme_of bytes
found_len bytes kind n e = elim (lexeme_of bytes) as (λ i. known i (kind_of (take i bytes)) ≡ Ok (kind, n) → n ≡ i) [
  | zero ↦ λ h. absurd cc
  | suc i ↦ elim (kind_of (take (suc i) bytes)) as (λ o. known (suc i) o ≡ Ok (kind, n) → n ≡ suc i) [ None ↦ λ h. absurd cc | Some k ↦ λ h. sym (ap len_in h) ]
] e

pub no_newline : (bytes : List ℕ) (n : ℕ) → 0 < n → n ≡ lexeme_of bytes → list_any is_newline (take n bytes) ≡ false
no_newline bytes n lt e = subst (λ (i : ℕ). list_any is_newline (take i bytes) ≡ false) (sym e) (in_lexeme (take (lexeme_of bytes) bytes) ((is_longest is_lexeme bytes).passes (omega arith)))

-- ---- steps of the loop

pub one_front : (list more : List Token) (r : Result (List Token) (FileCode × Place)) → before list (before more r) ≡ before (list ++ more) r
one_front list more (Ok ts) = ap (λ (us : List Token). Ok us) (sym (append_assoc list more ts))
one_front list more (Err fault) = refl

-- white space is passed
pub spaced : (text : List ℕ) (offset b : ℕ) (bs : List ℕ) → is_space b ≡ true → read_from text offset 0 (b ∷ bs) ≡ read_from text (offset + 1) 0 bs
spaced text offset b bs e = rw e refl

-- elsewhere the lexeme decides
lexed : (text : List ℕ) (offset b : ℕ) (bs : List ℕ) → is_space b ≡ false → read_from text offset 0 (b ∷ bs) ≡ read_lexeme text offset (front_of (b ∷ bs)) (λ left. read_from text (offset + 1) left bs)
lexed text offset b bs e = rw e refl

pub stopped : (text : List ℕ) (offset b : ℕ) (bs : List ℕ) (code : FileCode) → is_space b ≡ false → front_of (b ∷ bs) ≡ Err code → read_from text offset 0 (b ∷ bs) ≡ Err (code, place_at text offset)
stopped text offset b bs code e f = lexed text offset b bs e ∙ ap (λ (r : Result (TokenKind × ℕ) FileCode). read_lexeme text offset r (λ left. read_from text (offset + 1) left bs)) f

abbrev pub token_at : List ℕ → ℕ → TokenKind → ℕ → Token
token_at text offset kind n = record { kind = kind; place = place_at text offset; start = offset; end = offset + n }

pub taken : (text : List ℕ) (offset b : ℕ) (bs : List ℕ) (kind : TokenKind) (n : ℕ) → is_space b ≡ false → front_of (b ∷ bs) ≡ Ok (kind, n) → 0 < n → n ≤ length (b ∷ bs)
    → read_from text offset 0 (b ∷ bs) ≡ before (token_at text offset kind n ∷ []) (read_from text (offset + n) 0 (drop n (b ∷ bs)))
taken text offset b bs kind zero e f lt le = absurd (omega arith)
taken text offset b bs kind (suc n) e f lt le =
    lexed text offset b bs e
    ∙ ap (λ (r : Result (TokenKind × ℕ) FileCode). read_lexeme text offset r (λ left. read_from text (offset + 1) left bs)) f
    ∙ ap (λ (i : ℕ). before (token_at text offset kind (suc n) ∷ []) (read_from text (offset + 1) i bs)) (let k : suc n - 1 ≡ n = omega arith in k)
    ∙ ap (λ (r : Result (List Token) (FileCode × Place)). before (token_at text offset kind (suc n) ∷ []) r) (passed text (offset + 1) n bs (omega arith) ∙ ap (λ (i : ℕ). read_from text i 0 (drop n bs)) (omega arith))

-- ---- where the loop stands

pub front_more : (text : List ℕ) (offset n : ℕ) (rest : List ℕ) → rest ≡ drop offset text → take (offset + n) text ≡ take offset text ++ take n rest
front_more text offset n rest e = take-add offset n text ∙ ap (λ (xs : List ℕ). take offset text ++ take n xs) (sym e)

pub behind : (text : List ℕ) (offset n : ℕ) (rest : List ℕ) → rest ≡ drop offset text → drop n rest ≡ drop (offset + n) text
behind text offset n rest e = ap (drop n) e ∙ drop-drop n offset text

-- the tokens so far, with what is read from here on
pub spaced_on : (list : List Token) (text : List ℕ) (offset b : ℕ) (bs rest : List ℕ) (total : Result (List Token) (FileCode × Place)) → rest ≡ b ∷ bs → is_space b ≡ true
    → before list (read_from text offset 0 rest) ≡ total → before list (read_from text (offset + 1) 0 bs) ≡ total
spaced_on list text offset b bs rest total cut e so_far = ap (before list) (sym (spaced text offset b bs e)) ∙ ap (λ (xs : List ℕ). before list (read_from text offset 0 xs)) (sym cut) ∙ so_far

pub taken_on : (list : List Token) (text : List ℕ) (offset b : ℕ) (bs rest : List ℕ) (total : Result (List Token) (FileCode × Place)) (kind : TokenKind) (n : ℕ) → rest ≡ b ∷ bs → is_space b ≡ false
    → Ok (kind, n) ≡ front_of rest → 0 < n → n ≤ length rest → before list (read_from text offset 0 rest) ≡ total
    → before (list ++ token_at text offset kind n ∷ []) (read_from text (offset + n) 0 (drop n rest)) ≡ total
taken_on list text offset b bs rest total kind n cut e found lt le so_far =
    sym (one_front list (token_at text offset kind n ∷ []) (read_from text (offset + n) 0 (drop n rest)))
    ∙ ap (λ (xs : List ℕ). before list (before (token_at text offset kind n ∷ []) (read_from text (offset + n) 0 (drop n xs)))) cut
    ∙ ap (before list) (sym (taken text offset b bs kind n e (ap front_of (sym cut) ∙ sym found) lt (subst (λ (xs : List ℕ). n ≤ length xs) cut le)))
    ∙ ap (λ (xs : List ℕ). before list (read_from text offset 0 xs)) (sym cut) ∙ so_far

pub stopped_on : (list : List Token) (text : List ℕ) (offset b : ℕ) (bs rest : List ℕ) (total : Result (List Token) (FileCode × Place)) (code : FileCode) → rest ≡ b ∷ bs → is_space b ≡ false
    → Err code ≡ front_of rest → before list (read_from text offset 0 rest) ≡ total → total ≡ Err (code, place_at text offset)
stopped_on list text offset b bs rest total code cut e found so_far =
    sym so_far ∙ ap (λ (xs : List ℕ). before list (read_from text offset 0 xs)) cut ∙ ap (before list) (stopped text offset b bs code e (ap front_of (sym cut) ∙ sym found))

pub done_on : (list : List Token) (text : List ℕ) (offset : ℕ) (rest : List ℕ) (total : Result (List Token) (FileCode × Place)) → rest ≡ [] → before list (read_from text offset 0 rest) ≡ total → total ≡ Ok list
done_on list text offset rest total cut so_far = sym so_far ∙ ap (λ (xs : List ℕ). before list (read_from text offset 0 xs)) cut ∙ ap (λ (ts : List Token). Ok ts) (append-nil list)
