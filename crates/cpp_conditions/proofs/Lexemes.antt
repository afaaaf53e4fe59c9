-- One step of the scanner is one step of the spelling.
use Rattle.std.proofs.Common.{◌≡◌, ℕ, suc, ◌<◌, ◌≤◌, ◌+◌, nat_eq, Bool, true, false, not, ◌&&◌, ◌||◌, cond, if◌then◌else◌, List, [], ◌∷◌, ◌++◌, length, take, drop, map, Option, Some, None, option_map, refl, sym, ap, subst, ◌∙◌, append_assoc, arith}
use Rattle.std.proofs.lemmas.Bool.{false≢true, eqb-true}
use Rattle.std.proofs.lemmas.List.{append-nil, map-append}
use Rattle.std.specs.List.{list_all, prefix_len}
use Rattle.c_words.specs.Bytes.{is_gap, is_digit, is_letter, is_alphanumeric, is_nondigit, is_word_byte}
use Rattle.c_words.specs.Identifiers.{is_identifier}
use Rattle.cpp_conditions.specs.Tokens.{Token, Digits, StopsAt, word_token, pair_of, single_of, NoPair, SpellsTokens, none, space, number, word, pair, single}
use Rattle.cpp_conditions.specs.declared.tokens.Token as coded
use Rattle.cpp_conditions.specs.Integers.{is_integer, integer_value, goes_on_behind}
use Rattle.cpp_conditions.proofs.IntegerWords.{integer_letters, integer_digit}
use Rattle.cpp_conditions.specs.Scanning.{token, run, behind, is_whole, number_by, number_at, word_at, mark_by, mark_at, lexeme_at}

-- ---- runs

take_run : (test : ℕ → Bool) (bytes : List ℕ) → take (prefix_len test bytes) bytes ≡ run test bytes
take_run test [] = refl
take_run test (b ∷ bs) = elim (test b) as (λ v. take (cond v (1 + prefix_len test bs) 0) (b ∷ bs) ≡ cond v (b ∷ run test bs) []) [
  | true ↦ (let e : 1 + prefix_len test bs ≡ suc (prefix_len test bs) = omega arith in ap (λ (n : ℕ). take n (b ∷ bs)) e ∙ ap (λ (xs : List ℕ). b ∷ xs) (take_run test bs))
  | false ↦ refl
]

drop_run : (test : ℕ → Bool) (bytes : List ℕ) → drop (prefix_len test bytes) bytes ≡ behind test bytes
drop_run test [] = refl
drop_run test (b ∷ bs) = elim (test b) as (λ v. drop (cond v (1 + prefix_len test bs) 0) (b ∷ bs) ≡ cond v (behind test bs) (b ∷ bs)) [
  | true ↦ (let e : 1 + prefix_len test bs ≡ suc (prefix_len test bs) = omega arith in ap (λ (n : ℕ). drop n (b ∷ bs)) e ∙ drop_run test bs)
  | false ↦ refl
]

run_parts : (test : ℕ → Bool) (bytes : List ℕ) → run test bytes ++ behind test bytes ≡ bytes
run_parts test [] = refl
run_parts test (b ∷ bs) = elim (test b) as (λ v. cond v (b ∷ run test bs) [] ++ cond v (behind test bs) (b ∷ bs) ≡ b ∷ bs) [
  | true ↦ ap (λ (xs : List ℕ). b ∷ xs) (run_parts test bs)
  | false ↦ refl
]

run_passes : (test : ℕ → Bool) (bytes : List ℕ) → list_all test (run test bytes) ≡ true
run_passes test [] = refl
run_passes test (b ∷ bs) = elim (test b) as (λ v. test b ≡ v → list_all test (cond v (b ∷ run test bs) []) ≡ true) [
  | true ↦ λ e. rw e (run_passes test bs)
  | false ↦ λ e. refl
] refl

run_stops : (test : ℕ → Bool) (bytes : List ℕ) → StopsAt test (behind test bytes)
run_stops test [] = tt
run_stops test (b ∷ bs) = elim (test b) as (λ v. test b ≡ v → StopsAt test (cond v (behind test bs) (b ∷ bs))) [
  | true ↦ λ e. run_stops test bs
  | false ↦ λ e. e
] refl

and_left : (a b : Bool) → (a && b) ≡ true → a ≡ true
and_left true b e = refl
and_left false b e = e

and_right : (a b : Bool) → (a && b) ≡ true → b ≡ true
and_right true b e = e
and_right false b e = absurd (false≢true e)

-- a front of bytes that pass, where the next does not, is the run
whole_run : (test : ℕ → Bool) (ds bs : List ℕ) → list_all test ds ≡ true → StopsAt test bs → run test (ds ++ bs) ≡ ds
whole_run test [] [] h s = refl
whole_run test [] (b ∷ bs) h s = rw s refl
whole_run test (d ∷ ds) bs h s = let p = and_left (test d) (list_all test ds) h in rw p (ap (λ (xs : List ℕ). d ∷ xs) (whole_run test ds bs (and_right (test d) (list_all test ds) h) s))

behind_run : (test : ℕ → Bool) (ds bs : List ℕ) → list_all test ds ≡ true → StopsAt test bs → behind test (ds ++ bs) ≡ bs
behind_run test [] [] h s = refl
behind_run test [] (b ∷ bs) h s = rw s refl
behind_run test (d ∷ ds) bs h s = let p = and_left (test d) (list_all test ds) h in rw p (behind_run test ds bs (and_right (test d) (list_all test ds) h) s)

-- ---- kinds of bytes

weaker_all : (p q : ℕ → Bool) → ((b : ℕ) → p b ≡ true → q b ≡ true) → (bs : List ℕ) → list_all p bs ≡ true → list_all q bs ≡ true
weaker_all p q f [] h = refl
weaker_all p q f (b ∷ bs) h = rw (f b (and_left (p b) (list_all p bs) h)) (weaker_all p q f bs (and_right (p b) (list_all p bs) h))

or_right : (a b : Bool) → b ≡ true → (a || b) ≡ true
or_right true b e = refl
or_right false b e = e

not_true : (a : Bool) → not a ≡ true → a ≡ false
not_true true e = absurd (false≢true e)
not_true false e = refl

or_left : (a b : Bool) → a ≡ true → (a || b) ≡ true
or_left true b e = refl
or_left false b e = absurd (false≢true e)

digit_space : (b : ℕ) → is_digit b ≡ true → is_gap b ≡ false
digit_space b h = grind arith

first_space : (b : ℕ) → is_nondigit b ≡ true → is_gap b ≡ false
first_space b h = grind arith

first_digit : (b : ℕ) → is_nondigit b ≡ true → is_digit b ≡ false
first_digit b h = grind arith

-- ---- marks

record IsOther (b : ℕ) : Type 0 where
  pub no_space : is_gap b ≡ false
  pub no_digit : is_digit b ≡ false
  pub no_first : is_nondigit b ≡ false

chosen : {P : Type 0} (x : Bool) (t a : Token) (o : Option Token) → (if x then Some a else o) ≡ Some t → (x ≡ true → P) → (o ≡ Some t → P) → P
chosen true t a o h f g = f refl
chosen false t a o h f g = g h

is_byte : (b n : ℕ) → IsOther n → nat_eq b n ≡ true → IsOther b
is_byte b n other h = subst IsOther (sym (eqb-true b n h)) other

is_front : (b n c m : ℕ) → IsOther n → (nat_eq b n && nat_eq c m) ≡ true → IsOther b
is_front b n c m other h = is_byte b n other (and_left (nat_eq b n) (nat_eq c m) h)

single_other : (b : ℕ) (t : Token) → single_of b ≡ Some t → IsOther b
single_other b t h =
    chosen (nat_eq b 40) t _ _ h (is_byte b 40 (record { no_space = refl; no_digit = refl; no_first = refl })) λ h.
    chosen (nat_eq b 41) t _ _ h (is_byte b 41 (record { no_space = refl; no_digit = refl; no_first = refl })) λ h.
    chosen (nat_eq b 33) t _ _ h (is_byte b 33 (record { no_space = refl; no_digit = refl; no_first = refl })) λ h.
    chosen (nat_eq b 60) t _ _ h (is_byte b 60 (record { no_space = refl; no_digit = refl; no_first = refl })) λ h.
    chosen (nat_eq b 62) t _ _ h (is_byte b 62 (record { no_space = refl; no_digit = refl; no_first = refl })) λ h.
    chosen (nat_eq b 43) t _ _ h (is_byte b 43 (record { no_space = refl; no_digit = refl; no_first = refl })) λ h.
    chosen (nat_eq b 45) t _ _ h (is_byte b 45 (record { no_space = refl; no_digit = refl; no_first = refl })) λ h.
    chosen (nat_eq b 42) t _ _ h (is_byte b 42 (record { no_space = refl; no_digit = refl; no_first = refl })) λ h. absurd cc

pair_other : (b c : ℕ) (t : Token) → pair_of b c ≡ Some t → IsOther b
pair_other b c t h =
    chosen (nat_eq b 38 && nat_eq c 38) t _ _ h (is_front b 38 c 38 (record { no_space = refl; no_digit = refl; no_first = refl })) λ h.
    chosen (nat_eq b 124 && nat_eq c 124) t _ _ h (is_front b 124 c 124 (record { no_space = refl; no_digit = refl; no_first = refl })) λ h.
    chosen (nat_eq b 61 && nat_eq c 61) t _ _ h (is_front b 61 c 61 (record { no_space = refl; no_digit = refl; no_first = refl })) λ h.
    chosen (nat_eq b 33 && nat_eq c 61) t _ _ h (is_front b 33 c 61 (record { no_space = refl; no_digit = refl; no_first = refl })) λ h.
    chosen (nat_eq b 60 && nat_eq c 61) t _ _ h (is_front b 60 c 61 (record { no_space = refl; no_digit = refl; no_first = refl })) λ h.
    chosen (nat_eq b 62 && nat_eq c 61) t _ _ h (is_front b 62 c 61 (record { no_space = refl; no_digit = refl; no_first = refl })) λ h.
    chosen (nat_eq b 43 && nat_eq c 43) t _ _ h (is_front b 43 c 43 (record { no_space = refl; no_digit = refl; no_first = refl })) λ h.
    chosen (nat_eq b 45 && nat_eq c 45) t _ _ h (is_front b 45 c 45 (record { no_space = refl; no_digit = refl; no_first = refl })) λ h. absurd cc

-- ---- the token at the front

lexeme_number : (d : ℕ) (ds bs : List ℕ) → is_integer (d ∷ ds) ≡ true → StopsAt is_alphanumeric bs → goes_on_behind (d ∷ ds) bs ≡ false → lexeme_at d (ds ++ bs) ≡ Some (Digits (integer_value (d ∷ ds)), bs)
lexeme_number d ds bs h s n =
    let all = integer_letters (d ∷ ds) h in
    let digit = integer_digit d ds h in
    let is = whole_run is_alphanumeric (d ∷ ds) bs all s in
    let rest = behind_run is_alphanumeric (d ∷ ds) bs all s in
    ap (λ (x : Bool). if x then number_at (d ∷ (ds ++ bs)) else (if is_nondigit d then word_at (d ∷ (ds ++ bs)) else mark_at d (ds ++ bs))) digit
    ∙ ap (λ (xs : List ℕ). number_by (is_whole xs (behind is_alphanumeric (d ∷ (ds ++ bs)))) xs (behind is_alphanumeric (d ∷ (ds ++ bs)))) is
    ∙ ap (λ (xs : List ℕ). number_by (is_whole (d ∷ ds) xs) (d ∷ ds) xs) rest
    ∙ ap (λ (x : Bool). number_by (x && not (goes_on_behind (d ∷ ds) bs)) (d ∷ ds) bs) h
    ∙ ap (λ (x : Bool). number_by (not x) (d ∷ ds) bs) n

lexeme_word : (d : ℕ) (ds bs : List ℕ) → is_identifier (d ∷ ds) ≡ true → StopsAt is_word_byte bs → lexeme_at d (ds ++ bs) ≡ Some (word_token (d ∷ ds), bs)
lexeme_word d ds bs h s =
    let first = and_left (is_nondigit d) (list_all is_word_byte ds) h in
    let all : list_all is_word_byte (d ∷ ds) ≡ true = rw (or_left (is_nondigit d) (is_digit d) first) (and_right (is_nondigit d) (list_all is_word_byte ds) h) in
    ap (λ (x : Bool). if x then number_at (d ∷ (ds ++ bs)) else (if is_nondigit d then word_at (d ∷ (ds ++ bs)) else mark_at d (ds ++ bs))) (first_digit d first)
    ∙ ap (λ (x : Bool). if x then word_at (d ∷ (ds ++ bs)) else mark_at d (ds ++ bs)) first
    ∙ ap (λ (xs : List ℕ). Some (word_token xs, behind is_word_byte (d ∷ (ds ++ bs)))) (whole_run is_word_byte (d ∷ ds) bs all s)
    ∙ ap (λ (xs : List ℕ). Some (word_token (d ∷ ds), xs)) (behind_run is_word_byte (d ∷ ds) bs all s)

lexeme_other : (b : ℕ) (bs : List ℕ) → IsOther b → lexeme_at b bs ≡ mark_at b bs
lexeme_other b bs o =
    ap (λ (x : Bool). if x then number_at (b ∷ bs) else (if is_nondigit b then word_at (b ∷ bs) else mark_at b bs)) o.no_digit
    ∙ ap (λ (x : Bool). if x then word_at (b ∷ bs) else mark_at b bs) o.no_first

lexeme_pair : (b c : ℕ) (t : Token) (bs : List ℕ) → pair_of b c ≡ Some t → lexeme_at b (c ∷ bs) ≡ Some (t, bs)
lexeme_pair b c t bs h = lexeme_other b (c ∷ bs) (pair_other b c t h) ∙ ap (λ (o : Option Token). mark_by o b c bs) h

mark_single : (b : ℕ) (t : Token) (bs : List ℕ) → single_of b ≡ Some t → NoPair b bs → mark_at b bs ≡ Some (t, bs)
mark_single b t [] h n = ap (option_map (λ t. (t, []))) h
mark_single b t (c ∷ bs) h n = ap (λ (o : Option Token). mark_by o b c bs) n ∙ ap (option_map (λ t. (t, c ∷ bs))) h

lexeme_single : (b : ℕ) (t : Token) (bs : List ℕ) → single_of b ≡ Some t → NoPair b bs → lexeme_at b bs ≡ Some (t, bs)
lexeme_single b t bs h n = lexeme_other b bs (single_other b t h) ∙ mark_single b t bs h n

-- ---- steps

-- what is left of a list of tokens behind white space or the token at the front
abbrev pub Follows : Option (Token × List ℕ) → List Token → Type 0
Follows None ts = ⊥
Follows (Some x) ts = (us : List Token) × (ts ≡ x.0 ∷ us) × SpellsTokens x.1 us

abbrev NextBy : Bool → Option (Token × List ℕ) → List ℕ → List Token → Type 0
NextBy true o bs ts = SpellsTokens bs ts
NextBy false o bs ts = Follows o ts

abbrev Next : List ℕ → List Token → Type 0
Next [] ts = ts ≡ []
Next (b ∷ bs) ts = NextBy (is_gap b) (lexeme_at b bs) bs ts

followed : (b : ℕ) (bs rest : List ℕ) (t : Token) (ts : List Token) → is_gap b ≡ false → lexeme_at b bs ≡ Some (t, rest) → SpellsTokens rest ts → Next (b ∷ bs) (t ∷ ts)
followed b bs rest t ts h e s = subst (λ (x : Bool). NextBy x (lexeme_at b bs) bs (t ∷ ts)) (sym h) (subst (λ (o : Option (Token × List ℕ)). Follows o (t ∷ ts)) (sym e) (ts, refl, s))

steps : {bytes : List ℕ} {ts : List Token} → SpellsTokens bytes ts → Next bytes ts
steps none = refl
steps (space b {bs} {ts} h s) = subst (λ (x : Bool). NextBy x (lexeme_at b bs) bs ts) (sym h) s
steps (number [] h n o s) = absurd (false≢true h)
steps (number (d ∷ ds) {bs} {ts} h n o s) = followed d (ds ++ bs) bs _ ts (digit_space d (integer_digit d ds h)) (lexeme_number d ds bs h n o) s
steps (word [] h n s) = absurd (false≢true h)
steps (word (d ∷ ds) {bs} {ts} h n s) = followed d (ds ++ bs) bs _ ts (first_space d (and_left (is_nondigit d) (list_all is_word_byte ds) h)) (lexeme_word d ds bs h n) s
steps (pair b c t {bs} {ts} h s) = followed b (c ∷ bs) bs t ts (pair_other b c t h).no_space (lexeme_pair b c t bs h) s
steps (single b t {bs} {ts} h n s) = followed b bs bs t ts (single_other b t h).no_space (lexeme_single b t bs h n) s

pub spaced : (b : ℕ) (bs : List ℕ) (ts : List Token) → is_gap b ≡ true → SpellsTokens (b ∷ bs) ts → SpellsTokens bs ts
spaced b bs ts h s = subst (λ (x : Bool). NextBy x (lexeme_at b bs) bs ts) h (steps s)

-- ---- bytes spell at most one list of tokens

same_rest : (b : ℕ) (bs rest : List ℕ) (t : Token) (ts us : List Token) → is_gap b ≡ false → lexeme_at b bs ≡ Some (t, rest) → ((vs : List Token) → SpellsTokens rest vs → ts ≡ vs) → SpellsTokens (b ∷ bs) us → t ∷ ts ≡ us
same_rest b bs rest t ts us h e same s =
    let n : NextBy false (Some (t, rest)) bs us = subst (λ (o : Option (Token × List ℕ)). NextBy false o bs us) e (subst (λ (x : Bool). NextBy x (lexeme_at b bs) bs us) h (steps s)) in
    ap (λ (xs : List Token). t ∷ xs) (same n.0 n.2) ∙ sym n.1

pub one_list : {bytes : List ℕ} {ts : List Token} → SpellsTokens bytes ts → (us : List Token) → SpellsTokens bytes us → ts ≡ us
one_list none us t = sym (steps t)
one_list (space b {bs} {ts} h s) us t = one_list s us (spaced b bs us h t)
one_list (number [] h n o s) us t = absurd (false≢true h)
one_list (number (d ∷ ds) {bs} {ts} h n o s) us t = same_rest d (ds ++ bs) bs _ ts us (digit_space d (integer_digit d ds h)) (lexeme_number d ds bs h n o) (one_list s) t
one_list (word [] h n s) us t = absurd (false≢true h)
one_list (word (d ∷ ds) {bs} {ts} h n s) us t = same_rest d (ds ++ bs) bs _ ts us (first_space d (and_left (is_nondigit d) (list_all is_word_byte ds) h)) (lexeme_word d ds bs h n) (one_list s) t
one_list (pair b c p {bs} {ts} h s) us t = same_rest b (c ∷ bs) bs p ts us (pair_other b c p h).no_space (lexeme_pair b c p bs h) (one_list s) t
one_list (single b p {bs} {ts} h n s) us t = same_rest b bs bs p ts us (single_other b p h).no_space (lexeme_single b p bs h n) (one_list s) t

-- ---- what the scanner takes is spelled

made_number : (b : ℕ) (bs : List ℕ) (ts : List Token) (v : Bool) → is_whole (run is_alphanumeric (b ∷ bs)) (behind is_alphanumeric (b ∷ bs)) ≡ v
    → Follows (number_by v (run is_alphanumeric (b ∷ bs)) (behind is_alphanumeric (b ∷ bs))) ts → SpellsTokens (b ∷ bs) ts
made_number b bs ts false e f = absurd f
made_number b bs ts true e f =
    let word = run is_alphanumeric (b ∷ bs) in
    let rest = behind is_alphanumeric (b ∷ bs) in
    subst (λ (us : List Token). SpellsTokens (b ∷ bs) us) (sym f.1) (subst (λ (xs : List ℕ). SpellsTokens xs (Digits (integer_value (run is_alphanumeric (b ∷ bs))) ∷ f.0)) (run_parts is_alphanumeric (b ∷ bs))
    (number (run is_alphanumeric (b ∷ bs)) (and_left (is_integer word) (not (goes_on_behind word rest)) e) (run_stops is_alphanumeric (b ∷ bs))
    (not_true (goes_on_behind word rest) (and_right (is_integer word) (not (goes_on_behind word rest)) e)) f.2))

identifies : (b : ℕ) (bs : List ℕ) → is_nondigit b ≡ true → is_identifier (run is_word_byte (b ∷ bs)) ≡ true
identifies b bs h = rw (or_left (is_nondigit b) (is_digit b) h) (rw h (run_passes is_word_byte bs))

made_word : (b : ℕ) (bs : List ℕ) (ts : List Token) → is_nondigit b ≡ true → Follows (word_at (b ∷ bs)) ts → SpellsTokens (b ∷ bs) ts
made_word b bs ts h f =
    subst (λ (us : List Token). SpellsTokens (b ∷ bs) us) (sym f.1) (subst (λ (xs : List ℕ). SpellsTokens xs (word_token (run is_word_byte (b ∷ bs)) ∷ f.0)) (run_parts is_word_byte (b ∷ bs))
    (word (run is_word_byte (b ∷ bs)) (identifies b bs h) (run_stops is_word_byte (b ∷ bs)) f.2))

made_single : (b : ℕ) (bs : List ℕ) (ts : List Token) (o : Option Token) → single_of b ≡ o → NoPair b bs → Follows (option_map (λ t. (t, bs)) o) ts → SpellsTokens (b ∷ bs) ts
made_single b bs ts None e n f = absurd f
made_single b bs ts (Some t) e n f = subst (λ (us : List Token). SpellsTokens (b ∷ bs) us) (sym f.1) (single b t e n f.2)

made_pair : (b c : ℕ) (bs : List ℕ) (ts : List Token) (o : Option Token) → pair_of b c ≡ o → Follows (mark_by o b c bs) ts → SpellsTokens (b ∷ c ∷ bs) ts
made_pair b c bs ts (Some t) e f = subst (λ (us : List Token). SpellsTokens (b ∷ c ∷ bs) us) (sym f.1) (pair b c t e f.2)
made_pair b c bs ts None e f = made_single b (c ∷ bs) ts (single_of b) refl e f

made_mark : (b : ℕ) (bs : List ℕ) (ts : List Token) → Follows (mark_at b bs) ts → SpellsTokens (b ∷ bs) ts
made_mark b [] ts f = made_single b [] ts (single_of b) refl tt f
made_mark b (c ∷ bs) ts f = made_pair b c bs ts (pair_of b c) refl f

made_other : (b : ℕ) (bs : List ℕ) (ts : List Token) (v : Bool) → is_nondigit b ≡ v → Follows (if v then word_at (b ∷ bs) else mark_at b bs) ts → SpellsTokens (b ∷ bs) ts
made_other b bs ts true e f = made_word b bs ts e f
made_other b bs ts false e f = made_mark b bs ts f

made_by : (b : ℕ) (bs : List ℕ) (ts : List Token) (v : Bool) → is_digit b ≡ v → Follows (if v then number_at (b ∷ bs) else (if is_nondigit b then word_at (b ∷ bs) else mark_at b bs)) ts → SpellsTokens (b ∷ bs) ts
made_by b bs ts true e f = made_number b bs ts (is_whole (run is_alphanumeric (b ∷ bs)) (behind is_alphanumeric (b ∷ bs))) refl f
made_by b bs ts false e f = made_other b bs ts (is_nondigit b) refl f

pub made : (b : ℕ) (bs : List ℕ) (ts : List Token) → Follows (lexeme_at b bs) ts → SpellsTokens (b ∷ bs) ts
made b bs ts f = made_by b bs ts (is_digit b) refl f

behind_le : (test : ℕ → Bool) (bytes : List ℕ) → length (behind test bytes) ≤ length bytes
behind_le test [] = omega arith
behind_le test (b ∷ bs) = let h = behind_le test bs in elim (test b) as (λ v. length (cond v (behind test bs) (b ∷ bs)) ≤ length (b ∷ bs)) [ true ↦ omega arith | false ↦ omega arith ]

behind_first : (test : ℕ → Bool) (b : ℕ) (bs : List ℕ) → test b ≡ true → length (behind test (b ∷ bs)) ≤ length bs
behind_first test b bs h = rw h (behind_le test bs)

abbrev Shortens : ℕ → Option (Token × List ℕ) → Type 0
Shortens n None = Unit {0}
Shortens n (Some x) = length x.1 ≤ n

shorter_single : (o : Option Token) (bs : List ℕ) → Shortens (length bs) (option_map (λ t. (t, bs)) o)
shorter_single None bs = tt
shorter_single (Some t) bs = omega arith

shorter_pair : (o : Option Token) (b c : ℕ) (bs : List ℕ) → Shortens (length (c ∷ bs)) (mark_by o b c bs)
shorter_pair None b c bs = shorter_single (single_of b) (c ∷ bs)
shorter_pair (Some t) b c bs = omega arith

shorter_mark : (b : ℕ) (bs : List ℕ) → Shortens (length bs) (mark_at b bs)
shorter_mark b [] = shorter_single (single_of b) []
shorter_mark b (c ∷ bs) = shorter_pair (pair_of b c) b c bs

shorter_number : (v : Bool) (ds after : List ℕ) (n : ℕ) → length after ≤ n → Shortens n (number_by v ds after)
shorter_number true ds after n h = h
shorter_number false ds after n h = tt

shorter_other : (v : Bool) (b : ℕ) (bs : List ℕ) → is_nondigit b ≡ v → Shortens (length bs) (if v then word_at (b ∷ bs) else mark_at b bs)
shorter_other true b bs e = behind_first is_word_byte b bs (or_left (is_nondigit b) (is_digit b) e)
shorter_other false b bs e = shorter_mark b bs

shorter_by : (v : Bool) (b : ℕ) (bs : List ℕ) → is_digit b ≡ v → Shortens (length bs) (if v then number_at (b ∷ bs) else (if is_nondigit b then word_at (b ∷ bs) else mark_at b bs))
shorter_by true b bs e = shorter_number (is_whole (run is_alphanumeric (b ∷ bs)) (behind is_alphanumeric (b ∷ bs))) (run is_alphanumeric (b ∷ bs)) (behind is_alphanumeric (b ∷ bs)) (length bs) (behind_first is_alphanumeric b bs (or_right (is_letter b) (is_digit b) e))
shorter_by false b bs e = shorter_other (is_nondigit b) b bs refl

pub shorter : (b : ℕ) (bs after rest : List ℕ) (t : Token) → rest ≡ b ∷ bs → Some (t, after) ≡ lexeme_at b bs → length after < length rest
shorter b bs after rest t cut e =
    let h : length after ≤ length bs = subst (Shortens (length bs)) (sym e) (shorter_by (is_digit b) b bs refl) in
    omega (arith, ap length cut)

-- ---- where the loop stands

pub record Scanning (bytes : List ℕ) (done : List Token) (rest : List ℕ) : Type 0 where
  pub forward : (us : List Token) → SpellsTokens rest us → SpellsTokens bytes (done ++ us)
  pub back : (ts : List Token) → SpellsTokens bytes ts → (us : List Token) × SpellsTokens rest us

pub scanning_space : (bytes rest bs : List ℕ) (done : List Token) (b : ℕ) → Scanning bytes done rest → rest ≡ b ∷ bs → is_gap b ≡ true → Scanning bytes done bs
scanning_space bytes rest bs done b so_far cut h = record {
  forward = λ us s. so_far.forward us (subst (λ (xs : List ℕ). SpellsTokens xs us) (sym cut) (space b h s));
  back = λ ts s.
      let r = so_far.back ts s in
      (r.0, spaced b bs r.0 h (subst (λ (xs : List ℕ). SpellsTokens xs r.0) cut r.1));
}

pub lexed : (b : ℕ) (bs : List ℕ) (ts : List Token) (o : Option (Token × List ℕ)) → is_gap b ≡ false → lexeme_at b bs ≡ o → SpellsTokens (b ∷ bs) ts → Follows o ts
lexed b bs ts o h e s = subst (λ (o : Option (Token × List ℕ)). Follows o ts) e (subst (λ (x : Bool). NextBy x (lexeme_at b bs) bs ts) h (steps s))

pub scanning_token : (bytes rest bs after : List ℕ) (done : List Token) (t : Token) (b : ℕ) → Scanning bytes done rest → rest ≡ b ∷ bs → is_gap b ≡ false → Some (t, after) ≡ lexeme_at b bs → Scanning bytes (done ++ t ∷ []) after
scanning_token bytes rest bs after done t b so_far cut h e = record {
  forward = λ us s.
      subst (λ (xs : List Token). SpellsTokens bytes xs) (sym (append_assoc done (t ∷ []) us))
      (so_far.forward (t ∷ us) (subst (λ (xs : List ℕ). SpellsTokens xs (t ∷ us)) (sym cut) (made b bs (t ∷ us) (subst (λ (o : Option (Token × List ℕ)). Follows o (t ∷ us)) e (us, refl, s)))));
  back = λ ts s.
      let r = so_far.back ts s in
      let f : Follows (Some (t, after)) r.0 = lexed b bs r.0 (Some (t, after)) h (sym e) (subst (λ (xs : List ℕ). SpellsTokens xs r.0) cut r.1) in
      (f.0, f.2);
}

pub scanning_wrong : (bytes rest bs : List ℕ) (done : List Token) (b : ℕ) → Scanning bytes done rest → rest ≡ b ∷ bs → is_gap b ≡ false → None ≡ lexeme_at b bs → (ts : List Token) → SpellsTokens bytes ts → ⊥
scanning_wrong bytes rest bs done b so_far cut h e ts s =
    let r = so_far.back ts s in lexed b bs r.0 None h (sym e) (subst (λ (xs : List ℕ). SpellsTokens xs r.0) cut r.1)

pub scanning_all : (bytes rest : List ℕ) (done : List Token) → Scanning bytes done rest → rest ≡ [] → SpellsTokens bytes done
scanning_all bytes rest done so_far cut = subst (λ (xs : List Token). SpellsTokens bytes xs) (append-nil done) (so_far.forward [] (subst (λ (xs : List ℕ). SpellsTokens xs []) (sym cut) none))

pub scanning_pushed : (bytes after : List ℕ) (list pushed : List coded.Token) (t : coded.Token) → pushed ≡ list ++ t ∷ [] → Scanning bytes (map token list ++ token t ∷ []) after → Scanning bytes (map token pushed) after
scanning_pushed bytes after list pushed t e so_far = subst (λ (xs : List Token). Scanning bytes xs after) (sym (ap (map token) e ∙ map-append token list (t ∷ []))) so_far

-- ---- parts of the scanner

pub number_taken : (bytes ds rest : List ℕ) (n : ℕ) → n ≡ prefix_len is_alphanumeric bytes → ds ≡ take n bytes → rest ≡ drop n bytes → number_by (is_whole ds rest) ds rest ≡ number_at bytes
number_taken bytes ds rest n e f g =
    let p : ds ≡ run is_alphanumeric bytes = f ∙ ap (λ (i : ℕ). take i bytes) e ∙ take_run is_alphanumeric bytes in
    let q : rest ≡ behind is_alphanumeric bytes = g ∙ ap (λ (i : ℕ). drop i bytes) e ∙ drop_run is_alphanumeric bytes in
    ap (λ (xs : List ℕ). number_by (is_whole xs rest) xs rest) p ∙ ap (λ (xs : List ℕ). number_by (is_whole (run is_alphanumeric bytes) xs) (run is_alphanumeric bytes) xs) q

pub word_taken : (bytes name rest : List ℕ) (n : ℕ) (t : Token) → t ≡ word_token name → n ≡ prefix_len is_word_byte bytes → name ≡ take n bytes → rest ≡ drop n bytes → Some (t, rest) ≡ word_at bytes
word_taken bytes name rest n t h e f g =
    let p : name ≡ run is_word_byte bytes = f ∙ ap (λ (i : ℕ). take i bytes) e ∙ take_run is_word_byte bytes in
    let q : rest ≡ behind is_word_byte bytes = g ∙ ap (λ (i : ℕ). drop i bytes) e ∙ drop_run is_word_byte bytes in
    ap (λ (u : Token). Some (u, rest)) h ∙ ap (λ (xs : List ℕ). Some (word_token xs, rest)) p ∙ ap (λ (xs : List ℕ). Some (word_token (run is_word_byte bytes), xs)) q
