-- Each reading is what the function reads.
use Rattle.std.proofs.Common.{◌≡◌, ℕ, zero, suc, ◌+◌, ◌-◌, ◌<◌, ◌≤◌, Bool, true, false, List, [], ◌∷◌, length, take, drop, get_or, Option, Some, None, Result, Ok, Err, refl, sym, ap, subst, ◌∙◌, arith}
use Rattle.std.specs.Prelude.{◌&&◌}
use Rattle.std.specs.List.{list_all}
use Rattle.std.proofs.lemmas.Bool.{and_parts}
use Rattle.std.proofs.lemmas.List.{length-drop, append-nil, drop-drop}
use Rattle.std.proofs.Math.ListN.{drop_of_length-le}
use Rattle.fam_outer.specs.declared.faults.Place.{Place}
use Rattle.fam_outer.specs.declared.faults.FileCode.{FileCode}
use Rattle.fam_outer.specs.declared.faults.FileCode.TheVariants as codes
use Rattle.c_tokens.specs.declared.token.Token.{Token}
use Rattle.c_tokens.specs.declared.token.TokenKind.{TokenKind}
use Rattle.c_words.specs.Bytes.{is_space}
use Rattle.c_tokens.specs.Lexemes.{is_lexeme, IsLongest, lexeme_of, kind_of}
use Rattle.fam_outer.specs.Places.{place_at}
use Rattle.c_tokens.specs.Reading.{IsSpaceBetween, IsTokenIn, StandBetween, IsStray, IsWrongLiteral, HasFault, IsReading, known, front_of, before, read_from, tokens_of}
use Rattle.c_tokens.proofs.Longest.{is_longest, one_longest}
use Rattle.c_tokens.proofs.FirstBytes.{no_space_first}
use Rattle.c_tokens.proofs.Readings.{cons_at}
use Rattle.c_tokens.proofs.Scan.{spaced, taken, stopped, token_at, one_front}

-- what is read from an offset on
abbrev from : List ℕ → ℕ → Result (List Token) (FileCode × Place)
from text offset = read_from text offset 0 (drop offset text)

-- white space is passed
through : (text : List ℕ) (n start end : ℕ) → end ≡ start + n → end ≤ length text → list_all is_space (take n (drop start text)) ≡ true → from text start ≡ from text end
through text zero start end e le s = ap (from text) (let k : start ≡ end = omega arith in k)
through text (suc n) start end e le s =
    let cut = cons_at text start (omega arith) in
    let p = and_parts (is_space (get_or text start 0)) (list_all is_space (take n (drop (start + 1) text))) (subst (λ (xs : List ℕ). list_all is_space (take (suc n) xs) ≡ true) cut s) in
    ap (λ (xs : List ℕ). read_from text start 0 xs) cut
    ∙ spaced text start (get_or text start 0) (drop (start + 1) text) p.0
    ∙ through text n (start + 1) end (omega arith) le p.1

over_space : (text : List ℕ) (start end : ℕ) → IsSpaceBetween text start end → from text start ≡ from text end
over_space text start end s = let o = s.order in through text (end - start) start end (omega arith) s.within s.spaces

-- ---- at a lexeme

begins_within : (text : List ℕ) (offset n : ℕ) → 0 < n → IsLongest is_lexeme n (drop offset text) → offset < length text
begins_within text offset n lt h = let f = h.fits in omega (arith, length-drop offset text)

no_space_at : (text : List ℕ) (offset n : ℕ) → 0 < n → IsLongest is_lexeme n (drop offset text) → is_space (get_or text offset 0) ≡ false
no_space_at text offset n lt h =
    no_space_first (get_or text offset 0) (drop (offset + 1) text) n lt (subst (λ (xs : List ℕ). is_lexeme (take n xs) ≡ true) (cons_at text offset (begins_within text offset n lt h)) (h.passes lt))

length_at : (rest : List ℕ) (n : ℕ) → IsLongest is_lexeme n rest → lexeme_of rest ≡ n
length_at rest n h = one_longest is_lexeme rest (lexeme_of rest) n (is_longest is_lexeme rest) h

front_at : (rest : List ℕ) (n : ℕ) (kind : Option TokenKind) → IsLongest is_lexeme n rest → kind_of (take n rest) ≡ kind → front_of rest ≡ known n kind
front_at rest n kind h e = ap (λ (i : ℕ). known i (kind_of (take i rest))) (length_at rest n h) ∙ ap (known n) e

one_kind : (n : ℕ) (kind : TokenKind) → 0 < n → known n (Some kind) ≡ Ok (kind, n)
one_kind zero kind lt = absurd (omega arith)
one_kind (suc n) kind lt = refl

no_kind : (n : ℕ) → 0 < n → known n None ≡ Err codes.Literal
no_kind zero lt = absurd (omega arith)
no_kind (suc n) lt = refl

-- a token is taken
over_token : (text : List ℕ) (t : Token) → IsTokenIn text t → from text t.start ≡ before (t ∷ []) (from text t.end)
over_token text t h =
    let n = t.end - t.start in
    let lt : 0 < t.end - t.start = (let b = h.begins in omega arith) in
    let cut = cons_at text t.start (begins_within text t.start (t.end - t.start) lt h.longest) in
    let long = subst (λ (xs : List ℕ). IsLongest is_lexeme (t.end - t.start) xs) cut h.longest in
    let end : t.start + (t.end - t.start) ≡ t.end = (let b = h.begins in omega arith) in
    ap (λ (xs : List ℕ). read_from text t.start 0 xs) cut
    ∙ taken text t.start (get_or text t.start 0) (drop (t.start + 1) text) t.kind (t.end - t.start) (no_space_at text t.start (t.end - t.start) lt h.longest)
    (front_at (get_or text t.start 0 ∷ drop (t.start + 1) text) (t.end - t.start) (Some t.kind) long (subst (λ (xs : List ℕ). kind_of (take (t.end - t.start) xs) ≡ Some t.kind) cut h.kind) ∙ one_kind (t.end - t.start) t.kind lt) lt long.fits
    ∙ ap (λ (xs : List ℕ). before (token_at text t.start t.kind (t.end - t.start) ∷ []) (read_from text (t.start + (t.end - t.start)) 0 xs)) (ap (drop (t.end - t.start)) (sym cut) ∙ drop-drop (t.end - t.start) t.start text)
    ∙ ap (λ (i : ℕ). before (record { kind = t.kind; place = place_at text t.start; start = t.start; end = i } ∷ []) (from text i)) end
    ∙ ap (λ (p : Place). before (record { kind = t.kind; place = p; start = t.start; end = t.end } ∷ []) (from text t.end)) (sym h.place)

no_front : (r : Result (List Token) (FileCode × Place)) → r ≡ before [] r
no_front (Ok ts) = refl
no_front (Err fault) = refl

over : (text : List ℕ) (start : ℕ) (ts : List Token) (end : ℕ) → StandBetween text start ts end → from text start ≡ before ts (from text end)
over text start [] end h = over_space text start end h ∙ no_front (from text end)
over text start (t ∷ ts) end h =
    over_space text start t.start h.0 ∙ over_token text t h.1.0
    ∙ ap (before (t ∷ [])) (over text t.end ts end h.1.1)
    ∙ one_front (t ∷ []) ts (from text end)

-- ---- at a fault

only_one : (b : Bool) → (b && true) ≡ false → b ≡ false
only_one true e = e
only_one false e = refl

at_stray : (text : List ℕ) (offset : ℕ) → IsStray text offset → from text offset ≡ Err (codes.StrayByte, place_at text offset)
at_stray text offset h =
    let cut = cons_at text offset h.within in
    let one : (offset + 1) - offset ≡ 1 = omega arith in
    let s : list_all is_space (take 1 (get_or text offset 0 ∷ drop (offset + 1) text)) ≡ false = subst (λ (xs : List ℕ). list_all is_space (take 1 xs) ≡ false) cut (subst (λ (i : ℕ). list_all is_space (take i (drop offset text)) ≡ false) one h.no_space) in
    ap (λ (xs : List ℕ). read_from text offset 0 xs) cut
    ∙ stopped text offset (get_or text offset 0) (drop (offset + 1) text) codes.StrayByte (only_one (is_space (get_or text offset 0)) s)
    (ap (λ (i : ℕ). known i (kind_of (take i (get_or text offset 0 ∷ drop (offset + 1) text)))) (length_at (get_or text offset 0 ∷ drop (offset + 1) text) 0 (subst (λ (xs : List ℕ). IsLongest is_lexeme 0 xs) cut h.none)))

at_literal : (text : List ℕ) (offset len : ℕ) → IsWrongLiteral text offset len → from text offset ≡ Err (codes.Literal, place_at text offset)
at_literal text offset len h =
    let cut = cons_at text offset (begins_within text offset len h.begins h.longest) in
    let n : (offset + len) - offset ≡ len = omega arith in
    let k : kind_of (take len (drop offset text)) ≡ None = subst (λ (i : ℕ). kind_of (take i (drop offset text)) ≡ None) n h.none in
    ap (λ (xs : List ℕ). read_from text offset 0 xs) cut
    ∙ stopped text offset (get_or text offset 0) (drop (offset + 1) text) codes.Literal (no_space_at text offset len h.begins h.longest)
    (ap front_of (sym cut) ∙ front_at (drop offset text) len None h.longest k ∙ no_kind len h.begins)

at_fault : (text : List ℕ) (offset : ℕ) (code : FileCode) → HasFault text offset code → from text offset ≡ Err (code, place_at text offset)
at_fault text offset codes.StrayByte h = at_stray text offset h
at_fault text offset codes.Literal h = at_literal text offset h.0 h.1
at_fault text offset _ h = absurd h

at_end : (text : List ℕ) → from text (length text) ≡ Ok []
at_end text = ap (λ (xs : List ℕ). read_from text (length text) 0 xs) (drop_of_length-le text (let k : length text ≤ length text = omega arith in k))

pub one : (text : List ℕ) (answer : Result (List Token) (FileCode × Place)) → IsReading text answer → answer ≡ tokens_of text
unfolding tokens_of
one text (Ok ts) h = sym (over text 0 ts (length text) h ∙ ap (before ts) (at_end text) ∙ ap (λ (us : List Token). Ok us) (append-nil ts))
one text (Err fault) h = sym (over text 0 h.0 h.1 h.2 ∙ ap (before h.0) (at_fault text h.1 fault.0 h.3) ∙ ap (λ (p : Place). Err (fault.0, p)) (sym h.4))
