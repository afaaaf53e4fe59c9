-- The items of a text by those of its lines.
use Rattle.std.proofs.Common.{◌≡◌, ℕ, zero, suc, ◌+◌, ◌-◌, ◌≤◌, false, List, [], ◌∷◌, ◌++◌, length, map, take, drop, Result, Ok, Err, refl, sym, ap, ◌∙◌, arith}
use Rattle.std.specs.List.{list_any}
use Rattle.std.specs.Prelude.{count_by}
use Rattle.std.proofs.lemmas.List.{append-nil, map-append, take-append-le, drop-drop}
use Rattle.fam_outer.specs.declared.faults.Place.{Place}
use Rattle.fam_outer.specs.declared.faults.FileCode.{FileCode}
use Rattle.fam_outer.specs.Places.{is_newline}
use Rattle.fam_outer.proofs.Placing.{none_counted}
use Rattle.c_tokens.specs.declared.token.Token.{Token}
use Rattle.c_tokens.specs.Reading.{tokens_of, slice}
use Rattle.c_tokens.specs.Lines.{lower_place, lower_token, line_behind}
use Rattle.c_grammar.specs.declared.items.Item.{Item}
use Rattle.c_grammar.specs.Grammar.{at}
use Rattle.cpp_lines.specs.Lines.{pieces}
use Rattle.cpp_lines.proofs.Coding.{not_none, last_piece, next_piece}
use Rattle.cpp_lines.proofs.Listing.{behind_line}
use Rattle.c_parser.specs.Items.{sign_of, lexeme_in, item_over, items_over}
use Rattle.c_parser.specs.Signing.{AreWithin}
use Rattle.c_parser.proofs.Lexical.{TokenLaws, tokens_within}

-- what a law of tokens says of lines
abbrev pub LinesApart : Type 0
LinesApart = (line rest : List ℕ) → tokens_of (line ++ 10 ∷ rest) ≡ line_behind line (tokens_of line) (tokens_of rest)

-- an item that many lines below
abbrev pub item_below : ℕ → Item → Item
item_below n x = at (lower_place n x.place) x.sign

-- the items of a text alone, where it has tokens
abbrev pub alone_of : List (List ℕ) → List (List ℕ) → List ℕ → Result (List Token) (FileCode × Place) → List Item
alone_of functions names text (Ok ts) = items_over functions names text ts
alone_of functions names text (Err fault) = []

abbrev pub alone : List (List ℕ) → List (List ℕ) → List ℕ → List Item
alone functions names text = alone_of functions names text (tokens_of text)

-- the items of lines, the first that many lines below
abbrev pub by_piece : List (List ℕ) → List (List ℕ) → ℕ → List (List ℕ) → List Item
by_piece functions names n [] = []
by_piece functions names n (p ∷ ps) = map (item_below n) (alone functions names p) ++ by_piece functions names (n + 1) ps

-- ---- lexemes of lines

drop_front : (s : ℕ) (xs ys : List ℕ) → s ≤ length xs → drop s (xs ++ ys) ≡ drop s xs ++ ys
drop_front zero xs ys h = refl
drop_front (suc s) [] ys h = absurd (omega arith)
drop_front (suc s) (x ∷ xs) ys h = drop_front s xs ys (omega arith)

left_of : (s : ℕ) (xs : List ℕ) → s ≤ length xs → length (drop s xs) + s ≡ length xs
left_of zero xs h = omega arith
left_of (suc s) [] h = absurd (omega arith)
left_of (suc s) (x ∷ xs) h = omega (arith, left_of s xs (omega arith))

slice_front : (xs ys : List ℕ) (s e : ℕ) → s ≤ e → e ≤ length xs → slice (xs ++ ys) s e ≡ slice xs s e
slice_front xs ys s e h k =
    ap (take (e - s)) (drop_front s xs ys (omega arith)) ∙ take-append-le (e - s) (drop s xs) ys (omega (arith, left_of s xs (omega arith)))

slice_behind : (line rest : List ℕ) (s e : ℕ) → slice (line ++ 10 ∷ rest) (s + (length line + 1)) (e + (length line + 1)) ≡ slice rest s e
slice_behind line rest s e =
    let n : (e + (length line + 1)) - (s + (length line + 1)) ≡ e - s = omega arith in
    let m : s + (length line + 1) ≡ (length line + 1) + s = omega arith in
    ap (λ (k : ℕ). take k (drop (s + (length line + 1)) (line ++ 10 ∷ rest))) n
    ∙ ap (λ (k : ℕ). take (e - s) (drop k (line ++ 10 ∷ rest))) m
    ∙ ap (take (e - s)) (sym (drop-drop s (length line + 1) (line ++ 10 ∷ rest)) ∙ ap (drop s) (behind_line line rest))

-- ---- items of lines

items_front : (functions names : List (List ℕ)) (line ys : List ℕ) (ts : List Token) → AreWithin (length line) ts → items_over functions names (line ++ ys) ts ≡ items_over functions names line ts
items_front functions names line ys [] h = refl
items_front functions names line ys (t ∷ ts) h =
    ap (λ (w : List ℕ). at t.place (sign_of functions names t.kind w) ∷ items_over functions names (line ++ ys) ts) (slice_front line ys t.start t.end h.0.0 h.0.1)
    ∙ ap (λ (xs : List Item). at t.place (sign_of functions names t.kind (lexeme_in line t)) ∷ xs) (items_front functions names line ys ts h.1)

items_behind : (functions names : List (List ℕ)) (line rest : List ℕ) (n : ℕ) (ts : List Token) → items_over functions names (line ++ 10 ∷ rest) (map (lower_token n (length line + 1)) ts) ≡ map (item_below n) (items_over functions names rest ts)
items_behind functions names line rest n [] = refl
items_behind functions names line rest n (t ∷ ts) =
    ap (λ (w : List ℕ). at (lower_place n t.place) (sign_of functions names t.kind w) ∷ items_over functions names (line ++ 10 ∷ rest) (map (lower_token n (length line + 1)) ts)) (slice_behind line rest t.start t.end)
    ∙ ap (λ (xs : List Item). at (lower_place n t.place) (sign_of functions names t.kind (lexeme_in rest t)) ∷ xs) (items_behind functions names line rest n ts)

further_below : (n : ℕ) (xs : List Item) → map (item_below n) (map (item_below 1) xs) ≡ map (item_below (n + 1)) xs
further_below n [] = refl
further_below n (x ∷ xs) =
    let e : x.place.line + 1 + n ≡ x.place.line + (n + 1) = omega arith in
    ap (λ (i : ℕ). at (record { line = i; column = x.place.column }) x.sign ∷ map (item_below n) (map (item_below 1) xs)) e
    ∙ ap (λ (ys : List Item). item_below (n + 1) x ∷ ys) (further_below n xs)

-- the value of an `Ok`
abbrev got : List Token → Result (List Token) (FileCode × Place) → List Token
got ts (Ok us) = us
got ts (Err fault) = ts

two_lines : (functions : List (List ℕ)) → TokenLaws → (names : List (List ℕ)) (line rest : List ℕ) (n : ℕ) (ts : List Token) (r q : Result (List Token) (FileCode × Place)) → list_any is_newline line ≡ false → tokens_of line ≡ r → tokens_of rest ≡ q
    → line_behind line r q ≡ Ok ts → (us : List Token) × (tokens_of rest ≡ Ok us) × (map (item_below n) (items_over functions names (line ++ 10 ∷ rest) ts) ≡ map (item_below n) (alone functions names line) ++ map (item_below (n + 1)) (items_over functions names rest us))
two_lines functions laws names line rest n ts (Ok vs) (Ok us) none er eq h =
    let c : count_by is_newline line + 1 ≡ 1 = omega (arith, none_counted line none) in
    let is : vs ++ map (lower_token 1 (length line + 1)) us ≡ ts = ap (λ (i : ℕ). vs ++ map (lower_token i (length line + 1)) us) (sym c) ∙ ap (got []) h in (
      us,
      eq,
      ap (λ (xs : List Token). map (item_below n) (items_over functions names (line ++ 10 ∷ rest) xs)) (sym is)
          ∙ ap (map (item_below n)) (map-append (item_over functions names (line ++ 10 ∷ rest)) vs (map (lower_token 1 (length line + 1)) us))
          ∙ map-append (item_below n) (items_over functions names (line ++ 10 ∷ rest) vs) (items_over functions names (line ++ 10 ∷ rest) (map (lower_token 1 (length line + 1)) us))
          ∙ ap (λ (xs : List Item). map (item_below n) xs ++ map (item_below n) (items_over functions names (line ++ 10 ∷ rest) (map (lower_token 1 (length line + 1)) us)))
          (items_front functions names line (10 ∷ rest) vs (tokens_within laws line vs er) ∙ ap (alone_of functions names line) (sym er))
          ∙ ap (λ (xs : List Item). map (item_below n) (alone functions names line) ++ xs) (ap (map (item_below n)) (items_behind functions names line rest 1 us) ∙ further_below n (items_over functions names rest us)),
    )
two_lines functions laws names line rest n ts (Ok vs) (Err fault) none er eq h = absurd cc
two_lines functions laws names line rest n ts (Err fault) q none er eq h = absurd cc

pub lines_of_text : (functions : List (List ℕ)) → TokenLaws → LinesApart → (names : List (List ℕ)) (text : List ℕ) (ps : List (List ℕ)) (n : ℕ) (ts : List Token) → pieces text ≡ ps → tokens_of text ≡ Ok ts
    → map (item_below n) (items_over functions names text ts) ≡ by_piece functions names n ps
lines_of_text functions laws apart names text [] n ts e is = absurd (not_none text e)
lines_of_text functions laws apart names text (p ∷ []) n ts e is =
    let k = last_piece text p e in
    sym (append-nil (map (item_below n) (items_over functions names text ts)))
    ∙ ap (λ (xs : List Item). map (item_below n) xs ++ []) (ap (alone_of functions names text) (sym is) ∙ ap (alone functions names) k.0)
lines_of_text functions laws apart names text (p ∷ q ∷ qs) n ts e is =
    let k = next_piece text p q qs e in
    let two = two_lines functions laws names p k.0 n ts (tokens_of p) (tokens_of k.0) k.2 refl refl (sym (apart p k.0) ∙ ap tokens_of (sym k.1) ∙ is) in
    ap (λ (t : List ℕ). map (item_below n) (items_over functions names t ts)) k.1 ∙ two.2
    ∙ ap (λ (xs : List Item). map (item_below n) (alone functions names p) ++ xs) (lines_of_text functions laws apart names k.0 (q ∷ qs) (n + 1) two.0 k.3 two.1)
