-- The items of a family by those of its lines.
use Rattle.std.proofs.Common.{◌≡◌, ℕ, zero, suc, ◌+◌, ◌≤◌, ◌<◌, nat_eq, true, false, List, [], ◌∷◌, ◌++◌, length, map, take, Result, Ok, Err, refl, sym, ap, ◌∙◌, arith}
use Rattle.std.specs.List.{list_any, filter}
use Rattle.std.proofs.lemmas.List.{append-nil}
use Rattle.std.proofs.lemmas.List.Elements.{filter-append}
use Rattle.std.proofs.lemmas.Bool.{or_parts, or_from}
use Rattle.std.proofs.lemmas.Bool.Decides.{nat_tests}
use Rattle.fam_outer.specs.declared.faults.Place.{Place}
use Rattle.fam_outer.specs.declared.faults.FileCode.{FileCode}
use Rattle.fam_outer.specs.Places.{is_newline, place_at}
use Rattle.fam_outer.proofs.Placing.{behind_bytes}
use Rattle.c_tokens.specs.declared.token.Token.{Token}
use Rattle.c_tokens.specs.Reading.{tokens_of, StandBetween}
use Rattle.c_grammar.specs.declared.items.Item.{Item}
use Rattle.cpp_lines.specs.declared.line.Line.{Line}
use Rattle.cpp_lines.specs.Lines.{AreCounted}
use Rattle.cpp_lines.proofs.CodeLines.{AreLines}
use Rattle.c_parser.specs.FamilyItems.{stands_in, group_sign, or_directive, by_line}
use Rattle.c_parser.specs.Items.{items_over}
use Rattle.c_parser.proofs.ByLine.{none_in, lines_same}
use Rattle.c_parser.proofs.FamilyFacts.{AreOn, AreFrom, from_on, from_both}
use Rattle.c_parser.proofs.Lexical.{TokenLaws, stand}
use Rattle.c_parser.proofs.TokenLines.{item_below, alone_of, alone, by_piece}

none_in_front : (k : ℕ) (xs : List ℕ) → list_any is_newline xs ≡ false → list_any is_newline (take k xs) ≡ false
none_in_front zero xs h = refl
none_in_front (suc k) [] h = refl
none_in_front (suc k) (x ∷ xs) h = let p = or_parts (is_newline x) (list_any is_newline xs) h in or_from (is_newline x) (list_any is_newline (take k xs)) p.0 (none_in_front k xs p.1)

abbrev line_in : Place → ℕ
line_in p = p.line

first_line : (text : List ℕ) (i : ℕ) → list_any is_newline text ≡ false → (place_at text i).line ≡ 1
first_line text i h = sym (ap line_in (behind_bytes [] (take i text) (none_in_front i text h)))

-- ---- the items of a line stand in it

over_on : (functions names : List (List ℕ)) (text : List ℕ) (n start : ℕ) (ts : List Token) (end : ℕ) → list_any is_newline text ≡ false → StandBetween text start ts end → AreOn (n + 1) (map (item_below n) (items_over functions names text ts))
over_on functions names text n start [] end none h = tt
over_on functions names text n start (t ∷ ts) end none h = (omega (arith, ap line_in h.1.0.place, first_line text t.start none), over_on functions names text n t.end ts end none h.1.1)

read_on : (functions : List (List ℕ)) → TokenLaws → (names : List (List ℕ)) (text : List ℕ) (n : ℕ) (r : Result (List Token) (FileCode × Place)) → list_any is_newline text ≡ false → tokens_of text ≡ r → AreOn (n + 1) (map (item_below n) (alone_of functions names text r))
read_on functions laws names text n (Ok ts) none e = over_on functions names text n 0 ts (length text) none (stand laws text ts e)
read_on functions laws names text n (Err fault) none e = tt

pub alone_on : (functions : List (List ℕ)) → TokenLaws → (names : List (List ℕ)) (text : List ℕ) (n : ℕ) → list_any is_newline text ≡ false → AreOn (n + 1) (map (item_below n) (alone functions names text))
alone_on functions laws names text n none = read_on functions laws names text n (tokens_of text) none refl

pub pieces_from : (functions : List (List ℕ)) → TokenLaws → (names : List (List ℕ)) (m n : ℕ) (ps : List (List ℕ)) → m ≤ n + 1 → AreLines ps → AreFrom m (by_piece functions names n ps)
pieces_from functions laws names m n [] le h = tt
pieces_from functions laws names m n (p ∷ ps) le h =
    from_both m (map (item_below n) (alone functions names p)) (by_piece functions names (n + 1) ps) (from_on m (n + 1) (map (item_below n) (alone functions names p)) le (alone_on functions laws names p n h.0))
    (pieces_from functions laws names m (n + 1) ps (omega arith) h.1)

-- ---- those of one line among all

is_there : (n m : ℕ) → m ≡ n → nat_eq m n ≡ true
is_there n m e = grind (arith, nat_tests)

is_elsewhere : (k n m : ℕ) → m ≡ n → n < k → nat_eq m k ≡ false
is_elsewhere k n m e h = grind (arith, nat_tests)

all_there : (n : ℕ) (xs : List Item) → AreOn n xs → filter (stands_in n) xs ≡ xs
all_there n [] h = refl
all_there n (x ∷ xs) h = rw (is_there n x.place.line h.0) (ap (λ (ys : List Item). x ∷ ys) (all_there n xs h.1))

none_there : (k n : ℕ) (xs : List Item) → n < k → AreOn n xs → filter (stands_in k) xs ≡ []
none_there k n [] lt h = refl
none_there k n (x ∷ xs) lt h = rw (is_elsewhere k n x.place.line h.0 lt) (none_there k n xs lt h.1)

-- the items of lines, whose first has this many lines above it: a group directive, or the tokens of the line
abbrev pub by_both : List (List ℕ) → List (List ℕ) → ℕ → List Line → List (List ℕ) → List Item
by_both functions names n [] ps = []
by_both functions names n (l ∷ ls) [] = []
by_both functions names n (l ∷ ls) (p ∷ ps) = or_directive (group_sign l.kind) l.place (map (item_below n) (alone functions names p)) ++ by_both functions names (n + 1) ls ps

abbrev pub HaveSameLength : List Line → List (List ℕ) → Type 0
HaveSameLength [] [] = Unit {0}
HaveSameLength [] (p ∷ ps) = ⊥
HaveSameLength (l ∷ ls) [] = ⊥
HaveSameLength (l ∷ ls) (p ∷ ps) = HaveSameLength ls ps

pub line_by_line : (functions : List (List ℕ)) → TokenLaws → (names : List (List ℕ)) (n : ℕ) (ls : List Line) (ps : List (List ℕ)) → HaveSameLength ls ps → AreCounted (n + 1) ls → AreLines ps → by_line ls (by_piece functions names n ps) ≡ by_both functions names n ls ps
line_by_line functions laws names n [] [] s c h = refl
line_by_line functions laws names n [] (p ∷ ps) s c h = absurd s
line_by_line functions laws names n (l ∷ ls) [] s c h = absurd s
line_by_line functions laws names n (l ∷ ls) (p ∷ ps) s c h =
    let here = map (item_below n) (alone functions names p) in
    let on : AreOn (n + 1) (map (item_below n) (alone functions names p)) = alone_on functions laws names p n h.0 in
    let rest : AreFrom (n + 1 + 1) (by_piece functions names (n + 1) ps) = pieces_from functions laws names (n + 1 + 1) (n + 1) ps (omega arith) h.1 in
    let mine : filter (stands_in l.place.line) (by_piece functions names n (p ∷ ps)) ≡ map (item_below n) (alone functions names p) =
    ap (λ (k : ℕ). filter (stands_in k) (by_piece functions names n (p ∷ ps))) c.0
    ∙ filter-append (stands_in (n + 1)) here (by_piece functions names (n + 1) ps)
    ∙ ap (λ (xs : List Item). xs ++ filter (stands_in (n + 1)) (by_piece functions names (n + 1) ps)) (all_there (n + 1) here on)
    ∙ ap (λ (xs : List Item). map (item_below n) (alone functions names p) ++ xs) (none_in (n + 1) (n + 1 + 1) (by_piece functions names (n + 1) ps) (omega arith) rest)
    ∙ append-nil here in
    let later : by_line ls (by_piece functions names n (p ∷ ps)) ≡ by_line ls (by_piece functions names (n + 1) ps) =
    lines_same (n + 1 + 1) ls (by_piece functions names n (p ∷ ps)) (by_piece functions names (n + 1) ps) c.1 (λ m le. filter-append (stands_in m) here (by_piece functions names (n + 1) ps)
    ∙ ap (λ (xs : List Item). xs ++ filter (stands_in m) (by_piece functions names (n + 1) ps)) (none_there m (n + 1) here (omega arith) on)) in
    ap (λ (xs : List Item). or_directive (group_sign l.kind) l.place xs ++ by_line ls (by_piece functions names n (p ∷ ps))) mine
    ∙ ap (λ (xs : List Item). or_directive (group_sign l.kind) l.place (map (item_below n) (alone functions names p)) ++ xs) (later ∙ line_by_line functions laws names (n + 1) ls ps s c.1 h.1)
