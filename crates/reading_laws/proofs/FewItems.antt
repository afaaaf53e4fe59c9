-- A file with groups has fewer than 2^63 items.
use Rattle.std.proofs.Common.{◌≡◌, ℕ, suc, ◌+◌, ◌*◌, ◌≤◌, ◌<◌, ◌^◌, Bool, true, false, cond, List, [], ◌∷◌, ◌++◌, length, Option, Some, None, Result, Ok, Err, refl, subst, sym, arith, le_refl, mul-le-mul, suc-mul}
use Rattle.std.specs.List.{filter}
use Rattle.std.proofs.lemmas.Bool.{ltb-false}
use Rattle.std.proofs.lemmas.List.{length-append, length-map}
use Rattle.fam_outer.specs.declared.dialect.Dialect.{Dialect}
use Rattle.fam_outer.specs.declared.faults.FileCode.{FileCode}
use Rattle.fam_outer.specs.declared.faults.Place.{Place}
use Rattle.fam_outer.specs.Limits.{file_bytes}
use Rattle.fam_outer.specs.Places.{is_newline}
use Rattle.fam_outer.specs.Results.{and_then}
use Rattle.cpp_conditions.specs.Propositions.{Proposition}
use Rattle.cpp_conditions.specs.Validity.{Plain}
use Rattle.linear_atoms.specs.declared.atoms.Atom.{Atom}
use Rattle.cpp_lines.specs.Code.{code_of}
use Rattle.cpp_lines.specs.Defined.{names_in}
use Rattle.cpp_lines.specs.Lines.{in_first, pieces}
use Rattle.cpp_lines.specs.Nesting.{named_in, opened_by}
use Rattle.cpp_lines.specs.Sections as sections
use Rattle.cpp_lines.specs.Sections.{Told, AreRead, in_front}
use Rattle.cpp_lines.specs.declared.line.Line.{Line}
use Rattle.cpp_lines.proofs.VariantTexts.{is_blanked}
use Rattle.c_grammar.specs.declared.items.Item.{Item}
use Rattle.c_grammar.specs.declared.items.Sign.{Sign}
use Rattle.c_tokens.specs.declared.token.Token.{Token}
use Rattle.c_tokens.specs.Reading.{tokens_of}
use Rattle.c_parser.specs.FamilyItems.{HasItems, feature_names, by_line, items_of_line, or_directive, group_sign, stands_in}
use Rattle.c_parser.specs.Functions.{own_functions}
use Rattle.c_parser.specs.Items.{Listed, listed, item_over, names_from}
use Rattle.c_parser.specs.Order.{arranged}
use Rattle.c_parser.specs.Reading.{items_of_code}
use Rattle.c_parser.proofs.Lexical.{TokenLaws, tokens_few}

-- ---- lines

few_first : (b : ℕ) (ps : List (List ℕ)) (n : ℕ) → length ps ≤ n → length (in_first b ps) ≤ suc n
few_first b [] n h = omega arith
few_first b (p ∷ ps) n h = omega (arith, h)

by_newline : (t : Bool) (b : ℕ) (ps : List (List ℕ)) (n : ℕ) → length ps ≤ n → length (cond t ([] ∷ ps) (in_first b ps)) ≤ suc n
by_newline true b ps n h = omega (arith, h)
by_newline false b ps n h = few_first b ps n h

few_pieces : (text : List ℕ) → length (pieces text) ≤ suc (length text)
few_pieces [] = le_refl 1
few_pieces (b ∷ bs) = by_newline (is_newline b) b (pieces bs) (suc (length bs)) (few_pieces bs)

abbrev HasLines : ℕ → Result Told (FileCode × Place) → Type 0
HasLines n (Ok told) = length told.lines ≤ n
HasLines n (Err fault) = Unit {0}

one_line : (l : Line) (qs : List (Proposition Atom)) (n : ℕ) (r : Result Told (FileCode × Place)) → HasLines n r → HasLines (suc n) (in_front (l ∷ []) qs r)
one_line l qs n (Ok told) h = omega (arith, h)
one_line l qs n (Err fault) h = tt

few_lines_from : (dialect : Dialect) (m : Plain) (text : List ℕ) (above : List (List ℕ)) (opens : List Bool) (ps : List (Proposition Atom)) (start : ℕ) (lines : List (List ℕ)) (r : Result Told (FileCode × Place)) → AreRead dialect m text above opens ps start lines r → HasLines (length lines) r
few_lines_from dialect m text above opens ps start [] r (sections.none o q s) = le_refl 0
few_lines_from dialect m text above opens ps start (line ∷ lines) r (sections.unclosed o q s l ls u) = tt
few_lines_from dialect m text above opens ps start (line ∷ lines) r (sections.faulty o q s l ls code u f) = tt
few_lines_from dialect m text above opens ps start (line ∷ lines) r (sections.goes_on o q s l ls qs x u h k) = one_line _ qs (length lines) x (few_lines_from dialect m text (above ++ names_in line) (opened_by (named_in line) opens) (ps ++ qs) (start + length line + 1) lines x k)

-- ---- items

few_filtered : (p : Item → Bool) (xs : List Item) → length (filter p xs) ≤ length xs
few_filtered p [] = le_refl 0
few_filtered p (x ∷ xs) = elim (p x) as (λ b. length (cond b (x ∷ filter p xs) (filter p xs)) ≤ suc (length xs)) [
  | true ↦ omega (arith, few_filtered p xs)
  | false ↦ omega (arith, few_filtered p xs)
]

few_or_one : (o : Option Sign) (p : Place) (xs : List Item) (n : ℕ) → length xs ≤ n → length (or_directive o p xs) ≤ suc n
few_or_one None p xs n h = omega (arith, h)
few_or_one (Some sign) p xs n h = omega arith

few_by_line : (ls : List Line) (xs : List Item) → length (by_line ls xs) ≤ length ls * suc (length xs)
few_by_line [] xs = omega arith
few_by_line (l ∷ ls) xs =
    omega (arith, length-append (items_of_line l xs) (by_line ls xs), few_or_one (group_sign l.kind) l.place (filter (stands_in l.place.line) xs) (length xs) (few_filtered (stands_in l.place.line) xs), few_by_line ls xs, suc-mul (length ls) (suc (length xs)))

-- ---- tokens

abbrev HasFew : ℕ → Result Listed (FileCode × Place) → Type 0
HasFew n (Ok l) = length l.items ≤ n
HasFew n (Err fault) = Unit {0}

few_listed : (functions given : List (List ℕ)) (code : List ℕ) (n : ℕ) (x : Result (List Token) (FileCode × Place)) → ((ts : List Token) → x ≡ Ok ts → length ts ≤ n) → HasFew n (and_then x (λ ts. Ok (listed functions given code ts)))
few_listed functions given code n (Ok ts) h = subst (λ (k : ℕ). k ≤ n) (sym (length-map ts (item_over functions (names_from functions code given ts) code))) (h ts refl)
few_listed functions given code n (Err fault) h = tt

few_tokens : (functions : List (List ℕ)) → TokenLaws → (given : List (List ℕ)) (code : List ℕ) (l : Listed) → items_of_code functions given code ≡ Ok l → length l.items ≤ length code
few_tokens functions laws given code l e = subst (HasFew (length code)) e (few_listed functions given code (length code) (tokens_of code) (λ ts is. tokens_few laws code ts is))

-- ---- all items

product : (a b : ℕ) → a ≤ 1048577 → b ≤ 1048577 → a * b < 2 ^ 63
product a b h k = let p : a * b ≤ 1048577 * 1048577 = mul-le-mul h k in omega (arith, p)

short : (n m : ℕ) → n ≤ suc m → m ≤ 1048576 → n ≤ 1048577
short n m h k = omega (arith, h, k)

pub few_items : TokenLaws → ((text : List ℕ) → length (code_of text) ≡ length text) → (dialect : Dialect) (model : Plain) (bytes : List ℕ) (told : Told) (l : Listed) → HasItems dialect model bytes told l → length l.items < 2 ^ 63
few_items laws code_len dialect model bytes told l h =
    let b = is_blanked bytes h.blanked h.without_comments in
    let few : length h.blanked ≤ 1048576 = subst (λ (n : ℕ). n ≤ 1048576) (sym b.same_len) (ltb-false file_bytes (length bytes) b.short) in
    let lines : length told.lines ≤ length (pieces h.blanked) = few_lines_from dialect model h.blanked [] [] [] 0 (pieces h.blanked) (Ok told) h.read in
    let all : length told.lines ≤ 1048577 = omega (arith, lines, few_pieces h.blanked, few) in
    let tokens : length h.tokens.items ≤ length h.blanked = subst (λ (n : ℕ). length h.tokens.items ≤ n) (code_len h.blanked) (few_tokens (own_functions (code_of h.blanked)) laws (arranged (feature_names model) h.first) (code_of h.blanked) h.tokens h.tokens_are) in
    let some : suc (length h.tokens.items) ≤ 1048577 = omega (arith, tokens, few) in
    let items : length l.items ≤ length told.lines * suc (length h.tokens.items) = subst (λ (x : Listed). length x.items ≤ length told.lines * suc (length h.tokens.items)) (sym h.is) (few_by_line told.lines h.tokens.items) in
    let bound = product (length told.lines) (suc (length h.tokens.items)) all some in
    omega (arith, items, bound)
