-- The tokens of generated families, line by line.
use Rattle.std.proofs.Common.{◌≡◌, ℕ, ◌+◌, ◌<◌, List, [], ◌∷◌, ◌++◌, codes, map, Option, Some, None, Result, Ok, Err, refl, ap, ◌∙◌, sym, append_assoc}
use Rattle.std.proofs.lemmas.List.{map-append}
use Rattle.fam_outer.specs.declared.faults.Place.{Place}
use Rattle.fam_outer.specs.declared.faults.FileCode.{FileCode}
use Rattle.c_tokens.specs.declared.token.Token.{Token}
use Rattle.c_tokens.specs.Reading.{tokens_of}
use Rattle.c_grammar.specs.declared.items.Item.{Item}
use Rattle.c_grammar.specs.declared.items.Sign.{Sign}
use Rattle.c_grammar.specs.declared.items.Sign.TheVariants as signs
use Rattle.cpp_lines.specs.declared.line.Line.{Line}
use Rattle.cpp_lines.specs.declared.line.LineKind.{LineKind}
use Rattle.cpp_lines.specs.Code.{code_piece}
use Rattle.c_parser.specs.FamilyItems.{group_sign, or_directive}
use Rattle.c_parser.specs.Items.{number_in, items_over}
use Rattle.c_parser.proofs.KeptItems.{AreRead}
use Rattle.c_parser.proofs.LineItems.{by_both}
use Rattle.c_parser.proofs.TokenLines.{item_below, alone_of, alone}
use Rattle.family_generator.proofs.Cases.{each_below}
use Rattle.family_generator.proofs.BlockTexts.{Block, Switched, Bounded, Checked, IsBlock, AreBlocks}
use Rattle.family_generator.proofs.BlockLines.{switch_line, bound_line, count_line, block_lines, blocks_lines, file_lines}
use Rattle.family_generator.proofs.Signs.{sign_in, input_signs, count_signs, reset_signs, choice_signs, assert_signs, block_signs, blocks_signs, condition_count, header_signs, file_signs}
use Rattle.family_generator.proofs.Told.{kind_in, block_kinds, blocks_kinds, file_kinds}

-- the signs of a text's tokens over these names, and no functions
abbrev lexed_of : List (List ℕ) → List ℕ → Result (List Token) (FileCode × Place) → Option (List Sign)
lexed_of names text (Ok ts) = Some (map sign_in (items_over [] names text ts))
lexed_of names text (Err fault) = None

abbrev pub lexed : List (List ℕ) → List ℕ → Option (List Sign)
lexed names text = lexed_of names text (tokens_of text)

abbrev pub AreLexed : List (List ℕ) → List (List ℕ) → List (List Sign) → Type 0
AreLexed names [] [] = Unit {0}
AreLexed names [] (s ∷ ss) = ⊥
AreLexed names (p ∷ ps) [] = ⊥
AreLexed names (p ∷ ps) (s ∷ ss) = (lexed names (code_piece p) ≡ Some s) × AreLexed names ps ss

-- the numbers of the two names
abbrev pub first_in : List (List ℕ) → ℕ
first_in names = number_in names (codes "a")

abbrev pub second_in : List (List ℕ) → ℕ
second_in names = number_in names (codes "b")

-- ---- the signs of lines

abbrev pub block_line_signs : ℕ → ℕ → Block → List (List Sign)
block_line_signs x y (Switched f) = [] ∷ input_signs x ∷ [] ∷ []
block_line_signs x y (Bounded c w) = [] ∷ count_signs y w ∷ [] ∷ reset_signs y ∷ [] ∷ []
block_line_signs x y Checked = choice_signs x y ∷ assert_signs y ∷ []

abbrev pub blocks_line_signs : ℕ → ℕ → List Block → List (List Sign)
blocks_line_signs x y [] = (signs.RightBrace ∷ []) ∷ [] ∷ []
blocks_line_signs x y (b ∷ bs) = block_line_signs x y b ++ blocks_line_signs x y bs

abbrev pub file_line_signs : ℕ → ℕ → List Block → List (List Sign)
file_line_signs x y bs =
    (signs.Int ∷ signs.Name x ∷ signs.Semicolon ∷ []) ∷ (signs.Int ∷ signs.Name y ∷ signs.Semicolon ∷ [])
    ∷ (signs.Int ∷ signs.Main ∷ signs.Open ∷ signs.Void ∷ signs.Close ∷ signs.LeftBrace ∷ []) ∷ blocks_line_signs x y bs

abbrev nothing_lexed : Option (List Sign)
nothing_lexed = Some []

switch_lexed : (names : List (List ℕ)) (f : ℕ) → f < 8 → lexed names (code_piece (switch_line f)) ≡ Some []
unfolding tokens_of
switch_lexed names f lt = each_below (λ f. lexed names (code_piece (switch_line f))) (λ _. nothing_lexed) 8 refl f lt

bound_lexed : (names : List (List ℕ)) (c : ℕ) → c < 9 → lexed names (code_piece (bound_line c)) ≡ Some []
unfolding tokens_of
bound_lexed names c lt = each_below (λ c. lexed names (code_piece (bound_line c))) (λ _. nothing_lexed) 9 refl c lt

abbrev counts : List (List ℕ) → ℕ → Option (List Sign)
counts names w = Some (count_signs (second_in names) w)

count_lexed : (names : List (List ℕ)) (w : ℕ) → w < 50 → lexed names (code_piece (count_line w)) ≡ Some (count_signs (second_in names) w)
unfolding tokens_of
count_lexed names w lt = each_below (λ w. lexed names (code_piece (count_line w))) (counts names) 50 refl w lt

block_lexed : (names : List (List ℕ)) (b : Block) → IsBlock b → AreLexed names (block_lines b) (block_line_signs (first_in names) (second_in names) b)
unfolding tokens_of
block_lexed names (Switched f) h = (switch_lexed names f h, (refl, (refl, tt)))
block_lexed names (Bounded c w) h = (bound_lexed names c h.0, (count_lexed names w h.1, (refl, (refl, (refl, tt)))))
block_lexed names Checked h = (refl, (refl, tt))

lexed_joined : (names : List (List ℕ)) (ps qs : List (List ℕ)) (ss ts : List (List Sign)) → AreLexed names ps ss → AreLexed names qs ts → AreLexed names (ps ++ qs) (ss ++ ts)
lexed_joined names [] qs [] ts h k = k
lexed_joined names [] qs (s ∷ ss) ts h k = absurd h
lexed_joined names (p ∷ ps) qs [] ts h k = absurd h
lexed_joined names (p ∷ ps) qs (s ∷ ss) ts h k = (h.0, lexed_joined names ps qs ss ts h.1 k)

blocks_lexed : (names : List (List ℕ)) (bs : List Block) → AreBlocks bs → AreLexed names (blocks_lines bs) (blocks_line_signs (first_in names) (second_in names) bs)
unfolding tokens_of
blocks_lexed names [] h = (refl, (refl, tt))
blocks_lexed names (b ∷ bs) h =
    lexed_joined names (block_lines b) (blocks_lines bs) (block_line_signs (first_in names) (second_in names) b) (blocks_line_signs (first_in names) (second_in names) bs) (block_lexed names b h.0) (blocks_lexed names bs h.1)

pub file_lexed : (names : List (List ℕ)) (bs : List Block) → AreBlocks bs → AreLexed names (file_lines bs) (file_line_signs (first_in names) (second_in names) bs)
unfolding tokens_of
file_lexed names bs h = (refl, (refl, (refl, blocks_lexed names bs h)))

-- ---- they have tokens

one_read : (names : List (List ℕ)) (text : List ℕ) (s : List Sign) (r : Result (List Token) (FileCode × Place)) → lexed_of names text r ≡ Some s → (ts : List Token) × (r ≡ Ok ts)
one_read names text s (Ok ts) e = (ts, refl)
one_read names text s (Err fault) e = absurd cc

pub lexed_read : (names : List (List ℕ)) (ps : List (List ℕ)) (ss : List (List Sign)) → AreLexed names ps ss → AreRead (map code_piece ps)
lexed_read names [] ss h = tt
lexed_read names (p ∷ ps) [] h = absurd h
lexed_read names (p ∷ ps) (s ∷ ss) h = (one_read names (code_piece p) s (tokens_of (code_piece p)) h.0, lexed_read names ps ss h.1)

-- ---- and are the items of their lines, or group directives

abbrev sign_or : Option Sign → List Sign → List Sign
sign_or None ss = ss
sign_or (Some s) ss = s ∷ []

abbrev pub sorted_signs : List LineKind → List (List Sign) → List Sign
sorted_signs [] ss = []
sorted_signs (k ∷ ks) [] = []
sorted_signs (k ∷ ks) (s ∷ ss) = sign_or (group_sign k) s ++ sorted_signs ks ss

pub signs_alone : (names : List (List ℕ)) (text : List ℕ) (s : List Sign) (r : Result (List Token) (FileCode × Place)) → lexed_of names text r ≡ Some s → map sign_in (alone_of [] names text r) ≡ s
signs_alone names text s (Ok ts) e = cc
signs_alone names text s (Err fault) e = absurd cc

pub below_same : (n : ℕ) (xs : List Item) → map sign_in (map (item_below n) xs) ≡ map sign_in xs
below_same n [] = refl
below_same n (x ∷ xs) = ap (λ (ss : List Sign). x.sign ∷ ss) (below_same n xs)

one_sorted : (o : Option Sign) (place : Place) (n : ℕ) (names : List (List ℕ)) (text : List ℕ) (s : List Sign) → lexed names text ≡ Some s → map sign_in (or_directive o place (map (item_below n) (alone [] names text))) ≡ sign_or o s
one_sorted None place n names text s e = below_same n (alone [] names text) ∙ signs_alone names text s (tokens_of text) e
one_sorted (Some t) place n names text s e = refl

pub signs_sorted : (names : List (List ℕ)) (n : ℕ) (ls : List Line) (ps : List (List ℕ)) (ss : List (List Sign)) → AreLexed names ps ss → map sign_in (by_both [] names n ls (map code_piece ps)) ≡ sorted_signs (map kind_in ls) ss
signs_sorted names n [] ps ss h = refl
signs_sorted names n (l ∷ ls) [] [] h = refl
signs_sorted names n (l ∷ ls) [] (s ∷ ss) h = absurd h
signs_sorted names n (l ∷ ls) (p ∷ ps) [] h = absurd h
signs_sorted names n (l ∷ ls) (p ∷ ps) (s ∷ ss) h =
    map-append sign_in (or_directive (group_sign l.kind) l.place (map (item_below n) (alone [] names (code_piece p)))) (by_both [] names (n + 1) ls (map code_piece ps))
    ∙ ap (λ (t : List Sign). t ++ map sign_in (by_both [] names (n + 1) ls (map code_piece ps))) (one_sorted (group_sign l.kind) l.place n names (code_piece p) s h.0)
    ∙ ap (λ (t : List Sign). sign_or (group_sign l.kind) s ++ t) (signs_sorted names (n + 1) ls ps ss h.1)

-- ---- which are those of the file

block_sorted : (x y n : ℕ) (b : Block) (ks : List LineKind) (ss : List (List Sign)) → sorted_signs (block_kinds n b ++ ks) (block_line_signs x y b ++ ss) ≡ block_signs x y n b ++ sorted_signs ks ss
block_sorted x y n (Switched f) ks ss = refl
block_sorted x y n (Bounded c w) ks ss = refl
block_sorted x y n Checked ks ss = refl

blocks_sorted : (x y n : ℕ) (bs : List Block) → sorted_signs (blocks_kinds n bs) (blocks_line_signs x y bs) ≡ blocks_signs x y n bs ++ signs.RightBrace ∷ []
blocks_sorted x y n [] = refl
blocks_sorted x y n (b ∷ bs) =
    block_sorted x y n b (blocks_kinds (n + condition_count b) bs) (blocks_line_signs x y bs)
    ∙ ap (λ (t : List Sign). block_signs x y n b ++ t) (blocks_sorted x y (n + condition_count b) bs)
    ∙ sym (append_assoc (block_signs x y n b) (blocks_signs x y (n + condition_count b) bs) (signs.RightBrace ∷ []))

pub file_sorted : (x y : ℕ) (bs : List Block) → sorted_signs (file_kinds bs) (file_line_signs x y bs) ≡ file_signs x y bs
file_sorted x y bs = ap (λ (t : List Sign). header_signs x y ++ t) (blocks_sorted x y 0 bs)
