-- The signs of generated families, over the numbers of the two names.
use Rattle.std.proofs.Common.{◌≡◌, ℕ, zero, suc, ◌+◌, List, [], ◌∷◌, ◌++◌, length, map, refl, ap, ◌∙◌, sym, arith, pos}
use Rattle.fam_outer.specs.declared.faults.Place.{Place}
use Rattle.c_tree.specs.declared.tree.Op.TheVariants.{Add, Lt, Gt, Ge}
use Rattle.c_grammar.specs.declared.items.Item.{Item}
use Rattle.c_grammar.specs.declared.items.Sign.{Sign}
use Rattle.c_grammar.specs.declared.items.Sign.TheVariants as signs
use Rattle.c_grammar.specs.Grammar.{at}
use Rattle.family_generator.proofs.BlockTexts.{Block, Switched, Bounded, Checked}

-- ---- items at any places

abbrev pub laid : (ℕ → Place) → ℕ → List Sign → List Item
laid f k [] = []
laid f k (s ∷ ss) = at (f k) s ∷ laid f (k + 1) ss

pub laid_joined : (f : ℕ → Place) (k : ℕ) (ss ts : List Sign) → laid f k (ss ++ ts) ≡ laid f k ss ++ laid f (k + length ss) ts
laid_joined f k [] ts = let e : k + 0 ≡ k = omega arith in ap (λ (n : ℕ). laid f n ts) (sym e)
laid_joined f k (s ∷ ss) ts =
    let e : k + 1 + length ss ≡ k + suc (length ss) = omega arith in
    ap (λ (xs : List Item). at (f k) s ∷ xs) (laid_joined f (k + 1) ss ts ∙ ap (λ (n : ℕ). laid f (k + 1) ss ++ laid f n ts) e)

abbrev pub sign_in : Item → Sign
sign_in x = x.sign

-- the places of items, behind which any stand
abbrev pub place_in : Place → List Item → ℕ → Place
place_in p [] n = p
place_in p (x ∷ xs) zero = x.place
place_in p (x ∷ xs) (suc n) = place_in p xs n

same_laid : (p : Place) (f : ℕ → Place) (k : ℕ) (xs : List Item) → ((n : ℕ) → f (k + n) ≡ place_in p xs n) → laid f k (map sign_in xs) ≡ xs
same_laid p f k [] h = refl
same_laid p f k (x ∷ xs) h =
    let here : f k ≡ x.place = (let e : k ≡ k + 0 = omega arith in ap f e ∙ h 0) in
    ap (λ (q : Place). at q x.sign ∷ laid f (k + 1) (map sign_in xs)) here
    ∙ ap (λ (ys : List Item). x ∷ ys) (same_laid p f (k + 1) xs (λ n. let e : k + 1 + n ≡ k + suc n = omega arith in ap f e ∙ h (suc n)))

same_place : (p : Place) (xs : List Item) (n : ℕ) → place_in p xs (0 + n) ≡ place_in p xs n
same_place p xs n = let e : 0 + n ≡ n = omega arith in ap (place_in p xs) e

pub laid_again : (p : Place) (xs : List Item) → laid (place_in p xs) 0 (map sign_in xs) ≡ xs
laid_again p xs = same_laid p (place_in p xs) 0 xs (same_place p xs)

-- ---- statements

abbrev pub input_signs : ℕ → List Sign
input_signs x = signs.Name x ∷ signs.Equals ∷ signs.Input ∷ signs.Open ∷ signs.Close ∷ signs.Semicolon ∷ []

abbrev pub count_signs : ℕ → ℕ → List Sign
count_signs y w = signs.While ∷ signs.Open ∷ signs.Name y ∷ signs.Oper Lt ∷ signs.Number (pos (w + 10)) ∷ signs.Close ∷ signs.Name y ∷ signs.PlusPlus ∷ signs.Semicolon ∷ []

abbrev pub reset_signs : ℕ → List Sign
reset_signs y = signs.Name y ∷ signs.Equals ∷ signs.Number (pos 0) ∷ signs.Semicolon ∷ []

abbrev pub choice_signs : ℕ → ℕ → List Sign
choice_signs x y =
    signs.If ∷ signs.Open ∷ signs.Name x ∷ signs.Oper Gt ∷ signs.Number (pos 0) ∷ signs.Close
    ∷ signs.Name y ∷ signs.Equals ∷ signs.Name y ∷ signs.Oper Add ∷ signs.Number (pos 1) ∷ signs.Semicolon
    ∷ signs.Else ∷ signs.Name y ∷ signs.Equals ∷ signs.Number (pos 0) ∷ signs.Semicolon ∷ []

abbrev pub assert_signs : ℕ → List Sign
assert_signs y = signs.Assert ∷ signs.Open ∷ signs.Name y ∷ signs.Oper Ge ∷ signs.Number (pos 0) ∷ signs.Close ∷ signs.Semicolon ∷ []

-- ---- blocks, where so many conditions stand before

abbrev pub block_signs : ℕ → ℕ → ℕ → Block → List Sign
block_signs x y n (Switched f) = signs.GroupIf n ∷ (input_signs x ++ signs.GroupEnd ∷ [])
block_signs x y n (Bounded c w) = signs.GroupIf n ∷ (count_signs y w ++ signs.GroupElse ∷ (reset_signs y ++ signs.GroupEnd ∷ []))
block_signs x y n Checked = choice_signs x y ++ assert_signs y

abbrev pub condition_count : Block → ℕ
condition_count (Switched f) = 1
condition_count (Bounded c w) = 1
condition_count Checked = 0

abbrev pub blocks_signs : ℕ → ℕ → ℕ → List Block → List Sign
blocks_signs x y n [] = []
blocks_signs x y n (b ∷ bs) = block_signs x y n b ++ blocks_signs x y (n + condition_count b) bs

abbrev pub header_signs : ℕ → ℕ → List Sign
header_signs x y =
    signs.Int ∷ signs.Name x ∷ signs.Semicolon ∷ signs.Int ∷ signs.Name y ∷ signs.Semicolon
    ∷ signs.Int ∷ signs.Main ∷ signs.Open ∷ signs.Void ∷ signs.Close ∷ signs.LeftBrace ∷ []

abbrev pub file_signs : ℕ → ℕ → List Block → List Sign
file_signs x y bs = header_signs x y ++ (blocks_signs x y 0 bs ++ signs.RightBrace ∷ [])
