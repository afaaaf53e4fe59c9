-- Steps of the loops over comments.
use Rattle.std.proofs.Common.{◌≡◌, ℕ, suc, ◌+◌, ◌-◌, ◌≤◌, Bool, true, false, cond, List, [], ◌∷◌, ◌++◌, length, Option, Some, None, refl, sym, ap, subst, ◌∙◌, append_assoc, arith}
use Rattle.std.specs.Prelude.{option_map}
use Rattle.cpp_lines.specs.Bytes.{begins_with}
use Rattle.cpp_lines.specs.Comments.{block_len, comment_left, blanked_byte, blank_from}

pub begins_len : (x y : ℕ) (bytes : List ℕ) → begins_with x y bytes ≡ true → 2 ≤ length bytes
begins_len x y [] e = absurd cc
begins_len x y (b ∷ []) e = absurd cc
begins_len x y (b ∷ c ∷ bs) e = omega arith

pub none_passed : (o : Option ℕ) → option_map (λ n. 0 + n) o ≡ o
none_passed None = refl
none_passed (Some n) = ap (λ (i : ℕ). Some i) (let k : 0 + n ≡ n = omega arith in k)

one_passed : (passed : ℕ) (o : Option ℕ) → option_map (λ n. passed + n) (option_map suc o) ≡ option_map (λ n. (passed + 1) + n) o
one_passed passed None = refl
one_passed passed (Some n) = ap (λ (i : ℕ). Some i) (let k : passed + suc n ≡ (passed + 1) + n = omega arith in k)

found_at : (rest : List ℕ) → begins_with 42 47 rest ≡ true → block_len rest ≡ Some 2
found_at [] e = absurd cc
found_at (b ∷ bs) e = ap (λ (t : Bool). cond t (Some 2) (option_map suc (block_len bs))) e

not_found_at : (b : ℕ) (bs : List ℕ) → begins_with 42 47 (b ∷ bs) ≡ false → block_len (b ∷ bs) ≡ option_map suc (block_len bs)
not_found_at b bs e = ap (λ (t : Bool). cond t (Some 2) (option_map suc (block_len bs))) e

pub found_on : (passed : ℕ) (rest : List ℕ) (total : Option ℕ) → begins_with 42 47 rest ≡ true → option_map (λ n. passed + n) (block_len rest) ≡ total → Some (passed + 2) ≡ total
found_on passed rest total e h = ap (option_map (λ n. passed + n)) (sym (found_at rest e)) ∙ h

pub passed_on : (passed b : ℕ) (bs rest : List ℕ) (total : Option ℕ) → rest ≡ b ∷ bs → begins_with 42 47 rest ≡ false → option_map (λ n. passed + n) (block_len rest) ≡ total
    → option_map (λ n. (passed + 1) + n) (block_len bs) ≡ total
passed_on passed b bs rest total cut e h =
    sym (one_passed passed (block_len bs))
    ∙ ap (option_map (λ n. passed + n)) (sym (not_found_at b bs (subst (λ (xs : List ℕ). begins_with 42 47 xs ≡ false) cut e)))
    ∙ ap (λ (xs : List ℕ). option_map (λ n. passed + n) (block_len xs)) (sym cut) ∙ h

pub ended_on : (passed : ℕ) (rest : List ℕ) (total : Option ℕ) → rest ≡ [] → option_map (λ n. passed + n) (block_len rest) ≡ total → None ≡ total
ended_on passed rest total cut h = ap (λ (xs : List ℕ). option_map (λ n. passed + n) (block_len xs)) (sym cut) ∙ h

pub blanked_on : (list : List ℕ) (left b : ℕ) (bs rest total : List ℕ) → rest ≡ b ∷ bs → list ++ blank_from left rest ≡ total
    → (list ++ blanked_byte (comment_left left rest) b ∷ []) ++ blank_from (comment_left left rest - 1) bs ≡ total
blanked_on list left b bs rest total cut h =
    append_assoc list (blanked_byte (comment_left left rest) b ∷ []) (blank_from (comment_left left rest - 1) bs)
    ∙ ap (λ (xs : List ℕ). list ++ (blanked_byte (comment_left left xs) b ∷ blank_from (comment_left left xs - 1) bs)) cut
    ∙ ap (λ (xs : List ℕ). list ++ blank_from left xs) (sym cut) ∙ h

pub length-blank_from : (left : ℕ) (bytes : List ℕ) → length (blank_from left bytes) ≡ length bytes
length-blank_from left [] = refl
length-blank_from left (b ∷ bs) = ap suc (length-blank_from (comment_left left (b ∷ bs) - 1) bs)
