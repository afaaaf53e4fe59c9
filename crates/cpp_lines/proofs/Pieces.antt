-- A text is in one way a list of pieces.
use Rattle.std.proofs.Common.{◌≡◌, ◌⊎◌, ℕ, zero, suc, ◌+◌, ◌≤◌, Bool, true, false, ◌||◌, cond, List, [], ◌∷◌, ◌++◌, length, drop, map, Some, None, refl, sym, ◌∙◌, ap, subst, inl, inr, true≢false, append_assoc, append-nil, arith}
use Rattle.std.specs.Prelude.{option_map, unwrap_or, ◌==◌, ◌&&◌, ◌-◌, not}
use Rattle.std.specs.List.{list_any, prefix_len}
use Rattle.std.proofs.lemmas.Bool.{eqb-true}
use Rattle.std.proofs.lemmas.Bool.Decides.{nat_tests}
use Rattle.fam_outer.specs.Places.{is_newline}
use Rattle.cpp_lines.specs.Bytes.{begins_with, is_line_byte}
use Rattle.cpp_lines.specs.Comments.{block_len, comment_len, comment_left, blanked_byte, blank_from, blank}
use Rattle.cpp_lines.specs.Pieces.{Piece, code, block, line, spelled, HasNoEnd, opens, IsLineEnd, MayStand, IsUnclosedOrNone, IsRead, IsReadOnce, space_for, without_comment, joined, IsComment}

-- ---- comments without an end, and up to the first end

shorter : (c : ℕ) (cs : List ℕ) → HasNoEnd (c ∷ cs) → HasNoEnd cs
shorter c cs h = record { nowhere = λ n. h.nowhere (suc n) }

longer : (c : ℕ) (cs : List ℕ) → begins_with 42 47 (c ∷ cs) ≡ false → HasNoEnd cs → HasNoEnd (c ∷ cs)
longer c cs e h = record { nowhere = at }
  where
    at : (n : ℕ) → begins_with 42 47 (drop n (c ∷ cs)) ≡ false
    at zero = e
    at (suc n) = h.nowhere n

none_ends : HasNoEnd []
none_ends = record { nowhere = at }
  where
    at : (n : ℕ) → begins_with 42 47 (drop n []) ≡ false
    at zero = refl
    at (suc n) = refl

star_ends : HasNoEnd (42 ∷ [])
star_ends = longer 42 [] refl none_ends

-- the first two bytes decide, whatever stands behind the star
same_begin : (c : ℕ) (cs ys zs : List ℕ) → begins_with 42 47 (c ∷ (cs ++ 42 ∷ ys)) ≡ begins_with 42 47 (c ∷ (cs ++ 42 ∷ zs))
same_begin c [] ys zs = refl
same_begin c (d ∷ ds) ys zs = refl

pub closed_len : (inner rest : List ℕ) → HasNoEnd (inner ++ 42 ∷ []) → block_len (inner ++ 42 ∷ (47 ∷ rest)) ≡ Some (length inner + 2)
closed_len [] rest h = refl
closed_len (c ∷ cs) rest h =
    let here : begins_with 42 47 (c ∷ (cs ++ 42 ∷ (47 ∷ rest))) ≡ false = same_begin c cs (47 ∷ rest) [] ∙ h.nowhere 0 in
    ap (λ t. cond t (Some 2) (option_map suc (block_len (cs ++ 42 ∷ (47 ∷ rest))))) here
    ∙ ap (option_map suc) (closed_len cs rest (shorter c (cs ++ 42 ∷ []) h))
    ∙ ap Some (let k : suc (length cs + 2) ≡ suc (length cs) + 2 = omega arith in k)

pub open_len : (bytes : List ℕ) → HasNoEnd bytes → block_len bytes ≡ None
open_len [] h = refl
open_len (c ∷ cs) h =
    ap (λ t. cond t (Some 2) (option_map suc (block_len cs))) (h.nowhere 0) ∙ ap (option_map suc) (open_len cs (shorter c cs h))

-- the comment ends, or it does not
abbrev Closed : List ℕ → Type 0
Closed bytes = (inner : List ℕ) × (rest : List ℕ) × (bytes ≡ inner ++ 42 ∷ (47 ∷ rest)) × HasNoEnd (inner ++ 42 ∷ [])

and_parts : (x y : Bool) → (x && y) ≡ true → (x ≡ true) × (y ≡ true)
and_parts true y e = (refl, e)
and_parts false y e = absurd cc

pub or_parts : (x y : Bool) → (x || y) ≡ false → (x ≡ false) × (y ≡ false)
or_parts true y e = absurd cc
or_parts false y e = (refl, e)

both_false : (x y : Bool) → x ≡ false → y ≡ false → (x || y) ≡ false
both_false x y e f = cc

begins_cons : (x y : ℕ) (bytes : List ℕ) → begins_with x y bytes ≡ true → (rest : List ℕ) × (bytes ≡ x ∷ (y ∷ rest))
begins_cons x y [] e = absurd cc
begins_cons x y (b ∷ []) e = absurd cc
begins_cons x y (b ∷ (c ∷ bs)) e =
    let parts = and_parts (b == x) (c == y) e in
    let first : b ≡ x = eqb-true b x parts.0 in
    let second : c ≡ y = eqb-true c y parts.1 in
    (bs, cc)

closed_or : (bytes : List ℕ) → Closed bytes ⊎ HasNoEnd bytes
closed_or [] = inr none_ends
closed_or (c ∷ cs) =
    elim (begins_with 42 47 (c ∷ cs)) as (λ t. begins_with 42 47 (c ∷ cs) ≡ t → Closed (c ∷ cs) ⊎ HasNoEnd (c ∷ cs)) [
      | true ↦ λ e. let r = begins_cons 42 47 (c ∷ cs) e in inl ([], r.0, r.1, star_ends)
      | false ↦ λ e. elim (closed_or cs) [
        | inl k ↦
            let here : begins_with 42 47 (c ∷ (k.0 ++ 42 ∷ [])) ≡ false = same_begin c k.0 [] (47 ∷ k.1) ∙ (ap (λ xs. begins_with 42 47 (c ∷ xs)) (sym k.2) ∙ e) in
            inl (c ∷ k.0, k.1, ap (λ xs. c ∷ xs) k.2, longer c (k.0 ++ 42 ∷ []) here k.3)
        | inr k ↦ inr (longer c cs e k)
      ]
    ] refl

-- ---- lines

abbrev Parted : List ℕ → Type 0
Parted bytes = (inner : List ℕ) × (rest : List ℕ) × (bytes ≡ inner ++ rest) × (list_any is_newline inner ≡ false) × IsLineEnd rest

parted : (bytes : List ℕ) → Parted bytes
parted [] = ([], [], refl, refl, tt)
parted (c ∷ cs) =
    elim (is_newline c) as (λ t. is_newline c ≡ t → Parted (c ∷ cs)) [
      | true ↦ λ e. ([], c ∷ cs, refl, refl, e)
      | false ↦ λ e. let r = parted cs in (c ∷ r.0, r.1, ap (λ xs. c ∷ xs) r.2, both_false (is_newline c) (list_any is_newline r.0) e r.3, r.4)
    ] refl

line_len : (inner rest : List ℕ) → list_any is_newline inner ≡ false → IsLineEnd rest → prefix_len is_line_byte (inner ++ rest) ≡ length inner
line_len [] [] h e = refl
line_len [] (b ∷ bs) h e = ap (λ t. cond (not t) (1 + prefix_len is_line_byte bs) 0) e
line_len (c ∷ cs) rest h e =
    let parts = or_parts (is_newline c) (list_any is_newline cs) h in
    ap (λ t. cond (not t) (1 + prefix_len is_line_byte (cs ++ rest)) 0) parts.0
    ∙ (ap (λ n. 1 + n) (line_len cs rest parts.1 e) ∙ (let k : 1 + length cs ≡ suc (length cs) = omega arith in k))

-- ---- one way

same_line : (xs ys r s : List ℕ) → xs ++ r ≡ ys ++ s → list_any is_newline xs ≡ false → list_any is_newline ys ≡ false → IsLineEnd r → IsLineEnd s → (xs ≡ ys) × (r ≡ s)
same_line [] [] r s e h i j k = (refl, e)
same_line [] (y ∷ ys) [] s e h i j k = absurd cc
same_line [] (y ∷ ys) (b ∷ bs) s e h i j k =
    let first : b ≡ y = cc in absurd (true≢false (sym j ∙ (ap is_newline first ∙ (or_parts (is_newline y) (list_any is_newline ys) i).0)))
same_line (x ∷ xs) [] r [] e h i j k = absurd cc
same_line (x ∷ xs) [] r (b ∷ bs) e h i j k =
    let first : b ≡ x = cc in absurd (true≢false (sym k ∙ (ap is_newline first ∙ (or_parts (is_newline x) (list_any is_newline xs) h).0)))
same_line (x ∷ xs) (y ∷ ys) r s e h i j k =
    let first : x ≡ y = cc in
    let behind : xs ++ r ≡ ys ++ s = cc in
    let more = same_line xs ys r s behind (or_parts (is_newline x) (list_any is_newline xs) h).1 (or_parts (is_newline y) (list_any is_newline ys) i).1 j k in
    let a = more.0 in
    (cc, more.1)

no_end_here : (y : ℕ) (ys r s : List ℕ) → 42 ∷ (47 ∷ r) ≡ y ∷ (ys ++ 42 ∷ (47 ∷ s)) → HasNoEnd (y ∷ (ys ++ 42 ∷ [])) → ⊥
no_end_here y ys r s e h = true≢false (ap (begins_with 42 47) e ∙ (same_begin y ys (47 ∷ s) [] ∙ h.nowhere 0))

same_block : (xs ys r s : List ℕ) → xs ++ 42 ∷ (47 ∷ r) ≡ ys ++ 42 ∷ (47 ∷ s) → HasNoEnd (xs ++ 42 ∷ []) → HasNoEnd (ys ++ 42 ∷ []) → (xs ≡ ys) × (r ≡ s)
same_block [] [] r s e h i = (refl, cc)
same_block [] (y ∷ ys) r s e h i = absurd (no_end_here y ys r s e i)
same_block (x ∷ xs) [] r s e h i = absurd (no_end_here x xs s r (sym e) h)
same_block (x ∷ xs) (y ∷ ys) r s e h i =
    let first : x ≡ y = cc in
    let behind : xs ++ 42 ∷ (47 ∷ r) ≡ ys ++ 42 ∷ (47 ∷ s) = cc in
    let more = same_block xs ys r s behind (shorter x (xs ++ 42 ∷ []) h) (shorter y (ys ++ 42 ∷ []) i) in
    let a = more.0 in
    (cc, more.1)

pub block_text : (inner rest : List ℕ) → spelled (block inner) ++ rest ≡ 47 ∷ (42 ∷ (inner ++ 42 ∷ (47 ∷ rest)))
block_text inner rest = ap (λ xs. 47 ∷ (42 ∷ xs)) (append_assoc inner (42 ∷ (47 ∷ [])) rest)

no_comment : (b : ℕ) (r bytes : List ℕ) → opens (b ∷ r) ≡ false → opens bytes ≡ true → b ∷ r ≡ bytes → ⊥
no_comment b r bytes h o e = true≢false (sym o ∙ (ap opens (sym e) ∙ h))

kinds_differ : (xs ys : List ℕ) → 47 ∷ (42 ∷ xs) ≡ 47 ∷ (47 ∷ ys) → ⊥
kinds_differ xs ys e = true≢false (ap (begins_with 47 42) e)

first_alike : (p q : Piece) (r s : List ℕ) → spelled p ++ r ≡ spelled q ++ s → MayStand p r → MayStand q s → (p ≡ q) × (r ≡ s)
first_alike (code b) (code c) r s e h i = let first : b ≡ c = cc in (ap code first, cc)
first_alike (code b) (block ys) r s e h i = absurd (no_comment b r (spelled (block ys) ++ s) h refl e)
first_alike (code b) (line ys) r s e h i = absurd (no_comment b r (spelled (line ys) ++ s) h refl e)
first_alike (block xs) (code c) r s e h i = absurd (no_comment c s (spelled (block xs) ++ r) i refl (sym e))
first_alike (block xs) (block ys) r s e h i =
    let whole : 47 ∷ (42 ∷ (xs ++ 42 ∷ (47 ∷ r))) ≡ 47 ∷ (42 ∷ (ys ++ 42 ∷ (47 ∷ s))) = sym (block_text xs r) ∙ (e ∙ block_text ys s) in
    let more = same_block xs ys r s (ap (drop 2) whole) h i in
    (ap block more.0, more.1)
first_alike (block xs) (line ys) r s e h i = absurd (kinds_differ _ _ e)
first_alike (line xs) (code c) r s e h i = absurd (no_comment c s (spelled (line xs) ++ r) i refl (sym e))
first_alike (line xs) (block ys) r s e h i = absurd (kinds_differ _ _ (sym e))
first_alike (line xs) (line ys) r s e h i =
    let more = same_line xs ys r s (ap (drop 2) e) h.0 i.0 h.1 i.1 in
    (ap line more.0, more.1)

not_open : (q : Piece) (rest unclosed : List ℕ) → unclosed ≡ spelled q ++ rest → MayStand q rest → IsUnclosedOrNone unclosed → ⊥
not_open (code b) rest unclosed e h (inl n) = let k : b ∷ rest ≡ [] = sym e ∙ n in cc
not_open (block xs) rest unclosed e h (inl n) = let k : spelled (block xs) ++ rest ≡ [] = sym e ∙ n in cc
not_open (line xs) rest unclosed e h (inl n) = let k : spelled (line xs) ++ rest ≡ [] = sym e ∙ n in cc
not_open (code b) rest unclosed e h (inr o) = no_comment b rest (47 ∷ (42 ∷ o.0)) h refl (sym e ∙ o.1)
not_open (block xs) rest unclosed e h (inr o) =
    let whole : o.0 ≡ xs ++ 42 ∷ (47 ∷ rest) = ap (drop 2) (sym o.1 ∙ (e ∙ block_text xs rest)) in
    let k : None ≡ Some (length xs + 2) = sym (open_len o.0 o.2) ∙ (ap block_len whole ∙ closed_len xs rest h) in
    cc
not_open (line xs) rest unclosed e h (inr o) = kinds_differ _ _ (sym o.1 ∙ e)

one_way : (ps qs : List Piece) (text o u : List ℕ) → IsRead text ps o → IsRead text qs u → (ps ≡ qs) × (o ≡ u)
one_way [] [] text o u h i = (refl, sym h.0 ∙ i.0)
one_way [] (q ∷ qs) text o u h i = absurd (not_open q i.0 o (sym h.0 ∙ i.1) i.2 h.1)
one_way (p ∷ ps) [] text o u h i = absurd (not_open p h.0 u (sym i.0 ∙ h.1) h.2 i.1)
one_way (p ∷ ps) (q ∷ qs) text o u h i =
    let first = first_alike p q h.0 i.0 (sym h.1 ∙ i.1) h.2 i.2 in
    let more = one_way ps qs h.0 o u h.3 (subst (λ xs. IsRead xs qs u) (sym first.1) i.3) in
    let a = first.0 in
    let b = more.0 in
    (cc, more.1)

-- ---- at least one

abbrev Some_way : List ℕ → Type 0
Some_way text = (ps : List Piece) × (o : List ℕ) × IsRead text ps o

behind_shorter : (xs ys : List ℕ) → length ys ≤ length (xs ++ ys)
behind_shorter [] ys = omega arith
behind_shorter (x ∷ xs) ys = let h = behind_shorter xs ys in omega arith

fewer_behind : (n a b : ℕ) (xs rest bytes : List ℕ) → bytes ≡ a ∷ (b ∷ (xs ++ rest)) → length bytes ≤ suc n → length rest ≤ n
fewer_behind n a b xs rest bytes e h = let k = ap length e in let l = behind_shorter xs rest in omega arith

read_on : (n : ℕ) (text : List ℕ) → length text ≤ n → Some_way text
read_on n [] h = ([], [], (refl, inl refl))
read_on zero (b ∷ bs) h = absurd (omega arith)
read_on (suc n) (b ∷ bs) h =
    elim (begins_with 47 42 (b ∷ bs)) as (λ t. begins_with 47 42 (b ∷ bs) ≡ t → Some_way (b ∷ bs)) [
      | true ↦ λ e. (let r = begins_cons 47 42 (b ∷ bs) e in elim (closed_or r.0) [
        | inl k ↦
            let whole : b ∷ bs ≡ 47 ∷ (42 ∷ (k.0 ++ 42 ∷ (47 ∷ k.1))) = r.1 ∙ ap (λ xs. 47 ∷ (42 ∷ xs)) k.2 in
            let text : b ∷ bs ≡ spelled (block k.0) ++ k.1 = whole ∙ sym (block_text k.0 k.1) in
            let more = read_on n k.1 (fewer_behind n 47 42 (k.0 ++ 42 ∷ (47 ∷ [])) k.1 (b ∷ bs) text h) in
            (block k.0 ∷ more.0, more.1, (k.1, text, k.3, more.2))
        | inr k ↦ ([], b ∷ bs, (refl, inr (r.0, r.1, k)))
      ])
      | false ↦ λ e. elim (begins_with 47 47 (b ∷ bs)) as (λ t. begins_with 47 47 (b ∷ bs) ≡ t → Some_way (b ∷ bs)) [
        | true ↦ λ f.
            let r = begins_cons 47 47 (b ∷ bs) f in
            let k = parted r.0 in
            let text : b ∷ bs ≡ spelled (line k.0) ++ k.1 = r.1 ∙ ap (λ xs. 47 ∷ (47 ∷ xs)) k.2 in
            let more = read_on n k.1 (fewer_behind n 47 47 k.0 k.1 (b ∷ bs) text h) in
            (line k.0 ∷ more.0, more.1, (k.1, text, (k.3, k.4), more.2))
        | false ↦ λ f.
            let more = read_on n bs (omega arith) in
            (code b ∷ more.0, more.1, (bs, refl, both_false (begins_with 47 42 (b ∷ bs)) (begins_with 47 47 (b ∷ bs)) e f, more.2))
      ] refl
    ] refl

pub read_once : (text : List ℕ) → IsReadOnce text
read_once text =
    let some = read_on (length text) text (omega arith) in
    record {
      pieces = some.0;
      unclosed = some.1;
      reads = some.2;
      alone = λ ps end r. one_way ps some.0 text end some.1 r some.2;
    }

-- ---- the blanked text

pub not_zero : (n : ℕ) → (suc n == 0) ≡ false
not_zero n = grind (arith, nat_tests)

passed : (xs rest : List ℕ) → blank_from (length xs) (xs ++ rest) ≡ map space_for xs ++ blank_from 0 rest
passed [] rest = refl
passed (x ∷ xs) rest =
    let still : comment_left (suc (length xs)) (x ∷ (xs ++ rest)) ≡ suc (length xs) = ap (λ t. cond t (comment_len (x ∷ (xs ++ rest))) (suc (length xs))) (not_zero (length xs)) in
    ap (λ n. blanked_byte n x ∷ blank_from (n - 1) (xs ++ rest)) still
    ∙ (ap (λ n. space_for x ∷ blank_from n (xs ++ rest)) (let k : suc (length xs) - 1 ≡ length xs = omega arith in k) ∙ ap (λ ys. space_for x ∷ ys) (passed xs rest))

comment_passed : (x : ℕ) (xs rest : List ℕ) → comment_len (x ∷ (xs ++ rest)) ≡ suc (length xs) → blank_from 0 (x ∷ (xs ++ rest)) ≡ map space_for (x ∷ xs) ++ blank_from 0 rest
comment_passed x xs rest e =
    ap (λ n. blanked_byte n x ∷ blank_from (n - 1) (xs ++ rest)) e
    ∙ (ap (λ n. space_for x ∷ blank_from n (xs ++ rest)) (let k : suc (length xs) - 1 ≡ length xs = omega arith in k) ∙ ap (λ ys. space_for x ∷ ys) (passed xs rest))

block_comment : (inner rest : List ℕ) → HasNoEnd (inner ++ 42 ∷ []) → comment_len (47 ∷ (42 ∷ (inner ++ 42 ∷ (47 ∷ rest)))) ≡ 2 + (length inner + 2)
block_comment inner rest h = ap (λ o. unwrap_or (option_map (λ n. 2 + n) o) (length (47 ∷ (42 ∷ (inner ++ 42 ∷ (47 ∷ rest)))))) (closed_len inner rest h)

length-star : (inner : List ℕ) → length (inner ++ 42 ∷ (47 ∷ [])) ≡ length inner + 2
length-star [] = refl
length-star (c ∷ cs) = let h = length-star cs in omega arith

pub code_len : (b : ℕ) (rest : List ℕ) → opens (b ∷ rest) ≡ false → comment_len (b ∷ rest) ≡ 0
code_len b rest h =
    let parts = or_parts (begins_with 47 42 (b ∷ rest)) (begins_with 47 47 (b ∷ rest)) h in
    no_len (begins_with 47 42 (b ∷ rest)) (begins_with 47 47 (b ∷ rest)) _ _ parts.0 parts.1
  where
    no_len : (x y : Bool) (m n : ℕ) → x ≡ false → y ≡ false → cond x m (cond y n 0) ≡ 0
    no_len x y m n e f = cc

pub piece_len : (p : Piece) (rest : List ℕ) → MayStand p rest → IsComment p → comment_len (spelled p ++ rest) ≡ length (spelled p)
piece_len (code b) rest h c = absurd c
piece_len (block xs) rest h c =
    ap comment_len (block_text xs rest) ∙ (block_comment xs rest h ∙ (let k = length-star xs in let l : 2 + (length xs + 2) ≡ suc (suc (length (xs ++ 42 ∷ (47 ∷ [])))) = omega arith in l))
piece_len (line xs) rest h c = let k = line_len xs rest h.0 h.1 in let l : 1 + (1 + prefix_len is_line_byte (xs ++ rest)) ≡ suc (suc (length xs)) = omega arith in l

piece_blanked : (p : Piece) (rest : List ℕ) → MayStand p rest → blank_from 0 (spelled p ++ rest) ≡ without_comment p ++ blank_from 0 rest
piece_blanked (code b) rest h = ap (λ n. blanked_byte n b ∷ blank_from (n - 1) rest) (code_len b rest h)
piece_blanked (block xs) rest h = comment_passed 47 (42 ∷ (xs ++ 42 ∷ (47 ∷ []))) rest (piece_len (block xs) rest h tt)
piece_blanked (line xs) rest h = comment_passed 47 (47 ∷ xs) rest (piece_len (line xs) rest h tt)

whole_passed : (x : ℕ) (xs : List ℕ) → comment_len (x ∷ xs) ≡ suc (length xs) → blank_from 0 (x ∷ xs) ≡ map space_for (x ∷ xs)
whole_passed x xs e =
    let all : xs ++ [] ≡ xs = append-nil xs in
    ap (blank_from 0) (sym (ap (λ ys. x ∷ ys) all)) ∙ (comment_passed x xs [] (ap (λ ys. comment_len (x ∷ ys)) all ∙ e) ∙ append-nil (map space_for (x ∷ xs)))

open_blanked : (unclosed : List ℕ) → IsUnclosedOrNone unclosed → blank_from 0 unclosed ≡ map space_for unclosed
open_blanked unclosed (inl n) = subst (λ xs. blank_from 0 xs ≡ map space_for xs) (sym n) refl
open_blanked unclosed (inr o) =
    let len : comment_len (47 ∷ (42 ∷ o.0)) ≡ suc (length (42 ∷ o.0)) = ap (λ l. unwrap_or (option_map (λ n. 2 + n) l) (length (47 ∷ (42 ∷ o.0)))) (open_len o.0 o.2) in
    subst (λ xs. blank_from 0 xs ≡ map space_for xs) (sym o.1) (whole_passed 47 (42 ∷ o.0) len)

pub blanked_joined : (text : List ℕ) (ps : List Piece) (unclosed : List ℕ) → IsRead text ps unclosed → blank text ≡ joined ps unclosed
blanked_joined text [] unclosed r = ap (blank_from 0) r.0 ∙ open_blanked unclosed r.1
blanked_joined text (p ∷ ps) unclosed r =
    ap (blank_from 0) r.1 ∙ (piece_blanked p r.0 r.2 ∙ ap (λ xs. without_comment p ++ xs) (blanked_joined r.0 ps unclosed r.3))
