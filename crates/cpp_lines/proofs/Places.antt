-- Places stay where newlines stay.
use Rattle.std.proofs.Common.{◌≡◌, ℕ, zero, suc, ◌+◌, Bool, true, false, cond, List, [], ◌∷◌, ◌++◌, length, take, drop, ◌-◌, refl, sym, ap, ◌∙◌}
use Rattle.std.specs.Prelude.{◌||◌, map, count_by}
use Rattle.std.specs.List.{list_any}
use Rattle.std.proofs.lemmas.Bool.{or_parts}
use Rattle.std.proofs.lemmas.List.Sums.{sum_by-cons}
use Rattle.fam_outer.specs.Places.{is_newline, last_line, place_at}
use Rattle.fam_outer.proofs.Placing.{one_spot}
use Rattle.cpp_lines.specs.Comments.{comment_left, blanked_byte, blank_from}
use Rattle.cpp_lines.specs.Code.{code_piece, code_of}
use Rattle.cpp_lines.specs.Lines.{pieces}
use Rattle.cpp_lines.specs.Preprocessed.{with_newlines}
use Rattle.cpp_lines.proofs.CodeLines.{AreLines, pieces_are_lines, joined_again, piece_quiet, piece_len}

-- which bytes are newlines
abbrev pub newlines : List ℕ → List Bool
newlines bytes = map is_newline bytes

abbrev head_of : List Bool → Bool
head_of [] = false
head_of (b ∷ bs) = b

abbrev IsAlike : List ℕ → List ℕ → Type 0
IsAlike xs ys = (count_by is_newline xs ≡ count_by is_newline ys) × (length (last_line xs) ≡ length (last_line ys)) × (list_any is_newline xs ≡ list_any is_newline ys) × (length xs ≡ length ys)

counted : (b : ℕ) (bs : List ℕ) → count_by is_newline (b ∷ bs) ≡ cond (is_newline b) 1 0 + count_by is_newline bs
counted b bs = sum_by-cons (λ x. cond (is_newline x) 1 0) b bs

pub alike : (xs ys : List ℕ) → newlines xs ≡ newlines ys → IsAlike xs ys
alike [] [] e = (refl, refl, refl, refl)
alike [] (c ∷ cs) e = absurd cc
alike (b ∷ bs) [] e = absurd cc
alike (b ∷ bs) (c ∷ cs) e =
    let h : is_newline b ≡ is_newline c = ap head_of e in
    let k = alike bs cs (ap (drop 1) e) in
    let any : (is_newline b || list_any is_newline bs) ≡ (is_newline c || list_any is_newline cs) = ap (λ (v : Bool). v || list_any is_newline bs) h ∙ ap (λ (v : Bool). is_newline c || v) k.2 in
    let len : length (b ∷ bs) ≡ length (c ∷ cs) = ap suc k.3 in (
      counted b bs ∙ ap (λ (v : Bool). cond v 1 0 + count_by is_newline bs) h ∙ ap (λ (n : ℕ). cond (is_newline c) 1 0 + n) k.0 ∙ sym (counted c cs),
      ap (λ (v : Bool). length (cond v (last_line bs) (b ∷ bs))) any
          ∙ elim (is_newline c || list_any is_newline cs) as (λ v. length (cond v (last_line bs) (b ∷ bs)) ≡ length (cond v (last_line cs) (c ∷ cs))) [ true ↦ k.1 | false ↦ len ],
      any,
      len,
    )

front_alike : (xs ys : List ℕ) (n : ℕ) → newlines xs ≡ newlines ys → newlines (take n xs) ≡ newlines (take n ys)
front_alike xs ys zero e = refl
front_alike [] [] (suc n) e = refl
front_alike [] (c ∷ cs) (suc n) e = absurd cc
front_alike (b ∷ bs) [] (suc n) e = absurd cc
front_alike (b ∷ bs) (c ∷ cs) (suc n) e = ap (λ (v : Bool). v ∷ newlines (take n bs)) (ap head_of e) ∙ ap (λ (vs : List Bool). is_newline c ∷ vs) (front_alike bs cs n (ap (drop 1) e))

pub same_place : (xs ys : List ℕ) (n : ℕ) → newlines xs ≡ newlines ys → place_at xs n ≡ place_at ys n
same_place xs ys n e =
    let k = alike (take n xs) (take n ys) (front_alike xs ys n e) in
    one_spot (count_by is_newline (take n xs) + 1) (count_by is_newline (take n ys) + 1) (length (last_line (take n xs)) + 1) (length (last_line (take n ys)) + 1) (ap (λ (i : ℕ). i + 1) k.0) (ap (λ (i : ℕ). i + 1) k.1)

blanked_kept : (left b : ℕ) → is_newline (blanked_byte left b) ≡ is_newline b
blanked_kept zero b = refl
blanked_kept (suc left) b = elim (is_newline b) as (λ v. is_newline b ≡ v → is_newline (cond v b 32) ≡ v) [ true ↦ λ e. e | false ↦ λ e. refl ] refl

pub blank_alike : (left : ℕ) (bytes : List ℕ) → newlines (blank_from left bytes) ≡ newlines bytes
blank_alike left [] = refl
blank_alike left (b ∷ bs) =
    ap (λ (v : Bool). v ∷ newlines (blank_from (comment_left left (b ∷ bs) - 1) bs)) (blanked_kept (comment_left left (b ∷ bs)) b) ∙ ap (λ (vs : List Bool). is_newline b ∷ vs) (blank_alike (comment_left left (b ∷ bs) - 1) bs)

-- ---- the code of a text

quiet_alike : (xs ys : List ℕ) → list_any is_newline xs ≡ false → list_any is_newline ys ≡ false → length xs ≡ length ys → newlines xs ≡ newlines ys
quiet_alike [] [] h k e = refl
quiet_alike [] (y ∷ ys) h k e = absurd cc
quiet_alike (x ∷ xs) [] h k e = absurd cc
quiet_alike (x ∷ xs) (y ∷ ys) h k e =
    let p = or_parts (is_newline x) (list_any is_newline xs) h in
    let q = or_parts (is_newline y) (list_any is_newline ys) k in
    let less : length xs ≡ length ys = cc in
    ap (λ (v : Bool). v ∷ newlines xs) (p.0 ∙ sym q.0) ∙ ap (λ (vs : List Bool). is_newline y ∷ vs) (quiet_alike xs ys p.1 q.1 less)

newlines_append : (xs ys : List ℕ) → newlines (xs ++ ys) ≡ newlines xs ++ newlines ys
newlines_append [] ys = refl
newlines_append (x ∷ xs) ys = ap (λ (vs : List Bool). is_newline x ∷ vs) (newlines_append xs ys)

piece_alike : (p : List ℕ) → list_any is_newline p ≡ false → newlines (code_piece p) ≡ newlines p
piece_alike p none = quiet_alike (code_piece p) p (piece_quiet p none) none (piece_len p)

lines_alike : (ps : List (List ℕ)) → AreLines ps → newlines (with_newlines (map code_piece ps)) ≡ newlines (with_newlines ps)
lines_alike [] h = refl
lines_alike (p ∷ []) h = piece_alike p h.0
lines_alike (p ∷ q ∷ qs) h =
    newlines_append (code_piece p) (10 ∷ with_newlines (map code_piece (q ∷ qs)))
    ∙ ap (λ (vs : List Bool). vs ++ newlines (10 ∷ with_newlines (map code_piece (q ∷ qs)))) (piece_alike p h.0)
    ∙ ap (λ (vs : List Bool). newlines p ++ is_newline 10 ∷ vs) (lines_alike (q ∷ qs) h.1)
    ∙ sym (newlines_append p (10 ∷ with_newlines (q ∷ qs)))

pub code_alike : (text : List ℕ) → newlines (code_of text) ≡ newlines text
unfolding code_of
code_alike text = lines_alike (pieces text) (pieces_are_lines text (pieces text) refl) ∙ ap newlines (joined_again text (pieces text) refl)
