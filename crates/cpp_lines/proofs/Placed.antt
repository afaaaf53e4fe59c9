-- The places of lines are places of the text.
use Rattle.std.proofs.Common.{◌≡◌, ℕ, zero, suc, ◌+◌, ◌≤◌, Bool, true, false, not, cond, List, [], ◌∷◌, ◌++◌, length, take, drop, Ok, Err, refl, sym, ap, subst, ◌∙◌, arith}
use Rattle.std.specs.List.{list_any, prefix_len}
use Rattle.std.proofs.lemmas.Bool.{or_from, or_parts}
use Rattle.std.proofs.lemmas.List.{append-nil, length-drop, length-append, length-take-le, drop-drop, take-append-le}
use Rattle.std.proofs.lemmas.List.Sums.{prefix_len-le-length}
use Rattle.std.proofs.Math.Seq.{take-add}
use Rattle.fam_outer.specs.declared.dialect.Includes.{Includes}
use Rattle.fam_outer.specs.Places.{is_newline, end_place, place_at}
use Rattle.fam_outer.proofs.Placing.{spot, behind_bytes}
use Rattle.cpp_lines.specs.declared.line.Line.{Line}
use Rattle.cpp_lines.specs.declared.line.LineKind.{LineKind}
use Rattle.c_words.specs.Bytes.{is_gap}
use Rattle.cpp_lines.specs.Directives.{begins_directive, plain_kind}
use Rattle.cpp_lines.specs.Lines.{pieces, line_place, line_with, plain_line, plain_lines_from, is_code, ArePlaced}
use Rattle.cpp_lines.proofs.Listing.{got, both, IsCodeOr, kind_is, behind_line}
use Rattle.cpp_lines.proofs.Coding.{not_none, last_piece, next_piece}

abbrev gap_of : List ℕ → ℕ
gap_of bytes = prefix_len is_gap bytes

gap_in_line : (line rest : List ℕ) → gap_of (line ++ 10 ∷ rest) ≡ gap_of line
gap_in_line [] rest = refl
gap_in_line (b ∷ bs) rest = ap (λ (n : ℕ). cond (is_gap b) (1 + n) 0) (gap_in_line bs rest)

none_in_front : (n : ℕ) (bytes : List ℕ) → list_any is_newline bytes ≡ false → list_any is_newline (take n bytes) ≡ false
none_in_front zero bytes e = refl
none_in_front (suc n) [] e = refl
none_in_front (suc n) (b ∷ bs) e = let p = or_parts (is_newline b) (list_any is_newline bs) e in or_from (is_newline b) (list_any is_newline (take n bs)) p.0 (none_in_front n bs p.1)

-- the first byte behind the white space of a line
hash_place : (text p rest : List ℕ) (start : ℕ) → drop start text ≡ p ++ rest → gap_of (p ++ rest) ≡ gap_of p → list_any is_newline p ≡ false
    → spot (place_at text start).line ((place_at text start).column + gap_of p) ≡ place_at text (start + gap_of (drop start text))
hash_place text p rest start cut same none =
    let le : gap_of p ≤ length p = prefix_len-le-length is_gap p in
    let n : gap_of (drop start text) ≡ gap_of p = ap gap_of cut ∙ same in
    let front : take (gap_of p) (drop start text) ≡ take (gap_of p) p = ap (take (gap_of p)) cut ∙ take-append-le (gap_of p) p rest le in
    ap (λ (i : ℕ). spot (place_at text start).line ((place_at text start).column + i)) (sym (length-take-le (gap_of p) p le))
    ∙ behind_bytes (take start text) (take (gap_of p) p) (none_in_front (gap_of p) p none)
    ∙ ap (λ (xs : List ℕ). end_place (take start text ++ xs)) (sym front)
    ∙ ap end_place (sym (take-add start (gap_of p) text))
    ∙ ap (λ (i : ℕ). place_at text (start + i)) (sym n)

abbrev IsPlaced : List ℕ → Line → Type 0
IsPlaced text l = l.place ≡ place_at text (cond (is_code l.kind) l.start (l.start + gap_of (drop l.start text)))

line_placed : (text p rest : List ℕ) (start : ℕ) (kind : LineKind) → drop start text ≡ p ++ rest → gap_of (p ++ rest) ≡ gap_of p → list_any is_newline p ≡ false → is_code kind ≡ not (begins_directive p)
    → line_place (place_at text start) p ≡ place_at text (cond (is_code kind) start (start + gap_of (drop start text)))
line_placed text p rest start kind cut same none k =
    elim (begins_directive p) as (λ v. cond v (spot (place_at text start).line ((place_at text start).column + gap_of p)) (place_at text start) ≡ place_at text (cond (not v) start (start + gap_of (drop start text)))) [
      | true ↦ hash_place text p rest start cut same none
      | false ↦ refl
    ]
    ∙ ap (λ (v : Bool). place_at text (cond v start (start + gap_of (drop start text)))) (sym k)

one_placed : (includes : Includes) (text p rest : List ℕ) (start : ℕ) (l : Line) → drop start text ≡ p ++ rest → gap_of (p ++ rest) ≡ gap_of p → list_any is_newline p ≡ false → plain_line includes start (place_at text start) p ≡ Ok l → IsPlaced text l
one_placed includes text p rest start l cut same none e = elim (plain_kind includes p) as (λ r. IsCodeOr (begins_directive p) r → line_with r start (place_at text start) p ≡ Ok l → IsPlaced text l) [
  | Ok kind ↦ λ k h. subst (λ (x : Line). IsPlaced text x) (ap (got l) h) (line_placed text p rest start kind cut same none k)
  | Err code ↦ λ k h. absurd cc
] (kind_is includes p) e

pub all_placed : (includes : Includes) (text : List ℕ) (start : ℕ) (ps : List (List ℕ)) (ls : List Line) → plain_lines_from includes text start ps ≡ Ok ls → pieces (drop start text) ≡ ps → start ≤ length text → ArePlaced text ls
all_placed includes text start [] ls h e le = absurd (not_none (drop start text) e)
all_placed includes text start (p ∷ []) ls h e le =
    let k = last_piece (drop start text) p e in
    let b = both (plain_line includes start (place_at text start) p) (Ok []) ls h in
    subst (λ (xs : List Line). ArePlaced text xs) (ap (λ (ks : List Line). b.0 ∷ ks) (ap (got []) b.3) ∙ b.4)
    (one_placed includes text p [] start b.0 (k.0 ∙ sym (append-nil p)) (ap gap_of (append-nil p)) k.1 b.2, tt)
all_placed includes text start (p ∷ q ∷ qs) ls h e le =
    let k = next_piece (drop start text) p q qs e in
    let n : start + (length p + (length k.0 + 1)) ≡ length text = omega (arith, ap length k.1, length-drop start text, length-append p (10 ∷ k.0)) in
    let after : drop (start + length p + 1) text ≡ k.0 = ap (λ (i : ℕ). drop i text) (let j : start + length p + 1 ≡ start + (length p + 1) = omega arith in j) ∙ sym (drop-drop (length p + 1) start text) ∙ ap (drop (length p + 1)) k.1 ∙ behind_line p k.0 in
    let b = both (plain_line includes start (place_at text start) p) (plain_lines_from includes text (start + length p + 1) (q ∷ qs)) ls h in
    subst (λ (xs : List Line). ArePlaced text xs) b.4
    (one_placed includes text p (10 ∷ k.0) start b.0 k.1 (gap_in_line p k.0) k.2 b.2, all_placed includes text (start + length p + 1) (q ∷ qs) b.1 b.3 (ap pieces after ∙ k.3) (omega arith))
