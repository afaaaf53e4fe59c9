-- The pieces of a text.
use Rattle.std.proofs.Common.{◌≡◌, ℕ, suc, ◌+◌, true, false, not, cond, List, [], ◌∷◌, ◌++◌, take, drop, refl, sym, ap, subst, ◌∙◌, arith}
use Rattle.std.specs.Prelude.{◌||◌}
use Rattle.std.specs.List.{list_any, prefix_len}
use Rattle.fam_outer.specs.Places.{is_newline}
use Rattle.cpp_lines.specs.Bytes.{is_line_byte}
use Rattle.cpp_lines.specs.Lines.{pieces, in_first}
use Rattle.cpp_lines.proofs.Piecing.{whole_line, first_line}

pub not_none : (bytes : List ℕ) → pieces bytes ≡ [] → ⊥
not_none [] e = absurd cc
not_none (b ∷ bs) e = elim (is_newline b) as (λ t. cond t ([] ∷ pieces bs) (in_first b (pieces bs)) ≡ [] → ⊥) [
  | true ↦ λ h. absurd cc
  | false ↦ elim (pieces bs) as (λ ps. in_first b ps ≡ [] → ⊥) [ [] ↦ λ h. absurd cc | p ∷ ps ↦ λ h. absurd cc ]
] e

abbrev first_of_lists : List (List ℕ) → List ℕ
first_of_lists [] = []
first_of_lists (p ∷ ps) = p

line_bytes : (bytes : List ℕ) → drop (prefix_len is_line_byte bytes) bytes ≡ [] → list_any is_newline bytes ≡ false
line_bytes [] e = refl
line_bytes (b ∷ bs) e = elim (is_newline b) as (λ t. drop (cond (not t) (1 + prefix_len is_line_byte bs) 0) (b ∷ bs) ≡ [] → (t || list_any is_newline bs) ≡ false) [
  | true ↦ λ h. absurd cc
  | false ↦ λ h. (let k : 1 + prefix_len is_line_byte bs ≡ suc (prefix_len is_line_byte bs) = omega arith in line_bytes bs (subst (λ (i : ℕ). drop i (b ∷ bs) ≡ []) k h))
] e

-- one piece alone is the text, of several the first is a line with its newline
pub last_piece : (bytes p : List ℕ) → pieces bytes ≡ p ∷ [] → (bytes ≡ p) × (list_any is_newline p ≡ false)
last_piece bytes p e = elim (drop (prefix_len is_line_byte bytes) bytes) as (λ ys. drop (prefix_len is_line_byte bytes) bytes ≡ ys → (bytes ≡ p) × (list_any is_newline p ≡ false)) [
  | [] ↦ λ h. (let same : bytes ≡ p = ap first_of_lists (sym (whole_line bytes h) ∙ e) in (same, subst (λ (xs : List ℕ). list_any is_newline xs ≡ false) same (line_bytes bytes h)))
  | c ∷ rest ↦ λ h. absurd (not_none rest (ap (drop 1) (sym (first_line bytes c rest h).0 ∙ e)))
] refl

pub next_piece : (bytes p q : List ℕ) (qs : List (List ℕ)) → pieces bytes ≡ p ∷ q ∷ qs → (rest : List ℕ) × (bytes ≡ p ++ 10 ∷ rest) × (list_any is_newline p ≡ false) × (pieces rest ≡ q ∷ qs)
next_piece bytes p q qs e = elim (drop (prefix_len is_line_byte bytes) bytes) as (λ ys. drop (prefix_len is_line_byte bytes) bytes ≡ ys → (rest : List ℕ) × (bytes ≡ p ++ 10 ∷ rest) × (list_any is_newline p ≡ false) × (pieces rest ≡ q ∷ qs)) [
  | [] ↦ λ h. (let bad : (bytes ∷ []) ≡ p ∷ q ∷ qs = sym (whole_line bytes h) ∙ e in absurd cc)
  | c ∷ rest ↦ λ h. (let f = first_line bytes c rest h in
      let same : take (prefix_len is_line_byte bytes) bytes ≡ p = ap first_of_lists (sym f.0 ∙ e) in
      (rest, f.1 ∙ ap (λ (xs : List ℕ). xs ++ 10 ∷ rest) same, subst (λ (xs : List ℕ). list_any is_newline xs ≡ false) same f.2, ap (drop 1) (sym f.0 ∙ e)))
] refl
