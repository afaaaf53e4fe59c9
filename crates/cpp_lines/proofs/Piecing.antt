-- The pieces of a text, one after another.
use Rattle.std.proofs.Common.{◌≡◌, ℕ, suc, ◌+◌, true, false, cond, List, [], ◌∷◌, ◌++◌, take, drop, refl, sym, ap, subst, arith}
use Rattle.std.specs.Prelude.{not}
use Rattle.std.specs.List.{list_any, prefix_len}
use Rattle.std.proofs.lemmas.Bool.{or_from, eqb-true}
use Rattle.fam_outer.specs.Places.{is_newline}
use Rattle.cpp_lines.specs.Bytes.{is_line_byte}
use Rattle.cpp_lines.specs.Lines.{in_first, pieces}

abbrev len_of : List ℕ → ℕ
len_of bytes = prefix_len is_line_byte bytes

pub whole_line : (bytes : List ℕ) → drop (len_of bytes) bytes ≡ [] → pieces bytes ≡ bytes ∷ []
whole_line [] e = refl
whole_line (b ∷ bs) e = elim (is_newline b) as (λ t. drop (cond (not t) (1 + len_of bs) 0) (b ∷ bs) ≡ [] → cond t ([] ∷ pieces bs) (in_first b (pieces bs)) ≡ (b ∷ bs) ∷ []) [
  | true ↦ λ h. absurd cc
  | false ↦ λ h. (let k : 1 + len_of bs ≡ suc (len_of bs) = omega arith in ap (in_first b) (whole_line bs (subst (λ (i : ℕ). drop i (b ∷ bs) ≡ []) k h)))
] e

abbrev pub IsFirst : List ℕ → List ℕ → List ℕ → Type 0
IsFirst bytes line rest = (pieces bytes ≡ line ∷ pieces rest) × (bytes ≡ line ++ 10 ∷ rest) × (list_any is_newline line ≡ false)

pub first_line : (bytes : List ℕ) (c : ℕ) (rest : List ℕ) → drop (len_of bytes) bytes ≡ c ∷ rest → IsFirst bytes (take (len_of bytes) bytes) rest
first_line [] c rest e = absurd cc
first_line (b ∷ bs) c rest e = elim (is_newline b) as (λ t. is_newline b ≡ t → drop (cond (not t) (1 + len_of bs) 0) (b ∷ bs) ≡ c ∷ rest
    → (cond t ([] ∷ pieces bs) (in_first b (pieces bs)) ≡ take (cond (not t) (1 + len_of bs) 0) (b ∷ bs) ∷ pieces rest)
    × ((b ∷ bs) ≡ take (cond (not t) (1 + len_of bs) 0) (b ∷ bs) ++ 10 ∷ rest) × (list_any is_newline (take (cond (not t) (1 + len_of bs) 0) (b ∷ bs)) ≡ false)) [
      | true ↦ λ v h. (let r : bs ≡ rest = ap (drop 1) h in (ap (λ (xs : List ℕ). [] ∷ pieces xs) r, rw (r, eqb-true b 10 v) refl, refl))
      | false ↦ λ v h. (let k : 1 + len_of bs ≡ suc (len_of bs) = omega arith in
          let p = first_line bs c rest (subst (λ (i : ℕ). drop i (b ∷ bs) ≡ c ∷ rest) k h) in
          subst (λ (i : ℕ). (in_first b (pieces bs) ≡ take i (b ∷ bs) ∷ pieces rest) × ((b ∷ bs) ≡ take i (b ∷ bs) ++ 10 ∷ rest) × (list_any is_newline (take i (b ∷ bs)) ≡ false)) (sym k)
          (ap (in_first b) p.0, ap (λ (xs : List ℕ). b ∷ xs) p.1, or_from (is_newline b) (list_any is_newline (take (len_of bs) bs)) v p.2))
    ] refl e
