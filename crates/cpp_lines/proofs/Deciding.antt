-- The first fault is the one at the first offset that has one.
use Rattle.std.proofs.Common.{◌≡◌, ℕ, zero, suc, ◌+◌, ◌-◌, ◌≤◌, inl, inr, List, [], ◌∷◌, length, drop, Option, Some, None, refl, sym, ap, ◌∙◌, arith}
use Rattle.std.specs.Prelude.{◌⊎◌, option_map}
use Rattle.std.proofs.Math.Nat.{eq-or-lt_of_le}
use Rattle.std.proofs.lemmas.List.{length-drop, drop-drop}
use Rattle.fam_outer.specs.declared.faults.Place.{Place}
use Rattle.fam_outer.specs.declared.faults.FileCode.{FileCode}
use Rattle.fam_outer.specs.Places.{place_at}
use Rattle.cpp_lines.specs.Comments.{comment_left}
use Rattle.cpp_lines.specs.Faults.{fault_at, or_later, first_fault_from, left_at, fault_of, HasNoneBetween, IsFirstFrom, IsFirstFault}

left_step : (left n : ℕ) (bytes rest : List ℕ) (b : ℕ) → drop n bytes ≡ b ∷ rest → left_at left (suc n) bytes ≡ comment_left (left_at left n bytes) (drop n bytes) - 1
left_step left zero [] rest b e = absurd cc
left_step left zero (c ∷ cs) rest b e = refl
left_step left (suc n) [] rest b e = absurd cc
left_step left (suc n) (c ∷ cs) rest b e = left_step (comment_left left (c ∷ cs) - 1) n cs rest b e

-- an offset is the first or one behind it
first_or : (start offset : ℕ) → start ≤ offset → (start ≡ offset) ⊎ (start + 1 ≤ offset)
first_or start offset le = elim (eq-or-lt_of_le le) [ inl e ↦ inl e | inr k ↦ inr (omega arith) ]

from_here : (text : List ℕ) (start end : ℕ) → fault_of text start ≡ None → HasNoneBetween text (start + 1) end → HasNoneBetween text start end
from_here text start end none h offset le lt = elim (first_or start offset le) [ inl e ↦ ap (fault_of text) (sym e) ∙ none | inr k ↦ h offset k lt ]

wider : (text : List ℕ) (start : ℕ) (r : Option (FileCode × Place)) → fault_of text start ≡ None → IsFirstFrom text (start + 1) r → IsFirstFrom text start r
wider text start None none h = from_here text start (length text) none h
wider text start (Some fault) none h = (h.0, (let le = h.1 in omega arith), h.2, h.3, h.4, from_here text start h.0 none h.5)

nothing_between : (text : List ℕ) (start : ℕ) → HasNoneBetween text start start
nothing_between text start offset le lt = absurd (omega arith)

first_from : (text : List ℕ) (start left : ℕ) (rest : List ℕ) → drop start text ≡ rest → left_at 0 start text ≡ left → IsFirstFrom text start (first_fault_from text start left rest)
first_from text start left [] e l = λ offset le lt. absurd (let n : 0 ≡ length text - start = sym (ap length e) ∙ length-drop start text in omega arith)
first_from text start left (b ∷ bs) e l =
    let here : fault_of text start ≡ fault_at text start left (b ∷ bs) = ap (λ (i : ℕ). fault_at text start i (drop start text)) l ∙ ap (fault_at text start left) e in
    let next : drop (start + 1) text ≡ bs = sym (drop-drop 1 start text) ∙ ap (drop 1) e in
    let step : left_at 0 (start + 1) text ≡ comment_left left (b ∷ bs) - 1 =
    ap (λ (i : ℕ). left_at 0 i text) (let k : start + 1 ≡ suc start = omega arith in k) ∙ left_step 0 start text bs b e ∙ ap (λ (i : ℕ). comment_left i (drop start text) - 1) l ∙ ap (λ (xs : List ℕ). comment_left left xs - 1) e in
    let more = first_from text (start + 1) (comment_left left (b ∷ bs) - 1) bs next step in
    let n : length (b ∷ bs) ≡ length text - start = sym (ap length e) ∙ length-drop start text in
    elim (fault_at text start left (b ∷ bs)) as (λ o. fault_of text start ≡ o → IsFirstFrom text start (or_later (option_map (λ code. (code, place_at text start)) o) (first_fault_from text (start + 1) (comment_left left (b ∷ bs) - 1) bs))) [
      | None ↦ λ h. wider text start (first_fault_from text (start + 1) (comment_left left (b ∷ bs) - 1) bs) h more
      | Some code ↦ λ h. (start, omega arith, omega arith, h, refl, nothing_between text start)
    ] here

pub decides : (text : List ℕ) → IsFirstFault text (first_fault_from text 0 0 text)
decides text = first_from text 0 0 text refl refl
