-- All sections are kept where none of them is counted as left out.
use Rattle.std.proofs.Common.{◌≡◌, ℕ, ◌+◌, Bool, true, false, not, cond, ◌&&◌, nat_eq, List, [], ◌∷◌, ◌++◌, reverse, refl, sym, ap, ◌∙◌, arith}
use Rattle.std.specs.List.{count_by}
use Rattle.std.proofs.lemmas.List.{reverse-append}
use Rattle.std.proofs.lemmas.List.Sums.{sum_by-cons}
use Rattle.std.proofs.lemmas.Bool.Decides.{nat_tests}
use Rattle.cpp_groups.specs.declared.section.Section.{Section}
use Rattle.cpp_groups.specs.declared.section.Section.TheVariants.{Seeking, Keeping, Passed}
use Rattle.cpp_groups.specs.Kept.{all_kept, is_left_out}

and_assoc : (a b c : Bool) → ((a && b) && c) ≡ (a && (b && c))
and_assoc true b c = refl
and_assoc false b c = refl

and_true : (a : Bool) → (true && a) ≡ (a && true)
and_true true = refl
and_true false = refl

behind_others : (xs : List Section) (s : Section) → all_kept (xs ++ s ∷ []) ≡ (all_kept xs && not (is_left_out s))
behind_others [] s = sym (and_true (not (is_left_out s)))
behind_others (x ∷ xs) s =
    ap (λ b. not (is_left_out x) && b) (behind_others xs s) ∙ sym (and_assoc (not (is_left_out x)) (all_kept xs) (not (is_left_out s)))

and_one : (a : Bool) → (a && true) ≡ a
and_one true = refl
and_one false = refl

one_more : (x : Section) (xs : List Section) → count_by is_left_out (x ∷ xs) ≡ cond (is_left_out x) 1 0 + count_by is_left_out xs
one_more x xs = sum_by-cons (λ s. cond (is_left_out s) 1 0) x xs

in_front : (x : Section) (xs : List Section) → all_kept (reverse (x ∷ xs)) ≡ (all_kept (reverse xs) && not (is_left_out x))
in_front x xs = ap all_kept (reverse-append (x ∷ []) xs) ∙ behind_others (reverse xs) x

left_out : (n : ℕ) (a : Bool) → nat_eq (1 + n) 0 ≡ (a && false)
left_out n true = grind (arith, nat_tests)
left_out n false = grind (arith, nat_tests)

pub kept_by_count : (xs : List Section) → nat_eq (count_by is_left_out xs) 0 ≡ all_kept (reverse xs)
kept_by_count [] = refl
kept_by_count (Seeking ∷ xs) =
    ap (λ n. nat_eq n 0) (one_more Seeking xs) ∙ left_out (count_by is_left_out xs) (all_kept (reverse xs)) ∙ sym (in_front Seeking xs)
kept_by_count (Keeping ∷ xs) =
    let same : count_by is_left_out (Keeping ∷ xs) ≡ count_by is_left_out xs = omega (arith, one_more Keeping xs) in
    ap (λ n. nat_eq n 0) same ∙ kept_by_count xs ∙ sym (in_front Keeping xs ∙ and_one (all_kept (reverse xs)))
kept_by_count (Passed ∷ xs) =
    ap (λ n. nat_eq n 0) (one_more Passed xs) ∙ left_out (count_by is_left_out xs) (all_kept (reverse xs)) ∙ sym (in_front Passed xs)
