-- The first entry whose name an earlier one has.
use Rattle.std.proofs.Common.{◌≡◌, ℕ, zero, suc, ◌+◌, false, cond, List, [], ◌∷◌, ◌++◌, take, drop, Option, Some, sym, ap, subst, ◌∙◌, add-one}
use Rattle.feature_model.specs.declared.shapes.Entry.{Entry}
use Rattle.feature_model.specs.Features.{has_name, first_repeated}

-- one more item is taken
pub record IsNext (es : List Entry) (n m : ℕ) (e : Entry) (behind : List Entry) : Type 0 where
  pub front : take m es ≡ take n es ++ e ∷ []
  pub back : drop m es ≡ behind

next : (n : ℕ) (es : List Entry) (e : Entry) (behind : List Entry) → drop n es ≡ e ∷ behind → IsNext es n (suc n) e behind
next zero [] e behind h = cc
next zero (x ∷ xs) e behind h = record { front = cc; back = cc }
next (suc n) [] e behind h = cc
next (suc n) (x ∷ xs) e behind h = let k = next n xs e behind h in record { front = ap (λ ys. x ∷ ys) k.front; back = k.back }

pub goes_on : (es : List Entry) (n : ℕ) (rest behind : List Entry) (e : Entry) (earlier : List Entry) (r : Option ℕ) → earlier ≡ take n es → rest ≡ drop n es → rest ≡ e ∷ behind → has_name e.name earlier ≡ false
    → r ≡ first_repeated (take (n + 1) es) (n + 1 + 1) (drop (n + 1) es) → r ≡ first_repeated (take n es) (n + 1) (drop n es)
goes_on es n rest behind e earlier r front back cut new later =
    let k : IsNext es n (n + 1) e behind = subst (λ m. IsNext es n m e behind) (sym (add-one n)) (next n es e behind (sym back ∙ cut)) in
    later ∙ ap (λ x. first_repeated x (n + 1 + 1) (drop (n + 1) es)) k.front
    ∙ ap (λ x. first_repeated (take n es ++ e ∷ []) (n + 1 + 1) x) k.back
    ∙ sym (ap (λ x. first_repeated (take n es) (n + 1) x) (sym back ∙ cut)
    ∙ ap (λ b. cond b (Some (n + 1)) (first_repeated (take n es ++ e ∷ []) (n + 1 + 1) behind)) (ap (λ x. has_name e.name x) (sym front) ∙ new))
