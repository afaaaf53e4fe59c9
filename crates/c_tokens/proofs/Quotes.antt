-- The longest quote at the front.
use Rattle.std.proofs.Common.{◌≡◌, ℕ, zero, suc, ◌+◌, ◌<◌, ◌≤◌, Bool, true, false, not, cond, eqb, List, [], ◌∷◌, length, take, Option, Some, None, refl, sym, ap, ◌∙◌, arith}
use Rattle.std.specs.Prelude.{◌&&◌, ◌||◌, option_map, unwrap_or}
use Rattle.std.proofs.lemmas.Bool.{eq-eqb, ne_eqb, eqb-true, eqb-false, or_right}
use Rattle.c_tokens.specs.Lexemes.{IsLongest, is_quoted, is_empty, closes, close_len}

-- a length behind so many bytes
abbrev pub behind : ℕ → Option ℕ → Option ℕ
behind n None = None
behind n (Some k) = Some (n + k)

-- whether the number is this one
abbrev is_at : Option ℕ → ℕ → Bool
is_at None m = false
is_at (Some k) m = eqb k m

at_zero : (o : Option ℕ) → is_at (option_map suc o) 0 ≡ false
at_zero None = refl
at_zero (Some k) = ne_eqb (suc k) 0 (λ e. absurd (omega arith))

one_more : (k m : ℕ) → eqb (suc k) (suc m) ≡ eqb k m
one_more k m = elim (eqb k m) as (λ v. eqb k m ≡ v → eqb (suc k) (suc m) ≡ v) [
  | true ↦ λ e. eq-eqb (suc k) (suc m) (ap suc (eqb-true k m e))
  | false ↦ λ e. ne_eqb (suc k) (suc m) (λ h. eqb-false k m e (omega arith))
] refl

at_suc : (o : Option ℕ) (m : ℕ) → is_at (option_map suc o) (suc m) ≡ is_at o m
at_suc None m = refl
at_suc (Some k) m = one_more k m

-- a quote closes at its first byte alone
at_first : (bs : List ℕ) (m : ℕ) → m ≤ length bs → is_empty (take m bs) ≡ eqb 1 (suc m)
at_first bs zero le = refl
at_first [] (suc m) le = absurd (omega arith)
at_first (b ∷ bs) (suc m) le = sym (ne_eqb 1 (suc (suc m)) (λ e. absurd (omega arith)))

-- what closes is of just one length
pub closes_at : (escaped : Bool) (bytes : List ℕ) (m : ℕ) → m ≤ length bytes → closes escaped (take m bytes) ≡ is_at (close_len escaped bytes) m
closes_at escaped [] zero le = refl
closes_at escaped [] (suc m) le = absurd (omega arith)
closes_at escaped (b ∷ bs) zero le = elim (eqb b 10) as (λ v. false ≡ is_at (cond v None (cond (not escaped && eqb b 39) (Some 1) (option_map suc (close_len (not escaped && eqb b 92) bs)))) 0) [
  | true ↦ refl
  | false ↦ elim (not escaped && eqb b 39) as (λ w. false ≡ is_at (cond w (Some 1) (option_map suc (close_len (not escaped && eqb b 92) bs))) 0) [ true ↦ refl | false ↦ sym (at_zero (close_len (not escaped && eqb b 92) bs)) ]
]
closes_at escaped (b ∷ bs) (suc m) le = elim (eqb b 10) as (λ v. cond v false (cond (not escaped && eqb b 39) (is_empty (take m bs)) (closes (not escaped && eqb b 92) (take m bs)))
    ≡ is_at (cond v None (cond (not escaped && eqb b 39) (Some 1) (option_map suc (close_len (not escaped && eqb b 92) bs)))) (suc m)) [
      | true ↦ refl
      | false ↦ elim (not escaped && eqb b 39) as (λ w. cond w (is_empty (take m bs)) (closes (not escaped && eqb b 92) (take m bs)) ≡ is_at (cond w (Some 1) (option_map suc (close_len (not escaped && eqb b 92) bs))) (suc m)) [
        | true ↦ at_first bs m (omega arith)
        | false ↦ closes_at (not escaped && eqb b 92) bs m (omega arith) ∙ sym (at_suc (close_len (not escaped && eqb b 92) bs) m)
      ]
    ]

close_fits : (escaped : Bool) (bytes : List ℕ) → unwrap_or (close_len escaped bytes) 0 ≤ length bytes
close_fits escaped [] = omega arith
close_fits escaped (b ∷ bs) = elim (eqb b 10) as (λ v. unwrap_or (cond v None (cond (not escaped && eqb b 39) (Some 1) (option_map suc (close_len (not escaped && eqb b 92) bs)))) 0 ≤ suc (length bs)) [
  | true ↦ omega arith
  | false ↦ elim (not escaped && eqb b 39) as (λ w. unwrap_or (cond w (Some 1) (option_map suc (close_len (not escaped && eqb b 92) bs))) 0 ≤ suc (length bs)) [
    | true ↦ omega arith
    | false ↦ more (close_len (not escaped && eqb b 92) bs) (close_fits (not escaped && eqb b 92) bs)
  ]
]
  where
    more : (o : Option ℕ) → unwrap_or o 0 ≤ length bs → unwrap_or (option_map suc o) 0 ≤ suc (length bs)
    more None h = omega arith
    more (Some k) h = omega arith

some_empty : (bs : List ℕ) (m : ℕ) → 0 < m → m ≤ length bs → is_empty (take m bs) ≡ false
some_empty bs zero lt le = absurd (omega arith)
some_empty [] (suc m) lt le = absurd (omega arith)
some_empty (b ∷ bs) (suc m) lt le = refl

-- the quote of so many bytes behind its first, and no longer one
quote_by : (bs : List ℕ) (o : Option ℕ) → close_len false bs ≡ o → (m : ℕ) → unwrap_or o 0 < m → m ≤ length bs → (is_empty (take m bs) || closes false (take m bs)) ≡ false
quote_by bs o is m lt le = rw (some_empty bs m (omega arith) le) (closes_at false bs m le ∙ ap (λ x. is_at x m) is ∙ past o m lt)
  where
    past : (o : Option ℕ) (m : ℕ) → unwrap_or o 0 < m → is_at o m ≡ false
    past None m lt = refl
    past (Some k) m lt = ne_eqb k m (λ e. absurd (omega arith))

quote_is : (bs : List ℕ) (o : Option ℕ) → close_len false bs ≡ o → unwrap_or o 0 ≤ length bs → (is_empty (take (unwrap_or o 0) bs) || closes false (take (unwrap_or o 0) bs)) ≡ true
quote_is bs None is le = refl
quote_is bs (Some k) is le = or_right (is_empty (take k bs)) (closes false (take k bs)) (closes_at false bs k le ∙ ap (λ x. is_at x k) is ∙ eq-eqb k k refl)

longer : (bs : List ℕ) (m : ℕ) → suc (unwrap_or (close_len false bs) 0) < m → m ≤ suc (length bs) → is_quoted (take m (39 ∷ bs)) ≡ false
longer bs zero lt le = absurd (omega arith)
longer bs (suc m) lt le = quote_by bs (close_len false bs) refl m (omega arith) (omega arith)

pub quote_longest : (bs : List ℕ) → IsLongest is_quoted (suc (unwrap_or (close_len false bs) 0)) (39 ∷ bs)
quote_longest bs = record {
  fits = omega (arith, close_fits false bs);
  passes = λ lt. quote_is bs (close_len false bs) refl (close_fits false bs);
  longest = longer bs;
}
