-- What a merge has done so far, and what is left.
use Rattle.std.proofs.Common.{◌≡◌, ℕ, ℤ, pos, ◌*ℤ◌, Bool, true, false, ◌&&◌, if◌then◌else◌, List, [], ◌∷◌, ◌++◌, sym, ap, refl, ◌∙◌, append_assoc, arith, Some, None}
use Rattle.std.proofs.lemmas.Bool.Decides.{nat_tests}
use Rattle.std.proofs.lemmas.List.{append-nil}
use Rattle.std.specs.Ordering.{int_eq}
use Rattle.linear_terms.specs.Terms.{IsRising, one, terms_sum, terms_by, is_within, are_within, number_within, terms_within}
use Rattle.linear_terms.proofs.Sums.{is_zero}

-- merging these two, with this list made so far
pub record Merging (limit : ℕ) (made ms ns whole : List (ℕ × ℤ)) : Type 0 where
  pub split : made ++ terms_sum ms ns ≡ whole
  pub small : are_within limit made ≡ true
  pub left : IsRising ms
  pub right : IsRising ns

-- multiplying these, with this list made so far
pub record Multiplying (limit : ℕ) (k : ℤ) (made rest whole : List (ℕ × ℤ)) : Type 0 where
  pub split : made ++ terms_by k rest ≡ whole
  pub small : are_within limit made ≡ true

and_assoc : (a b c : Bool) → (a && (b && c)) ≡ ((a && b) && c)
and_assoc true b c = refl
and_assoc false b c = refl

and_false : (b : Bool) → (b && false) ≡ false
and_false true = refl
and_false false = refl

module _ (limit : ℕ) where
  -- ---- sizes of lists

  pub within_append : (ts us : List (ℕ × ℤ)) → are_within limit (ts ++ us) ≡ (are_within limit ts && are_within limit us)
  within_append [] us = refl
  within_append (t ∷ ts) us = ap (λ b. is_within limit t.1 && b) (within_append ts us) ∙ and_assoc (is_within limit t.1) (are_within limit ts) (are_within limit us)

  both_within : (ts us : List (ℕ × ℤ)) → are_within limit ts ≡ true → are_within limit us ≡ true → are_within limit (ts ++ us) ≡ true
  both_within ts us p q = within_append ts us ∙ ap (λ b. b && are_within limit us) p ∙ q

  -- a part that is too large makes the whole too large
  middle_past : (ts us vs : List (ℕ × ℤ)) → are_within limit us ≡ false → are_within limit (ts ++ (us ++ vs)) ≡ false
  middle_past ts us vs h =
      within_append ts (us ++ vs) ∙ ap (λ b. are_within limit ts && b) (within_append us vs ∙ ap (λ b. b && are_within limit vs) h) ∙ and_false (are_within limit ts)

  -- ---- numbers and terms within the limit

  number_some_by : (b : Bool) (n m : ℤ) → is_within limit n ≡ b → Some m ≡ (if b then Some n else None) → (m ≡ n) × (is_within limit n ≡ true)
  number_some_by true n m e h = (cc, e)
  number_some_by false n m e h = cc

  pub number_some : (n m : ℤ) → Some m ≡ number_within limit n → (m ≡ n) × (is_within limit n ≡ true)
  number_some n m h = number_some_by (is_within limit n) n m refl h

  number_none_by : (b : Bool) (n : ℤ) → is_within limit n ≡ b → None ≡ (if b then Some n else None) → is_within limit n ≡ false
  number_none_by true n e h = cc
  number_none_by false n e h = e

  pub number_none : (n : ℤ) → None ≡ number_within limit n → is_within limit n ≡ false
  number_none n h = number_none_by (is_within limit n) n refl h

  terms_some_by : (b : Bool) (ts us : List (ℕ × ℤ)) → are_within limit ts ≡ b → Some us ≡ (if b then Some ts else None) → (us ≡ ts) × (are_within limit ts ≡ true)
  terms_some_by true ts us e h = (cc, e)
  terms_some_by false ts us e h = cc

  pub terms_some : (ts us : List (ℕ × ℤ)) → Some us ≡ terms_within limit ts → (us ≡ ts) × (are_within limit ts ≡ true)
  terms_some ts us h = terms_some_by (are_within limit ts) ts us refl h

  terms_none_by : (b : Bool) (ts : List (ℕ × ℤ)) → are_within limit ts ≡ b → None ≡ (if b then Some ts else None) → are_within limit ts ≡ false
  terms_none_by true ts e h = cc
  terms_none_by false ts e h = e

  pub terms_none : (ts : List (ℕ × ℤ)) → None ≡ terms_within limit ts → are_within limit ts ≡ false
  terms_none ts h = terms_none_by (are_within limit ts) ts refl h

  one_within_by : (b : Bool) (n : ℕ) (a : ℤ) → is_within limit a ≡ true → are_within limit (if b then [] else (n, a) ∷ []) ≡ true
  one_within_by true n a h = refl
  one_within_by false n a h = ap (λ t. t && true) h

  one_within : (n : ℕ) (a : ℤ) → is_within limit a ≡ true → are_within limit (one n a) ≡ true
  one_within n a h = one_within_by (int_eq a (pos 0)) n a h

  zero_within : is_within limit (pos 0) ≡ true
  zero_within = grind (arith, nat_tests)

  one_past_by : (b : Bool) (n : ℕ) (a : ℤ) → int_eq a (pos 0) ≡ b → is_within limit a ≡ false → are_within limit (if b then [] else (n, a) ∷ []) ≡ false
  one_past_by true n a e h =
      let z : a ≡ pos 0 = is_zero a e in
      absurd (differ (sym h ∙ ap (is_within limit) z ∙ zero_within))
    where
      differ : false ≡ true → ⊥
      differ g = cc
  one_past_by false n a e h = ap (λ t. t && true) h

  one_past : (n : ℕ) (a : ℤ) → is_within limit a ≡ false → are_within limit (one n a) ≡ false
  one_past n a h = one_past_by (int_eq a (pos 0)) n a refl h

  terms_kept : (ts us : List (ℕ × ℤ)) → ts ≡ us → are_within limit ts ≡ true → Some ts ≡ terms_within limit us
  terms_kept ts us e h = sym (ap (λ b. if b then Some us else None) (sym (ap (are_within limit) e) ∙ h) ∙ ap Some (sym e))

  terms_past : (ts : List (ℕ × ℤ)) → are_within limit ts ≡ false → None ≡ terms_within limit ts
  terms_past ts h = sym (ap (λ b. if b then Some ts else None) h)

  -- ---- a merge

  pub merged_more : (made after ms ns ms' ns' whole : List (ℕ × ℤ)) (n : ℕ) (s a : ℤ) → Merging limit made ms ns whole → terms_sum ms ns ≡ one n s ++ terms_sum ms' ns' → Some a ≡ number_within limit s → after ≡ made ++ one n a → IsRising ms' → IsRising ns'
      → Merging limit after ms' ns' whole
  merged_more made after ms ns ms' ns' whole n s a m e k p l r =
      let q = number_some s a k in
      rw (p, q.0) (record {
        split = append_assoc made (one n s) (terms_sum ms' ns') ∙ ap (λ x. made ++ x) (sym e) ∙ m.split;
        small = both_within made (one n s) m.small (one_within n s q.1);
        left = l;
        right = r;
      })

  pub merged_past : (made ms ns ms' ns' whole : List (ℕ × ℤ)) (n : ℕ) (s : ℤ) → Merging limit made ms ns whole → terms_sum ms ns ≡ one n s ++ terms_sum ms' ns' → None ≡ number_within limit s → None ≡ terms_within limit whole
  merged_past made ms ns ms' ns' whole n s m e k =
      terms_past whole (ap (are_within limit) (sym m.split ∙ ap (λ x. made ++ x) e) ∙ middle_past made (one n s) (terms_sum ms' ns') (one_past n s (number_none s k)))

  pub merged_all : (made ms ns whole : List (ℕ × ℤ)) → Merging limit made ms ns whole → terms_sum ms ns ≡ [] → Some made ≡ terms_within limit whole
  merged_all made ms ns whole m e = terms_kept made whole (sym (append-nil made) ∙ ap (λ x. made ++ x) (sym e) ∙ m.split) m.small

  -- ---- multiples

  pub multiplied_more : (k : ℤ) (made after rest behind whole : List (ℕ × ℤ)) (n : ℕ) (a b : ℤ) → Multiplying limit k made rest whole → rest ≡ (n, a) ∷ behind → Some b ≡ number_within limit (a *ℤ k) → after ≡ made ++ one n b → Multiplying limit k after behind whole
  multiplied_more k made after rest behind whole n a b m e f p =
      let q = number_some (a *ℤ k) b f in
      rw (p, q.0) (record {
        split = append_assoc made (one n (a *ℤ k)) (terms_by k behind) ∙ ap (λ x. made ++ terms_by k x) (sym e) ∙ m.split;
        small = both_within made (one n (a *ℤ k)) m.small (one_within n (a *ℤ k) q.1);
      })

  pub multiplied_past : (k : ℤ) (made rest behind whole : List (ℕ × ℤ)) (n : ℕ) (a : ℤ) → Multiplying limit k made rest whole → rest ≡ (n, a) ∷ behind → None ≡ number_within limit (a *ℤ k) → None ≡ terms_within limit whole
  multiplied_past k made rest behind whole n a m e f =
      terms_past whole (ap (are_within limit) (sym m.split ∙ ap (λ x. made ++ terms_by k x) e) ∙ middle_past made (one n (a *ℤ k)) (terms_by k behind) (one_past n (a *ℤ k) (number_none (a *ℤ k) f)))

  pub multiplied_all : (k : ℤ) (made rest whole : List (ℕ × ℤ)) → Multiplying limit k made rest whole → rest ≡ [] → Some made ≡ terms_within limit whole
  multiplied_all k made rest whole m e = terms_kept made whole (sym (append-nil made) ∙ ap (λ x. made ++ terms_by k x) (sym e) ∙ m.split) m.small
