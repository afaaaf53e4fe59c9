-- What holds part by part holds of lists with one part for each variable.
use Rattle.std.proofs.Common.{◌≡◌, ℕ, zero, suc, ◌<◌, ℤ, pos, Bool, true, false, ◌&&◌, List, [], ◌∷◌, length, map, slice_set, slice_index_or, refl, ap, arith}
use Rattle.std.specs.Prelude.{⊤}
use Rattle.std.specs.List.{AllByRecursion, list_all, zip}
use Rattle.leaf_domain.specs.Variables.{EachHolds}

-- a test of each pair, at the first pair and at the rest
pub both : (a b : Bool) → (a && b) ≡ true → (a ≡ true) × (b ≡ true)
both true b f = (refl, f)
both false b f = cc

module _ {A : Type 0} where
  pub length_zipped : (f : A → A → A) (us bs : List A) → length us ≡ length bs → length (map (λ (a, b). f a b) (zip us bs)) ≡ length us
  length_zipped f [] bs e = refl
  length_zipped f (a ∷ us) [] e = cc
  length_zipped f (a ∷ us) (b ∷ bs) e = ap suc (length_zipped f us bs (omega arith))

  pub length_replaced : (parts : List A) (x : ℕ) (a : A) → length (slice_set parts x a) ≡ length parts
  length_replaced [] x a = refl
  length_replaced (b ∷ parts) zero a = refl
  length_replaced (b ∷ parts) (suc x) a = ap suc (length_replaced parts x a)

  -- ---- a fact of each part
  pub of_any : (parts : List A) → AllByRecursion (λ (a : A). ⊤) parts
  of_any [] = tt
  of_any (a ∷ parts) = (tt, of_any parts)

  module _ (O : A → Type 0) where
    pub each_zipped : (Q : A → Type 0) (f : A → A → A) → ((a b : A) → O a → O b → Q (f a b)) → (us bs : List A) → AllByRecursion O us → AllByRecursion O bs → AllByRecursion Q (map (λ (a, b). f a b) (zip us bs))
    each_zipped Q f made [] bs h k = tt
    each_zipped Q f made (a ∷ us) [] h k = tt
    each_zipped Q f made (a ∷ us) (b ∷ bs) h k = (made a b h.0 k.0, each_zipped Q f made us bs h.1 k.1)

    pub each_set : (parts : List A) (x : ℕ) (a : A) → AllByRecursion O parts → O a → AllByRecursion O (slice_set parts x a)
    each_set [] x a h k = tt
    each_set (b ∷ parts) zero a h k = (k, h.1)
    each_set (b ∷ parts) (suc x) a h k = (h.0, each_set parts x a h.1 k)

    pub each_read : (d : A) (parts : List A) (x : ℕ) → x < length parts → AllByRecursion O parts → O (slice_index_or parts x d)
    each_read d [] x p h = absurd (omega arith)
    each_read d (a ∷ parts) zero p h = h.0
    each_read d (a ∷ parts) (suc x) p h = each_read d parts x (omega arith) h.1

  -- ---- a fact of each part and its number in a store
  module _ (P : A → ℤ → Type 0) where
    pub held_length : (parts : List A) (s : List ℤ) → EachHolds P parts s → length s ≡ length parts
    held_length [] [] h = refl
    held_length [] (n ∷ s) h = absurd h
    held_length (a ∷ parts) [] h = absurd h
    held_length (a ∷ parts) (n ∷ s) h = ap suc (held_length parts s h.1)

    pub holds_first : (O : A → Type 0) (f : A → A → A) → ((a b : A) (n : ℤ) → O a → O b → P a n → P (f a b) n)
        → (us bs : List A) (s : List ℤ) → length us ≡ length bs → AllByRecursion O us → AllByRecursion O bs → EachHolds P us s → EachHolds P (map (λ (a, b). f a b) (zip us bs)) s
    holds_first O f keeps [] bs [] e p q h = tt
    holds_first O f keeps [] bs (n ∷ s) e p q h = absurd h
    holds_first O f keeps (a ∷ us) bs [] e p q h = absurd h
    holds_first O f keeps (a ∷ us) [] (n ∷ s) e p q h = absurd (omega arith)
    holds_first O f keeps (a ∷ us) (b ∷ bs) (n ∷ s) e p q h = (keeps a b n p.0 q.0 h.0, holds_first O f keeps us bs s (omega arith) p.1 q.1 h.1)

    pub holds_second : (O : A → Type 0) (f : A → A → A) → ((a b : A) (n : ℤ) → O a → O b → P b n → P (f a b) n)
        → (us bs : List A) (s : List ℤ) → length us ≡ length bs → AllByRecursion O us → AllByRecursion O bs → EachHolds P bs s → EachHolds P (map (λ (a, b). f a b) (zip us bs)) s
    holds_second O f keeps [] [] [] e p q h = tt
    holds_second O f keeps us [] (n ∷ s) e p q h = absurd h
    holds_second O f keeps [] (b ∷ bs) s e p q h = absurd (omega arith)
    holds_second O f keeps (a ∷ us) [] s e p q h = absurd (omega arith)
    holds_second O f keeps (a ∷ us) (b ∷ bs) [] e p q h = absurd h
    holds_second O f keeps (a ∷ us) (b ∷ bs) (n ∷ s) e p q h = (keeps a b n p.0 q.0 h.0, holds_second O f keeps us bs s (omega arith) p.1 q.1 h.1)

    -- where each part passes a test with its own of the others
    pub holds_tested : (test : A → A → Bool) → ((a b : A) (n : ℤ) → test a b ≡ true → P a n → P b n)
        → (us bs : List A) (s : List ℤ) → length us ≡ length bs → list_all (λ (a, b). test a b) (zip us bs) ≡ true → EachHolds P us s → EachHolds P bs s
    holds_tested test wider [] [] s e f h = h
    holds_tested test wider [] (b ∷ bs) s e f h = absurd (omega arith)
    holds_tested test wider (a ∷ us) [] s e f h = absurd (omega arith)
    holds_tested test wider (a ∷ us) (b ∷ bs) [] e f h = absurd h
    holds_tested test wider (a ∷ us) (b ∷ bs) (n ∷ s) e f h =
        let (p, q) = both (test a b) (list_all (λ (a, b). test a b) (zip us bs)) f in (wider a b n p h.0, holds_tested test wider us bs s (omega arith) q h.1)

    pub holds_made : (test : A → A → Bool) (f : A → A → A) → ((a b : A) (n : ℤ) → test b a ≡ true → P b n → P (f a b) n)
        → (us bs : List A) (s : List ℤ) → length us ≡ length bs → list_all (λ (a, b). test a b) (zip bs us) ≡ true → EachHolds P bs s → EachHolds P (map (λ (a, b). f a b) (zip us bs)) s
    holds_made test f keeps [] [] s e t h = h
    holds_made test f keeps [] (b ∷ bs) s e t h = absurd (omega arith)
    holds_made test f keeps (a ∷ us) [] s e t h = absurd (omega arith)
    holds_made test f keeps (a ∷ us) (b ∷ bs) [] e t h = absurd h
    holds_made test f keeps (a ∷ us) (b ∷ bs) (n ∷ s) e t h =
        let (p, q) = both (test b a) (list_all (λ (a, b). test a b) (zip bs us)) t in (keeps a b n p h.0, holds_made test f keeps us bs s (omega arith) q h.1)

    -- ---- one variable
    pub held_read : (d : A) (parts : List A) (s : List ℤ) (x : ℕ) → x < length parts → EachHolds P parts s → P (slice_index_or parts x d) (slice_index_or s x (pos 0))
    held_read d [] s x p h = absurd (omega arith)
    held_read d (a ∷ parts) [] x p h = absurd h
    held_read d (a ∷ parts) (n ∷ s) zero p h = h.0
    held_read d (a ∷ parts) (n ∷ s) (suc x) p h = held_read d parts s x (omega arith) h.1

    pub held_set : (parts : List A) (s : List ℤ) (x : ℕ) (a : A) (n : ℤ) → EachHolds P parts s → P a n → EachHolds P (slice_set parts x a) (slice_set s x n)
    held_set [] [] x a n h k = tt
    held_set [] (m ∷ s) x a n h k = absurd h
    held_set (b ∷ parts) [] x a n h k = absurd h
    held_set (b ∷ parts) (m ∷ s) zero a n h k = (k, h.1)
    held_set (b ∷ parts) (m ∷ s) (suc x) a n h k = (h.0, held_set parts s x a n h.1 k)

    pub held_part : (parts : List A) (s : List ℤ) (x : ℕ) (a : A) → EachHolds P parts s → P a (slice_index_or s x (pos 0)) → EachHolds P (slice_set parts x a) s
    held_part [] s x a h k = h
    held_part (b ∷ parts) [] x a h k = absurd h
    held_part (b ∷ parts) (m ∷ s) zero a h k = (k, h.1)
    held_part (b ∷ parts) (m ∷ s) (suc x) a h k = (h.0, held_part parts s x a h.1 k)
