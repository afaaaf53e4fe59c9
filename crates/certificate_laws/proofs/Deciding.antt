-- What can be decided of numbers and texts.
use Rattle.std.proofs.Common.{◌≡◌, ◌⊎◌, inl, inr, ℕ, zero, suc, ◌<◌, ◌≤◌, Bool, true, false, true≢false, ltb, ℤ, pos, negsuc, List, ◌++◌, length, take, drop, Decides, bytes_eq, take_at, take-append-drop, refl, sym, ap, subst, ◌∙◌, arith}
use Rattle.std.proofs.lemmas.Bool.{cases_order}
use Rattle.std.proofs.lemmas.Bool.Decides.{Decides-ltb}
use Rattle.std.proofs.lemmas.Int.{ints}
use Rattle.std.proofs.lemmas.Slice.Eq.{bytes_eq-Decides}
use Rattle.c_tree.specs.Value.{IsInt}

-- ---- facts

pub decided_like : {P Q : Type 0} → (P → Q) → (Q → P) → Dec P → Dec Q
decided_like f g (yes p) = yes (f p)
decided_like f g (no none) = no (λ q. none (g q))

pub decided_both : {P Q : Type 0} → Dec P → Dec Q → Dec (P × Q)
decided_both (yes p) (yes q) = yes (p, q)
decided_both (yes p) (no none) = no (λ h. none h.1)
decided_both (no none) d = no (λ h. none h.0)

pub decided_by : {P : Type 0} (b : Bool) → Decides b P → Dec P
decided_by true d = yes (d.0 refl)
decided_by false d = no (λ p. true≢false (sym (d.1 p)))

pub is_below : (m n : ℕ) → Dec (m < n)
is_below m n = decided_by (ltb m n) (Decides-ltb m n)

pub up_to_or_above : (m n : ℕ) → (n ≤ m) ⊎ (m < n)
up_to_or_above m n =
    elim (cases_order m n) [
      | inl same ↦ inl (omega (arith, same))
      | inr (inl less) ↦ inr less
      | inr (inr more) ↦ inl (omega (arith, more))
    ]

-- ---- numbers

-- the first number below a bound of which something holds
pub record IsFoundBelow (P : ℕ → Type 0) (bound : ℕ) : Type 0 where
  pub number : ℕ
  pub below : number < bound
  pub holds : P number
  pub first : (k : ℕ) → k < number → ¬ (P k)

module _ (P : ℕ → Type 0) (decide : (n : ℕ) → Dec (P n)) where
  none_later : (n : ℕ) → ((k : ℕ) → k < n → ¬ (P k)) → ¬ (P n) → (k : ℕ) → k < suc n → ¬ (P k)
  none_later n none other k below p =
      elim (cases_order k n) [
        | inl same ↦ other (subst P same p)
        | inr (inl less) ↦ none k less p
        | inr (inr more) ↦ absurd (omega (arith, below, more))
      ]

  search_more : (n : ℕ) → IsFoundBelow P n ⊎ ((k : ℕ) → k < n → ¬ (P k)) → Dec (P n) → IsFoundBelow P (suc n) ⊎ ((k : ℕ) → k < suc n → ¬ (P k))
  search_more n (inl f) d = inl (record { number = f.number; below = omega (arith, f.below); holds = f.holds; first = f.first })
  search_more n (inr none) (yes p) = inl (record { number = n; below = omega arith; holds = p; first = none })
  search_more n (inr none) (no other) = inr (none_later n none other)

  pub search_below : (bound : ℕ) → IsFoundBelow P bound ⊎ ((k : ℕ) → k < bound → ¬ (P k))
  search_below zero = inr (λ k below p. omega (arith, below))
  search_below (suc n) = search_more n (search_below n) (decide n)

-- a number below a bound of which something holds
pub record IsSomeBelow (P : ℕ → Type 0) (bound : ℕ) : Type 0 where
  pub number : ℕ
  pub below : number < bound
  pub holds : P number

some_by : (P : ℕ → Type 0) (bound : ℕ) → IsFoundBelow P bound ⊎ ((k : ℕ) → k < bound → ¬ (P k)) → Dec (IsSomeBelow P bound)
some_by P bound (inl f) = yes (record { number = f.number; below = f.below; holds = f.holds })
some_by P bound (inr none) = no (λ f. none f.number f.below f.holds)

pub some_below : (P : ℕ → Type 0) → ((n : ℕ) → Dec (P n)) → (bound : ℕ) → Dec (IsSomeBelow P bound)
some_below P decide bound = some_by P bound (search_below P decide bound)

-- a number of `int` of which something holds
pub record IsSomeInt (P : ℤ → Type 0) : Type 0 where
  pub number : ℤ
  pub int : IsInt number
  pub holds : P number

-- how many numbers of `int` are negative, and how many are not
abbrev half : ℕ
half = 2147483648

pos_int : (n : ℕ) → n < half → IsInt (pos n)
pos_int n below = record { low = omega (arith, ints); high = omega (arith, ints, below) }

negsuc_int : (n : ℕ) → n < half → IsInt (negsuc n)
negsuc_int n below = record { low = omega (arith, ints, below); high = omega (arith, ints) }

pos_below : (n : ℕ) → IsInt (pos n) → n < half
pos_below n int = let h = int.high in omega (arith, ints, h)

negsuc_below : (n : ℕ) → IsInt (negsuc n) → n < half
negsuc_below n int = let h = int.low in omega (arith, ints, h)

module _ (P : ℤ → Type 0) where
  no_int : ¬ (IsSomeBelow (λ n. P (pos n)) half) → ¬ (IsSomeBelow (λ n. P (negsuc n)) half) → (z : ℤ) → IsInt z → ¬ (P z)
  no_int none other (pos n) int p = none (record { number = n; below = pos_below n int; holds = p })
  no_int none other (negsuc n) int p = other (record { number = n; below = negsuc_below n int; holds = p })

  int_by : Dec (IsSomeBelow (λ n. P (pos n)) half) → Dec (IsSomeBelow (λ n. P (negsuc n)) half) → Dec (IsSomeInt P)
  int_by (yes f) d = yes (record { number = pos f.number; int = pos_int f.number f.below; holds = f.holds })
  int_by (no none) (yes f) = yes (record { number = negsuc f.number; int = negsuc_int f.number f.below; holds = f.holds })
  int_by (no none) (no other) = no (λ f. no_int none other f.number f.int f.holds)

  pub some_int : ((z : ℤ) → Dec (P z)) → Dec (IsSomeInt P)
  some_int decide = int_by (some_below (λ n. P (pos n)) (λ n. decide (pos n)) half) (some_below (λ n. P (negsuc n)) (λ n. decide (negsuc n)) half)

-- ---- texts

pub is_text : (s t : List ℕ) → Dec (s ≡ t)
is_text s t = decided_by (bytes_eq s t) (bytes_eq-Decides s t)

-- the text begins so
abbrev pub HasFront : List ℕ → List ℕ → Type 0
HasFront front text = (rest : List ℕ) × (text ≡ front ++ rest)

pub has_front : (front text : List ℕ) → Dec (HasFront front text)
has_front front text =
    decided_like
    (λ (e : take (length front) text ≡ front). (drop (length front) text, sym (take-append-drop (length front) text) ∙ ap (λ u. u ++ drop (length front) text) e))
    (λ (h : HasFront front text). ap (take (length front)) h.1 ∙ take_at front h.0 (length front) refl)
    (is_text (take (length front) text) front)
