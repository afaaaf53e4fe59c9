-- Opposite terms, the ends of a term, and the bounds that the type gives.
use Rattle.std.proofs.Common.{◌/◌, ◌^◌, ℤ, neg_ℤ, ◌-ℤ◌, refl, sym, ap, ◌∙◌, Bool, true, false, nat_eq, if◌then◌else◌, ◌≡◌, ◌≢◌, ℕ, pos, ◌≤ℤ◌, ◌*◌, ◌-◌, ◌%◌, ◌<◌, arith}
use Rattle.std.proofs.lemmas.Int.{ints}
use Rattle.std.proofs.lemmas.Bool.{ne_eqb}
use Rattle.std.proofs.lemmas.Bool.Decides.{nat_tests, eqb_tells}
use Rattle.octagon_matrix.specs.Terms.{opposite, int_least, int_greatest, least_value, greatest_value, type_bound}

pub opposite-opposite : (a : ℕ) → opposite (opposite a) ≡ a
unfolding opposite
opposite-opposite a = omega arith

pub opposite-below : (n a : ℕ) → a < 2 * n → opposite a < 2 * n
unfolding opposite
opposite-below n a h = omega arith

pub opposite-differs : (a : ℕ) → opposite a ≢ a
unfolding opposite
opposite-differs a = omega arith

pub opposite-half : (a : ℕ) → opposite a / 2 ≡ a / 2
unfolding opposite
opposite-half a = omega arith

pub opposite-flips : (a b : ℕ) → opposite a ≡ b → a ≡ opposite b
opposite-flips a b e = sym (opposite-opposite a) ∙ ap opposite e

pub opposite-same : (a b : ℕ) → opposite a ≡ opposite b → a ≡ b
opposite-same a b e = opposite-flips a (opposite b) e ∙ opposite-opposite b

-- two terms of one variable
pub of_one : (a b : ℕ) → a ≢ b → b / 2 ≡ a / 2 → b ≡ opposite a
unfolding opposite
of_one a b h e = omega arith

-- ---- the ends of a term
greatest-by : (e : Bool) → (pos (2 ^ 31 - 1) ≤ℤ (if e then int_greatest else neg_ℤ int_least)) × ((if e then int_greatest else neg_ℤ int_least) ≤ℤ pos (2 ^ 31))
greatest-by true = (omega (arith, ints), omega (arith, ints))
greatest-by false = (omega (arith, ints), omega (arith, ints))

least-by : (e : Bool) → (neg_ℤ (pos (2 ^ 31)) ≤ℤ (if e then int_least else neg_ℤ int_greatest)) × ((if e then int_least else neg_ℤ int_greatest) ≤ℤ neg_ℤ (pos (2 ^ 31 - 1)))
least-by true = (omega (arith, ints), omega (arith, ints))
least-by false = (omega (arith, ints), omega (arith, ints))

pub greatest_value-ends : (a : ℕ) → (pos (2 ^ 31 - 1) ≤ℤ greatest_value a) × (greatest_value a ≤ℤ pos (2 ^ 31))
greatest_value-ends a = greatest-by (nat_eq (a % 2) 0)

pub least_value-ends : (a : ℕ) → (neg_ℤ (pos (2 ^ 31)) ≤ℤ least_value a) × (least_value a ≤ℤ neg_ℤ (pos (2 ^ 31 - 1)))
least_value-ends a = least-by (nat_eq (a % 2) 0)

-- one of a term and its opposite has the sign +
pub sign-flips : (a : ℕ) → nat_eq (a % 2) 0 ≡ true → nat_eq (opposite a % 2) 0 ≡ false
unfolding opposite
sign-flips a h = grind (arith, eqb_tells)

pub sign-flips_back : (a : ℕ) → nat_eq (a % 2) 0 ≡ false → nat_eq (opposite a % 2) 0 ≡ true
unfolding opposite
sign-flips_back a h = grind (arith, eqb_tells)

-- ---- the bounds that the type gives
bound_by : (e : Bool) (x y : ℤ) → x ≤ℤ pos (2 ^ 31) → neg_ℤ (pos (2 ^ 31)) ≤ℤ y → (if e then pos 0 else x -ℤ y) ≤ℤ pos (2 ^ 32)
bound_by true x y h k = omega (arith, ints)
bound_by false x y h k = omega (arith, ints)

pub type_bound-most : (a b : ℕ) → type_bound a b ≤ℤ pos (2 ^ 32)
unfolding type_bound
type_bound-most a b = bound_by (nat_eq a b) (greatest_value a) (least_value b) ((greatest_value-ends a).1) ((least_value-ends b).0)

bound_from : (e : Bool) (x y : ℤ) → pos 0 ≤ℤ x → y ≤ℤ pos 0 → pos 0 ≤ℤ (if e then pos 0 else x -ℤ y)
bound_from true x y h k = omega (arith, ints)
bound_from false x y h k = omega (arith, ints)

at_least : (x : ℤ) → pos (2 ^ 31 - 1) ≤ℤ x → pos 0 ≤ℤ x
at_least x h = omega (arith, ints)

at_most : (x : ℤ) → x ≤ℤ neg_ℤ (pos (2 ^ 31 - 1)) → x ≤ℤ pos 0
at_most x h = omega (arith, ints)

pub type_bound-least : (a b : ℕ) → pos 0 ≤ℤ type_bound a b
unfolding type_bound
type_bound-least a b = bound_from (nat_eq a b) (greatest_value a) (least_value b) (at_least (greatest_value a) ((greatest_value-ends a).0)) (at_most (least_value b) ((least_value-ends b).1))

pub type_bound-apart : (a b : ℕ) → a ≢ b → type_bound a b ≡ greatest_value a -ℤ least_value b
unfolding type_bound
type_bound-apart a b h = rw (ne_eqb a b h) refl

-- the ends of the opposite term are those of the term, exchanged
ends_by : (i j : Bool) → (i ≡ true → j ≡ false) → (i ≡ false → j ≡ true)
    → ((if j then int_greatest else neg_ℤ int_least) ≡ neg_ℤ (if i then int_least else neg_ℤ int_greatest)) × ((if j then int_least else neg_ℤ int_greatest) ≡ neg_ℤ (if i then int_greatest else neg_ℤ int_least))
ends_by true j h k = rw (h refl) (refl, refl)
ends_by false j h k = rw (k refl) (refl, refl)

pub opposite-ends : (a : ℕ) → (greatest_value (opposite a) ≡ neg_ℤ (least_value a)) × (least_value (opposite a) ≡ neg_ℤ (greatest_value a))
opposite-ends a = ends_by (nat_eq (a % 2) 0) (nat_eq (opposite a % 2) 0) (sign-flips a) (sign-flips_back a)

twin_by : (d e : Bool) (x y x' y' : ℤ) → d ≡ e → x' ≡ neg_ℤ y → y' ≡ neg_ℤ x → (if d then pos 0 else x' -ℤ y') ≡ (if e then pos 0 else x -ℤ y)
twin_by d true x y x' y' h p q = rw h refl
twin_by d false x y x' y' h p q = rw h (omega (arith, ints))

same_test : (a b : ℕ) → nat_eq (opposite b) (opposite a) ≡ nat_eq a b
unfolding opposite
same_test a b = grind (arith, nat_tests)

pub type_bound-twin : (a b : ℕ) → type_bound (opposite b) (opposite a) ≡ type_bound a b
unfolding type_bound
type_bound-twin a b =
    twin_by (nat_eq (opposite b) (opposite a)) (nat_eq a b) (greatest_value a) (least_value b) (greatest_value (opposite b)) (least_value (opposite a)) (same_test a b) ((opposite-ends b).0) ((opposite-ends a).1)
