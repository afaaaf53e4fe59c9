-- The stores that meet a matrix: their values lie within `int`, all such stores meet the type's bounds, and what a meet leaves out.
use Rattle.std.proofs.Common.{◌≡◌, ◌≢◌, ◌⊎◌, inl, inr, ℕ, ℤ, pos, neg_ℤ, ◌-ℤ◌, ◌≤ℤ◌, ◌+◌, ◌*◌, ◌/◌, ◌%◌, ◌<◌, arith, ◌∙◌, sym, subst, refl, Bool, true, false, nat_eq, if◌then◌else◌, List, ◌↔◌}
use Rattle.std.proofs.lemmas.Int.{ints, clamps}
use Rattle.std.specs.Int.{int_min}
use Rattle.std.proofs.lemmas.Bool.Decides.{eqb_tells}
use Rattle.octagon_matrix.specs.Terms.{opposite, is_pair, int_least, int_greatest, least_value, greatest_value, type_bound}
use Rattle.octagon_matrix.specs.Matrices.{MatrixValue, entry_of, met_entry, IsMatrix, HasEntries}
use Rattle.octagon_matrix.specs.Stores.{value_at, term_value, IsStore, Holds}
use Rattle.octagon_matrix.proofs.Terms.{type_bound-apart, type_bound-least, opposite-half, sign-flips, sign-flips_back}
use Rattle.octagon_matrix.proofs.Places.{IsSame}
use Rattle.octagon_matrix.proofs.Cells.{pair_tells}

-- ---- the two terms of a variable
plus-value : (s : List ℤ) (x : ℕ) → term_value s (2 * x) ≡ value_at s x
plus-value s x = let e : 2 * x % 2 ≡ 0 = omega arith in let f : 2 * x / 2 ≡ x = omega arith in rw (e, f) refl

minus-value : (s : List ℤ) (x : ℕ) → term_value s (2 * x + 1) ≡ neg_ℤ (value_at s x)
minus-value s x = let e : (2 * x + 1) % 2 ≡ 1 = omega arith in let f : (2 * x + 1) / 2 ≡ x = omega arith in rw (e, f) refl

plus-greatest : (x : ℕ) → greatest_value (2 * x) ≡ int_greatest
plus-greatest x = let e : 2 * x % 2 ≡ 0 = omega arith in rw (e) refl

plus-least : (x : ℕ) → least_value (2 * x) ≡ int_least
plus-least x = let e : 2 * x % 2 ≡ 0 = omega arith in rw (e) refl

minus-greatest : (x : ℕ) → greatest_value (2 * x + 1) ≡ neg_ℤ int_least
minus-greatest x = let e : (2 * x + 1) % 2 ≡ 1 = omega arith in rw (e) refl

minus-least : (x : ℕ) → least_value (2 * x + 1) ≡ neg_ℤ int_greatest
minus-least x = let e : (2 * x + 1) % 2 ≡ 1 = omega arith in rw (e) refl

doubled-most : (x p q e t g l : ℤ) → (p -ℤ q) ≤ℤ e → p ≡ x → q ≡ neg_ℤ x → e ≤ℤ t → t ≡ g -ℤ l → g ≡ int_greatest → l ≡ neg_ℤ int_greatest → x ≤ℤ int_greatest
doubled-most x p q e t g l h i j k u v w = omega (arith, ints)

doubled-least : (x p q e t g l : ℤ) → (q -ℤ p) ≤ℤ e → p ≡ x → q ≡ neg_ℤ x → e ≤ℤ t → t ≡ g -ℤ l → g ≡ neg_ℤ int_least → l ≡ int_least → int_least ≤ℤ x
doubled-least x p q e t g l h i j k u v w = omega (arith, ints)

-- the entries between the two terms of a variable keep its value within `int`
pub holds-store : (m : MatrixValue) (s : List ℤ) → IsMatrix m → Holds m s → IsStore m.variables s
holds-store m s k o = record {
  size = o.size;
  least = λ x h.
      let i : 2 * x < 2 * m.variables = omega arith in
      let j : 2 * x + 1 < 2 * m.variables = omega arith in
      let d : 2 * x + 1 ≢ 2 * x = omega arith in
      doubled-least (value_at s x) (term_value s (2 * x)) (term_value s (2 * x + 1)) (entry_of m (2 * x + 1) (2 * x)) (type_bound (2 * x + 1) (2 * x)) (greatest_value (2 * x + 1)) (least_value (2 * x))
      (o.bounds (2 * x + 1) (2 * x) j i) (plus-value s x) (minus-value s x) (k.most (2 * x + 1) (2 * x) j i) (type_bound-apart (2 * x + 1) (2 * x) d) (minus-greatest x) (plus-least x);
  most = λ x h.
      let i : 2 * x < 2 * m.variables = omega arith in
      let j : 2 * x + 1 < 2 * m.variables = omega arith in
      let d : 2 * x ≢ 2 * x + 1 = omega arith in
      doubled-most (value_at s x) (term_value s (2 * x)) (term_value s (2 * x + 1)) (entry_of m (2 * x) (2 * x + 1)) (type_bound (2 * x) (2 * x + 1)) (greatest_value (2 * x)) (least_value (2 * x + 1))
      (o.bounds (2 * x) (2 * x + 1) i j) (plus-value s x) (minus-value s x) (k.most (2 * x) (2 * x + 1) i j) (type_bound-apart (2 * x) (2 * x + 1) d) (plus-greatest x) (minus-least x);
}

-- ---- a term of a store lies between its ends
ends_by : (e : Bool) (x : ℤ) → int_least ≤ℤ x → x ≤ℤ int_greatest → ((if e then int_least else neg_ℤ int_greatest) ≤ℤ (if e then x else neg_ℤ x)) × ((if e then x else neg_ℤ x) ≤ℤ (if e then int_greatest else neg_ℤ int_least))
ends_by true x h k = (h, k)
ends_by false x h k = (omega (arith, ints), omega (arith, ints))

term-ends : (n : ℕ) (s : List ℤ) (a : ℕ) → IsStore n s → a < 2 * n → (least_value a ≤ℤ term_value s a) × (term_value s a ≤ℤ greatest_value a)
term-ends n s a o h = let i : a / 2 < n = omega arith in ends_by (nat_eq (a % 2) 0) (value_at s (a / 2)) (o.least (a / 2) i) (o.most (a / 2) i)

between : (p q l g : ℤ) → p ≤ℤ g → l ≤ℤ q → (p -ℤ q) ≤ℤ (g -ℤ l)
between p q l g h k = omega (arith, ints)

nothing : (p : ℤ) → (p -ℤ p) ≤ℤ pos 0
nothing p = omega (arith, ints)

within-by : (n : ℕ) (s : List ℤ) (a b : ℕ) → IsStore n s → a < 2 * n → b < 2 * n → ((nat_eq a b ≡ true) × (a ≡ b)) ⊎ ((nat_eq a b ≡ false) × (a ≢ b)) → (term_value s a -ℤ term_value s b) ≤ℤ type_bound a b
within-by n s a b o h k (inl e) =
    let P : ℕ → Type 0 = λ c. (term_value s a -ℤ term_value s c) ≤ℤ pos 0 in
    let i : (term_value s a -ℤ term_value s b) ≤ℤ pos 0 = subst P (e.1) (nothing (term_value s a)) in
    omega (arith, ints, i, type_bound-least a b)
within-by n s a b o h k (inr e) =
    rw (type_bound-apart a b (e.1)) (between (term_value s a) (term_value s b) (least_value b) (greatest_value a) ((term-ends n s a o h).1) ((term-ends n s b o k).0))

pub store-holds : (n : ℕ) (m : MatrixValue) (s : List ℤ) → HasEntries m n type_bound → IsStore n s → Holds m s
store-holds n m s e o = record {
  size = o.size ∙ sym e.variables;
  bounds = λ a b h k.
      let h' : a < 2 * n = rw (← e.variables) h in
      let k' : b < 2 * n = rw (← e.variables) k in
      rw (e.entries a b h' k') (within-by n s a b o h' k' (eqb_tells a b));
}

-- ---- opposite terms have opposite values
flipped : (i j : Bool) (x : ℤ) → (i ≡ true → j ≡ false) → (i ≡ false → j ≡ true) → (if j then x else neg_ℤ x) ≡ neg_ℤ (if i then x else neg_ℤ x)
flipped true j x h k = rw (h refl) refl
flipped false j x h k = rw (k refl) (omega (arith, ints))

pub term-opposite : (s : List ℤ) (a : ℕ) → term_value s (opposite a) ≡ neg_ℤ (term_value s a)
term-opposite s a = rw (opposite-half a) (flipped (nat_eq (a % 2) 0) (nat_eq (opposite a % 2) 0) (value_at s (a / 2)) (sign-flips a) (sign-flips_back a))

-- ---- a store meets what a meet leaves exactly where it met the matrix and meets the bound
met_below : (q : Bool) (x v : ℤ) → (if q then int_min x v else x) ≤ℤ x
met_below true x v = omega (arith, ints, clamps)
met_below false x v = omega (arith, ints)

holds-before : (m next : MatrixValue) (a b : ℕ) (v : ℤ) (s : List ℤ) → HasEntries next m.variables (met_entry m a b v) → Holds next s → Holds m s
holds-before m next a b v s e h = record {
  size = h.size ∙ e.variables;
  bounds = λ c d i j. omega (arith, ints, h.bounds c d (rw (e.variables) i) (rw (e.variables) j), e.entries c d i j, met_below (is_pair a b c d) (entry_of m c d) v);
}

met-by : (m : MatrixValue) (a b c d : ℕ) (v t u : ℤ) (s : List ℤ) → t ≡ term_value s a -ℤ term_value s b → t ≤ℤ v → u ≡ term_value s c -ℤ term_value s d → u ≤ℤ entry_of m c d
    → ((is_pair a b c d ≡ true) × IsSame a b c d) ⊎ ((is_pair a b c d ≡ false) × (IsSame a b c d → ⊥)) → u ≤ℤ met_entry m a b v c d
met-by m a b c d v t u s e h f k (inr p) = rw (p.0) k
met-by m a b c d v t u s e h f k (inl p) = rw (p.0) (omega (arith, ints, clamps, same-difference a b c d s (p.1)))
  where
    same-difference : (a b c d : ℕ) (s : List ℤ) → IsSame a b c d → term_value s c -ℤ term_value s d ≡ term_value s a -ℤ term_value s b
    same-difference a b c d s (inl q) = rw (q.0, q.1) refl
    same-difference a b c d s (inr q) = rw (q.0, q.1) (omega (arith, ints, term-opposite s a, term-opposite s b))

at-entry : (m : MatrixValue) (a b : ℕ) (v : ℤ) → ((is_pair a b a b ≡ true) × IsSame a b a b) ⊎ ((is_pair a b a b ≡ false) × (IsSame a b a b → ⊥)) → met_entry m a b v a b ≤ℤ v
at-entry m a b v (inl p) = rw (p.0) (omega (arith, ints, clamps))
at-entry m a b v (inr p) = absurd (p.1 (inl (refl, refl)))

pub met-stores : (m next : MatrixValue) (a b : ℕ) (v : ℤ) (s : List ℤ) → HasEntries next m.variables (met_entry m a b v) → a < 2 * m.variables → b < 2 * m.variables → Holds next s ↔ (Holds m s × ((term_value s a -ℤ term_value s b) ≤ℤ v))
met-stores m next a b v s e p q = (
  λ h. (holds-before m next a b v s e h, omega (arith, ints, h.bounds a b (rw (e.variables) p) (rw (e.variables) q), e.entries a b p q, at-entry m a b v (pair_tells a b a b))),
  λ h. record {
    size = h.0.size ∙ sym e.variables;
    bounds = λ c d i j.
        let i' : c < 2 * m.variables = rw (← e.variables) i in
        let j' : d < 2 * m.variables = rw (← e.variables) j in
        rw (e.entries c d i' j') (met-by m a b c d v (term_value s a -ℤ term_value s b) (term_value s c -ℤ term_value s d) s refl (h.1) refl (h.0.bounds c d i' j') (pair_tells a b c d));
  },
)
