-- A best matrix moved to where a variable takes the value of its own term and a constant is best.
use Rattle.std.proofs.Common.{◌≡◌, ℕ, zero, suc, ◌+◌, ◌*◌, ◌/◌, ◌%◌, ◌^◌, ◌<◌, ℤ, pos, neg_ℤ, ◌+ℤ◌, ◌-ℤ◌, ◌*ℤ◌, ◌≤ℤ◌, Bool, true, false, nat_eq, if◌then◌else◌, List, [], ◌∷◌, slice_set, slice_index_or, length, refl, sym, ◌∙◌, ap, subst, to_z, of_z, w64, arith}
use Rattle.std.proofs.lemmas.Int.{ints, clamps}
use Rattle.std.proofs.lemmas.Bool.Decides.{nat_tests}
use Rattle.c_tree.specs.Value.{IsInt}
use Rattle.leaf_domain.specs.declared.range.Range.{Range}
use Rattle.leaf_domain.specs.Ranges.{Within, IsInInt}
use Rattle.leaf_domain.specs.Forms.{IsFormNumber}
use Rattle.octagon_matrix.specs.Terms.{opposite, type_bound}
use Rattle.octagon_matrix.specs.Matrices.{MatrixValue, entry_of, IsMatrix, HasEntries}
use Rattle.octagon_matrix.specs.Stores.{value_at, term_value, IsStore, Holds}
use Rattle.octagon_matrix.proofs.Terms.{opposite-below, opposite-differs}
use Rattle.octagon_matrix.proofs.Stores.{term-opposite}
use Rattle.octagon_closure.specs.Best.{IsUnmet, Reaches, IsBest}
use Rattle.octagon_leaf.specs.declared.meets.Meet.{Meet}
use Rattle.octagon_leaf.specs.Greatest.{matrix_of, difference}
use Rattle.octagon_leaf.specs.Shapes.{between, term_between}
use Rattle.octagon_leaf.specs.Octagons.{met_all, moved, moved_entry, kept_entry, has_variable, renamed, sign_of}
use Rattle.octagon_leaf.specs.Meeting.{AreMeets, AreSmall}
use Rattle.octagon_leaf.specs.Filling.{IsFull, AreLarge}
use Rattle.octagon_leaf.specs.Laws.Best.{of-entry, of-bounds, IsBounded, bounded-store, store-above}
use Rattle.octagon_leaf.specs.Laws.Meets.{bounded-kept, bounded-all, variables-all, AllMet, all-holds, holds-all}
use Rattle.octagon_leaf.specs.Laws.Terms.{bounded-moved, moved-holds, moved-difference, renamed-below, set-own, set-length}
use Rattle.octagon_leaf.specs.Laws.OctagonLaws.{between-meets, set-met, within-int}
use Rattle.octagon_leaf.proofs.Full.{best-full, best-large, best-made}
use Rattle.octagon_leaf.proofs.Assigning.{met-within}

-- ---- back to the store before
pub set-back : (s : List ℤ) (x : ℕ) (v : ℤ) → slice_set (slice_set s x v) x (slice_index_or s x (pos 0)) ≡ s
set-back [] x v = refl
set-back (n ∷ s) zero v = refl
set-back (n ∷ s) (suc x) v = ap (λ u. n ∷ u) (set-back s x v)

-- the store that moves to the given one
pub record Unmoved (s : List ℤ) (x t : ℕ) (c : ℤ) : Type 0 where
  pub store : List ℤ
  pub size : length store ≡ length s
  pub term : term_value store t +ℤ c ≡ value_at s x
  pub back : slice_set store x (term_value store t +ℤ c) ≡ s

signed-by : (w c : ℤ) (q : Bool) → (if q then (if q then w -ℤ c else c -ℤ w) else neg_ℤ (if q then w -ℤ c else c -ℤ w)) +ℤ c ≡ w
signed-by w c true = omega (arith, ints)
signed-by w c false = omega (arith, ints)

pub unmoved : (n : ℕ) (s : List ℤ) (x t : ℕ) (c : ℤ) → length s ≡ n → x < n → has_variable x t ≡ true → Unmoved s x t c
unmoved n s x t c e l f =
    let w : ℤ = value_at s x in
    let v : ℤ = if nat_eq (t % 2) 0 then w -ℤ c else c -ℤ w in
    let u : List ℤ = slice_set s x v in
    let g : term_value u t +ℤ c ≡ w = ap (λ d. d +ℤ c) (set-own n s x t v e l f) ∙ signed-by w c (nat_eq (t % 2) 0) in
    record { store = u; size = set-length s x v; term = g; back = ap (λ d. slice_set u x d) g ∙ set-back s x v }

pub same-variable : (x a : ℕ) → has_variable x a ≡ true → a / 2 ≡ x
same-variable x a e = grind (arith, nat_tests)

-- renaming by an own term undoes itself
even-of : (x a : ℕ) (q : Bool) → nat_eq (a % 2) 0 ≡ q → a / 2 ≡ x → a ≡ (if q then 2 * x else 2 * x + 1)
even-of x a true e f = grind (arith, nat_tests)
even-of x a false e f = grind (arith, nat_tests)

at-plus : (x t : ℕ) → renamed x t (2 * x) ≡ t
at-plus x t = let e : 2 * x / 2 ≡ x = omega arith in let f : 2 * x % 2 ≡ 0 = omega arith in let g : nat_eq x x ≡ true = grind (arith, nat_tests) in rw (e, f, g) refl

at-minus : (x t : ℕ) → renamed x t (2 * x + 1) ≡ opposite t
at-minus x t = let e : (2 * x + 1) / 2 ≡ x = omega arith in let f : (2 * x + 1) % 2 ≡ 1 = omega arith in let g : nat_eq x x ≡ true = grind (arith, nat_tests) in rw (e, f, g) refl

opposite-plus : (x : ℕ) → opposite (2 * x) ≡ 2 * x + 1
unfolding opposite
opposite-plus x = omega arith

opposite-minus : (x : ℕ) → opposite (2 * x + 1) ≡ 2 * x
unfolding opposite
opposite-minus x = omega arith

twice-at : (x : ℕ) (p q : Bool) → renamed x (if p then 2 * x else 2 * x + 1) (renamed x (if p then 2 * x else 2 * x + 1) (if q then 2 * x else 2 * x + 1)) ≡ (if q then 2 * x else 2 * x + 1)
twice-at x true true = ap (renamed x (2 * x)) (at-plus x (2 * x)) ∙ at-plus x (2 * x)
twice-at x true false = ap (renamed x (2 * x)) (at-minus x (2 * x) ∙ opposite-plus x) ∙ (at-minus x (2 * x) ∙ opposite-plus x)
twice-at x false true = ap (renamed x (2 * x + 1)) (at-plus x (2 * x + 1)) ∙ (at-minus x (2 * x + 1) ∙ opposite-minus x)
twice-at x false false = ap (renamed x (2 * x + 1)) (at-minus x (2 * x + 1) ∙ opposite-minus x) ∙ at-plus x (2 * x + 1)

twice-by : (x t a : ℕ) (q : Bool) → has_variable x a ≡ q → t / 2 ≡ x → renamed x t (renamed x t a) ≡ a
twice-by x t a true e f =
    let g : t ≡ (if nat_eq (t % 2) 0 then 2 * x else 2 * x + 1) = even-of x t (nat_eq (t % 2) 0) refl f in
    let h : a ≡ (if nat_eq (a % 2) 0 then 2 * x else 2 * x + 1) = even-of x a (nat_eq (a % 2) 0) refl (same-variable x a e) in
    let P : ℕ → ℕ → Type 0 = λ u b. renamed x u (renamed x u b) ≡ b in
    let w : P (if nat_eq (t % 2) 0 then 2 * x else 2 * x + 1) a = subst (P (if nat_eq (t % 2) 0 then 2 * x else 2 * x + 1)) (sym h) (twice-at x (nat_eq (t % 2) 0) (nat_eq (a % 2) 0)) in
    let Q : ℕ → Type 0 = λ u. P u a in
    subst Q (sym g) w
twice-by x t a false e f = let g : renamed x t a ≡ a = rw (e) refl in ap (renamed x t) g ∙ g

renamed-twice : (x t a : ℕ) → t / 2 ≡ x → renamed x t (renamed x t a) ≡ a
renamed-twice x t a f = twice-by x t a (has_variable x a) refl f

kept-below : (t n d : ℤ) → neg_ℤ (pos (2 ^ 33)) ≤ℤ d → d ≤ℤ kept_entry t n → d ≤ℤ n
kept-below t n d h k = omega (arith, ints, clamps)

-- what meets the moved matrix moved from a store of the matrix
pub unmoved-holds : (m : MatrixValue) (s : List ℤ) (x t : ℕ) (c : ℤ) (u : Unmoved s x t c) → IsMatrix m → x < m.variables → t < 2 * m.variables → t / 2 ≡ x → Holds (moved m x t c) s → Holds m u.store
unmoved-holds m s x t c u k l j f h =
    let n : ℕ = m.variables in
    let z : length u.store ≡ n = u.size ∙ h.size in
    let o : IsStore n s = bounded-store (moved m x t c) s (bounded-moved m x t c (bounded-kept m k)) h in
    record {
      size = z;
      bounds = λ a b i d.
          let a' : ℕ = renamed x t a in
          let b' : ℕ = renamed x t b in
          let i' : a' < 2 * n = renamed-below n x t a j i in
          let d' : b' < 2 * n = renamed-below n x t b j d in
          let g : difference s a' b' ≡ difference u.store (renamed x t a') (renamed x t b') +ℤ (c *ℤ (sign_of x a' -ℤ sign_of x b')) =
          ap (λ w. difference w a' b') (sym u.back) ∙ moved-difference n u.store x t a' b' c z l in
          let w : difference s a' b' ≤ℤ moved_entry m x t c a' b' =
          kept-below (type_bound a' b') (moved_entry m x t c a' b') (difference s a' b') (store-above n s a' b' o i' d') (of-bounds n (λ p q. kept_entry (type_bound p q) (moved_entry m x t c p q)) s a' b' h i' d') in
          let y : difference u.store (renamed x t a') (renamed x t b') ≤ℤ entry_of m (renamed x t a') (renamed x t b') = omega (arith, ints, g, w) in
          rw (renamed-twice x t a f, renamed-twice x t b f) at y;
    }

-- ---- a term between two numbers
pub term-meets : (n t : ℕ) (l h : ℤ) → t < 2 * n → AreMeets n (term_between t l h)
term-meets n t l h j = (
  record { first = j; second = opposite-below n t j; apart = λ g. opposite-differs t (sym g) },
  (record { first = opposite-below n t j; second = j; apart = λ g. opposite-differs t g }, tt),
)

term-met : (t : ℕ) (l h : ℤ) (s : List ℤ) → l ≤ℤ term_value s t → term_value s t ≤ℤ h → AllMet (term_between t l h) s
term-met t l h s i j = (omega (arith, ints, term-opposite s t), (omega (arith, ints, term-opposite s t), tt))

pub met-term : (t : ℕ) (l h : ℤ) (s : List ℤ) → AllMet (term_between t l h) s → (l ≤ℤ term_value s t) × (term_value s t ≤ℤ h)
met-term t l h s a = (omega (arith, ints, term-opposite s t, a.1.0), omega (arith, ints, term-opposite s t, a.0))

abbrev pub HeldMatrix : MatrixValue → ℕ → ℤ → Range → MatrixValue
HeldMatrix m t c r = met_all m (term_between t (r.low -ℤ c) (r.high -ℤ c))

abbrev pub MovedMatrix : MatrixValue → ℕ → ℕ → ℤ → Range → MatrixValue
MovedMatrix m x t c r = met_all (moved m x t c) (between x r)

pub held-within : (m : MatrixValue) (t : ℕ) (c : ℤ) (r : Range) (s : List ℤ) → IsMatrix m → t < 2 * m.variables → Holds (HeldMatrix m t c r) s → Holds m s × Within (term_value s t +ℤ c) r
held-within m t c r s k j h =
    let (g, a) = holds-all m (term_between t (r.low -ℤ c) (r.high -ℤ c)) s (bounded-kept m k) (term-meets m.variables t (r.low -ℤ c) (r.high -ℤ c) j) h in
    let (i, o) = met-term t (r.low -ℤ c) (r.high -ℤ c) s a in
    (g, record { low = omega (arith, ints); high = omega (arith, ints) })

-- a store of the held matrix moves to one of the moved
held-moves : (m : MatrixValue) (x t : ℕ) (c : ℤ) (r : Range) (s : List ℤ) → IsMatrix m → x < m.variables → t < 2 * m.variables → IsInInt r → Holds (HeldMatrix m t c r) s → Holds (MovedMatrix m x t c r) (slice_set s x (term_value s t +ℤ c))
held-moves m x t c r s k l j i h =
    let (g, w) = held-within m t c r s k j h in
    let b : IsBounded m = bounded-kept m k in
    all-holds (moved m x t c) (between x r) (slice_set s x (term_value s t +ℤ c)) (bounded-moved m x t c b) (between-meets m.variables x r l)
    (moved-holds m s x t c b g l j (within-int (term_value s t +ℤ c) r i w)) (set-met m.variables x r s (term_value s t +ℤ c) g.size l w)

moved-most : (m held : MatrixValue) (x t : ℕ) (c : ℤ) (r : Range) (s : List ℤ) (a b : ℕ) → IsMatrix m → IsBest (HeldMatrix m t c r) held → x < m.variables → t < 2 * m.variables → has_variable x t ≡ true → a < 2 * m.variables → b < 2 * m.variables → Holds (MovedMatrix m x t c r) s → difference s a b ≤ℤ moved_entry held x t c a b
moved-most m held x t c r s a b k q l j f i d h =
    let n : ℕ = m.variables in
    let (g, z) = holds-all (moved m x t c) (between x r) s (bounded-moved m x t c (bounded-kept m k)) (between-meets m.variables x r l) h in
    let w : Within (value_at s x) r = met-within x r s z in
    let u : Unmoved s x t c = unmoved n s x t c g.size l f in
    let o : Holds m u.store = unmoved-holds m s x t c u k l j (same-variable x t f) g in
    let p : Holds (HeldMatrix m t c r) u.store =
    all-holds m (term_between t (r.low -ℤ c) (r.high -ℤ c)) u.store (bounded-kept m k) (term-meets n t (r.low -ℤ c) (r.high -ℤ c) j) o
    (term-met t (r.low -ℤ c) (r.high -ℤ c) u.store (omega (arith, ints, u.term, w.low)) (omega (arith, ints, u.term, w.high))) in
    let v : (HeldMatrix m t c r).variables ≡ n = variables-all m (term_between t (r.low -ℤ c) (r.high -ℤ c)) in
    let y : difference u.store (renamed x t a) (renamed x t b) ≤ℤ entry_of held (renamed x t a) (renamed x t b) =
    q.most u.store (renamed x t a) (renamed x t b) p (rw v (renamed-below n x t a j i)) (rw v (renamed-below n x t b j d)) in
    let e : difference s a b ≡ difference u.store (renamed x t a) (renamed x t b) +ℤ (c *ℤ (sign_of x a -ℤ sign_of x b)) = ap (λ w. difference w a b) (sym u.back) ∙ moved-difference n u.store x t a b c (u.size ∙ g.size) l in
    omega (arith, ints, e, y)

pub moved-best : (m held : MatrixValue) (x t : ℕ) (c : ℤ) (r : Range) → IsMatrix m → IsBest (HeldMatrix m t c r) held → x < m.variables → t < 2 * m.variables → has_variable x t ≡ true → IsInInt r → IsBest (MovedMatrix m x t c r) (matrix_of m.variables (moved_entry held x t c))
moved-best m held x t c r k q l j f i =
    let n : ℕ = m.variables in
    let e : (MovedMatrix m x t c r).variables ≡ n = variables-all (moved m x t c) (between x r) in
    let v : (HeldMatrix m t c r).variables ≡ n = variables-all m (term_between t (r.low -ℤ c) (r.high -ℤ c)) in
    record {
      variables = sym e;
      most = λ s a b h g d. rw (of-entry n (moved_entry held x t c) a b (rw e at g) (rw e at d)) (moved-most m held x t c r s a b k q l j f (rw e at g) (rw e at d) h);
      reached = λ a b g d.
          let g' : a < 2 * n = rw e at g in
          let d' : b < 2 * n = rw e at d in
          let o : Reaches (HeldMatrix m t c r) (renamed x t a) (renamed x t b) (entry_of held (renamed x t a) (renamed x t b)) = q.reached (renamed x t a) (renamed x t b) (rw v (renamed-below n x t a j g')) (rw v (renamed-below n x t b j d')) in
          record {
            store = slice_set o.store x (term_value o.store t +ℤ c);
            holds = held-moves m x t c r o.store k l j i o.holds;
            reached =
                moved-difference n o.store x t a b c (o.holds.size ∙ v) l
                ∙ (ap (λ w. w +ℤ (c *ℤ (sign_of x a -ℤ sign_of x b))) o.reached ∙ sym (of-entry n (moved_entry held x t c) a b g' d'));
          };
      met = (slice_set q.met.0 x (term_value q.met.0 t +ℤ c), held-moves m x t c r q.met.0 k l j i q.met.1);
    }

-- where nothing is held, nothing is moved
pub moved-unmet : (m : MatrixValue) (x t : ℕ) (c : ℤ) (r : Range) (s : List ℤ) → IsMatrix m → x < m.variables → t < 2 * m.variables → has_variable x t ≡ true → Holds (MovedMatrix m x t c r) s → (u : List ℤ) × Holds (HeldMatrix m t c r) u
moved-unmet m x t c r s k l j f h =
    let n : ℕ = m.variables in
    let (g, z) = holds-all (moved m x t c) (between x r) s (bounded-moved m x t c (bounded-kept m k)) (between-meets m.variables x r l) h in
    let w : Within (value_at s x) r = met-within x r s z in
    let u : Unmoved s x t c = unmoved n s x t c g.size l f in
    let o : Holds m u.store = unmoved-holds m s x t c u k l j (same-variable x t f) g in (
      u.store,
      all-holds m (term_between t (r.low -ℤ c) (r.high -ℤ c)) u.store (bounded-kept m k) (term-meets n t (r.low -ℤ c) (r.high -ℤ c) j) o
          (term-met t (r.low -ℤ c) (r.high -ℤ c) u.store (omega (arith, ints, u.term, w.low)) (omega (arith, ints, u.term, w.high))),
    )

-- ---- as the code has them
shifted : (n c : ℤ) → IsInt n → IsFormNumber c → to_z w64 (of_z w64 (to_z w64 (of_z w64 n) -ℤ to_z w64 (of_z w64 c))) ≡ n -ℤ c
shifted n c h k = omega (arith, ints, h.low, h.high, k.low, k.high)

pub term-list : (t : ℕ) (r : Range) (c : ℤ) (es : List Meet) → IsInInt r → IsFormNumber c
    → es ≡ term_between t (to_z w64 (of_z w64 (to_z w64 (of_z w64 r.low) -ℤ to_z w64 (of_z w64 c)))) (to_z w64 (of_z w64 (to_z w64 (of_z w64 r.high) -ℤ to_z w64 (of_z w64 c))))
    → es ≡ term_between t (r.low -ℤ c) (r.high -ℤ c)
term-list t r c es h k e =
    e
    ∙ (ap (λ l. term_between t l (to_z w64 (of_z w64 (to_z w64 (of_z w64 r.high) -ℤ to_z w64 (of_z w64 c))))) (shifted r.low c h.low k) ∙ ap (λ u. term_between t (r.low -ℤ c) u) (shifted r.high c h.high k))

pub term-small : (t : ℕ) (r : Range) (c : ℤ) → IsInInt r → IsFormNumber c → AreSmall (term_between t (r.low -ℤ c) (r.high -ℤ c))
term-small t r c h k = (
  record { low = omega (arith, ints, h.high.low, h.high.high, k.low, k.high); high = omega (arith, ints, h.high.low, h.high.high, k.low, k.high) },
  (record { low = omega (arith, ints, h.low.low, h.low.high, k.low, k.high); high = omega (arith, ints, h.low.low, h.low.high, k.low, k.high) }, tt),
)

pub held-of : (m k held : MatrixValue) (es fs : List Meet) → k ≡ m → es ≡ fs → IsBest (met_all k es) held → IsBest (met_all m fs) held
held-of m k held es fs e f q =
    let P : MatrixValue → Type 0 = λ d. IsBest (met_all d es) held in let Q : List Meet → Type 0 = λ gs. IsBest (met_all m gs) held in subst Q f (subst P e q)

pub unmet-of : (m k : MatrixValue) (es fs : List Meet) → k ≡ m → es ≡ fs → IsUnmet (met_all k es) → IsUnmet (met_all m fs)
unmet-of m k es fs e f q =
    let P : MatrixValue → Type 0 = λ d. IsUnmet (met_all d es) in let Q : List Meet → Type 0 = λ gs. IsUnmet (met_all m gs) in subst Q f (subst P e q)

pub moved-full : (m held : MatrixValue) (x t : ℕ) (c k : ℤ) (r : Range) → k ≡ c → IsMatrix m → IsBest (HeldMatrix m t c r) held → x < m.variables → t < 2 * m.variables → has_variable x t ≡ true → IsInInt r
    → IsFull held.variables (moved_entry held x t k) × AreLarge held.variables (moved_entry held x t k)
moved-full m held x t c k r g z q l j f i =
    let n : ℕ = m.variables in
    let p : IsBest (MovedMatrix m x t c r) (matrix_of n (moved_entry held x t c)) = moved-best m held x t c r z q l j f i in
    let b : IsBounded (MovedMatrix m x t c r) = bounded-all (moved m x t c) (between x r) (bounded-moved m x t c (bounded-kept m z)) in
    let e : held.variables ≡ n = q.variables ∙ variables-all m (term_between t (r.low -ℤ c) (r.high -ℤ c)) in
    let P : ℕ → Type 0 = λ d. IsFull d (moved_entry held x t c) × AreLarge d (moved_entry held x t c) in
    let Q : ℤ → Type 0 = λ d. IsFull held.variables (moved_entry held x t d) × AreLarge held.variables (moved_entry held x t d) in
    subst Q (sym g) (subst P (sym e) (best-full (MovedMatrix m x t c r) n (moved_entry held x t c) b p, λ a d u v. best-large (MovedMatrix m x t c r) n (moved_entry held x t c) a d b p u v))

pub moved-made : (m held made : MatrixValue) (x t : ℕ) (c k : ℤ) (r : Range) → k ≡ c → IsMatrix m → IsBest (HeldMatrix m t c r) held → x < m.variables → t < 2 * m.variables → has_variable x t ≡ true → IsInInt r
    → IsMatrix made → HasEntries made held.variables (moved_entry held x t k) → IsBest (MovedMatrix m x t c r) made
moved-made m held made x t c k r g z q l j f i y h =
    let n : ℕ = m.variables in
    let e : held.variables ≡ n = q.variables ∙ variables-all m (term_between t (r.low -ℤ c) (r.high -ℤ c)) in
    let P : ℕ → Type 0 = λ d. HasEntries made d (moved_entry held x t c) in
    let Q : ℤ → Type 0 = λ d. HasEntries made held.variables (moved_entry held x t d) in
    best-made (MovedMatrix m x t c r) made n (moved_entry held x t c) (moved-best m held x t c r z q l j f i) y (subst P e (subst Q g h))
