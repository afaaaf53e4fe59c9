-- The normal form is true exactly where the form is at least 0.
use Rattle.std.proofs.Common.{◌≡◌, ℕ, zero, suc, ◌+◌, ◌*◌, ◌-◌, ◌%◌, ◌/◌, ◌≤◌, ◌<◌, nat_eq, ℤ, pos, negsuc, neg_ℤ, ◌+ℤ◌, ◌-ℤ◌, ◌*ℤ◌, ◌≤ℤ◌, ◌<ℤ◌, int_le, int_lt, int_div, int_rem, unsigned_abs, Bool, true, false, not, ◌&&◌, if◌then◌else◌, List, [], ◌∷◌, sym, ap, subst, refl, ◌∙◌, arith, get_or, FitsSigned, to_z, of_z, w64}
use Rattle.std.specs.Int.{int_div_euclid}
use Rattle.std.proofs.lemmas.Int.{ints, quot-rem, to_z-of_z}
use Rattle.std.proofs.lemmas.Nat.{div-add-mod', mod_below}
use Rattle.std.proofs.lemmas.Bool.Decides.{nat_tests}
use Rattle.std.proofs.Math.IntN.{+ℤ_idl, zero-*ℤ, *ℤ-zero, pos-*ℤ-pos, negsuc-*ℤ-pos, +ℤ_invl}
use Rattle.std.proofs.Math.Nat.{suc-mul, div-le_self}
use Rattle.linear_atoms.specs.declared.forms.Linear.{Linear}
use Rattle.linear_atoms.specs.declared.normal.Normal.TheVariants as normals
use Rattle.linear_atoms.specs.Forms.{IsRising, sum_at, form_at, is_small}
use Rattle.linear_atoms.specs.Atoms.{literal_holds}
use Rattle.linear_atoms.specs.Divisors.{divides_all, common_divisor}
use Rattle.linear_atoms.specs.Normal.{divided, rounded_up, at_least, literal_by, normal_by, normal_of, normal_holds}
use Rattle.linear_terms.proofs.Integers.{sum-times, times-sum, past}
use Rattle.linear_atoms.proofs.Divisors.{IsBounded, divisor_bounds}

-- ---- exact quotients

rem_zero : (a d : ℤ) → unsigned_abs a % unsigned_abs d ≡ 0 → int_rem a d ≡ pos 0
rem_zero (pos a) d h = ap pos h
rem_zero (negsuc a) d h = ap (λ x. neg_ℤ (pos x)) h

pub exact : (a d : ℤ) → unsigned_abs a % unsigned_abs d ≡ 0 → int_div a d *ℤ d ≡ a
exact a d h =
    let e : int_div a d *ℤ d +ℤ int_rem a d ≡ a = quot-rem a d in
    let f : int_rem a d ≡ pos 0 = rem_zero a d h in
    omega (arith, ints)

pub and_left : (a b : Bool) → (a && b) ≡ true → a ≡ true
and_left true b e = refl
and_left false b e = e

pub and_right : (a b : Bool) → (a && b) ≡ true → b ≡ true
and_right true b e = e
and_right false b e = cc

pub is_zero : (n : ℕ) → nat_eq n 0 ≡ true → n ≡ 0
is_zero n h = grind (arith, nat_tests)

divided-at : (d : ℤ) (values : List ℤ) (ts : List (ℕ × ℤ)) → divides_all (unsigned_abs d) ts ≡ true → sum_at ts values ≡ sum_at (divided d ts) values *ℤ d
divided-at d values [] h = sym (zero-*ℤ d)
divided-at d values (t ∷ ts) h =
    let v : ℤ = get_or values t.0 (pos 0) in
    let q : ℤ = int_div t.1 d in
    let e : sum_at ts values ≡ sum_at (divided d ts) values *ℤ d = divided-at d values ts (and_right _ _ h) in
    let f : (q *ℤ d) *ℤ v ≡ (q *ℤ v) *ℤ d = past q d v in
    let g : (q *ℤ d) *ℤ v ≡ t.1 *ℤ v = ap (λ x. x *ℤ v) (exact t.1 d (is_zero (unsigned_abs t.1 % unsigned_abs d) (and_left _ _ h))) in
    let k : (q *ℤ v +ℤ sum_at (divided d ts) values) *ℤ d ≡ (q *ℤ v) *ℤ d +ℤ sum_at (divided d ts) values *ℤ d = sum-times (q *ℤ v) (sum_at (divided d ts) values) d in
    omega (arith, ints)

-- ---- rounding

pub record Rounds (k : ℤ) (g : ℕ) : Type 0 where
  pub left : ℕ
  pub below : left < g
  pub is : k ≡ int_div_euclid k (pos g) *ℤ pos g +ℤ pos left

rounds : (k : ℤ) (g : ℕ) → 0 < g → Rounds k g
rounds (pos a) g h =
    record { left = a % g; below = mod_below a g h; is = (let e : a / g * g + a % g ≡ a = div-add-mod' a g in ap pos (sym e)) }
rounds (negsuc a) g h =
    let e : a / g * g + a % g ≡ a = div-add-mod' a g in
    let b : a % g < g = mod_below a g h in
    let m : suc (a / g) * g ≡ a / g * g + g = suc-mul (a / g) g in
    let p : negsuc (a / g) *ℤ pos g ≡ neg_ℤ (pos (suc (a / g) * g)) = negsuc-*ℤ-pos (a / g) g in
    record { left = g - 1 - a % g; below = omega arith; is = omega (arith, ints) }

non_negative : (z : ℤ) → pos 0 ≤ℤ z → int_le (pos 0) z ≡ true
non_negative z h = grind (arith, ints)

negative : (z : ℤ) → z <ℤ pos 0 → int_le (pos 0) z ≡ false
negative z h = grind (arith, ints)

-- a multiple and less than one more has the multiple's sign
sign_of : (d : ℤ) (g r : ℕ) → r < g → int_le (pos 0) (d *ℤ pos g +ℤ pos r) ≡ int_le (pos 0) d
sign_of (pos n) g r h =
    let p : pos n *ℤ pos g ≡ pos (n * g) = pos-*ℤ-pos n g in
    non_negative (pos n *ℤ pos g +ℤ pos r) (omega (arith, ints)) ∙ sym (non_negative (pos n) (omega (arith, ints)))
sign_of (negsuc n) g r h =
    let p : negsuc n *ℤ pos g ≡ neg_ℤ (pos (suc n * g)) = negsuc-*ℤ-pos n g in
    let m : suc n * g ≡ n * g + g = suc-mul n g in
    negative (negsuc n *ℤ pos g +ℤ pos r) (omega (arith, ints)) ∙ sym (negative (negsuc n) (omega (arith, ints)))

shift : (q s : ℤ) → int_le (neg_ℤ q) s ≡ int_le (pos 0) (s +ℤ q)
shift q s = grind (arith, ints)

shift_down : (q s : ℤ) → not (int_le (pos 1 -ℤ neg_ℤ q) s) ≡ int_le (pos 0) (neg_ℤ s +ℤ q)
shift_down q s = grind (arith, ints)

up : (s k : ℤ) (g : ℕ) → 0 < g → int_le (rounded_up k (pos g)) s ≡ int_le (pos 0) (s *ℤ pos g +ℤ k)
up s k g h =
    let r : Rounds k g = rounds k g h in
    let q : ℤ = int_div_euclid k (pos g) in
    let e : (s +ℤ q) *ℤ pos g ≡ s *ℤ pos g +ℤ q *ℤ pos g = sum-times s q (pos g) in
    let i : k ≡ q *ℤ pos g +ℤ pos r.left = r.is in
    let f : s *ℤ pos g +ℤ k ≡ (s +ℤ q) *ℤ pos g +ℤ pos r.left = omega (arith, ints) in
    shift q s ∙ sym (sign_of (s +ℤ q) g r.left r.below) ∙ ap (int_le (pos 0)) (sym f)

neg_times : (s : ℤ) (g : ℕ) → s *ℤ neg_ℤ (pos g) ≡ neg_ℤ s *ℤ pos g
neg_times s g =
    let a : s *ℤ (neg_ℤ (pos g) +ℤ pos g) ≡ s *ℤ neg_ℤ (pos g) +ℤ s *ℤ pos g = times-sum s (neg_ℤ (pos g)) (pos g) in
    let b : s *ℤ (neg_ℤ (pos g) +ℤ pos g) ≡ pos 0 = ap (λ x. s *ℤ x) (+ℤ_invl (pos g)) ∙ *ℤ-zero s in
    let c : (neg_ℤ s +ℤ s) *ℤ pos g ≡ neg_ℤ s *ℤ pos g +ℤ s *ℤ pos g = sum-times (neg_ℤ s) s (pos g) in
    let d : (neg_ℤ s +ℤ s) *ℤ pos g ≡ pos 0 = ap (λ x. x *ℤ pos g) (+ℤ_invl s) ∙ zero-*ℤ (pos g) in
    omega (arith, ints)

down : (s k : ℤ) (g : ℕ) → 0 < g → not (int_le (pos 1 -ℤ rounded_up k (pos g)) s) ≡ int_le (pos 0) (s *ℤ neg_ℤ (pos g) +ℤ k)
down s k g h =
    shift_down (int_div_euclid k (pos g)) s ∙ sym (shift (int_div_euclid k (pos g)) (neg_ℤ s)) ∙ up (neg_ℤ s) k g h ∙ ap (λ x. int_le (pos 0) (x +ℤ k)) (sym (neg_times s g))

-- ---- the law

pub size_of_neg : (g : ℕ) → unsigned_abs (neg_ℤ (pos g)) ≡ g
size_of_neg zero = refl
size_of_neg (suc g) = refl

literal_truth : (b : Bool) (ts : List (ℕ × ℤ)) (g n : ℕ) (k : ℤ) (values : List ℤ) → IsBounded g n ts
    → literal_holds (if b then at_least (divided (pos g) ts) (rounded_up k (pos g)) true else at_least (divided (neg_ℤ (pos g)) ts) (pos 1 -ℤ rounded_up k (pos g)) false) values ≡ int_le (pos 0) (sum_at ts values +ℤ k)
literal_truth true ts g n k values h =
    up (sum_at (divided (pos g) ts) values) k g h.positive
    ∙ ap (λ x. int_le (pos 0) (x +ℤ k)) (sym (divided-at (pos g) values ts h.divides))
literal_truth false ts g n k values h =
    let m : divides_all (unsigned_abs (neg_ℤ (pos g))) ts ≡ true = ap (λ x. divides_all x ts) (size_of_neg g) ∙ h.divides in
    down (sum_at (divided (neg_ℤ (pos g)) ts) values) k g h.positive
    ∙ ap (λ x. int_le (pos 0) (x +ℤ k)) (sym (divided-at (neg_ℤ (pos g)) values ts m))

truth_by : (ts : List (ℕ × ℤ)) (k : ℤ) (values : List ℤ) → IsRising ts → normal_holds (normal_by ts (common_divisor ts) k) values ≡ int_le (pos 0) (sum_at ts values +ℤ k)
truth_by [] k values r = ap (int_le (pos 0)) (sym (+ℤ_idl k))
truth_by (t ∷ ts) k values r = literal_truth (int_lt (pos 0) t.1) (t ∷ ts) (common_divisor (t ∷ ts)) (unsigned_abs t.1) k values (divisor_bounds t ts r)

pub truth_kept : (form : Linear) (values : List ℤ) → IsRising form.terms → normal_holds (normal_of form) values ≡ int_le (pos 0) (form_at form values)
truth_kept form values r = truth_by form.terms form.constant values r

-- ---- the whole form

spread : (ts rest : List (ℕ × ℤ)) (n : ℕ) (a : ℤ) (g : ℕ) (k : ℤ) → ts ≡ (n, a) ∷ rest → normals.Literal (literal_by a ts (pos g) k) ≡ normal_by ts g k
spread ts rest n a g k e = subst (λ x. normals.Literal (literal_by a x (pos g) k) ≡ normal_by x g k) (sym e) refl

pub made_normal : (form : Linear) (rest : List (ℕ × ℤ)) (n : ℕ) (a g : ℤ) → form.terms ≡ (n, a) ∷ rest → g ≡ pos (common_divisor form.terms) → normals.Literal (literal_by a form.terms g form.constant) ≡ normal_of form
made_normal form rest n a g e f = ap (λ x. normals.Literal (literal_by a form.terms x form.constant)) f ∙ spread form.terms rest n a (common_divisor form.terms) form.constant e

pub size_small : (k : ℤ) → is_small k ≡ true → unsigned_abs k ≤ 2147483648
size_small k h = grind (arith, nat_tests)

quotient_size : (k g : ℤ) → pos 0 <ℤ g → unsigned_abs (int_div_euclid k g) ≤ unsigned_abs k
quotient_size (pos a) (pos b) h = div-le_self a b
quotient_size (negsuc a) (pos b) h = let e : a / b ≤ a = div-le_self a b in omega arith
quotient_size k (negsuc b) h = absurd (omega (arith, ints))

pub quotient_ends : (k g : ℤ) → is_small k ≡ true → pos 0 <ℤ g → (negsuc 2147483647 ≤ℤ int_div_euclid k g) × (int_div_euclid k g ≤ℤ pos 2147483648)
quotient_ends k g h p =
    let a : unsigned_abs k ≤ 2147483648 = size_small k h in
    let b : unsigned_abs (int_div_euclid k g) ≤ unsigned_abs k = quotient_size k g p in
    (omega (arith, ints), omega (arith, ints))

pub made_down : (first g k b d : ℤ) (ts us : List (ℕ × ℤ)) → int_lt (pos 0) first ≡ false → us ≡ divided d ts → d ≡ neg_ℤ g → b ≡ pos 1 -ℤ rounded_up k g → at_least us b false ≡ literal_by first ts g k
made_down first g k b d ts us n e f i =
    ap (λ x. at_least x b false) (e ∙ ap (λ y. divided y ts) f) ∙ ap (λ x. at_least (divided (neg_ℤ g) ts) x false) i
    ∙ sym (ap (λ x. if x then at_least (divided g ts) (rounded_up k g) true else at_least (divided (neg_ℤ g) ts) (pos 1 -ℤ rounded_up k g) false) n)

pub less_one : (r q : ℤ) → r ≡ q → negsuc 2147483647 ≤ℤ r → r ≤ℤ pos 2147483648 → to_z w64 (of_z w64 (pos 1 -ℤ to_z w64 (of_z w64 r))) ≡ pos 1 -ℤ q
less_one r q e l h =
    let f : FitsSigned w64 r = omega (arith, ints) in
    rw (to_z-of_z w64 r f, e) (to_z-of_z w64 (pos 1 -ℤ q) (let k : pos 1 -ℤ r ≡ pos 1 -ℤ q = ap (λ x. pos 1 -ℤ x) e in omega (arith, ints)))
