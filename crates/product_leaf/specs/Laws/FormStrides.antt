-- The value of a form at a store has the form's stride.
use Rattle.std.proofs.Common.{◌≡◌, ℕ, ◌+◌, ◌*◌, ℤ, pos, ◌+ℤ◌, ◌-ℤ◌, ◌*ℤ◌, unsigned_abs, List, [], ◌∷◌, length, slice_index_or, refl, ap, sym, ◌∙◌, subst, arith}
use Rattle.std.specs.Int.{◌∣◌}
use Rattle.std.proofs.lemmas.Int.{ints, unsigned_abs-mul}
use Rattle.std.proofs.lemmas.Nat.Gcd.{dvd_trans, dvd_refl}
use Rattle.std.proofs.Math.Nat.{mul-dvd-mul_left}
use Rattle.leaf_domain.specs.declared.form.Form.{Form}
use Rattle.leaf_domain.specs.Forms.{terms_at, form_at, AreTerms, IsForm}
use Rattle.strides.specs.declared.strided.Strided.{Strided}
use Rattle.strides.specs.Divisors.{gcd, IsMultiple}
use Rattle.strides.specs.Strides.{HasStride, IsReduced}
use Rattle.linear_terms.proofs.Integers.{times-sum}
use Rattle.strides.proofs.Multiples.{multiple_same, multiple_zero, multiple_sum, multiple_from_dvd, dvd_from_multiple, multiple_finer, gcd_is}
use Rattle.strides.proofs.StrideLaws.{stride_has, stride_reduced}
use Rattle.product_leaf.specs.StrideLeaves.{AllHave, part_at, common_modulus, residues_of, form_stride}
use Rattle.product_leaf.specs.Laws.Parts.{read_has, read_residue}

-- what divides the number and each coefficient times its modulus
common_divides : (g : ℕ) (bs : List Strided) (ts : List (ℕ × ℤ)) → common_modulus g bs ts ∣ g
common_divides g bs [] = dvd_refl g
common_divides g bs (t ∷ ts) =
    let k : ℕ = unsigned_abs t.1 * (part_at bs t.0).stride.modulus in
    dvd_trans (common_modulus (gcd g k) bs ts) (common_divides (gcd g k) bs ts) (gcd_is g k).0

-- a number times a multiple
scaled : (a z : ℤ) (m : ℕ) → IsMultiple m z → IsMultiple (unsigned_abs a * m) (a *ℤ z)
scaled a z m h =
    multiple_from_dvd (unsigned_abs a * m) (a *ℤ z) (subst (λ k. unsigned_abs a * m ∣ k) (sym (unsigned_abs-mul a z)) (mul-dvd-mul_left m (unsigned_abs a) (dvd_from_multiple m z h)))

times_difference : (a x y : ℤ) → a *ℤ (x -ℤ y) ≡ (a *ℤ x) -ℤ (a *ℤ y)
times_difference a x y =
    let e : (a *ℤ (x -ℤ y)) +ℤ (a *ℤ y) ≡ a *ℤ ((x -ℤ y) +ℤ y) = sym (times-sum a (x -ℤ y) y) in
    let f : (x -ℤ y) +ℤ y ≡ x = omega (arith, ints) in
    moved (a *ℤ (x -ℤ y)) (a *ℤ x) (a *ℤ y) (e ∙ ap (λ z. a *ℤ z) f)
  where
    moved : (p q r : ℤ) → p +ℤ r ≡ q → p ≡ q -ℤ r
    moved p q r e = omega (arith, ints)

sum_moved : (p q r s d e : ℤ) → d ≡ p -ℤ q → e ≡ r -ℤ s → (p +ℤ r) -ℤ (q +ℤ s) ≡ d +ℤ e
sum_moved p q r s d e f g = omega (arith, ints)

terms_have : (g : ℕ) (bs : List Strided) (s : List ℤ) (from : ℕ) (ts : List (ℕ × ℤ)) → AreTerms from (length bs) ts → AllHave bs s → IsMultiple (common_modulus g bs ts) (terms_at ts s -ℤ terms_at ts (residues_of bs))
terms_have g bs s from [] r h = multiple_same g (pos 0) (pos 0 -ℤ pos 0) (omega (arith, ints)) (multiple_zero g)
terms_have g bs s from (t ∷ ts) r h =
    let b : Strided = part_at bs t.0 in
    let k : ℕ = unsigned_abs t.1 * (part_at bs t.0).stride.modulus in
    let v : ℤ = slice_index_or s t.0 (pos 0) in
    let c : ℤ = slice_index_or (residues_of bs) t.0 (pos 0) in
    let p : common_modulus (gcd g k) bs ts ∣ k = dvd_trans (common_modulus (gcd g k) bs ts) (common_divides (gcd g k) bs ts) (gcd_is g k).1 in
    let m : HasStride (part_at bs t.0).stride (slice_index_or s t.0 (pos 0)) = (read_has bs s t.0 r.1 h).stride in
    let q : IsMultiple k (t.1 *ℤ (v -ℤ (part_at bs t.0).stride.residue)) = scaled t.1 (v -ℤ (part_at bs t.0).stride.residue) (part_at bs t.0).stride.modulus m in
    let e : t.1 *ℤ (v -ℤ (part_at bs t.0).stride.residue) ≡ (t.1 *ℤ v) -ℤ (t.1 *ℤ c) =
    ap (λ x. t.1 *ℤ (v -ℤ x)) (sym (read_residue bs t.0)) ∙ times_difference t.1 v c in
    let i : IsMultiple (common_modulus (gcd g k) bs ts) (terms_at ts s -ℤ terms_at ts (residues_of bs)) = terms_have (gcd g k) bs s (t.0 + 1) ts r.4 h in
    multiple_same (common_modulus (gcd g k) bs ts) ((t.1 *ℤ (v -ℤ (part_at bs t.0).stride.residue)) +ℤ (terms_at ts s -ℤ terms_at ts (residues_of bs))) _
    (sum_moved (t.1 *ℤ v) (t.1 *ℤ c) (terms_at ts s) (terms_at ts (residues_of bs)) _ _ e refl)
    (multiple_sum (common_modulus (gcd g k) bs ts) _ _ (multiple_finer (common_modulus (gcd g k) bs ts) k _ p q) i)

pub form_has : (bs : List Strided) (f : Form) (s : List ℤ) → IsForm (length bs) f → AllHave bs s → HasStride (form_stride bs f) (form_at f s)
form_has bs f s r h =
    stride_has (common_modulus 0 bs f.terms) (form_at f (residues_of bs)) (form_at f s)
    (multiple_same _ (terms_at f.terms s -ℤ terms_at f.terms (residues_of bs)) _ (same (terms_at f.terms s) (terms_at f.terms (residues_of bs)) f.constant) (terms_have 0 bs s 0 f.terms r.terms h))
  where
    same : (p q c : ℤ) → (p +ℤ c) -ℤ (q +ℤ c) ≡ p -ℤ q
    same p q c = omega (arith, ints)

pub form_reduced : (bs : List Strided) (f : Form) → IsReduced (form_stride bs f)
form_reduced bs f = stride_reduced (common_modulus 0 bs f.terms) (form_at f (residues_of bs))
