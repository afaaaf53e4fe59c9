-- The stride of a form, term by term.
use Rattle.std.proofs.Common.{◌≡◌, ℕ, ◌+◌, ◌*◌, ◌^◌, ◌<◌, ◌≤◌, ℤ, pos, negsuc, ◌+ℤ◌, ◌*ℤ◌, ◌≤ℤ◌, ◌<ℤ◌, unsigned_abs, List, [], ◌∷◌, length, refl, ap, sym, subst, ◌∙◌, to_z, of_z, w64, FitsSigned, arith}
use Rattle.std.specs.Int.{IsGcd}
use Rattle.std.proofs.lemmas.Int.{ints, unsigned_abs-mul}
use Rattle.leaf_domain.specs.declared.form.Form.{Form}
use Rattle.leaf_domain.specs.Forms.{terms_at, form_at, AreTerms, IsForm, IsFormNumber}
use Rattle.strides.specs.declared.strided.Strided.{Strided}
use Rattle.strides.specs.Strided.{least, greatest, IsOwn}
use Rattle.std.specs.Int.{int_rem_euclid, w128}
use Rattle.std.proofs.Math.Nat.{mul-le-mul, le_trans}
use Rattle.strides.specs.Strides.{stride_at, stride_of, IsWide}
use Rattle.strides.proofs.Multiples.{gcd_same, gcd_small}
use Rattle.strides.proofs.Remainders.{IsRemainder, remainder_is}
use Rattle.strides.proofs.StrideLaws.{by_modulus, stride_zero, stride_some}
use Rattle.strides.proofs.StridedLaws.{own_residue}
use Rattle.product_leaf.specs.StrideLeaves.{AllOwn, part_at, common_modulus, residues_of, form_stride}
use Rattle.product_leaf.specs.Laws.Parts.{read_own, read_residue}

-- so far this modulus and this value, and these terms left, of which each is of a variable from `from` on
pub record IsSum (parts : List Strided) (f : Form) (modulus : ℕ) (value : ℤ) (rest : List (ℕ × ℤ)) : Type 0 where
  pub from : ℕ
  pub terms : AreTerms from (length parts) rest
  pub few : from ≤ 48
  pub modulus_is : common_modulus modulus parts rest ≡ common_modulus 0 parts f.terms
  pub value_is : value +ℤ terms_at rest (residues_of parts) ≡ form_at f (residues_of parts)
  pub modulus_small : modulus ≤ 2 ^ 74
  pub value_small : unsigned_abs value ≤ (from + 1) * 2 ^ 74

pub sum_start : (parts : List Strided) (f : Form) → IsForm (length parts) f → IsSum parts f 0 f.constant f.terms
sum_start parts f h = record {
  from = 0;
  terms = h.terms;
  few = omega arith;
  modulus_is = refl;
  value_is = swapped f.constant (terms_at f.terms (residues_of parts));
  modulus_small = omega arith;
  value_small = small f.constant h.constant;
}
  where
    swapped : (p q : ℤ) → p +ℤ q ≡ q +ℤ p
    swapped p q = omega (arith, ints)

    small : (n : ℤ) → IsFormNumber n → unsigned_abs n ≤ (0 + 1) * 2 ^ 74
    small n i = let p : negsuc 1099511627775 ≤ℤ n = i.low in let q : n ≤ℤ pos 1099511627776 = i.high in omega (arith, ints)

-- a residue of a part fits few bits
residue_small : (b : Strided) → IsOwn b → unsigned_abs b.stride.residue ≤ 4294967296
residue_small b i =
    by_modulus b.stride.modulus
    (λ t z. let (p, q) = own_residue b i z in zero_small b.stride.residue p q)
    (λ t p. some_small b.stride.residue b.stride.modulus (i.residue.low p) (i.residue.high p) i.modulus)
  where
    zero_small : (c : ℤ) → least ≤ℤ c → c ≤ℤ greatest → unsigned_abs c ≤ 4294967296
    zero_small c p q = omega (arith, ints)

    some_small : (c : ℤ) (m : ℕ) → pos 0 ≤ℤ c → c <ℤ pos m → m ≤ 4294967295 → unsigned_abs c ≤ 4294967296
    some_small c m p q r = omega (arith, ints)

number_small : (a : ℤ) → IsFormNumber a → unsigned_abs a ≤ 1099511627776
number_small a i = let p : negsuc 1099511627775 ≤ℤ a = i.low in let q : a ≤ℤ pos 1099511627776 = i.high in omega (arith, ints)

product_small : (p q : ℕ) → p ≤ 1099511627776 → q ≤ 4294967296 → p * q ≤ 2 ^ 72
product_small p q h k = le_trans (mul-le-mul h k) (omega arith)

small_back : (n : ℤ) → unsigned_abs n ≤ 4294967296 → to_z w64 (of_z w64 n) ≡ n
small_back n h = omega (arith, ints)

-- a sum of what is found so far and of a product fits 128 bits
pub add_fits : (v p : ℤ) → unsigned_abs v ≤ 2 ^ 80 → unsigned_abs p ≤ 2 ^ 72 → FitsSigned w128 (v +ℤ to_z w128 (of_z w128 p))
add_fits v p h k = let e : to_z w128 (of_z w128 p) ≡ p = omega (arith, ints) in omega (arith, ints)

pub add_back : (v p : ℤ) → unsigned_abs v ≤ 2 ^ 80 → unsigned_abs p ≤ 2 ^ 72 → to_z w128 (of_z w128 (v +ℤ to_z w128 (of_z w128 p))) ≡ v +ℤ p
add_back v p h k =
    let e : to_z w128 (of_z w128 p) ≡ p = omega (arith, ints) in
    let f : to_z w128 (of_z w128 (v +ℤ p)) ≡ v +ℤ p = omega (arith, ints) in
    ap (λ x. to_z w128 (of_z w128 (v +ℤ x))) e ∙ f

pub record IsNextTerm (parts : List Strided) (x : ℕ) (a : ℤ) : Type 0 where
  pub below : x < length parts
  pub coefficient : unsigned_abs a ≤ 1099511627776
  pub modulus : (part_at parts x).stride.modulus ≤ 4294967295
  pub times : unsigned_abs a * (part_at parts x).stride.modulus ≤ 2 ^ 72
  pub product : unsigned_abs (a *ℤ (part_at parts x).stride.residue) ≤ 2 ^ 72
  pub back : to_z w64 (of_z w64 (part_at parts x).stride.residue) ≡ (part_at parts x).stride.residue

pub next_term : (parts : List Strided) (f : Form) (g : ℕ) (v : ℤ) (rest behind : List (ℕ × ℤ)) (x : ℕ) (a : ℤ) → AllOwn parts → IsSum parts f g v rest → rest ≡ (x, a) ∷ behind → IsNextTerm parts x a
next_term parts f g v rest behind x a o s e =
    let t : AreTerms s.from (length parts) ((x, a) ∷ behind) = subst (AreTerms s.from (length parts)) e s.terms in
    let i : IsOwn (part_at parts x) = read_own parts x t.1 o in
    record {
      below = t.1;
      coefficient = number_small a t.3;
      modulus = i.modulus;
      times = product_small (unsigned_abs a) (part_at parts x).stride.modulus (number_small a t.3) (wider (part_at parts x).stride.modulus i.modulus);
      product = subst (λ n. n ≤ 2 ^ 72) (sym (unsigned_abs-mul a (part_at parts x).stride.residue)) (product_small (unsigned_abs a) (unsigned_abs (part_at parts x).stride.residue) (number_small a t.3) (residue_small (part_at parts x) i));
      back = small_back (part_at parts x).stride.residue (residue_small (part_at parts x) i);
    }
  where
    wider : (m : ℕ) → m ≤ 4294967295 → m ≤ 4294967296
    wider m h = omega arith

pub sum_next : (parts : List Strided) (f : Form) (g g' : ℕ) (v v' : ℤ) (rest behind : List (ℕ × ℤ)) (x : ℕ) (a : ℤ) → AllOwn parts → length parts ≤ 48 → IsSum parts f g v rest → rest ≡ (x, a) ∷ behind → IsGcd g (unsigned_abs a * (part_at parts x).stride.modulus) g' → v' ≡ v +ℤ (a *ℤ (part_at parts x).stride.residue) → IsSum parts f g' v' behind
sum_next parts f g g' v v' rest behind x a o few s e d k =
    let t : AreTerms s.from (length parts) ((x, a) ∷ behind) = subst (AreTerms s.from (length parts)) e s.terms in
    let n : IsNextTerm parts x a = next_term parts f g v rest behind x a o s e in
    let m : common_modulus g parts ((x, a) ∷ behind) ≡ common_modulus 0 parts f.terms = ap (common_modulus g parts) (sym e) ∙ s.modulus_is in
    let u : v +ℤ terms_at ((x, a) ∷ behind) (residues_of parts) ≡ form_at f (residues_of parts) = ap (λ ts. v +ℤ terms_at ts (residues_of parts)) (sym e) ∙ s.value_is in
    record {
      from = x + 1;
      terms = t.4;
      few = above x (length parts) n.below few;
      modulus_is = ap (λ y. common_modulus y parts behind) (gcd_same g (unsigned_abs a * (part_at parts x).stride.modulus) g' d) ∙ m;
      value_is = moved v v' (a *ℤ (part_at parts x).stride.residue) _ (terms_at behind (residues_of parts)) k (ap (λ y. a *ℤ y) (sym (read_residue parts x))) ∙ u;
      modulus_small = gcd_small g (unsigned_abs a * (part_at parts x).stride.modulus) g' (2 ^ 74) d s.modulus_small (wider _ n.times);
      value_small = subst (λ y. unsigned_abs y ≤ (x + 1 + 1) * 2 ^ 74) (sym k) (sum_small s.from x v (a *ℤ (part_at parts x).stride.residue) t.0 s.value_small n.product);
    }
  where
    above : (x l : ℕ) → x < l → l ≤ 48 → x + 1 ≤ 48
    above x l p q = omega arith

    wider : (p : ℕ) → p ≤ 2 ^ 72 → p ≤ 2 ^ 74
    wider p h = omega arith

    moved : (v v' p q r : ℤ) → v' ≡ v +ℤ p → p ≡ q → v' +ℤ r ≡ v +ℤ (q +ℤ r)
    moved v v' p q r h i = omega (arith, ints)

    sum_small : (from x : ℕ) (v p : ℤ) → from ≤ x → unsigned_abs v ≤ (from + 1) * 2 ^ 74 → unsigned_abs p ≤ 2 ^ 72 → unsigned_abs (v +ℤ p) ≤ (x + 1 + 1) * 2 ^ 74
    sum_small from x v p h i j = omega (arith, ints)

-- a sum that is found so far fits 128 bits
pub sum_fits : (parts : List Strided) (f : Form) (g : ℕ) (v : ℤ) (rest : List (ℕ × ℤ)) → IsSum parts f g v rest → unsigned_abs v ≤ 2 ^ 80
sum_fits parts f g v rest s = small s.from (unsigned_abs v) s.few s.value_small
  where
    small : (from n : ℕ) → from ≤ 48 → n ≤ (from + 1) * 2 ^ 74 → n ≤ 2 ^ 80
    small from n h k = omega arith

pub sum_end : (parts : List Strided) (f : Form) (g : ℕ) (v : ℤ) (rest : List (ℕ × ℤ)) → IsSum parts f g v rest → rest ≡ [] → (g ≡ common_modulus 0 parts f.terms) × (v ≡ form_at f (residues_of parts))
sum_end parts f g v rest s e =
    let m : g ≡ common_modulus 0 parts f.terms = ap (common_modulus g parts) (sym e) ∙ s.modulus_is in
    let u : v +ℤ pos 0 ≡ form_at f (residues_of parts) = ap (λ ts. v +ℤ terms_at ts (residues_of parts)) (sym e) ∙ s.value_is in
    (m, same v ∙ u)
  where
    same : (v : ℤ) → v ≡ v +ℤ pos 0
    same v = omega (arith, ints)

pub form_stride_is : (parts : List Strided) (f : Form) (g : ℕ) (v w : ℤ) (rest : List (ℕ × ℤ)) → IsSum parts f g v rest → rest ≡ [] → w ≡ v → stride_of g w ≡ form_stride parts f
form_stride_is parts f g v w rest s e k =
    let (m, u) = sum_end parts f g v rest s e in
    ap (stride_of g) (k ∙ u) ∙ ap (λ y. stride_of y (form_at f (residues_of parts))) m

pub wide_of : (m : ℕ) (c : ℤ) → m ≤ 2 ^ 74 → unsigned_abs c ≤ 2 ^ 80 → IsWide (stride_of m c)
wide_of m c h k =
    by_modulus m
    (λ t z. subst IsWide (sym (stride_zero m c z)) (zero_wide m c h k))
    (λ t p. subst IsWide (sym (stride_some m c p)) (some_wide m (int_rem_euclid c (pos m)) h (remainder_is m c p)))
  where
    zero_wide : (m : ℕ) (c : ℤ) → m ≤ 2 ^ 74 → unsigned_abs c ≤ 2 ^ 80 → IsWide (stride_at m c)
    zero_wide m c h k = record { modulus = omega arith; low = omega (arith, ints); high = omega (arith, ints) }

    some_wide : (m : ℕ) (r : ℤ) → m ≤ 2 ^ 74 → IsRemainder m c r → IsWide (stride_at m r)
    some_wide m r h i = let p : pos 0 ≤ℤ r = i.low in let q : r <ℤ pos m = i.high in record { modulus = omega arith; low = omega (arith, ints); high = omega (arith, ints) }

pub times_fits : (p q : ℕ) → p ≤ 1099511627776 → q ≤ 4294967295 → p * q < 2 ^ 128
times_fits p q h k = let l : p * q ≤ 2 ^ 72 = product_small p q h (wider q k) in omega arith
  where
    wider : (m : ℕ) → m ≤ 4294967295 → m ≤ 4294967296
    wider m h = omega arith
