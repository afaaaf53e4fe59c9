-- The sizes of the least values of terms, and their sum step by step.
use Rattle.std.proofs.Common.{◌≡◌, ℕ, suc, ◌+◌, ◌*◌, ◌^◌, ◌<◌, ◌≤◌, ℤ, pos, negsuc, neg_ℤ, ◌+ℤ◌, ◌*ℤ◌, ◌≤ℤ◌, List, [], ◌∷◌, subst, ap, arith}
use Rattle.std.proofs.lemmas.Int.{ints}
use Rattle.std.proofs.Math.Nat.{mul-le-mul_left, mul-le-mul_right}
use Rattle.c_tree.specs.Value.{IsInt}
use Rattle.leaf_domain.specs.declared.form.Form.{Form}
use Rattle.leaf_domain.specs.Forms.{AreTerms, IsForm, IsFormNumber}
use Rattle.leaf_domain.specs.Leaves.{LeafValue, LeafMeaning}
use Rattle.linearised_leaf.specs.LeastValues.{least_term, least_terms, least_value}
use Rattle.linearised_leaf.specs.Sizes.{IsTermSize, IsSumSize}

-- a product of sizes
size_within : (a b c d : ℕ) → a ≤ c → b ≤ d → a * b ≤ c * d
size_within a b c d h k = omega (arith, mul-le-mul_right b h, mul-le-mul_left c k)

pub product_size : (k n : ℤ) → IsFormNumber k → IsInt n → IsTermSize (k *ℤ n)
product_size (pos a) (pos b) h i =
    let q : a * b ≤ 1099511627776 * 2147483648 = size_within a b 1099511627776 2147483648 (omega (arith, ints, h.high)) (omega (arith, ints, i.high)) in
    record { low = omega (arith, ints, q); high = omega (arith, ints, q) }
product_size (pos a) (negsuc b) h i =
    let q : a * suc b ≤ 1099511627776 * 2147483648 = size_within a (suc b) 1099511627776 2147483648 (omega (arith, ints, h.high)) (omega (arith, ints, i.low)) in
    record { low = omega (arith, ints, q); high = omega (arith, ints, q) }
product_size (negsuc a) (pos b) h i =
    let q : suc a * b ≤ 1099511627776 * 2147483648 = size_within (suc a) b 1099511627776 2147483648 (omega (arith, ints, h.low)) (omega (arith, ints, i.high)) in
    record { low = omega (arith, ints, q); high = omega (arith, ints, q) }
product_size (negsuc a) (negsuc b) h i =
    let q : suc a * suc b ≤ 1099511627776 * 2147483648 = size_within (suc a) (suc b) 1099511627776 2147483648 (omega (arith, ints, h.low)) (omega (arith, ints, i.low)) in
    record { low = omega (arith, ints, q); high = omega (arith, ints, q) }

-- the sum so far, with the terms that are left: they begin at a number, and no more terms than that have been added
pub record IsSumming (M : LeafMeaning) (v : LeafValue) (total sum : ℤ) (rest : List (ℕ × ℤ)) : Type 0 where
  pub from : ℕ
  pub few : from ≤ 48
  pub terms : AreTerms from v.variables rest
  pub low : neg_ℤ (pos (from * 2 ^ 72 + 2 ^ 42)) ≤ℤ sum
  pub high : sum ≤ℤ pos (from * 2 ^ 72 + 2 ^ 42)
  pub split : sum +ℤ least_terms M v rest ≡ total

module _ (M : LeafMeaning) (v : LeafValue) where
  pub summing_start : (f : Form) (m sum : ℤ) → IsForm v.variables f → IsFormNumber m → sum ≡ f.constant +ℤ m → IsSumming M v (least_value M v f m) sum f.terms
  summing_start f m sum i k e = record {
    from = 0;
    few = omega arith;
    terms = i.terms;
    low = omega (arith, ints, i.constant.low, k.low, e);
    high = omega (arith, ints, i.constant.high, k.high, e);
    split = ap (λ n. n +ℤ least_terms M v f.terms) e;
  }

  pub summing_more : (total sum after a : ℤ) (rest behind : List (ℕ × ℤ)) (x : ℕ) (k : ℤ) → v.variables ≤ 48 → rest ≡ (x, k) ∷ behind → a ≡ least_term M v (x, k) → IsTermSize a → after ≡ sum +ℤ a
      → IsSumming M v total sum rest → IsSumming M v total after behind
  summing_more total sum after a rest behind x k l e f z g s =
      let t : AreTerms s.from v.variables ((x, k) ∷ behind) = subst (AreTerms s.from v.variables) e s.terms in
      let b : s.from ≤ x = t.0 in
      let c : x < v.variables = t.1 in
      let d : s.from * 2 ^ 72 ≤ x * 2 ^ 72 = mul-le-mul_right (2 ^ 72) b in
      record {
        from = x + 1;
        few = omega (arith, c, l);
        terms = t.4;
        low = omega (arith, ints, s.low, z.low, g, b, d);
        high = omega (arith, ints, s.high, z.high, g, b, d);
        split = moved sum a (least_terms M v behind) (least_term M v (x, k)) after total g f (subst (λ ts. sum +ℤ least_terms M v ts ≡ total) e s.split);
      }
    where
      moved : (n a r t after total : ℤ) → after ≡ n +ℤ a → a ≡ t → n +ℤ (t +ℤ r) ≡ total → after +ℤ r ≡ total
      moved n a r t after total g f h = omega (arith, ints, g, f, h)

  pub summing_size : (total sum : ℤ) (rest : List (ℕ × ℤ)) → IsSumming M v total sum rest → IsSumSize sum
  summing_size total sum rest s = let few : s.from ≤ 48 = s.few in record { low = omega (arith, ints, s.low, few); high = omega (arith, ints, s.high, few) }

  pub summing_end : (total sum : ℤ) (rest : List (ℕ × ℤ)) → rest ≡ [] → IsSumming M v total sum rest → sum ≡ total
  summing_end total sum rest e s = all sum total (subst (λ ts. sum +ℤ least_terms M v ts ≡ total) e s.split)
    where
      all : (n t : ℤ) → n +ℤ pos 0 ≡ t → n ≡ t
      all n t h = omega (arith, ints, h)

  pub summing_terms : (total sum : ℤ) (rest behind : List (ℕ × ℤ)) (x : ℕ) (k : ℤ) → rest ≡ (x, k) ∷ behind → IsSumming M v total sum rest → (x < v.variables) × IsFormNumber k
  summing_terms total sum rest behind x k e s = let t : AreTerms s.from v.variables ((x, k) ∷ behind) = subst (AreTerms s.from v.variables) e s.terms in (t.1, t.3)
