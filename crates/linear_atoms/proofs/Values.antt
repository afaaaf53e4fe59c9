-- The values of sums and multiples of forms.
use Rattle.std.proofs.Common.{◌≡◌, ℤ, ◌+ℤ◌, ◌*ℤ◌, List, arith}
use Rattle.std.proofs.lemmas.Int.{ints}
use Rattle.linear_terms.proofs.Integers.{sum-times}
use Rattle.linear_terms.proofs.Values.{terms_sum_at, terms_by_at}
use Rattle.linear_atoms.specs.declared.forms.Linear.{Linear}
use Rattle.linear_atoms.specs.Forms.{terms_sum, terms_by, sum_at, form_at, form_sum, form_by}

module _ (values : List ℤ) where
  pub form_sum_at : (a b : Linear) → form_at (form_sum a b) values ≡ form_at a values +ℤ form_at b values
  form_sum_at a b =
      let e : sum_at (terms_sum a.terms b.terms) values ≡ sum_at a.terms values +ℤ sum_at b.terms values = terms_sum_at values a.terms b.terms in
      omega (arith, ints)

  pub form_by_at : (k : ℤ) (a : Linear) → form_at (form_by k a) values ≡ form_at a values *ℤ k
  form_by_at k a =
      let e : sum_at (terms_by k a.terms) values ≡ sum_at a.terms values *ℤ k = terms_by_at values k a.terms in
      let f : (sum_at a.terms values +ℤ a.constant) *ℤ k ≡ sum_at a.terms values *ℤ k +ℤ a.constant *ℤ k = sum-times (sum_at a.terms values) a.constant k in
      omega (arith, ints)
