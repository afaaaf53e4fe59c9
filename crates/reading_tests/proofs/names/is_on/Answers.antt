use Rattle.std.proofs.Common.{◌≡◌, ◌≢◌, ℕ, ◌≤◌, ◌<◌, ℤ, pos, unsigned_abs, List, [], ◌∷◌, refl, sym, ap, subst, ◌∙◌, arith}
use Rattle.std.proofs.lemmas.Int.{ints}
use Rattle.linear_atoms.specs.declared.forms.Linear.{Linear}
use Rattle.linear_atoms.specs.Atoms.{IsAtom}
use Rattle.linear_atoms.specs.Divisors.{common_divisor}
use Rattle.reading_tests.proofs.names.is_on.Goals as goal

one_nonzero : pos 1 ≢ pos 0
one_nonzero = λ e. omega (arith, ints)

small_one : unsigned_abs (pos 1) ≤ 2147483649
small_one = omega (arith, ints)

single : (count n : ℕ) (ts : List (ℕ × ℤ)) → ts ≡ (n, pos 1) ∷ [] → n < count → IsAtom count (record { terms = ts; bound = pos 1 })
unfolding common_divisor
single count n ts e h =
    subst (λ x. IsAtom count (record { terms = x; bound = pos 1 })) (sym e)
    (record { rising = (omega arith, one_nonzero, tt); coprime = refl; small = refl; positive = omega (arith, ints); below = (h, tt); bounded = small_one })

pub returns : goal.returns
returns c = single 2 c.args.number _ (c.in_ok-terms.ensures ∙ ap (λ (x : Linear). x.terms) c.in_ok-form.ensures.exact) c.requires.number
