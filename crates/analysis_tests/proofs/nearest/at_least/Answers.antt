use Rattle.std.proofs.Common.{◌≡◌, ◌≢◌, ℕ, ◌≤◌, ◌<◌, ℤ, pos, unsigned_abs, List, [], ◌∷◌, refl, sym, ap, subst, ◌∙◌, arith, w64}
use Rattle.std.proofs.lemmas.Int.{ints, to_z-of_z}
use Rattle.linear_atoms.specs.declared.forms.Linear.{Linear}
use Rattle.linear_atoms.specs.Atoms.{IsAtom}
use Rattle.linear_atoms.specs.Divisors.{common_divisor}
use Rattle.analysis_tests.proofs.nearest.at_least.Goals as goal

one_nonzero : pos 1 ≢ pos 0
one_nonzero = λ e. omega (arith, ints)

single : (n : ℕ) (ts : List (ℕ × ℤ)) (b c : ℤ) → ts ≡ (n, pos 1) ∷ [] → n < 4 → c ≡ b → unsigned_abs b ≤ 7 → IsAtom 4 (record { terms = ts; bound = c })
unfolding common_divisor
single n ts b c e h f k =
    let g : unsigned_abs c ≤ 2147483649 = subst (λ x. unsigned_abs x ≤ 2147483649) (sym f) (omega arith) in
    subst (λ x. IsAtom 4 (record { terms = x; bound = c })) (sym e)
    (record { rising = (omega arith, one_nonzero, tt); coprime = refl; small = refl; positive = omega (arith, ints); below = (h, tt); bounded = g })

pub returns : goal.returns
returns c = single c.args.number _ c.args.bound _ (c.in_ok-terms.ensures ∙ ap (λ (x : Linear). x.terms) c.in_ok-form.ensures.exact) c.requires.number (to_z-of_z w64 c.args.bound c.ranges.bound) c.requires.bound
