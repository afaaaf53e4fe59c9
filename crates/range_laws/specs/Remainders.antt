-- How exact the range of remainders is, which depends on the left operand.
use Rattle.std.specs.Prelude.{◌≡◌, pos, true}
use Rattle.c_tree.specs.declared.tree.Op.TheVariants.{Rem}
use Rattle.leaf_domain.specs.declared.range.Range.{Range}
use Rattle.leaf_domain.specs.Ranges.{Within, range_at, is_single, arithmetic_range}
use Rattle.range_laws.specs.Ends.{EndsAre, IsLeastWith}
use Rattle.range_laws.specs.Arithmetic.{IsResult}

-- each end that is a number of the left operand is a remainder
abbrev pub RemainderEndsAreResults : Type 0
RemainderEndsAreResults = (a b : Range) → EndsAre (λ e. Within e a → IsResult Rem a b e) (arithmetic_range Rem a b)

-- of two single numbers both ends are the remainder
abbrev pub SingleRemaindersAreResults : Type 0
SingleRemaindersAreResults = (a b : Range) → is_single a ≡ true → is_single b ≡ true → EndsAre (IsResult Rem a b) (arithmetic_range Rem a b)

-- where the left operand has 0, no range with all remainders has less
abbrev pub RemaindersAreLeast : Type 0
RemaindersAreLeast = (a b : Range) → Within (pos 0) a → IsLeastWith (IsResult Rem a b) (arithmetic_range Rem a b)

-- else one may: the remainders of 4 and 5 by 3 are 1 and 2, and their range is 0 to 2
abbrev pub SomeRemaindersAreNotLeast : Type 0
SomeRemaindersAreNotLeast =
    IsLeastWith (IsResult Rem (range_at (pos 4) (pos 5)) (range_at (pos 3) (pos 3))) (arithmetic_range Rem (range_at (pos 4) (pos 5)) (range_at (pos 3) (pos 3)))
    → ⊥
