-- What the code finds case by case is what the definitions have.
use Rattle.std.proofs.Common.{◌≡◌, ℤ, ◌-ℤ◌, int_div, int_rem, Bool, true, false, if◌then◌else◌, ap, sym, ◌∙◌}
use Rattle.std.specs.Ordering.{int_eq}
use Rattle.c_tree.specs.declared.tree.Op.TheVariants.{Rem}
use Rattle.leaf_domain.specs.Ranges.{range_at, arithmetic_range}
use Rattle.strides.specs.declared.strided.Strided.{Strided}
use Rattle.strides.specs.Strided.{strided_in, range_of}
use Rattle.congruence_leaf.specs.Remainders.{stride_modulo, strided_less, strided_remainders}

-- ---- remainders
pub remainders_then : (d : Strided) (m : ℤ) (t : Bool) → t ≡ int_eq (int_div d.low m) (int_div d.high m) → t ≡ true → strided_less (d.low -ℤ int_rem d.low m) d ≡ strided_remainders d m
unfolding strided_remainders
remainders_then d m t e f =
    sym (ap (λ x. if x then strided_less (d.low -ℤ int_rem d.low m) d else strided_in (arithmetic_range Rem (range_of d) (range_at m m)) (stride_modulo m d.stride)) (sym e ∙ f))

pub remainders_else : (d : Strided) (m : ℤ) (t : Bool) → t ≡ int_eq (int_div d.low m) (int_div d.high m) → t ≡ false → strided_in (arithmetic_range Rem (range_of d) (range_at m m)) (stride_modulo m d.stride) ≡ strided_remainders d m
unfolding strided_remainders
remainders_else d m t e f =
    sym (ap (λ x. if x then strided_less (d.low -ℤ int_rem d.low m) d else strided_in (arithmetic_range Rem (range_of d) (range_at m m)) (stride_modulo m d.stride)) (sym e ∙ f))
