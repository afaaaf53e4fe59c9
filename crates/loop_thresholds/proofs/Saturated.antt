-- A number beyond `int` has no candidates, and neither has the last one of its side that the code computes with.
use Rattle.std.proofs.Common.{◌≡◌, ◌^◌, ◌<◌, ◌-◌, min, ℤ, pos, negsuc, ◌+ℤ◌, ◌-ℤ◌, ◌<ℤ◌, w64, Bool, true, false, nat_le, [], ◌∷◌, refl, sym, ◌∙◌, arith}
use Rattle.std.specs.Int.{saturate_signed}
use Rattle.std.specs.List.{filter}
use Rattle.std.proofs.lemmas.Int.{ints}
use Rattle.std.proofs.lemmas.Bool.Decides.{nat_tests}
use Rattle.c_tree.specs.Value.{least, greatest}
use Rattle.loop_thresholds.specs.Thresholds.{is_int, candidates}

too_high : (z : ℤ) → greatest <ℤ z → is_int z ≡ false
unfolding is_int
too_high z h = grind (arith, ints)

too_low : (z : ℤ) → z <ℤ least → is_int z ≡ false
unfolding is_int
too_low z h = grind (arith, ints)

-- one number in place of another
data Stands : ℤ → ℤ → Type 0 where
  same : (z : ℤ) → Stands z z
  above : (s z : ℤ) → pos 2147483648 <ℤ s → pos 2147483648 <ℤ z → Stands s z
  below : (s z : ℤ) → s <ℤ negsuc 2147483648 → z <ℤ negsuc 2147483648 → Stands s z

saturated : (z : ℤ) → Stands (saturate_signed w64 z) z
saturated (pos n) = by_test (nat_le n (2 ^ 63 - 1)) refl
  where
    by_test : (b : Bool) → nat_le n (2 ^ 63 - 1) ≡ b → Stands (pos (min n (2 ^ 63 - 1))) (pos n)
    by_test true e = let h : min n (2 ^ 63 - 1) ≡ n = grind (arith, nat_tests) in rw h (same (pos n))
    by_test false e = let h : 2 ^ 63 - 1 < n = grind (arith, nat_tests) in above _ _ (omega (arith, ints)) (omega (arith, ints))
saturated (negsuc n) = by_test (nat_le n (2 ^ 63 - 1)) refl
  where
    by_test : (b : Bool) → nat_le n (2 ^ 63 - 1) ≡ b → Stands (negsuc (min n (2 ^ 63 - 1))) (negsuc n)
    by_test true e = let h : min n (2 ^ 63 - 1) ≡ n = grind (arith, nat_tests) in rw h (same (negsuc n))
    by_test false e = let h : 2 ^ 63 - 1 < n = grind (arith, nat_tests) in below _ _ (omega (arith, ints)) (omega (arith, ints))

none_above : (z : ℤ) → pos 2147483648 <ℤ z → candidates z ≡ []
unfolding candidates
none_above z h =
    let before : is_int (z -ℤ pos 1) ≡ false = too_high (z -ℤ pos 1) (omega (arith, ints)) in
    let itself : is_int z ≡ false = too_high z (omega (arith, ints)) in
    let after : is_int (z +ℤ pos 1) ≡ false = too_high (z +ℤ pos 1) (omega (arith, ints)) in
    rw (before, itself, after) refl

none_below : (z : ℤ) → z <ℤ negsuc 2147483648 → candidates z ≡ []
unfolding candidates
none_below z h =
    let before : is_int (z -ℤ pos 1) ≡ false = too_low (z -ℤ pos 1) (omega (arith, ints)) in
    let itself : is_int z ≡ false = too_low z (omega (arith, ints)) in
    let after : is_int (z +ℤ pos 1) ≡ false = too_low (z +ℤ pos 1) (omega (arith, ints)) in
    rw (before, itself, after) refl

-- where one number stands for another, they have the same candidates, and both are numbers of `int` or none
same_candidates : (s z : ℤ) → Stands s z → candidates s ≡ candidates z
same_candidates s z (same x) = refl
same_candidates s z (above x y f g) = none_above s f ∙ sym (none_above z g)
same_candidates s z (below x y f g) = none_below s f ∙ sym (none_below z g)

pub candidates-saturated : (z : ℤ) → candidates (saturate_signed w64 z) ≡ candidates z
candidates-saturated z = same_candidates (saturate_signed w64 z) z (saturated z)

none_kept : (z : ℤ) → is_int z ≡ false → filter is_int (z ∷ []) ≡ []
none_kept z e = rw e refl

same_kept : (s z : ℤ) → Stands s z → filter is_int (s ∷ []) ≡ filter is_int (z ∷ [])
same_kept s z (same x) = refl
same_kept s z (above x y f g) = none_kept s (too_high s (omega (arith, ints))) ∙ sym (none_kept z (too_high z (omega (arith, ints))))
same_kept s z (below x y f g) = none_kept s (too_low s (omega (arith, ints))) ∙ sym (none_kept z (too_low z (omega (arith, ints))))

pub kept-saturated : (z : ℤ) → filter is_int (saturate_signed w64 z ∷ []) ≡ filter is_int (z ∷ [])
kept-saturated z = same_kept (saturate_signed w64 z) z (saturated z)
