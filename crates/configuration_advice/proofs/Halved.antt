-- What is known of the halves of a span.
use Rattle.std.proofs.Common.{◌≡◌, ℕ, ◌<◌, ◌≤◌, ℤ, pos, ◌-ℤ◌, ◌≤ℤ◌, ◌<ℤ◌, unsigned_abs, sym, subst, arith}
use Rattle.std.proofs.lemmas.Int.{ints}
use Rattle.linear_atoms.specs.declared.ranges.Span.{Span}
use Rattle.cpp_conditions.specs.declared.models.Model.{Model}
use Rattle.configuration_advice.specs.Ends.{HasEnd, IsEnd, width}
use Rattle.configuration_advice.specs.declared.ends.End.{End}
use Rattle.configuration_advice.specs.declared.ends.End.TheVariants.{Least, Greatest}
use Rattle.configuration_advice.specs.Uses.{value_of, Has, AllFrom, AllTo, IsLeast, IsGreatest}

pub not_less : (model : Model) (n : ℕ) (low v : ℤ) → AllFrom model n low → Has model n v → low ≤ℤ v
not_less model n low v h k = subst (λ x. low ≤ℤ x) k.there (h k.values k.valid)

pub not_more : (model : Model) (n : ℕ) (high v : ℤ) → AllTo model n high → Has model n v → v ≤ℤ high
not_more model n high v h k = subst (λ x. x ≤ℤ high) k.there (h k.values k.valid)

-- ---- the numbers

size_between : (low v high : ℤ) → unsigned_abs low ≤ 1048576 → unsigned_abs high ≤ 1048576 → low ≤ℤ v → v ≤ℤ high → unsigned_abs v ≤ 1048576
size_between low v high a b h k = omega (arith, ints)

less_wide : (low high a b : ℤ) → low ≤ℤ a → a ≤ℤ b → b <ℤ high → unsigned_abs (b -ℤ a) < unsigned_abs (high -ℤ low)
less_wide low high a b h k m = omega (arith, ints)

less_wide_above : (low high a b : ℤ) → low <ℤ a → a ≤ℤ b → b ≤ℤ high → unsigned_abs (b -ℤ a) < unsigned_abs (high -ℤ low)
less_wide_above low high a b h k m = omega (arith, ints)

-- ---- the half with the least value

pub least_above : (model : Model) (n : ℕ) (span part : Span) → HasEnd Least model n span → span.low <ℤ part.low → part.low ≤ℤ span.high → part.high ≡ span.high → AllFrom model n part.low → HasEnd Least model n part × (width part < width span)
least_above model n span part h a b e k =
    let low : unsigned_abs part.low ≤ 1048576 = size_between span.low part.low span.high h.small.low h.small.high (omega (arith, ints)) b in (
      record { small = record { low = low; high = subst (λ x. unsigned_abs x ≤ 1048576) (sym e) h.small.high }; all = k; has = subst (λ x. Has model n x) (sym e) h.has },
      less_wide_above span.low span.high part.low part.high a (omega (arith, ints)) (omega (arith, ints)),
    )

pub least_below : (model : Model) (n : ℕ) (span part : Span) (middle value : ℤ) → HasEnd Least model n span → middle ≤ℤ span.high → Has model n value → value <ℤ middle → part.low ≡ span.low → part.high ≡ value → HasEnd Least model n part × (width part < width span)
least_below model n span part middle value h b k m e f =
    let from : span.low ≤ℤ value = not_less model n span.low value h.all k in (
      record { small = record { low = subst (λ x. unsigned_abs x ≤ 1048576) (sym e) h.small.low; high = subst (λ x. unsigned_abs x ≤ 1048576) (sym f) (size_between span.low value span.high h.small.low h.small.high from (omega (arith, ints))) }; all = λ values v. subst (λ x. x ≤ℤ value_of n values) (sym e) (h.all values v); has = subst (λ x. Has model n x) (sym f) k },
      less_wide span.low span.high part.low part.high (omega (arith, ints)) (omega (arith, ints)) (omega (arith, ints)),
    )

-- ---- the half with the greatest value

pub greatest_below : (model : Model) (n : ℕ) (span part : Span) (middle most : ℤ) → HasEnd Greatest model n span → span.low <ℤ middle → middle ≤ℤ span.high → AllTo model n most → most ≡ middle -ℤ pos 1 → part.low ≡ span.low → part.high ≡ most → HasEnd Greatest model n part × (width part < width span)
greatest_below model n span part middle most h a b k d e f = (
  record { small = record { low = subst (λ x. unsigned_abs x ≤ 1048576) (sym e) h.small.low; high = subst (λ x. unsigned_abs x ≤ 1048576) (sym f) (size_between span.low most span.high h.small.low h.small.high (omega (arith, ints)) (omega (arith, ints))) }; has = subst (λ x. Has model n x) (sym e) h.has; all = λ values v. subst (λ x. value_of n values ≤ℤ x) (sym f) (k values v) },
  less_wide span.low span.high part.low part.high (omega (arith, ints)) (omega (arith, ints)) (omega (arith, ints)),
)

pub greatest_above : (model : Model) (n : ℕ) (span part : Span) (middle value : ℤ) → HasEnd Greatest model n span → span.low <ℤ middle → Has model n value → middle ≤ℤ value → part.high ≡ span.high → part.low ≡ value → HasEnd Greatest model n part × (width part < width span)
greatest_above model n span part middle value h a k m e f =
    let to : value ≤ℤ span.high = not_more model n span.high value h.all k in (
      record { small = record { low = subst (λ x. unsigned_abs x ≤ 1048576) (sym f) (size_between span.low value span.high h.small.low h.small.high (omega (arith, ints)) to); high = subst (λ x. unsigned_abs x ≤ 1048576) (sym e) h.small.high }; has = subst (λ x. Has model n x) (sym f) k; all = λ values v. subst (λ x. value_of n values ≤ℤ x) (sym e) (h.all values v) },
      less_wide_above span.low span.high part.low part.high (omega (arith, ints)) (omega (arith, ints)) (omega (arith, ints)),
    )

-- ---- where there is one value only

least_alone : (model : Model) (n : ℕ) (span : Span) → HasEnd Least model n span → span.high ≤ℤ span.low → IsLeast model n span.low
least_alone model n span h m =
    let from : span.low ≤ℤ span.high = not_less model n span.low span.high h.all h.has in
    let one : span.high ≡ span.low = omega (arith, ints) in
    record { has = subst (λ x. Has model n x) one h.has; least = h.all }

greatest_alone : (model : Model) (n : ℕ) (span : Span) → HasEnd Greatest model n span → span.high ≤ℤ span.low → IsGreatest model n span.low
greatest_alone model n span h m = record { has = h.has; greatest = λ values valid. let a : value_of n values ≤ℤ span.high = h.all values valid in omega (arith, ints) }

pub end_alone : (end : End) (model : Model) (n : ℕ) (span : Span) → HasEnd end model n span → span.high ≤ℤ span.low → IsEnd end model n span.low
end_alone Least model n span h m = least_alone model n span h m
end_alone Greatest model n span h m = greatest_alone model n span h m
