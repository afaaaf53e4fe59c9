-- What stands here is kept, and the name is a value's or met as a constant's.
use Rattle.std.proofs.Common.{◌≡◌, Bool, true, false, ◌&&◌, refl, ap}
use Rattle.std.specs.Prelude.{◌||◌}

pub kept_value : (kept value declared : Bool) → value ≡ true → (kept && (value || declared)) ≡ kept
kept_value true value declared e = ap (λ (b : Bool). b || declared) e
kept_value false value declared e = refl

pub kept_other : (kept value declared : Bool) → value ≡ false → (kept && (value || declared)) ≡ (kept && declared)
kept_other true value declared e = ap (λ (b : Bool). b || declared) e
kept_other false value declared e = refl
