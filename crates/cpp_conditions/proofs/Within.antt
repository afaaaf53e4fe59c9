-- Configurations that are valid by their test.
use Rattle.std.proofs.Common.{◌≡◌, suc, ◌≤◌, ℤ, ◌≤ℤ◌, unsigned_abs, int_le, Bool, true, false, ◌&&◌, List, [], ◌∷◌, refl, ap, ◌∙◌, arith}
use Rattle.std.proofs.lemmas.Int.{ints}
use Rattle.linear_atoms.specs.declared.atoms.Feature.{Feature}
use Rattle.linear_atoms.specs.Atoms.{AreRanges, IsWithin}
use Rattle.cpp_conditions.specs.Validity.{Plain, is_in_range, is_within, all_true, IsValid, IsConfig}

and_left : (a b : Bool) → (a && b) ≡ true → a ≡ true
and_left true b e = refl
and_left false b e = e

and_right : (a b : Bool) → (a && b) ≡ true → b ≡ true
and_right true b e = e
and_right false b e = cc

and_both : (a b : Bool) → a ≡ true → b ≡ true → (a && b) ≡ true
and_both a b e f = ap (λ x. x && b) e ∙ f

at_most : (a b : ℤ) → int_le a b ≡ true → a ≤ℤ b
at_most a b e = grind (arith, ints)

no_more : (a b : ℤ) → a ≤ℤ b → int_le a b ≡ true
no_more a b h = grind (arith, ints)

within_of : (fs : List Feature) (vs : List ℤ) → is_within fs vs ≡ true → IsWithin fs vs
within_of [] [] e = tt
within_of [] (v ∷ vs) e = cc
within_of (f ∷ fs) [] e = cc
within_of (f ∷ fs) (v ∷ vs) e =
    let r : is_in_range f v ≡ true = and_left _ _ e in
    (at_most f.low v (and_left _ _ r), at_most v f.high (and_right _ _ r), within_of fs vs (and_right _ _ e))

is_within_of : (fs : List Feature) (vs : List ℤ) → IsWithin fs vs → is_within fs vs ≡ true
is_within_of [] [] h = refl
is_within_of [] (v ∷ vs) h = absurd h
is_within_of (f ∷ fs) [] h = absurd h
is_within_of (f ∷ fs) (v ∷ vs) h =
    and_both (is_in_range f v) (is_within fs vs) (and_both (int_le f.low v) (int_le v f.high) (no_more f.low v h.0) (no_more v f.high h.1)) (is_within_of fs vs h.2)

pub valid_parts : (model : Plain) (values : List ℤ) → IsValid model values → IsWithin model.features values × (all_true values model.constraints ≡ true)
valid_parts model values v = (within_of model.features values (and_left _ _ v), and_right (is_within model.features values) (all_true values model.constraints) v)

pub valid_from : (model : Plain) (values : List ℤ) → IsWithin model.features values → all_true values model.constraints ≡ true → IsValid model values
valid_from model values w e = and_both (is_within model.features values) (all_true values model.constraints) (is_within_of model.features values w) e

small_between : (l h v : ℤ) → unsigned_abs l ≤ 1048576 → unsigned_abs h ≤ 1048576 → l ≤ℤ v → v ≤ℤ h → unsigned_abs v ≤ 1048576
small_between l h v a b c d = omega (arith, ints)

pub config_of : (fs : List Feature) (vs : List ℤ) → AreRanges fs → IsWithin fs vs → IsConfig fs vs
config_of [] [] r h = record { within = tt; count = refl; small = tt }
config_of [] (v ∷ vs) r h = absurd h
config_of (f ∷ fs) [] r h = absurd h
config_of (f ∷ fs) (v ∷ vs) r h =
    let k : IsConfig fs vs = config_of fs vs r.3 h.2 in
    record { within = h; count = ap suc k.count; small = (small_between f.low f.high v r.1 r.2 h.0 h.1, k.small) }
