-- The first of a list that fails, by the keys of the list.
use Rattle.std.proofs.Common.{◌≡◌, ℤ, Bool, not, List, [], ◌∷◌, ◌++◌, map, refl, ap, sym, subst, ◌∙◌}
use Rattle.std.specs.List.{AllByRecursion}
use Rattle.std.proofs.lemmas.List.{map-append}
use Rattle.std.proofs.lemmas.List.Elements.{All-from_recursion, recursion_from_All}
use Rattle.cpp_conditions.specs.declared.models.Model.{Model}
use Rattle.cpp_conditions.specs.Validity.{plain, IsValid}
use Rattle.atom_solver.specs.Solutions.{IsFirst}
use Rattle.invariant_certificate.specs.Failing.{HoldsAlways, AllHold, IsFirstFailing}

module _ {X Y : Type 0} (model : Model) (f : X → Y) (holds : X → List ℤ → Bool) (said : Y → List ℤ → Bool) where
  -- the same at each valid configuration
  abbrev pub Agree : List X → Type 0
  Agree xs = AllByRecursion (λ (x : X). (k : List ℤ) → IsValid (plain model) k → holds x k ≡ said (f x) k) xs

  agree_left : (xs ys : List X) → Agree (xs ++ ys) → Agree xs
  agree_left [] ys h = tt
  agree_left (x ∷ xs) ys h = (h.0, agree_left xs ys h.1)

  agree_right : (xs ys : List X) → Agree (xs ++ ys) → Agree ys
  agree_right [] ys h = h
  agree_right (x ∷ xs) ys h = agree_right xs ys h.1

  mapped_hold : (xs : List X) → Agree xs → AllByRecursion (λ (x : X). HoldsAlways model (holds x)) xs → AllByRecursion (λ (y : Y). HoldsAlways model (said y)) (map f xs)
  mapped_hold [] a h = tt
  mapped_hold (x ∷ xs) a h = (λ k valid. sym (a.0 k valid) ∙ h.0 k valid, mapped_hold xs a.1 h.1)

  pub all_hold_said : (xs : List X) (ys : List Y) → map f xs ≡ ys → Agree xs → AllHold model holds xs → AllHold model said ys
  all_hold_said xs ys e a h =
      subst (λ l. AllHold model said l) e
      (All-from_recursion (λ (y : Y). HoldsAlways model (said y)) (map f xs) (mapped_hold xs a (recursion_from_All (λ (x : X). HoldsAlways model (holds x)) xs h)))

  first_least : (x : X) (values : List ℤ) → ((k : List ℤ) → IsValid (plain model) k → holds x k ≡ said (f x) k) → IsFirst model (λ k. not (holds x k)) values
      → IsFirst model (λ k. not (said (f x) k)) values
  first_least x values a h = record {
    valid = h.valid;
    met = ap not (sym (a values h.valid)) ∙ h.met;
    first = λ others valid met. h.first others valid (ap not (a others valid) ∙ met);
  }

  pub first_said : (xs : List X) (ys : List Y) (x : X) (values : List ℤ) → map f xs ≡ ys → Agree xs → IsFirstFailing model holds xs x values → IsFirstFailing model said ys (f x) values
  first_said xs ys x values e a h =
      let split : Agree (h.before ++ x ∷ h.after) = subst Agree h.there a in
      record {
        before = map f h.before;
        after = map f h.after;
        there = sym e ∙ ap (map f) h.there ∙ map-append f h.before (x ∷ h.after);
        earlier = all_hold_said h.before (map f h.before) refl (agree_left h.before (x ∷ h.after) split) h.earlier;
        least = first_least x values (agree_right h.before (x ∷ h.after) split).0 h.least;
      }

-- the first at which something holds, said in another way
pub first_as : (model : Model) (f g : List ℤ → Bool) (values : List ℤ) → ((k : List ℤ) → f k ≡ g k) → IsFirst model f values → IsFirst model g values
first_as model f g values same h = record {
  valid = h.valid;
  met = sym (same values) ∙ h.met;
  first = λ others valid met. h.first others valid (same others ∙ met);
}
