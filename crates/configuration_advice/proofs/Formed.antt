-- Formulas of choices at the truths of tests.
use Rattle.std.proofs.Common.{◌≡◌, ℕ, suc, ◌+◌, ℤ, pos, ◌+ℤ◌, ◌*ℤ◌, ◌≤ℤ◌, ◌<ℤ◌, Bool, true, false, not, ◌&&◌, List, [], ◌∷◌, length, Some, sym, ap, refl, ◌∙◌, arith}
use Rattle.std.specs.Prelude.{int_le, slice_get, slice_index_or}
use Rattle.std.specs.Ordering.{int_eq}
use Rattle.std.proofs.lemmas.Int.{ints}
use Rattle.std.proofs.lemmas.Bool.{false≢true}
use Rattle.linear_atoms.specs.declared.atoms.Atom.{Atom}
use Rattle.linear_atoms.specs.Atoms.{holds}
use Rattle.cpp_conditions.specs.Numbering.{vector_at}
use Rattle.cpp_conditions.proofs.Numbers.{place_truth}
use Rattle.configuration_advice.specs.declared.choices.Choice.{Choice}
use Rattle.configuration_advice.specs.declared.choices.Choice.TheVariants.{Open, Kept, Changed}
use Rattle.configuration_advice.specs.Choices.{AreChosen, is_kept_on, are_chosen_on}
use Rattle.configuration_advice.specs.Searching.{ArePairs}
use Rattle.configuration_advice.specs.Tests.{at_least}
use Rattle.configuration_advice.specs.Uses.{value_of}
use Rattle.configuration_advice.proofs.Asked.{reached, missed}
use Rattle.configuration_advice.proofs.Chosen.{same, other, is_same, is_other}

-- ---- one feature

kept_by : (g v w : ℤ) (a b : Bool) → w ≡ (pos 1 *ℤ v) +ℤ pos 0 → int_le g w ≡ a → int_le (g +ℤ pos 1) w ≡ b → (a && not b) ≡ int_eq g v
kept_by g v w false b e h k = let m : v <ℤ g = missed g v w e h in sym (is_other g v (λ f. omega (arith, ints)))
kept_by g v w true true e h k = let m : (g +ℤ pos 1) ≤ℤ v = reached (g +ℤ pos 1) v w e k in sym (is_other g v (λ f. omega (arith, ints)))
kept_by g v w true false e h k =
    let m : g ≤ℤ v = reached g v w e h in
    let n : v <ℤ (g +ℤ pos 1) = missed (g +ℤ pos 1) v w e k in
    sym (is_same g v (omega (arith, ints)))

kept_at : (n : ℕ) (g : ℤ) (values : List ℤ) → (holds (at_least n g) values && not (holds (at_least n (g +ℤ pos 1)) values)) ≡ int_eq g (value_of n values)
kept_at n g values = kept_by g (value_of n values) ((pos 1 *ℤ value_of n values) +ℤ pos 0) _ _ refl refl refl

pub kept_on : (atoms : List Atom) (values : List ℤ) (place n : ℕ) (g : ℤ) → slice_get atoms place ≡ Some (at_least n g) → slice_get atoms (place + 1) ≡ Some (at_least n (g +ℤ pos 1)) → is_kept_on (vector_at atoms values) place ≡ int_eq g (value_of n values)
kept_on atoms values place n g h k =
    ap (λ b. b && not (slice_index_or (vector_at atoms values) (place + 1) false)) (place_truth atoms values place (at_least n g) h)
    ∙ ap (λ b. holds (at_least n g) values && not b) (place_truth atoms values (place + 1) (at_least n (g +ℤ pos 1)) k)
    ∙ kept_at n g values

-- ---- all features from a number on

-- these are the values from the number on
abbrev pub AreRest : List ℤ → ℕ → List ℤ → Type 0
AreRest values n rest = (j : ℕ) → value_of (n + j) values ≡ value_of j rest

here : (values : List ℤ) (n : ℕ) (v : ℤ) (vs : List ℤ) → AreRest values n (v ∷ vs) → value_of n values ≡ v
here values n v vs h = let e : n ≡ n + 0 = omega arith in ap (λ m. value_of m values) e ∙ h 0

there : (values : List ℤ) (n : ℕ) (v : ℤ) (vs : List ℤ) → AreRest values n (v ∷ vs) → AreRest values (n + 1) vs
there values n v vs h j = let e : n + 1 + j ≡ n + suc j = omega arith in ap (λ m. value_of m values) e ∙ h (suc j)

pub both_left : (a b : Bool) → (a && b) ≡ true → a ≡ true
both_left true b h = refl
both_left false b h = h

pub both_right : (a b : Bool) → (a && b) ≡ true → b ≡ true
both_right true b h = h
both_right false b h = absurd (false≢true h)

pub both_so : (a b : Bool) → a ≡ true → b ≡ true → (a && b) ≡ true
both_so a b h k = ap (λ x. x && b) h ∙ k

not_so : (a : Bool) → not a ≡ true → a ≡ false
not_so true h = sym h
not_so false h = refl

is_not : (a : Bool) → a ≡ false → not a ≡ true
is_not a h = ap not h

module _ (atoms : List Atom) (values : List ℤ) where
  head_is : (place n : ℕ) (g v : ℤ) (gs vs : List ℤ) → ArePairs atoms place n (g ∷ gs) → AreRest values n (v ∷ vs) → is_kept_on (vector_at atoms values) place ≡ int_eq g v
  head_is place n g v gs vs p r = kept_on atoms values place n g p.0 p.1 ∙ ap (int_eq g) (here values n v vs r)

  pub chosen_from : (cs : List Choice) (gs vs : List ℤ) (place n : ℕ) → length cs ≡ length gs → length vs ≡ length gs → ArePairs atoms place n gs → AreRest values n vs
      → are_chosen_on (vector_at atoms values) place cs ≡ true → AreChosen cs gs vs
  chosen_from [] [] [] place n a b p r h = tt
  chosen_from [] [] (v ∷ vs) place n a b p r h = absurd (omega arith)
  chosen_from [] (g ∷ gs) vs place n a b p r h = absurd (omega arith)
  chosen_from (c ∷ cs) [] vs place n a b p r h = absurd (omega arith)
  chosen_from (c ∷ cs) (g ∷ gs) [] place n a b p r h = absurd (omega arith)
  chosen_from (Open ∷ cs) (g ∷ gs) (v ∷ vs) place n a b p r h = (tt, chosen_from cs gs vs (place + 2) (n + 1) (omega arith) (omega arith) p.2 (there values n v vs r) h)
  chosen_from (Kept ∷ cs) (g ∷ gs) (v ∷ vs) place n a b p r h =
      (same g v (sym (head_is place n g v gs vs p r) ∙ both_left _ _ h), chosen_from cs gs vs (place + 2) (n + 1) (omega arith) (omega arith) p.2 (there values n v vs r) (both_right (is_kept_on (vector_at atoms values) place) _ h))
  chosen_from (Changed ∷ cs) (g ∷ gs) (v ∷ vs) place n a b p r h =
      (other g v (sym (head_is place n g v gs vs p r) ∙ not_so _ (both_left _ _ h)), chosen_from cs gs vs (place + 2) (n + 1) (omega arith) (omega arith) p.2 (there values n v vs r) (both_right (not (is_kept_on (vector_at atoms values) place)) _ h))

  pub chosen_to : (cs : List Choice) (gs vs : List ℤ) (place n : ℕ) → ArePairs atoms place n gs → AreRest values n vs
      → AreChosen cs gs vs → are_chosen_on (vector_at atoms values) place cs ≡ true
  chosen_to [] gs vs place n p r h = refl
  chosen_to (c ∷ cs) [] vs place n p r h = absurd h
  chosen_to (c ∷ cs) (g ∷ gs) [] place n p r h = absurd h
  chosen_to (Open ∷ cs) (g ∷ gs) (v ∷ vs) place n p r h = chosen_to cs gs vs (place + 2) (n + 1) p.2 (there values n v vs r) h.1
  chosen_to (Kept ∷ cs) (g ∷ gs) (v ∷ vs) place n p r h =
      both_so (is_kept_on (vector_at atoms values) place) _ (head_is place n g v gs vs p r ∙ is_same g v h.0) (chosen_to cs gs vs (place + 2) (n + 1) p.2 (there values n v vs r) h.1)
  chosen_to (Changed ∷ cs) (g ∷ gs) (v ∷ vs) place n p r h =
      both_so (not (is_kept_on (vector_at atoms values) place)) _ (is_not _ (head_is place n g v gs vs p r ∙ is_other g v h.0)) (chosen_to cs gs vs (place + 2) (n + 1) p.2 (there values n v vs r) h.1)

pub all_rest : (values : List ℤ) → AreRest values 0 values
all_rest values j = let e : 0 + j ≡ j = omega arith in ap (λ m. value_of m values) e
