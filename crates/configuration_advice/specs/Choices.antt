-- What is chosen of each feature: that it keeps its given value, that it does not, or neither yet.
use Rattle.std.specs.Prelude.{◌≡◌, ◌≢◌, ℕ, suc, ◌+◌, ℤ, ◌⊎◌, Bool, true, false, not, ◌&&◌, List, [], ◌∷◌, map, slice_index_or}
use Rattle.configuration_advice.specs.declared.choices.Choice.{Choice}
use Rattle.configuration_advice.specs.declared.choices.Choice.TheVariants.{Open, Kept, Changed}

-- a value is as chosen
abbrev pub IsChosen : Choice → ℤ → ℤ → Type 0
IsChosen Open given value = Unit {0}
IsChosen Kept given value = given ≡ value
IsChosen Changed given value = given ≢ value

-- each value is as chosen
abbrev pub AreChosen : List Choice → List ℤ → List ℤ → Type 0
AreChosen [] [] [] = Unit {0}
AreChosen [] [] (v ∷ vs) = ⊥
AreChosen [] (g ∷ gs) vs = ⊥
AreChosen (c ∷ cs) [] vs = ⊥
AreChosen (c ∷ cs) (g ∷ gs) [] = ⊥
AreChosen (c ∷ cs) (g ∷ gs) (v ∷ vs) = IsChosen c g v × AreChosen cs gs vs

-- neither yet of each feature
abbrev pub nothing_chosen : List ℤ → List Choice
nothing_chosen given = map (λ v. Open) given

-- how many are chosen to change
abbrev pub changes : List Choice → ℕ
changes [] = 0
changes (Open ∷ cs) = changes cs
changes (Kept ∷ cs) = changes cs
changes (Changed ∷ cs) = suc (changes cs)

-- what is open is kept
abbrev pub close : Choice → Choice
close Open = Kept
close Kept = Kept
close Changed = Changed

-- the second list is the first one, but that it keeps some that are open
abbrev pub Tightens : List Choice → List Choice → Type 0
Tightens [] [] = Unit {0}
Tightens [] (d ∷ ds) = ⊥
Tightens (c ∷ cs) [] = ⊥
Tightens (c ∷ cs) (d ∷ ds) = ((c ≡ d) ⊎ ((c ≡ Open) × (d ≡ Kept))) × Tightens cs ds

-- ---- over the truths of tests, two for each feature

-- a value is kept where it reaches the given one, and not the next
abbrev pub is_kept_on : List Bool → ℕ → Bool
is_kept_on vector test = slice_index_or vector test false && not (slice_index_or vector (test + 1) false)

abbrev pub are_chosen_on : List Bool → ℕ → List Choice → Bool
are_chosen_on vector test [] = true
are_chosen_on vector test (Open ∷ cs) = are_chosen_on vector (test + 2) cs
are_chosen_on vector test (Kept ∷ cs) = is_kept_on vector test && are_chosen_on vector (test + 2) cs
are_chosen_on vector test (Changed ∷ cs) = not (is_kept_on vector test) && are_chosen_on vector (test + 2) cs
