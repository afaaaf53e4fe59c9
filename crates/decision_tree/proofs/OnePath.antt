-- Each vector takes exactly one path of a tree.
use Rattle.std.proofs.Common.{◌≡◌, ℕ, zero, suc, ◌+◌, Bool, true, false, cond, List, [], ◌∷◌, ◌++◌, length, slice_get, slice_index_or, Some, refl, sym, ◌∙◌, ap, subst, inl, inr, true≢false}
use Rattle.decision_tree.specs.Plain.{Plain, leaf, node, leaf_of}
use Rattle.decision_tree.specs.Paths.{paths_from, paths_of, Takes, TakesOne}
use Rattle.decision_tree.proofs.Places.{kept_at, later_at, parted_at}

module _ (v : List Bool) where
  takes_more : (turns : List (ℕ × Bool)) (test : ℕ) (side : Bool) → Takes v turns → slice_index_or v test false ≡ side → Takes v (turns ++ (test, side) ∷ [])
  takes_more [] test side h e = (e, tt)
  takes_more (turn ∷ turns) test side h e = (h.0, takes_more turns test side h.1 e)

  takes_fewer : (turns : List (ℕ × Bool)) (test : ℕ) (side : Bool) → Takes v (turns ++ (test, side) ∷ []) → Takes v turns
  takes_fewer [] test side h = tt
  takes_fewer (turn ∷ turns) test side h = (h.0, takes_fewer turns test side h.1)

  takes_last : (turns : List (ℕ × Bool)) (test : ℕ) (side : Bool) → Takes v (turns ++ (test, side) ∷ []) → slice_index_or v test false ≡ side
  takes_last [] test side h = h.0
  takes_last (turn ∷ turns) test side h = takes_last turns test side h.1

  module _ {L : Type 0} where
    -- a path that begins with turns that the vector does not take is not taken
    begins : (t : Plain L) (turns : List (ℕ × Bool)) (i : ℕ) (path : List (ℕ × Bool) × L) → slice_get (paths_from turns t) i ≡ Some path → Takes v path.0 → Takes v turns
    begins (leaf x) turns zero path h w = let same : (turns, x) ≡ path = cc in subst (λ p. Takes v p.0) (sym same) w
    begins (leaf x) turns (suc i) path h w = cc
    begins (node test low high) turns i path h w =
        elim (parted_at (paths_from (turns ++ (test, false) ∷ []) low) (paths_from (turns ++ (test, true) ∷ []) high) i path h) [
          | inl k ↦ takes_fewer turns test false (begins low (turns ++ (test, false) ∷ []) i path k w)
          | inr k ↦ takes_fewer turns test true (begins high (turns ++ (test, true) ∷ []) k.0 path k.1 w)
        ]

    abbrev One : List (ℕ × Bool) → Plain L → Type 0
    One turns t = TakesOne v (leaf_of t v) (paths_from turns t)

    low_one : (test : ℕ) (low high : Plain L) (turns : List (ℕ × Bool)) → slice_index_or v test false ≡ false → One (turns ++ (test, false) ∷ []) low → One turns (node test low high)
    low_one test low high turns e h =
        let lows = paths_from (turns ++ (test, false) ∷ []) low in
        let highs = paths_from (turns ++ (test, true) ∷ []) high in
        let here : leaf_of (node test low high) v ≡ leaf_of low v = ap (λ b. cond b (leaf_of high v) (leaf_of low v)) e in
        record {
          place = h.place;
          turns = h.turns;
          there = kept_at lows highs h.place (h.turns, leaf_of (node test low high) v) (h.there ∙ ap (λ x. Some (h.turns, x)) (sym here));
          taken = h.taken;
          alone = λ i path g w. elim (parted_at lows highs i path g) [
            | inl k ↦ h.alone i path k w
            | inr k ↦ absurd (true≢false (sym (takes_last turns test true (begins high (turns ++ (test, true) ∷ []) k.0 path k.1 w)) ∙ e))
          ];
        }

    high_one : (test : ℕ) (low high : Plain L) (turns : List (ℕ × Bool)) → slice_index_or v test false ≡ true → One (turns ++ (test, true) ∷ []) high → One turns (node test low high)
    high_one test low high turns e h =
        let lows = paths_from (turns ++ (test, false) ∷ []) low in
        let highs = paths_from (turns ++ (test, true) ∷ []) high in
        let here : leaf_of (node test low high) v ≡ leaf_of high v = ap (λ b. cond b (leaf_of high v) (leaf_of low v)) e in
        record {
          place = length lows + h.place;
          turns = h.turns;
          there = later_at lows highs h.place (h.turns, leaf_of (node test low high) v) (h.there ∙ ap (λ x. Some (h.turns, x)) (sym here));
          taken = h.taken;
          alone = λ i path g w. elim (parted_at lows highs i path g) [
            | inl k ↦ absurd (true≢false (sym e ∙ takes_last turns test false (begins low (turns ++ (test, false) ∷ []) i path k w)))
            | inr k ↦ k.2 ∙ ap (λ j. length lows + j) (h.alone k.0 path k.1 w)
          ];
        }

    one_from : (t : Plain L) (turns : List (ℕ × Bool)) → Takes v turns → One turns t
    one_from (leaf x) turns w = record {
      place = 0;
      turns = turns;
      there = refl;
      taken = w;
      alone = λ i path g h. only i path g;
    }
      where
        only : (i : ℕ) (path : List (ℕ × Bool) × L) → slice_get ((turns, x) ∷ []) i ≡ Some path → i ≡ 0
        only zero path g = refl
        only (suc i) path g = cc
    one_from (node test low high) turns w =
        let by : (b : Bool) → slice_index_or v test false ≡ b → One turns (node test low high) =
        λ b. elim b as (λ c. slice_index_or v test false ≡ c → One turns (node test low high)) [
          | true ↦ λ e. high_one test low high turns e (one_from high (turns ++ (test, true) ∷ []) (takes_more turns test true w e))
          | false ↦ λ e. low_one test low high turns e (one_from low (turns ++ (test, false) ∷ []) (takes_more turns test false w e))
        ] in
        by (slice_index_or v test false) refl

pub takes_one : {L : Type 0} (t : Plain L) (v : List Bool) → TakesOne v (leaf_of t v) (paths_of t)
takes_one t v = one_from v t [] tt
