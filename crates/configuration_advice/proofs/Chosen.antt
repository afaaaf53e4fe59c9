-- Values that are as chosen.
use Rattle.std.proofs.Common.{◌≡◌, ◌≢◌, suc, ◌≤◌, ℤ, true, false, ◌⊎◌, inl, inr, List, [], ◌∷◌, ◌++◌, length, map, sym, ap, refl, ◌∙◌, arith}
use Rattle.std.specs.Prelude.{if◌then◌else◌}
use Rattle.std.specs.Ordering.{int_eq}
use Rattle.std.proofs.lemmas.Bool.{false≢true}
use Rattle.std.proofs.lemmas.Bool.Decides.{Decides-int_eq}
use Rattle.configuration_advice.specs.declared.choices.Choice.{Choice}
use Rattle.configuration_advice.specs.declared.choices.Choice.TheVariants.{Open, Kept, Changed}
use Rattle.configuration_advice.specs.Choices.{AreChosen, changes, close, nothing_chosen, Tightens}
use Rattle.configuration_advice.specs.Nearest.{differing}

-- ---- equal values

pub same : (g v : ℤ) → int_eq g v ≡ true → g ≡ v
same g v h = (Decides-int_eq g v).0 h

pub is_same : (g v : ℤ) → g ≡ v → int_eq g v ≡ true
is_same g v h = (Decides-int_eq g v).1 h

pub other : (g v : ℤ) → int_eq g v ≡ false → g ≢ v
other g v h e = false≢true (sym h ∙ is_same g v e)

pub is_other : (g v : ℤ) → g ≢ v → int_eq g v ≡ false
is_other g v h = elim (int_eq g v) as (λ b. int_eq g v ≡ b → b ≡ false) [ true ↦ λ e. absurd (h (same g v e)) | false ↦ λ e. refl ] refl

same_or_not : (g v : ℤ) → (g ≡ v) ⊎ (g ≢ v)
same_or_not g v = elim (int_eq g v) as (λ b. int_eq g v ≡ b → (g ≡ v) ⊎ (g ≢ v)) [ true ↦ λ e. inl (same g v e) | false ↦ λ e. inr (other g v e) ] refl

differing_same : (g v : ℤ) (gs vs : List ℤ) → g ≡ v → differing (g ∷ gs) (v ∷ vs) ≡ differing gs vs
differing_same g v gs vs h = ap (λ b. if b then differing gs vs else suc (differing gs vs)) (is_same g v h)

differing_other : (g v : ℤ) (gs vs : List ℤ) → g ≢ v → differing (g ∷ gs) (v ∷ vs) ≡ suc (differing gs vs)
differing_other g v gs vs h = ap (λ b. if b then differing gs vs else suc (differing gs vs)) (is_other g v h)

differing_more : (g v : ℤ) (gs vs : List ℤ) → differing gs vs ≤ differing (g ∷ gs) (v ∷ vs)
differing_more g v gs vs = elim (same_or_not g v) [
  | inl h ↦ let e = differing_same g v gs vs h in omega arith
  | inr h ↦ let e = differing_other g v gs vs h in omega arith
]

differing_step : (g v : ℤ) (gs vs : List ℤ) → differing (g ∷ gs) (v ∷ vs) ≤ suc (differing gs vs)
differing_step g v gs vs = elim (same_or_not g v) [
  | inl h ↦ let e = differing_same g v gs vs h in omega arith
  | inr h ↦ let e = differing_other g v gs vs h in omega arith
]

pub differing_most : (gs vs : List ℤ) → differing gs vs ≤ length gs
differing_most [] vs = omega arith
differing_most (g ∷ gs) [] = omega arith
differing_most (g ∷ gs) (v ∷ vs) = let k = differing_step g v gs vs in let m = differing_most gs vs in omega arith

-- ---- nothing chosen

pub open_chosen : (gs vs : List ℤ) → length vs ≡ length gs → AreChosen (nothing_chosen gs) gs vs
open_chosen [] [] h = tt
open_chosen [] (v ∷ vs) h = absurd (omega arith)
open_chosen (g ∷ gs) [] h = absurd (omega arith)
open_chosen (g ∷ gs) (v ∷ vs) h = (tt, open_chosen gs vs (omega arith))

pub open_changes : (gs : List ℤ) → changes (nothing_chosen gs) ≡ 0
open_changes [] = refl
open_changes (g ∷ gs) = open_changes gs

pub chosen_length : (cs : List Choice) (gs vs : List ℤ) → AreChosen cs gs vs → length vs ≡ length gs
chosen_length [] [] [] h = refl
chosen_length [] [] (v ∷ vs) h = absurd h
chosen_length [] (g ∷ gs) vs h = absurd h
chosen_length (c ∷ cs) [] vs h = absurd h
chosen_length (c ∷ cs) (g ∷ gs) [] h = absurd h
chosen_length (c ∷ cs) (g ∷ gs) (v ∷ vs) h = ap suc (chosen_length cs gs vs h.1)

-- ---- all closed

pub close_tight : (cs : List Choice) → Tightens cs (map close cs)
close_tight [] = tt
close_tight (Open ∷ cs) = (inr (refl, refl), close_tight cs)
close_tight (Kept ∷ cs) = (inl refl, close_tight cs)
close_tight (Changed ∷ cs) = (inl refl, close_tight cs)

pub close_loosens : (cs : List Choice) (gs vs : List ℤ) → AreChosen (map close cs) gs vs → AreChosen cs gs vs
close_loosens [] gs vs h = h
close_loosens (c ∷ cs) [] vs h = absurd h
close_loosens (c ∷ cs) (g ∷ gs) [] h = absurd h
close_loosens (Open ∷ cs) (g ∷ gs) (v ∷ vs) h = (tt, close_loosens cs gs vs h.1)
close_loosens (Kept ∷ cs) (g ∷ gs) (v ∷ vs) h = (h.0, close_loosens cs gs vs h.1)
close_loosens (Changed ∷ cs) (g ∷ gs) (v ∷ vs) h = (h.0, close_loosens cs gs vs h.1)

pub close_differs : (cs : List Choice) (gs vs : List ℤ) → AreChosen (map close cs) gs vs → differing gs vs ≡ changes cs
close_differs [] [] vs h = refl
close_differs [] (g ∷ gs) vs h = absurd h
close_differs (c ∷ cs) [] vs h = absurd h
close_differs (c ∷ cs) (g ∷ gs) [] h = absurd h
close_differs (Open ∷ cs) (g ∷ gs) (v ∷ vs) h = differing_same g v gs vs h.0 ∙ close_differs cs gs vs h.1
close_differs (Kept ∷ cs) (g ∷ gs) (v ∷ vs) h = differing_same g v gs vs h.0 ∙ close_differs cs gs vs h.1
close_differs (Changed ∷ cs) (g ∷ gs) (v ∷ vs) h = differing_other g v gs vs h.0 ∙ ap suc (close_differs cs gs vs h.1)

pub changes_least : (cs : List Choice) (gs vs : List ℤ) → AreChosen cs gs vs → changes cs ≤ differing gs vs
changes_least [] gs vs h = omega arith
changes_least (c ∷ cs) [] vs h = absurd h
changes_least (c ∷ cs) (g ∷ gs) [] h = absurd h
changes_least (Open ∷ cs) (g ∷ gs) (v ∷ vs) h = let k = changes_least cs gs vs h.1 in let m = differing_more g v gs vs in omega arith
changes_least (Kept ∷ cs) (g ∷ gs) (v ∷ vs) h = let k = changes_least cs gs vs h.1 in let m = differing_more g v gs vs in omega arith
changes_least (Changed ∷ cs) (g ∷ gs) (v ∷ vs) h = let k = changes_least cs gs vs h.1 in let e = differing_other g v gs vs h.0 in omega arith

-- with no more changes than are chosen, all else is kept
pub close_by : (cs : List Choice) (gs vs : List ℤ) → AreChosen cs gs vs → differing gs vs ≤ changes cs → AreChosen (map close cs) gs vs
close_by [] gs vs h m = h
close_by (c ∷ cs) [] vs h m = absurd h
close_by (c ∷ cs) (g ∷ gs) [] h m = absurd h
close_by (Open ∷ cs) (g ∷ gs) (v ∷ vs) h m =
    let k = changes_least cs gs vs h.1 in
    elim (same_or_not g v) [
      | inl e ↦ let f = differing_same g v gs vs e in (e, close_by cs gs vs h.1 (omega arith))
      | inr e ↦ let f = differing_other g v gs vs e in absurd (omega arith)
    ]
close_by (Kept ∷ cs) (g ∷ gs) (v ∷ vs) h m = let f = differing_same g v gs vs h.0 in (h.0, close_by cs gs vs h.1 (omega arith))
close_by (Changed ∷ cs) (g ∷ gs) (v ∷ vs) h m = let f = differing_other g v gs vs h.0 in (h.0, close_by cs gs vs h.1 (omega arith))

-- ---- one more chosen

pub split_open : (front behind : List Choice) (gs vs : List ℤ) → AreChosen (front ++ Open ∷ behind) gs vs → AreChosen (front ++ Changed ∷ behind) gs vs ⊎ AreChosen (front ++ Kept ∷ behind) gs vs
split_open [] behind [] vs h = absurd h
split_open [] behind (g ∷ gs) [] h = absurd h
split_open [] behind (g ∷ gs) (v ∷ vs) h = elim (same_or_not g v) [ inl e ↦ inr (e, h.1) | inr e ↦ inl (e, h.1) ]
split_open (c ∷ front) behind [] vs h = absurd h
split_open (c ∷ front) behind (g ∷ gs) [] h = absurd h
split_open (c ∷ front) behind (g ∷ gs) (v ∷ vs) h = elim (split_open front behind gs vs h.1) [ inl k ↦ inl (h.0, k) | inr k ↦ inr (h.0, k) ]

pub open_again : (front behind : List Choice) (d : Choice) (gs vs : List ℤ) → AreChosen (front ++ d ∷ behind) gs vs → AreChosen (front ++ Open ∷ behind) gs vs
open_again [] behind d [] vs h = absurd h
open_again [] behind d (g ∷ gs) [] h = absurd h
open_again [] behind d (g ∷ gs) (v ∷ vs) h = (tt, h.1)
open_again (c ∷ front) behind d [] vs h = absurd h
open_again (c ∷ front) behind d (g ∷ gs) [] h = absurd h
open_again (c ∷ front) behind d (g ∷ gs) (v ∷ vs) h = (h.0, open_again front behind d gs vs h.1)

pub one_change : (front behind : List Choice) → changes (front ++ Changed ∷ behind) ≡ suc (changes (front ++ Open ∷ behind))
one_change [] behind = refl
one_change (Open ∷ front) behind = one_change front behind
one_change (Kept ∷ front) behind = one_change front behind
one_change (Changed ∷ front) behind = ap suc (one_change front behind)

pub no_change : (front behind : List Choice) → changes (front ++ Kept ∷ behind) ≡ changes (front ++ Open ∷ behind)
no_change [] behind = refl
no_change (Open ∷ front) behind = no_change front behind
no_change (Kept ∷ front) behind = no_change front behind
no_change (Changed ∷ front) behind = ap suc (no_change front behind)

pub one_length : (front behind : List Choice) (c d : Choice) → length (front ++ c ∷ behind) ≡ length (front ++ d ∷ behind)
one_length [] behind c d = refl
one_length (f ∷ front) behind c d = ap suc (one_length front behind c d)
