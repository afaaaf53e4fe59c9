-- One literal after another is dropped or kept.
use Rattle.std.proofs.Common.{◌≡◌, ◌<◌, ◌≤◌, ℕ, zero, suc, true, false, List, [], ◌∷◌, ◌++◌, length, take, drop, refl, sym, subst, ap, ◌∙◌, arith, Bool, ◌+◌, slice_index_or}
use Rattle.std.specs.Prelude.{slice_get, Some}
use Rattle.std.specs.List.{remove, insert}
use Rattle.linear_atoms.specs.declared.atoms.Literal.{Literal}
use Rattle.linear_atoms.specs.Atoms.{AreLiterals}
use Rattle.cpp_conditions.specs.declared.models.Model.{Model}
use Rattle.atom_solver.specs.Solutions.{IsImplied}
use Rattle.alarm_report.specs.Dropping.{IsDroppedAt}
use Rattle.alarm_report.specs.Regions.{AreStanding}
use Rattle.alarm_report.specs.Regions as standing
use Rattle.alarm_report.proofs.Fitting.{behind, one_more, front_removed, behind_removed, put_back, got, fit_removed, still_within}

-- what stands of the list from a place on stands of all
abbrev pub LeadsTo : Model → List Literal → ℕ → List Literal → Type 0
LeadsTo model left place all = (s : List Literal) → AreStanding model (take place left) (drop place left) s → AreStanding model [] all s

pub leads_dropped : (model : Model) (old new all : List Literal) (place : ℕ) → IsDroppedAt model place old new true → LeadsTo model old place all → LeadsTo model new place all
leads_dropped model old new all place d leads = λ s h.
    let e : take place new ≡ take place old = ap (take place) d.left ∙ front_removed old place in
    let f : drop place new ≡ drop (suc place) old = ap (drop place) d.left ∙ behind_removed old place in
    let h1 : AreStanding model (take place old) (drop (suc place) old) s = subst (λ x. AreStanding model x (drop (suc place) old) s) e (subst (λ x. AreStanding model (take place new) x s) f h) in
    let h2 : AreStanding model (take place old) (d.literal ∷ drop (suc place) old) s = standing.drops (take place old) d.literal (drop (suc place) old) s d.implied h1 in
    leads s (subst (λ x. AreStanding model (take place old) x s) (sym (behind old place d.literal d.there)) h2)

pub leads_kept : (model : Model) (old new all : List Literal) (place : ℕ) → IsDroppedAt model place old new false → LeadsTo model old place all → LeadsTo model new (suc place) all
leads_kept model old new all place d leads = λ s h.
    let e : take (suc place) new ≡ take place old ++ d.literal ∷ [] = ap (take (suc place)) d.left ∙ one_more old place d.literal d.there in
    let f : drop (suc place) new ≡ drop (suc place) old = ap (drop (suc place)) d.left in
    let h1 : AreStanding model (take place old ++ d.literal ∷ []) (drop (suc place) old) s = subst (λ x. AreStanding model x (drop (suc place) old) s) e (subst (λ x. AreStanding model (take (suc place) new) x s) f h) in
    let h2 : AreStanding model (take place old) (d.literal ∷ drop (suc place) old) s = standing.keeps (take place old) d.literal (drop (suc place) old) s d.implied h1 in
    leads s (subst (λ x. AreStanding model (take place old) x s) (sym (behind old place d.literal d.there)) h2)

pub taken : {X : Type 0} (xs : List X) (n : ℕ) → length xs ≤ n → take n xs ≡ xs
taken [] zero h = refl
taken [] (suc n) h = refl
taken (x ∷ xs) zero h = absurd (omega (arith, h))
taken (x ∷ xs) (suc n) h = ap (λ ys. x ∷ ys) (taken xs n (omega (arith, h)))

gone : {X : Type 0} (xs : List X) (n : ℕ) → length xs ≤ n → drop n xs ≡ []
gone [] zero h = refl
gone [] (suc n) h = refl
gone (x ∷ xs) zero h = absurd (omega (arith, h))
gone (x ∷ xs) (suc n) h = gone xs n (omega (arith, h))

-- at the end of the list, what is left stands
pub all_stand : (model : Model) (left all : List Literal) (place : ℕ) → length left ≤ place → LeadsTo model left place all → AreStanding model [] all left
all_stand model left all place past leads =
    leads left (subst (λ x. AreStanding model x (drop place left) left) (sym (taken left place past)) (subst (λ x. AreStanding model left x left) (sym (gone left place past)) (standing.seen left)))

-- ---- one step of the code

-- the literal that was taken out
there : (old : List Literal) (place : ℕ) (l : Literal) → place < length old → l ≡ slice_index_or old place l → slice_get old place ≡ Some l
there old place l within e = got old place l within ∙ ap (λ x. Some x) (sym e)

pub now_dropped : (model : Model) (place : ℕ) (old new asked : List Literal) (l : Literal) (b : Bool) → place < length old → l ≡ slice_index_or old place l
    → asked ≡ remove old place → new ≡ remove old place → IsImplied model asked l b → b ≡ true → IsDroppedAt model place old new true
now_dropped model place old new asked l b within value is left implied e = record {
  literal = l;
  there = there old place l within value;
  implied = subst (λ x. IsImplied model (remove old place) l x) e (subst (λ x. IsImplied model x l b) is implied);
  left = left;
}

pub now_kept : (model : Model) (place : ℕ) (old new asked : List Literal) (l : Literal) (b : Bool) → place < length old → l ≡ slice_index_or old place l
    → asked ≡ remove old place → new ≡ insert (remove old place) place l → IsImplied model asked l b → b ≡ false → IsDroppedAt model place old new false
now_kept model place old new asked l b within value is left implied e = record {
  literal = l;
  there = there old place l within value;
  implied = subst (λ x. IsImplied model (remove old place) l x) e (subst (λ x. IsImplied model x l b) is implied);
  left = left ∙ ap (insert (remove old place) place) value ∙ put_back old place l within;
}

fit_after : (model : Model) (n place : ℕ) (old new : List Literal) (b : Bool) → IsDroppedAt model place old new b → AreLiterals n old → AreLiterals n new
fit_after model n place old new true d fit = subst (AreLiterals n) (sym d.left) (fit_removed n old place fit)
fit_after model n place old new false d fit = subst (AreLiterals n) (sym d.left) fit

-- what is known of the list and the place, as the literals are gone through
pub record Going (model : Model) (left : List Literal) (place : ℕ) (all : List Literal) : Type 0 where
  pub fit : AreLiterals (length model.features) left
  pub within : place ≤ length left
  pub leads : LeadsTo model left place all

pub kept_going : (model : Model) (old new all : List Literal) (place : ℕ) (b : Bool) → IsDroppedAt model place old new b → b ≡ false → place < length old
    → Going model old place all → Going model new (place + 1) all
kept_going model old new all place true d e within going = cc
kept_going model old new all place false d e within going = record {
  fit = fit_after model (length model.features) place old new false d going.fit;
  within = subst (λ (xs : List Literal). place + 1 ≤ length xs) (sym d.left) (omega (arith, within));
  leads = let e : suc place ≡ place + 1 = omega arith in subst (λ n. LeadsTo model new n all) e (leads_kept model old new all place d going.leads);
}

pub dropped_going : (model : Model) (old new all : List Literal) (place : ℕ) (b : Bool) → IsDroppedAt model place old new b → b ≡ true → place < length old
    → Going model old place all → Going model new place all
dropped_going model old new all place false d e within going = cc
dropped_going model old new all place true d e within going = record {
  fit = fit_after model (length model.features) place old new true d going.fit;
  within = subst (λ (xs : List Literal). place ≤ length xs) (sym d.left) (still_within old place within);
  leads = leads_dropped model old new all place d going.leads;
}
