-- Whether the guards of a group hold, and whether the group is kept.
use Rattle.std.proofs.Common.{◌≡◌, ℕ, Bool, true, false, not, ◌&&◌, List, [], ◌∷◌, ◌++◌, refl, ap, ◌∙◌}
use Rattle.c_tree.specs.declared.lists.Guard.{Guard}
use Rattle.c_tree.specs.Project.{guard_holds, guards_hold}
use Rattle.c_grammar.specs.Grammar.{with_true, with_false}
use Rattle.cpp_groups.specs.declared.section.Section.{Section}
use Rattle.cpp_groups.specs.declared.section.Section.TheVariants.{Seeking, Keeping, Passed}
use Rattle.cpp_groups.specs.Kept.{next_group, all_kept, truth}

holds_then : (t : List Bool) (gs : List Guard) (g : Guard) → guards_hold t (gs ++ g ∷ []) ≡ (guards_hold t gs && guard_holds t g)
holds_then t [] g = elim (guard_holds t g) as (λ b. (b && true) ≡ (true && b)) [ true ↦ refl | false ↦ refl ]
holds_then t (x ∷ gs) g = elim (guard_holds t x) as (λ b. (b && guards_hold t (gs ++ g ∷ [])) ≡ ((b && guards_hold t gs) && guard_holds t g)) [ true ↦ holds_then t gs g | false ↦ refl ]

-- whether a group of a section may still be kept
abbrev pub seeks : Section → List Section → Bool
seeks Seeking secs = all_kept secs
seeks Keeping secs = false
seeks Passed secs = false

true_matches : (sec : Section) (secs : List Section) (b : Bool) → (seeks sec secs && b) ≡ all_kept (next_group sec b ∷ secs)
true_matches Seeking secs true = elim (all_kept secs) as (λ k. (k && true) ≡ k) [ true ↦ refl | false ↦ refl ]
true_matches Seeking secs false = elim (all_kept secs) as (λ k. (k && false) ≡ false) [ true ↦ refl | false ↦ refl ]
true_matches Keeping secs b = refl
true_matches Passed secs b = refl

false_matches : (sec : Section) (secs : List Section) (b : Bool) → (seeks sec secs && not b) ≡ seeks (next_group sec b) secs
false_matches Seeking secs true = elim (all_kept secs) as (λ k. (k && false) ≡ false) [ true ↦ refl | false ↦ refl ]
false_matches Seeking secs false = elim (all_kept secs) as (λ k. (k && true) ≡ k) [ true ↦ refl | false ↦ refl ]
false_matches Keeping secs b = refl
false_matches Passed secs b = refl

pub else_matches : (sec : Section) (secs : List Section) → seeks sec secs ≡ all_kept (next_group sec true ∷ secs)
else_matches Seeking secs = refl
else_matches Keeping secs = refl
else_matches Passed secs = refl

pub in_true : (t : List Bool) (gs : List Guard) (n : ℕ) (sec : Section) (secs : List Section) → guards_hold t gs ≡ seeks sec secs → guards_hold t (with_true gs n) ≡ all_kept (next_group sec (truth t n) ∷ secs)
in_true t gs n sec secs h = holds_then t gs (record { number = n; positive = true }) ∙ ap (λ (b : Bool). b && truth t n) h ∙ true_matches sec secs (truth t n)

pub in_false : (t : List Bool) (gs : List Guard) (n : ℕ) (sec : Section) (secs : List Section) → guards_hold t gs ≡ seeks sec secs → guards_hold t (with_false gs n) ≡ seeks (next_group sec (truth t n)) secs
in_false t gs n sec secs h = holds_then t gs (record { number = n; positive = false }) ∙ ap (λ (b : Bool). b && not (truth t n)) h ∙ false_matches sec secs (truth t n)
