-- Groups that are the outermost of others.
use Rattle.std.proofs.Common.{◌≡◌, ℕ, suc, ◌<◌, Bool, true, false, ◌&&◌, List, [], ◌∷◌, ◌++◌, reverse, length, take, drop, get_or, refl, sym, ap, subst, ◌∙◌, drop-cons}
use Rattle.std.proofs.lemmas.Bool.{eqb-true}
use Rattle.std.proofs.Math.Seq.{take-length}
use Rattle.std.proofs.lemmas.List.{reverse-append, take-append-drop}
use Rattle.cpp_groups.specs.declared.section.Section.{Section}
use Rattle.cpp_groups.specs.declared.section.Section.TheVariants.{Seeking, Keeping, Passed}
use Rattle.cpp_groups.specs.Kept.{all_kept, behind, in_next, truth}
use Rattle.family_names.specs.declared.groups.Group.{Group}
use Rattle.family_names.specs.declared.groups.Group.TheVariants.{First, Later, Else}
use Rattle.family_names.specs.contracts.groups.GroupPartialEq.TheImpl.{eq-value}
use Rattle.family_names.specs.Groups.{sections, are_kept, is_first}
use lib.Pointwise.{pointwise}

same_group : (a b : Group) → eq-value.it a b ≡ true → a ≡ b
same_group (First n) (First m) e = ap First (eqb-true n m e)
same_group (First n) (Later m) e = absurd cc
same_group (First n) Else e = absurd cc
same_group (Later n) (First m) e = absurd cc
same_group (Later n) (Later m) e = ap Later (eqb-true n m e)
same_group (Later n) Else e = absurd cc
same_group Else (First m) e = absurd cc
same_group Else (Later m) e = absurd cc
same_group Else Else e = refl

and_left : (a b : Bool) → (a && b) ≡ true → a ≡ true
and_left true b e = refl
and_left false b e = absurd cc

and_right : (a b : Bool) → (a && b) ≡ true → b ≡ true
and_right true b e = e
and_right false b e = absurd cc

pub same_groups : (xs ys : List Group) → pointwise eq-value.it xs ys ≡ true → xs ≡ ys
same_groups [] [] e = refl
same_groups [] (y ∷ ys) e = absurd cc
same_groups (x ∷ xs) [] e = absurd cc
same_groups (x ∷ xs) (y ∷ ys) e =
    let head : x ≡ y = same_group x y (and_left (eq-value.it x y) (pointwise eq-value.it xs ys) e) in
    let tail : xs ≡ ys = same_groups xs ys (and_right (eq-value.it x y) (pointwise eq-value.it xs ys) e) in
    ap (λ (z : Group). z ∷ xs) head ∙ ap (λ (zs : List Group). y ∷ zs) tail

-- what is around the innermost section
behind_kept : (ss : List Section) → all_kept ss ≡ true → all_kept (behind ss) ≡ true
behind_kept [] h = h
behind_kept (Seeking ∷ ss) h = absurd cc
behind_kept (Keeping ∷ ss) h = h
behind_kept (Passed ∷ ss) h = absurd cc

behind_next : (b : Bool) (ss : List Section) → behind (in_next b ss) ≡ behind ss
behind_next b [] = refl
behind_next b (s ∷ ss) = refl

-- some groups, the earliest of which is the first of its section
abbrev EndsFirst : List Group → Type 0
EndsFirst [] = ⊥
EndsFirst (g ∷ []) = is_first g ≡ true
EndsFirst (g ∷ x ∷ xs) = EndsFirst (x ∷ xs)

around_kept : (truths : List Bool) (more gs : List Group) → EndsFirst more → all_kept (behind (sections truths (more ++ gs))) ≡ true → are_kept truths gs ≡ true
around_kept truths [] gs e h = absurd e
around_kept truths (First n ∷ []) gs e h = h
around_kept truths (Later n ∷ []) gs e h = absurd cc
around_kept truths (Else ∷ []) gs e h = absurd cc
around_kept truths (First n ∷ x ∷ xs) gs e h = around_kept truths (x ∷ xs) gs e (behind_kept (sections truths ((x ∷ xs) ++ gs)) h)
around_kept truths (Later n ∷ x ∷ xs) gs e h =
    around_kept truths (x ∷ xs) gs e (subst (λ (ss : List Section). all_kept ss ≡ true) (behind_next (truth truths n) (sections truths ((x ∷ xs) ++ gs))) h)
around_kept truths (Else ∷ x ∷ xs) gs e h =
    around_kept truths (x ∷ xs) gs e (subst (λ (ss : List Section). all_kept ss ≡ true) (behind_next true (sections truths ((x ∷ xs) ++ gs))) h)

ends_first : (xs : List Group) (g : Group) → is_first g ≡ true → EndsFirst (xs ++ g ∷ [])
ends_first [] g e = e
ends_first (x ∷ []) g e = e
ends_first (x ∷ y ∷ ys) g e = ends_first (y ∷ ys) g e

outer_kept : (truths : List Bool) (gs more : List Group) (g : Group) → is_first g ≡ true → are_kept truths (reverse (gs ++ g ∷ more)) ≡ true → are_kept truths (reverse gs) ≡ true
outer_kept truths gs more g first h =
    around_kept truths (reverse more ++ g ∷ []) (reverse gs) (ends_first (reverse more) g first)
    (behind_kept (sections truths ((reverse more ++ g ∷ []) ++ reverse gs))
    (subst (λ (xs : List Group). are_kept truths xs ≡ true) (reverse-append gs (g ∷ more) ∙ ap (λ (xs : List Group). xs ++ reverse gs) (reverse-append (g ∷ []) more)) h))

-- the groups are the first of the others, and the next one, if any, is the first of its section
pub begun : (gs others : List Group) (d : Group) → true ≡ pointwise eq-value.it (take (length gs) others) gs → length gs < length others → is_first (get_or others (length gs) d) ≡ true
    → (truths : List Bool) → are_kept truths (reverse others) ≡ true → are_kept truths (reverse gs) ≡ true
begun gs others d same lt first truths h =
    let whole : others ≡ gs ++ get_or others (length gs) d ∷ drop (suc (length gs)) others =
    sym (take-append-drop (length gs) others) ∙ ap (λ (xs : List Group). xs ++ drop (length gs) others) (same_groups (take (length gs) others) gs (sym same)) ∙ ap (λ (xs : List Group). gs ++ xs) (drop-cons others (length gs) d lt) in
    outer_kept truths gs (drop (suc (length gs)) others) (get_or others (length gs) d) first (subst (λ (xs : List Group). are_kept truths (reverse xs) ≡ true) whole h)

take_all : (xs : List Group) (n : ℕ) → n ≡ length xs → take n xs ≡ xs
take_all xs n e = ap (λ (k : ℕ). take k xs) e ∙ take-length xs

pub begun_whole : (gs others : List Group) → true ≡ pointwise eq-value.it (take (length gs) others) gs → length gs ≡ length others
    → (truths : List Bool) → are_kept truths (reverse others) ≡ true → are_kept truths (reverse gs) ≡ true
begun_whole gs others same e truths h =
    let whole : others ≡ gs = sym (take_all others (length gs) e) ∙ same_groups (take (length gs) others) gs (sym same) in
    subst (λ (xs : List Group). are_kept truths (reverse xs) ≡ true) whole h
