-- The groups that stand around an item have the sections that are open there.
use Rattle.std.proofs.Common.{◌≡◌, Bool, true, false, List, [], ◌∷◌, ◌++◌, Some, reverse, refl, sym, ◌∙◌}
use Rattle.std.proofs.lemmas.List.{reverse-append}
use Rattle.cpp_groups.specs.declared.section.Section.{Section}
use Rattle.cpp_groups.specs.Kept.{sections_after, behind, in_next, truth}
use Rattle.family_names.specs.declared.groups.Group.{Group}
use Rattle.family_names.specs.declared.groups.Group.TheVariants.{First, Later, Else}
use Rattle.family_names.specs.Groups.{opening, sections, is_first, with_group, IsSome, IsOpened, left, changed}

behind_next : (b : Bool) (ss : List Section) → behind (in_next b ss) ≡ behind ss
behind_next b [] = refl
behind_next b (s ∷ ss) = refl

pub behind_left : (truths : List Bool) (gs : List Group) → sections truths (left gs) ≡ behind (sections truths gs)
behind_left truths [] = refl
behind_left truths (First n ∷ gs) = refl
behind_left truths (Later n ∷ gs) = behind_left truths gs ∙ sym (behind_next (truth truths n) (sections truths gs))
behind_left truths (Else ∷ gs) = behind_left truths gs ∙ sym (behind_next true (sections truths gs))

pub opened_left : (gs : List Group) → IsOpened gs → IsOpened (left gs)
opened_left [] h = h
opened_left (First n ∷ gs) h = h
opened_left (Later n ∷ gs) h = opened_left gs h.1
opened_left (Else ∷ gs) h = opened_left gs h.1

pub opened_changed : (g : Group) (gs : List Group) → is_first g ≡ false → IsSome gs → IsOpened gs → IsOpened (with_group g gs)
opened_changed (First n) gs e s h = absurd cc
opened_changed (Later n) gs e s h = (s, h)
opened_changed Else gs e s h = (s, h)

pub sections_changed : (truths : List Bool) (g : Group) (gs : List Group) → is_first g ≡ false → sections truths (changed g gs) ≡ sections_after truths (sections truths gs) (Some (opening g))
sections_changed truths (First n) gs e = absurd cc
sections_changed truths (Later n) [] e = refl
sections_changed truths Else [] e = refl
sections_changed truths g (x ∷ xs) e = refl

-- a group behind the others
pub at_end : (gs : List Group) (g : Group) → reverse (gs ++ g ∷ []) ≡ g ∷ reverse gs
at_end gs g = reverse-append gs (g ∷ [])
