-- The trees at places, one tree on and where no tree is left.
use Rattle.std.proofs.Common.{◌≡◌, ◌≤◌, ◌<◌, ◌+◌, ℕ, List, [], ◌∷◌, ◌++◌, map, drop, length, get_or, refl, sym, ap, ◌∙◌}
use Rattle.std.proofs.lemmas.List.{drop_all, drop_more, append-nil}
use Rattle.fam_outer.specs.declared.faults.Place.{Place}
use Rattle.alarm_report.specs.Invariants.{LeafTree}
use Rattle.certificate_format.specs.Loops.{trees_at}

none_chosen : (places : List Place) → trees_at places [] ≡ []
none_chosen [] = refl
none_chosen (p ∷ ps) = refl

pub one_chosen : {X : Type 0} (f : X → LeafTree) (old new all : List X) (left behind places : List Place) (n : ℕ) (x : X) → n < length all → x ≡ get_or all n x
    → map f new ++ trees_at behind (map f (drop (n + 1) all)) ≡ map f old ++ trees_at left (f x ∷ map f (drop (n + 1) all))
    → map f old ++ trees_at left (map f (drop n all)) ≡ trees_at places (map f all)
    → map f new ++ trees_at behind (map f (drop (n + 1) all)) ≡ trees_at places (map f all)
one_chosen {X} f old new all left behind places n x h e step done =
    let seen : List X → List LeafTree = λ xs. map f old ++ trees_at left (map f xs) in
    step ∙ ap (λ y. seen (y ∷ drop (n + 1) all)) e ∙ ap seen (sym (drop_more all n x h)) ∙ done

pub all_chosen : {X : Type 0} (f : X → LeafTree) (made all : List X) (left places : List Place) (n : ℕ) → length all ≤ n
    → map f made ++ trees_at left (map f (drop n all)) ≡ trees_at places (map f all) → map f made ≡ trees_at places (map f all)
all_chosen f made all left places n h e =
    sym (append-nil (map f made)) ∙ ap (λ ts. map f made ++ ts) (sym (none_chosen left)) ∙ ap (λ xs. map f made ++ trees_at left (map f xs)) (sym (drop_all n all h)) ∙ e
