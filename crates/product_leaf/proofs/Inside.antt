-- What the fields keep is what the leaf's value keeps.
use Rattle.std.proofs.Common.{◌≡◌, ℕ, ℤ, List, Option, Some, None, Vec, length, ap, sym, subst, ◌∙◌}
use Rattle.std.specs.Global.{Global}
use Rattle.leaf_domain.specs.Leaves.{LeafValue}
use Rattle.strides.specs.declared.strided.Strided.{Strided}
use Rattle.product_leaf.specs.StrideLeaves.{numbers_of, IsStrideContent, IsStrideLeaf}
use Rattle.product_leaf.specs.View.{content_of, view_of, AreBestParts, AreParts, IsSound, IsOwnOf, IsBestOf}
use Rattle.product_leaf.specs.Laws.Parts.{fours_numbers}
use Rattle.product_leaf.specs.declared.leaf.StrideLeaf.TheInside.{Inside}

abbrev leaf_at : ℕ → Option (List ℤ) → LeafValue
leaf_at n c = record { variables = n; content = c }

parts_content : (n : ℕ) (own best : List Strided) → AreBestParts n own best → IsStrideContent n (Some (numbers_of own))
parts_content n own best h = (ap numbers_of (fours_numbers own), h.0 ∙ ap length (sym (fours_numbers own)), rw (fours_numbers own) h.1)

content_is : (n : ℕ) (b w : Option (Vec Strided Global)) → AreParts n b w → IsStrideContent n (content_of b w)
content_is n None w h = tt
content_is n (Some b) None h = parts_content n b.items b.items h
content_is n (Some b) (Some w) h = parts_content n w.items b.items h

pub inside_is : (s : Inside) → IsSound s → IsStrideLeaf (view_of s)
inside_is s h = (h.0, content_is s.variables s.best s.standing h.1)

-- ---- the parts behind a reference
own_of : (n : ℕ) (own best : List Strided) → AreBestParts n own best → IsOwnOf (leaf_at n (Some (numbers_of own))) own
own_of n own best h = record { same = ap (λ i. leaf_at i (Some (numbers_of own))) h.0; own = h.1 }

best_of_own : (n : ℕ) (own best : List Strided) → AreBestParts n own best → IsBestOf (leaf_at n (Some (numbers_of own))) best
best_of_own n own best h = record { parts = own; same = ap (λ i. leaf_at i (Some (numbers_of own))) h.0; own = h.1; best = h.2 }

by_best : (n : ℕ) (b w : Option (Vec Strided Global)) (v : Vec Strided Global) → b ≡ Some v → AreParts n b w → IsBestOf (leaf_at n (content_of b w)) v.items
by_best n b w v f = subst (λ x. AreParts n x w → IsBestOf (leaf_at n (content_of x w)) v.items) (sym f) (of_some w)
  where
    of_some : (w : Option (Vec Strided Global)) → AreParts n (Some v) w → IsBestOf (leaf_at n (content_of (Some v) w)) v.items
    of_some None k = best_of_own n v.items v.items k
    of_some (Some u) k = best_of_own n u.items v.items k

pub best_inside : (s : Inside) (v : LeafValue) (b : Vec Strided Global) → view_of s ≡ v → IsSound s → s.best ≡ Some b → IsBestOf v b.items
best_inside s v b e h f = subst (λ x. IsBestOf x b.items) e (by_best s.variables s.best s.standing b f h.1)

by_standing : (n : ℕ) (b w : Option (Vec Strided Global)) (v u : Vec Strided Global) → b ≡ Some v → w ≡ Some u → AreParts n b w → IsOwnOf (leaf_at n (content_of b w)) u.items
by_standing n b w v u e f =
    let P : Option (Vec Strided Global) → Type 0 = λ x. AreParts n x (Some u) → IsOwnOf (leaf_at n (content_of x (Some u))) u.items in
    let Q : Option (Vec Strided Global) → Type 0 = λ y. AreParts n b y → IsOwnOf (leaf_at n (content_of b y)) u.items in
    subst Q (sym f) (subst P (sym e) (λ k. own_of n u.items v.items k))

by_best_alone : (n : ℕ) (b w : Option (Vec Strided Global)) (v : Vec Strided Global) → b ≡ Some v → w ≡ None → AreParts n b w → IsOwnOf (leaf_at n (content_of b w)) v.items
by_best_alone n b w v e f =
    let P : Option (Vec Strided Global) → Type 0 = λ x. AreParts n x None → IsOwnOf (leaf_at n (content_of x None)) v.items in
    let Q : Option (Vec Strided Global) → Type 0 = λ y. AreParts n b y → IsOwnOf (leaf_at n (content_of b y)) v.items in
    subst Q (sym f) (subst P (sym e) (λ k. own_of n v.items v.items k))

pub standing_inside : (s : Inside) (v : LeafValue) (b w : Vec Strided Global) → view_of s ≡ v → IsSound s → s.best ≡ Some b → s.standing ≡ Some w → IsOwnOf v w.items
standing_inside s v b w e h f g = subst (λ x. IsOwnOf x w.items) e (by_standing s.variables s.best s.standing b w f g h.1)

pub alone_inside : (s : Inside) (v : LeafValue) (b : Vec Strided Global) → view_of s ≡ v → IsSound s → s.best ≡ Some b → s.standing ≡ None → IsOwnOf v b.items
alone_inside s v b e h f g = subst (λ x. IsOwnOf x b.items) e (by_best_alone s.variables s.best s.standing b f g h.1)
