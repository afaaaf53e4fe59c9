-- What holds part by part holds of the lists of parts of a leaf.
use Rattle.std.proofs.Common.{◌≡◌, ℕ, zero, suc, ◌+◌, ◌*◌, ◌<◌, ◌≤◌, ℤ, Bool, true, false, ◌||◌, List, [], ◌∷◌, Option, Some, None, length, map, slice_set, slice_index_or, refl, ap, sym, subst, ◌∙◌, arith, All}
use Rattle.std.specs.Prelude.{⊤}
use Rattle.std.specs.List.{AllByRecursion, list_any}
use Rattle.std.proofs.lemmas.List.Elements.{All-head, All-tail}
use Rattle.c_tree.specs.Value.{IsInt}
use Rattle.leaf_domain.specs.Variables.{EachHolds}
use Rattle.leaf_domain.proofs.Variables.{of_any, each_zipped, each_set, each_read, holds_first, holds_second, holds_tested, holds_made, held_read}
use Rattle.leaf_domain.proofs.StepSums.{zipped_fewer, few_each}
use Rattle.nonrelational_leaf.specs.Parts.{PartMeaning}
use Rattle.nonrelational_leaf.specs.PartLaws.{PartLaws}
use Rattle.nonrelational_leaf.specs.Lifted.{reduced_by, all_reduced_by, AllOwn, AllHave, best_part, all_best, part_at, leaf_of, IsLeaf, all_leq, joined_all, widened_all, narrowed_all, steps_left_in}

-- a test fails at the first part and at the rest
pub apart : (a b : Bool) → (a || b) ≡ false → (a ≡ false) × (b ≡ false)
apart true b f = cc
apart false b f = (refl, f)

-- ---- parts by their best bounds
module _ {P : Type 0} where
  pub length_reduced : (o : Option (P → P)) (ps : List P) → length (all_reduced_by o ps) ≡ length ps
  length_reduced None ps = refl
  length_reduced (Some f) [] = refl
  length_reduced (Some f) (p ∷ ps) = ap suc (length_reduced (Some f) ps)

  pub each_weaker : (R Q : P → Type 0) → ((p : P) → R p → Q p) → (ps : List P) → AllByRecursion R ps → AllByRecursion Q ps
  each_weaker R Q f [] h = tt
  each_weaker R Q f (p ∷ ps) h = (f p h.0, each_weaker R Q f ps h.1)

  pub each_reduced : (Q : P → Type 0) (o : Option (P → P)) (ps : List P) → AllByRecursion (λ p. Q (reduced_by o p)) ps → AllByRecursion Q (all_reduced_by o ps)
  each_reduced Q None ps h = h
  each_reduced Q (Some f) [] h = tt
  each_reduced Q (Some f) (p ∷ ps) h = (h.0, each_reduced Q (Some f) ps h.1)

  pub held_reduced : (H : P → ℤ → Type 0) (o : Option (P → P)) → ((p : P) (n : ℤ) → H p n → H (reduced_by o p) n) → (ps : List P) (s : List ℤ) → EachHolds H ps s → EachHolds H (all_reduced_by o ps) s
  held_reduced H None keeps ps s h = h
  held_reduced H (Some f) keeps [] [] h = tt
  held_reduced H (Some f) keeps [] (n ∷ s) h = absurd h
  held_reduced H (Some f) keeps (p ∷ ps) [] h = absurd h
  held_reduced H (Some f) keeps (p ∷ ps) (n ∷ s) h = (keeps p n h.0, held_reduced H (Some f) keeps ps s h.1)

  pub held_back : (H : P → ℤ → Type 0) (o : Option (P → P)) → ((p : P) (n : ℤ) → H (reduced_by o p) n → H p n) → (ps : List P) (s : List ℤ) → EachHolds H (all_reduced_by o ps) s → EachHolds H ps s
  held_back H None back ps s h = h
  held_back H (Some f) back [] [] h = tt
  held_back H (Some f) back [] (n ∷ s) h = absurd h
  held_back H (Some f) back (p ∷ ps) [] h = absurd h
  held_back H (Some f) back (p ∷ ps) (n ∷ s) h = (back p n h.0, held_back H (Some f) back ps s h.1)

module _ {P : Type 0} (D : PartMeaning P) (L : PartLaws D) where
  -- ---- lengths
  pub length_best : (ps : List P) → length (all_best D ps) ≡ length ps
  length_best ps = length_reduced D.reduction ps

  -- ---- parts that leaves have
  pub is_leaf : (ps : List P) → length ps ≤ 48 → AllOwn D ps → IsLeaf D (leaf_of D ps)
  is_leaf ps h k = (h, (ap D.numbers (L.parts_told ps), ap length (sym (L.parts_told ps)), subst (AllOwn D) (sym (L.parts_told ps)) k))

  pub own_best : (ps : List P) → AllOwn D ps → AllOwn D (all_best D ps)
  own_best ps h = each_reduced D.own D.reduction ps (each_weaker D.own (λ p. D.own (best_part D p)) L.best_own ps h)

  -- with another part, whose best bounds a leaf can have
  pub own_best_set : (ps : List P) (x : ℕ) (p : P) → AllOwn D ps → D.own (best_part D p) → AllOwn D (all_best D (slice_set ps x p))
  own_best_set ps x p h k =
      each_reduced D.own D.reduction (slice_set ps x p)
      (each_set (λ q. D.own (best_part D q)) ps x p (each_weaker D.own (λ q. D.own (best_part D q)) L.best_own ps h) k)

  pub own_points : (s : List ℤ) → All IsInt s → AllOwn D (map D.point s)
  own_points [] h = tt
  own_points (n ∷ s) h = (L.point_own n (All-head IsInt n s h), own_points s (All-tail IsInt n s h))

  pub joined_own : (us bs : List P) → AllOwn D us → AllOwn D bs → AllOwn D (joined_all D us bs)
  joined_own us bs h k = each_zipped D.own D.own D.join L.join_own us bs h k

  pub widened_own : (ts : List ℤ) (us bs : List P) → AllOwn D us → AllOwn D bs → AllOwn D (widened_all D ts us bs)
  widened_own ts us bs h k = each_zipped D.own D.own (D.widen ts) (L.widen_own ts) us bs h k

  pub narrowed_own : (ts : List ℤ) (us bs : List P) → AllOwn D us → AllOwn D bs → list_any D.is_bare (narrowed_all D ts us bs) ≡ false → AllOwn D (narrowed_all D ts us bs)
  narrowed_own ts [] bs h k e = tt
  narrowed_own ts (a ∷ us) [] h k e = tt
  narrowed_own ts (a ∷ us) (b ∷ bs) h k e =
      let (p, q) = apart (D.is_bare (D.narrow ts a b)) (list_any D.is_bare (narrowed_all D ts us bs)) e in
      (L.narrow_own ts a b h.0 k.0 p, narrowed_own ts us bs h.1 k.1 q)

  -- ---- stores
  pub none_bare : (ps : List P) (s : List ℤ) → AllHave D ps s → list_any D.is_bare ps ≡ false
  none_bare [] s h = refl
  none_bare (p ∷ ps) [] h = absurd h
  none_bare (p ∷ ps) (n ∷ s) h = ap (λ t. t || list_any D.is_bare ps) (L.has_not_bare p n h.0) ∙ none_bare ps s h.1

  pub best_have : (ps : List P) (s : List ℤ) → AllHave D ps s → AllHave D (all_best D ps) s
  best_have ps s h = held_reduced D.has D.reduction (λ p n. (L.best_has p n).1) ps s h

  pub best_back : (ps : List P) (s : List ℤ) → AllHave D (all_best D ps) s → AllHave D ps s
  best_back ps s h = held_back D.has D.reduction (λ p n. (L.best_has p n).0) ps s h

  pub points_have : (s : List ℤ) → AllHave D (map D.point s) s
  points_have [] = tt
  points_have (n ∷ s) = (L.point_has n, points_have s)

  pub points_alone : (s t : List ℤ) → AllHave D (map D.point s) t → t ≡ s
  points_alone [] [] h = refl
  points_alone [] (m ∷ t) h = absurd h
  points_alone (n ∷ s) [] h = absurd h
  points_alone (n ∷ s) (m ∷ t) h = ap (λ x. x ∷ t) (L.point_alone n m h.0) ∙ ap (λ x. n ∷ x) (points_alone s t h.1)

  pub some_store : (ps : List P) → AllOwn D ps → (s : List ℤ) × AllHave D ps s
  some_store [] h = ([], tt)
  some_store (p ∷ ps) h = let (s, k) = some_store ps h.1 in (L.number p ∷ s, (L.own_has p h.0, k))

  pub leq_have : (us bs : List P) (s : List ℤ) → length us ≡ length bs → all_leq D us bs ≡ true → AllHave D us s → AllHave D bs s
  leq_have us bs s e f h = holds_tested D.has D.leq L.leq_has us bs s e f h

  pub joined_first : (us bs : List P) (s : List ℤ) → length us ≡ length bs → AllHave D us s → AllHave D (joined_all D us bs) s
  joined_first us bs s e h = holds_first D.has (λ p. ⊤) D.join (λ a b n p q k. L.join_first a b n k) us bs s e (of_any us) (of_any bs) h

  pub joined_second : (us bs : List P) (s : List ℤ) → length us ≡ length bs → AllHave D bs s → AllHave D (joined_all D us bs) s
  joined_second us bs s e h = holds_second D.has (λ p. ⊤) D.join (λ a b n p q k. L.join_second a b n k) us bs s e (of_any us) (of_any bs) h

  pub widened_first : (ts : List ℤ) (us bs : List P) (s : List ℤ) → length us ≡ length bs → AllOwn D us → AllOwn D bs → AllHave D us s → AllHave D (widened_all D ts us bs) s
  widened_first ts us bs s e p q h = holds_first D.has D.own (D.widen ts) (L.widen_first ts) us bs s e p q h

  pub widened_second : (ts : List ℤ) (us bs : List P) (s : List ℤ) → length us ≡ length bs → AllOwn D us → AllOwn D bs → AllHave D bs s → AllHave D (widened_all D ts us bs) s
  widened_second ts us bs s e p q h = holds_second D.has D.own (D.widen ts) (L.widen_second ts) us bs s e p q h

  pub narrowed_have : (ts : List ℤ) (xs gs : List P) (s : List ℤ) → length xs ≡ length gs → all_leq D gs xs ≡ true → AllHave D gs s → AllHave D (narrowed_all D ts xs gs) s
  narrowed_have ts xs gs s e f h = holds_made D.has D.leq (D.narrow ts) (L.narrow_has ts) xs gs s e f h

  -- ---- how many steps are left
  pub widened_fewer : (ts : List ℤ) (us bs : List P) → length us ≡ length bs → AllOwn D us → AllOwn D bs → all_leq D bs us ≡ false → steps_left_in D ts (widened_all D ts us bs) < steps_left_in D ts us
  widened_fewer ts us bs e h k f = zipped_fewer (D.steps_left ts) D.own (D.widen ts) (L.widen_falls ts) D.leq (L.widen_fewer ts) us bs e h k f

  pub steps_few : (ts : List ℤ) (ps : List P) → AllOwn D ps → steps_left_in D ts ps ≤ D.bound_count * length ps * (length ts + 1)
  steps_few ts ps h = few_each (D.steps_left ts) D.own D.bound_count (length ts + 1) (L.steps_few ts) ps h

  -- ---- one variable
  pub part_own : (ps : List P) (x : ℕ) → x < length ps → AllOwn D ps → D.own (part_at D ps x)
  part_own ps x l h = each_read D.own D.bare ps x l h
