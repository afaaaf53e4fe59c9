-- A place at which a run of a variant is, or may stop, is a place of the family.
use Rattle.std.proofs.Common.{◌≡◌, ◌⊎◌, ℕ, ℤ, Bool, true, false, List, [], ◌∷◌, ◌++◌, map, nat_eq, ◌&&◌, if◌then◌else◌, Option, Some, None, refl, ap, subst, ◌∙◌, inl, inr, cond, append_assoc}
use Rattle.std.specs.Prelude.{slice_index_or}
use Rattle.std.proofs.lemmas.Bool.{eqb-true}
use Rattle.std.proofs.lemmas.Option.{none-some}
use Rattle.fam_outer.specs.declared.faults.Place.{Place}
use Rattle.c_tree.specs.declared.tree.Kind.{Kind}
use Rattle.c_tree.specs.Tree.{Code, Done, Assign, Input, Assert, If, While, Do, Leave, Block, Skip, Cond, Whole}
use Rattle.c_tree.specs.Places.{places_of, program_places}
use Rattle.c_tree.specs.Project.{projected, projected_program}
use Rattle.c_tree.proofs.Listed.{places_of-followed}
use Rattle.c_tree.proofs.Wholes.{IsPlain-projected}
use Rattle.leaf_domain.specs.Leaves.{LeafValue, LeafMeaning, LeafLaws, nothing_of}
use Rattle.plain_analysis.specs.declared.options.Options.{Options}
use Rattle.plain_analysis.specs.Statements.{Entry, after_of, entries_of, final_heads}
use Rattle.plain_analysis.specs.Ways.{enter, end_of}
use Rattle.plain_analysis.specs.Places.{is_same_place, entry_in, entry_by, leaf_or, at_of, may_stop, alarm_of}
use Rattle.plain_analysis.proofs.Located.{place_of, places_of_entries}

never : false ≡ true → ⊥
never e = cc

-- x is one of the list
abbrev pub IsIn : Place → List Place → Type 0
IsIn x [] = ⊥
IsIn x (y ∷ ys) = (y ≡ x) ⊎ IsIn x ys

in_left : (x : Place) (ys zs : List Place) → IsIn x ys → IsIn x (ys ++ zs)
in_left x [] zs h = absurd h
in_left x (y ∷ ys) zs (inl e) = inl e
in_left x (y ∷ ys) zs (inr h) = inr (in_left x ys zs h)

in_right : (x : Place) (ys zs : List Place) → IsIn x zs → IsIn x (ys ++ zs)
in_right x [] zs h = h
in_right x (y ∷ ys) zs h = inr (in_right x ys zs h)

-- ---- the places of a projection

in_cons : (x y : Place) (a b : List Place) → (IsIn x a → IsIn x b) → IsIn x (y ∷ a) → IsIn x (y ∷ b)
in_cons x y a b f (inl e) = inl e
in_cons x y a b f (inr h) = inr (f h)

in_both : (x : Place) (a b c d : List Place) → (IsIn x a → IsIn x b) → (IsIn x c → IsIn x d) → IsIn x (a ++ c) → IsIn x (b ++ d)
in_both x [] b c d f g h = in_right x b d (g h)
in_both x (y ∷ a) b c d f g (inl e) = in_left x b d (f (inl e))
in_both x (y ∷ a) b c d f g (inr h) = in_both x a b c d (λ k. f (inr k)) g h

side_in : (x : Place) (b : Bool) (p q : Code) (ps qs : List Place) → (IsIn x (places_of p) → IsIn x ps) → (IsIn x (places_of q) → IsIn x qs)
    → IsIn x (places_of (cond b p q)) → IsIn x (ps ++ qs)
side_in x true p q ps qs f g h = in_left x ps qs (f h)
side_in x false p q ps qs f g h = in_right x ps qs (g h)

projected_in : (truths : List Bool) (x : Place) (a : Code) → IsIn x (places_of (projected truths a)) → IsIn x (places_of a)
projected_in truths x Done h = h
projected_in truths x (Assign place target value rest) h = in_cons x place (places_of (projected truths rest)) (places_of rest) (projected_in truths x rest) h
projected_in truths x (Input place target rest) h = in_cons x place (places_of (projected truths rest)) (places_of rest) (projected_in truths x rest) h
projected_in truths x (Assert place test rest) h = in_cons x place (places_of (projected truths rest)) (places_of rest) (projected_in truths x rest) h
projected_in truths x (If place test p q rest) h =
    in_cons x place (places_of (projected truths p) ++ (places_of (projected truths q) ++ places_of (projected truths rest))) (places_of p ++ (places_of q ++ places_of rest))
    (in_both x (places_of (projected truths p)) (places_of p) (places_of (projected truths q) ++ places_of (projected truths rest)) (places_of q ++ places_of rest) (projected_in truths x p)
    (in_both x (places_of (projected truths q)) (places_of q) (places_of (projected truths rest)) (places_of rest) (projected_in truths x q) (projected_in truths x rest))) h
projected_in truths x (While place test step body rest) h =
    in_cons x place (places_of (projected truths step) ++ (places_of (projected truths body) ++ places_of (projected truths rest))) (places_of step ++ (places_of body ++ places_of rest))
    (in_both x (places_of (projected truths step)) (places_of step) (places_of (projected truths body) ++ places_of (projected truths rest)) (places_of body ++ places_of rest) (projected_in truths x step)
    (in_both x (places_of (projected truths body)) (places_of body) (places_of (projected truths rest)) (places_of rest) (projected_in truths x body) (projected_in truths x rest))) h
projected_in truths x (Do place body at test rest) h =
    in_cons x place (places_of (projected truths body) ++ at ∷ places_of (projected truths rest)) (places_of body ++ at ∷ places_of rest)
    (in_both x (places_of (projected truths body)) (places_of body) (at ∷ places_of (projected truths rest)) (at ∷ places_of rest) (projected_in truths x body)
    (in_cons x at (places_of (projected truths rest)) (places_of rest) (projected_in truths x rest))) h
projected_in truths x (Leave place jump rest) h = in_cons x place (places_of (projected truths rest)) (places_of rest) (projected_in truths x rest) h
projected_in truths x (Block place body rest) h =
    in_cons x place (places_of (projected truths body) ++ places_of (projected truths rest)) (places_of body ++ places_of rest)
    (in_both x (places_of (projected truths body)) (places_of body) (places_of (projected truths rest)) (places_of rest) (projected_in truths x body) (projected_in truths x rest)) h
projected_in truths x (Skip place rest) h = in_cons x place (places_of (projected truths rest)) (places_of rest) (projected_in truths x rest) h
projected_in truths x (Cond number p q rest) h =
    let side : Code = cond (slice_index_or truths number false) (projected truths p) (projected truths q) in
    subst (IsIn x) (append_assoc (places_of p) (places_of q) (places_of rest))
    (in_both x (places_of side) (places_of p ++ places_of q) (places_of (projected truths rest)) (places_of rest)
    (side_in x (slice_index_or truths number false) (projected truths p) (projected truths q) (places_of p) (places_of q) (projected_in truths x p) (projected_in truths x q))
    (projected_in truths x rest) (subst (IsIn x) (places_of-followed side (projected truths rest)) h))

-- a place of a variant is one of the family
pub variant_in : (truths : List Bool) (x : Place) (p : Whole) → IsIn x (program_places (projected_program truths p)) → IsIn x (program_places p)
variant_in truths x p h =
    in_both x (places_of (projected truths p.body)) (places_of p.body) (p.end ∷ []) (p.end ∷ []) (projected_in truths x p.body) (λ k. k) h

-- ---- places with an entry

both_true : (x y : Bool) → (x && y) ≡ true → (x ≡ true) × (y ≡ true)
both_true true y h = (refl, h)
both_true false y h = absurd (never h)

same_place : (a b : Place) → is_same_place a b ≡ true → a ≡ b
same_place a b h =
    let k = both_true (nat_eq a.line b.line) (nat_eq a.column b.column) h in
    ap (λ (n : ℕ). let x : Place = record { line = n; column = a.column } in x) (eqb-true a.line b.line k.0)
    ∙ ap (λ (n : ℕ). let x : Place = record { line = b.line; column = n } in x) (eqb-true a.column b.column k.1)

found_in : (es : List Entry) (x : Place) (e : Entry) → entry_in es x ≡ Some e → IsIn x (map place_of es)
unfolding place_of
found_in [] x e h = absurd (none-some e h)
found_in (f ∷ es) x e h =
    elim (is_same_place f.place x) as (λ b. is_same_place f.place x ≡ b → (if b then Some f else entry_in es x) ≡ Some e → IsIn x (map place_of (f ∷ es))) [
      | true ↦ λ i k. inl (same_place f.place x i)
      | false ↦ λ i k. inr (found_in es x e k)
    ] refl h

module _ (M : LeafMeaning) (o : Options) (p : Whole) (truths : List Bool) (d : LeafValue) where
  abbrev q : Whole
  q = projected_program truths p

  entry_there : (x : Place) (e : Entry) → entry_by M o.mode (final_heads M o) q d x ≡ Some e → IsIn x (program_places p)
  entry_there x e h =
      variant_in truths x p (in_left x (places_of q.body) (q.end ∷ [])
      (subst (IsIn x) (places_of_entries M o.mode (final_heads M o) q.body (enter d) (IsPlain-projected truths p.body)) (found_in (entries_of M o q.body (enter d)) x e h)))

  -- where there is an alarm, the place is the family's
  alarm_by : (x : Place) (kind : Kind) (found : Option Entry) → entry_by M o.mode (final_heads M o) q d x ≡ found → may_stop M o.mode found kind ≡ true → IsIn x (program_places p)
  alarm_by x kind None h k = absurd (never k)
  alarm_by x kind (Some e) h k = entry_there x e h

  pub alarm_there : (x : Place) (kind : Kind) → alarm_of M o q d x kind ≡ true → IsIn x (program_places p)
  alarm_there x kind h = alarm_by x kind (entry_by M o.mode (final_heads M o) q d x) refl h

  -- where the leaf holds a store, the place is the family's
  ends_by : LeafLaws M → (x : Place) (store : List ℤ) (b : Bool) → is_same_place q.end x ≡ b → M.holds (if b then end_of M (after_of M o q.body (enter d)) else nothing_of d.variables) store → IsIn x (program_places p)
  ends_by laws x store true e h = variant_in truths x p (in_right x (places_of q.body) (q.end ∷ []) (inl (same_place q.end x e)))
  ends_by laws x store false e h = absurd (laws.nothing_holds d.variables store h)

  leaf_by : LeafLaws M → (x : Place) (store : List ℤ) (found : Option Entry) → entry_by M o.mode (final_heads M o) q d x ≡ found
      → M.holds (leaf_or (if is_same_place q.end x then end_of M (after_of M o q.body (enter d)) else nothing_of d.variables) found) store → IsIn x (program_places p)
  leaf_by laws x store None e h = ends_by laws x store (is_same_place q.end x) refl h
  leaf_by laws x store (Some f) e h = entry_there x f e

  pub leaf_there : LeafLaws M → (x : Place) (store : List ℤ) → M.holds (at_of M o q d x) store → IsIn x (program_places p)
  leaf_there laws x store h = leaf_by laws x store (entry_by M o.mode (final_heads M o) q d x) refl h
