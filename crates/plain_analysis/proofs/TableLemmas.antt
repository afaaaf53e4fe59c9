-- Lists of entries, of each of which a fact holds.
use Rattle.std.proofs.Common.{◌≡◌, Bool, true, false, cond, List, [], ◌∷◌, Some, refl, subst}
use Rattle.std.specs.List.{AllByRecursion}
use Rattle.std.specs.Map.{lookup}
use Rattle.indexmap.specs.IndexMap.{insert_entry}

module _ {K X : Type 0} (P : K × X → Type 0) where
  abbrev Found : (K → Bool) → X → Type 0
  Found test v = (k : K) × P (k, v) × (test k ≡ true)

  found_head : (test : K → Bool) (d : K × X) (es : List (K × X)) (v : X) → P d → (lookup test es ≡ Some v → Found test v) → (b : Bool) → test d.0 ≡ b → cond b (Some d.1) (lookup test es) ≡ Some v → Found test v
  found_head test d es v p rest true t e = let same : d.1 ≡ v = cc in (d.0, subst (λ w. P (d.0, w)) same p, t)
  found_head test d es v p rest false t e = rest e

  -- what is found is of an entry whose key passes the test
  pub found_entry : (test : K → Bool) (es : List (K × X)) (v : X) → AllByRecursion P es → lookup test es ≡ Some v → (k : K) × P (k, v) × (test k ≡ true)
  found_entry test [] v h e = cc
  found_entry test (d ∷ es) v h e = found_head test d es v h.0 (found_entry test es v h.1) (test d.0) refl e

  inserted_head : (eq : K → K → Bool) (k : K) (v : X) (d : K × X) (es : List (K × X)) → P d → AllByRecursion P es → ((j : K) → eq k j ≡ true → P (j, v)) → AllByRecursion P (insert_entry eq es k v) → (b : Bool) → eq k d.0 ≡ b
      → AllByRecursion P (cond b ((d.0, v) ∷ es) (d ∷ insert_entry eq es k v))
  inserted_head eq k v d es p h same rest true t = (same d.0 t, h)
  inserted_head eq k v d es p h same rest false t = (p, rest)

  -- an entry of a new value, at a new key or at one that the key passes
  pub inserted_entry : (eq : K → K → Bool) (k : K) (v : X) (es : List (K × X)) → P (k, v) → ((j : K) → eq k j ≡ true → P (j, v)) → AllByRecursion P es → AllByRecursion P (insert_entry eq es k v)
  inserted_entry eq k v [] new same h = (new, tt)
  inserted_entry eq k v (d ∷ es) new same h = inserted_head eq k v d es h.0 h.1 same (inserted_entry eq k v es new same h.1) (eq k d.0) refl
