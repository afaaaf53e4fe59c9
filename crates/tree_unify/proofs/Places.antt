-- Places in lists of entries.
use Rattle.std.proofs.Common.{◌≡◌, ◌⊎◌, ℕ, zero, suc, Bool, true, false, cond, List, [], ◌∷◌, ◌++◌, slice_get, Some, None, refl, sym, ◌∙◌, ap, inl, inr}
use Rattle.std.specs.Map.{lookup, keys_of}
use Rattle.indexmap.specs.IndexMap.{insert_entry}
use Rattle.decision_tree.proofs.Places.{map-push}

module _ {K X : Type 0} (eq : K → K → Bool) (k : K) (v : X) where
  abbrev Before : List (K × X) → K × X → Type 0
  Before es e = (j : ℕ) → slice_get (insert_entry eq es k v) j ≡ Some e → (slice_get es j ≡ Some e) ⊎ ((eq k e.0 ≡ true) × (e.1 ≡ v))

  before_head : (d : K × X) (es : List (K × X)) (e : K × X) (b : Bool) → eq k d.0 ≡ b → Before es e → (j : ℕ) → slice_get (cond b ((d.0, v) ∷ es) (d ∷ insert_entry eq es k v)) j ≡ Some e → (slice_get (d ∷ es) j ≡ Some e) ⊎ ((eq k e.0 ≡ true) × (e.1 ≡ v))
  before_head d es e true t rest zero p = let same : (d.0, v) ≡ e = cc in inr (ap (λ c. eq k c.0) (sym same) ∙ t, ap (λ c. c.1) (sym same))
  before_head d es e true t rest (suc j) p = inl p
  before_head d es e false t rest zero p = inl p
  before_head d es e false t rest (suc j) p = rest j p

  -- an entry after an insertion was there before, or has the new value at a key that the new key passes
  pub inserted_at : (es : List (K × X)) (e : K × X) → eq k k ≡ true → Before es e
  inserted_at [] e h zero g = let same : (k, v) ≡ e = cc in inr (ap (λ d. eq k d.0) (sym same) ∙ h, ap (λ d. d.1) (sym same))
  inserted_at [] e h (suc i) g = cc
  inserted_at (d ∷ es) e h i g = before_head d es e (eq k d.0) refl (inserted_at es e h) i g

  last_head : (d : K × X) (es : List (K × X)) (b : Bool) → (lookup (eq k) es ≡ None → insert_entry eq es k v ≡ es ++ (k, v) ∷ []) → cond b (Some d.1) (lookup (eq k) es) ≡ None → cond b ((d.0, v) ∷ es) (d ∷ insert_entry eq es k v) ≡ d ∷ (es ++ (k, v) ∷ [])
  last_head d es true rest p = cc
  last_head d es false rest p = ap (λ r. d ∷ r) (rest p)

  -- a new key goes last
  pub inserted_last : (es : List (K × X)) → lookup (eq k) es ≡ None → insert_entry eq es k v ≡ es ++ (k, v) ∷ []
  inserted_last [] h = refl
  inserted_last (d ∷ es) h = last_head d es (eq k d.0) (inserted_last es) h

pub keys_pushed : {K X : Type 0} (es : List (K × X)) (k : K) (v : X) → keys_of (es ++ (k, v) ∷ []) ≡ keys_of es ++ k ∷ []
keys_pushed {K} {X} es k v = map-push {X = K × X} {Y = K} (λ e. e.0) es (k, v)
