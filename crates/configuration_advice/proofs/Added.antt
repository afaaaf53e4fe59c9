-- One more answer behind others.
use Rattle.std.proofs.Common.{◌≡◌, ℕ, zero, suc, ◌⊎◌, inl, inr, List, [], ◌∷◌, ◌++◌, length, Some, sym, ap, subst, refl}
use Rattle.std.specs.Prelude.{slice_get}
use Rattle.linear_atoms.specs.declared.atoms.Feature.{Feature}
use Rattle.cpp_conditions.specs.declared.models.Model.{Model}
use Rattle.configuration_advice.specs.declared.feature_uses.FeatureUse.{FeatureUse}
use Rattle.configuration_advice.specs.Uses.{IsUse}

-- each answer is that of the feature at its place
abbrev pub AreSoFar : Model → List Feature → List FeatureUse → Type 0
AreSoFar model features uses = (n : ℕ) (f : Feature) (u : FeatureUse) → slice_get features n ≡ Some f → slice_get uses n ≡ Some u → IsUse model n f u

last_or : (us : List FeatureUse) (u w : FeatureUse) (n : ℕ) → slice_get (us ++ u ∷ []) n ≡ Some w → (slice_get us n ≡ Some w) ⊎ ((n ≡ length us) × (u ≡ w))
last_or [] u w zero e = inr (refl, cc)
last_or [] u w (suc n) e = absurd (cc)
last_or (x ∷ us) u w zero e = inl e
last_or (x ∷ us) u w (suc n) e = elim (last_or us u w n e) [ inl p ↦ inl p | inr q ↦ inr (ap suc q.0, q.1) ]

same_feature : (fs : List Feature) (f g : Feature) (m n : ℕ) → n ≡ m → slice_get fs m ≡ Some f → slice_get fs n ≡ Some g → f ≡ g
same_feature fs f g m n e h k = let p = ap (slice_get fs) e in cc

pub added : (model : Model) (fs : List Feature) (us more : List FeatureUse) (f : Feature) (u : FeatureUse) → AreSoFar model fs us → more ≡ us ++ u ∷ [] → slice_get fs (length us) ≡ Some f → IsUse model (length us) f u → AreSoFar model fs more
added model fs us more f u h e k m n g w a b =
    elim (last_or us u w n (subst (λ x. slice_get x n ≡ Some w) e b)) [
      | inl p ↦ h n g w a p
      | inr q ↦ subst (λ x. IsUse model x g w) (sym q.0) (subst (λ x. IsUse model (length us) x w) (same_feature fs f g (length us) n q.0 k a) (subst (λ x. IsUse model (length us) f x) q.1 m))
    ]
