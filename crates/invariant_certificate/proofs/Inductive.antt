-- Where each place has an inductive loop, all loops are inductive.
use Rattle.std.proofs.Common.{◌≡◌, Bool, true, false, List, [], ◌∷◌, map, if◌then◌else◌, refl, ap, sym, subst, ◌∙◌, inl, inr, arith}
use Rattle.std.specs.Prelude.{IsTrue}
use Rattle.std.specs.List.{AllByRecursion}
use Rattle.fam_outer.specs.declared.faults.Place.{Place}
use Rattle.fam_outer.specs.Places.{is_before}
use Rattle.c_tree.specs.Whole.{IsBeforeAll, IsRising}
use Rattle.leaf_domain.specs.Leaves.{LeafMeaning}
use Rattle.lifted_analysis.specs.Turns.{Turn, is_inductive, inductive_in}
use Rattle.plain_analysis.specs.Places.{is_same_place}
use Rattle.plain_analysis.proofs.Located.{same_place_self}
use Rattle.invariant_certificate.proofs.Looped.{turn_place}
use Rattle.invariant_certificate.proofs.Sublists.{IsIn}

before_other : (a b : Place) → IsTrue (is_before a b) → is_same_place a b ≡ false
before_other a b h = grind arith

before_in : (p q : Place) (ps : List Place) → IsBeforeAll p ps → IsIn q ps → is_same_place p q ≡ false
before_in p q [] b i = absurd i
before_in p q (x ∷ ps) b (inl e) = subst (λ y. is_same_place p y ≡ false) e (before_other p x b.0)
before_in p q (x ∷ ps) b (inr i) = before_in p q ps b.1 i

module _ (M : LeafMeaning) where
  pub all_inductive : (ts : List Turn) → IsRising (map turn_place ts) → ((q : Place) → IsIn q (map turn_place ts) → inductive_in M ts q ≡ true)
      → AllByRecursion (λ (t : Turn). is_inductive M t ≡ true) ts
  all_inductive [] r h = tt
  all_inductive (t ∷ ts) r h =
      let here : is_inductive M t ≡ true = sym (ap (λ (b : Bool). if b then is_inductive M t else inductive_in M ts t.place) (same_place_self t.place)) ∙ h t.place (inl refl) in (
        here,
        all_inductive ts r.1 (λ q i.
            sym (ap (λ (b : Bool). if b then is_inductive M t else inductive_in M ts q) (before_in t.place q (map turn_place ts) r.0 i)) ∙ h q (inr i)),
      )
