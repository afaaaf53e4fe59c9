-- Functions that agree are told by one tree.
use Rattle.std.proofs.Common.{◌≡◌, ℕ, Bool, true, false, List, [], ◌∷◌, sym, ap₂, subst, ◌∙◌, inl, inr}
use Rattle.linear_atoms.specs.declared.regions.Regions.{Regions}
use Rattle.linear_atoms.specs.declared.regions.Regions.TheVariants.{Paths, Merged}
use Rattle.cpp_conditions.specs.Propositions.{Proposition, true_on}
use Rattle.decision_tree.specs.Plain.{Plain, leaf, node, IsNodeOf}
use Rattle.decision_tree.proofs.Canon.{same_from_agreeing}
use Rattle.lifted_analysis.specs.Canon.{IsTreeOf}
use Rattle.tree_restrict.specs.Restricted.{is_false, never, afters}
use Rattle.merged_findings.specs.Merged.{IsMergedTree}
use Rattle.merged_findings.specs.Restricting.{IsLeft, IsRestrictedBy, IsOwn, IsRestrictedTo}
use Rattle.famlint_families.specs.Told.{IsToldTree}

module _ {A : Type 0} where
  one_tree : (m : ℕ) (f g : List Bool → A) → ((v : List Bool) → f v ≡ g v) → (t u : Plain A) → IsTreeOf m f t → IsTreeOf m g u → t ≡ u
  one_tree m f g same t u h k = same_from_agreeing t u m h.reduced k.reduced h.tests k.tests (λ v long. h.leads v long ∙ (same v ∙ sym (k.leads v long)))

  -- ---- restricted trees

  one_node : (test : ℕ) (low high p q t u : Plain A) → low ≡ p → high ≡ q → IsNodeOf test low high t → IsNodeOf test p q u → t ≡ u
  one_node test low high p q t u e f (inl h) (inl k) = h.1 ∙ (e ∙ sym k.1)
  one_node test low high p q t u e f (inl h) (inr k) = absurd (k.0 (sym e ∙ (h.0 ∙ f)))
  one_node test low high p q t u e f (inr h) (inl k) = absurd (h.0 (e ∙ (k.0 ∙ sym f)))
  one_node test low high p q t u e f (inr h) (inr k) = h.1 ∙ (ap₂ (λ (x y : Plain A). node test x y) e f ∙ sym k.1)

  one_left : (test : ℕ) (n y : Bool) (No Yes : Plain A → Type 0) → ((p q : Plain A) → No p → No q → p ≡ q) → ((p q : Plain A) → Yes p → Yes q → p ≡ q)
      → (t u : Plain A) → IsLeft test n y No Yes t → IsLeft test n y No Yes u → t ≡ u
  one_left test true y No Yes one_no one_yes t u h k = one_yes t u h k
  one_left test false true No Yes one_no one_yes t u h k = one_no t u h k
  one_left test false false No Yes one_no one_yes t u (low, high, lows, highs, made) (p, q, ps, qs, other) =
      one_node test low high p q t u (one_no low p lows ps) (one_yes high q highs qs) made other

  one_restricted : (whole : Plain A) (cs : List (Plain Bool)) (t u : Plain A) → IsRestrictedBy whole cs t → IsRestrictedBy whole cs u → t ≡ u
  one_restricted (leaf x) cs t u h k = h ∙ sym k
  one_restricted (node test low high) cs t u h k =
      one_left test (never (afters test false cs)) (never (afters test true cs)) (IsRestrictedBy low (afters test false cs)) (IsRestrictedBy high (afters test true cs))
      (one_restricted low (afters test false cs)) (one_restricted high (afters test true cs)) t u h k

  one_own : (b : Bool) (whole : Plain A) (cs : List (Plain Bool)) (t u : Plain A) → IsOwn b whole cs t → IsOwn b whole cs u → t ≡ u
  one_own true whole cs t u h k = h ∙ sym k
  one_own false whole cs t u h k = one_restricted whole cs t u h k

-- ---- what is told

module _ {A : Type 0} (m : ℕ) (f g : List Bool → A) (p q : Proposition ℕ) (same : (v : List Bool) → f v ≡ g v) (plausible : (v : List Bool) → true_on v p ≡ true_on v q) where
  one_merged : (t u : Plain A) → IsMergedTree m f p t → IsMergedTree m g q u → t ≡ u
  one_merged t u h k =
      let whole : h.whole ≡ k.whole = one_tree m f g same h.whole k.whole h.whole_is k.whole_is in
      let care : h.care ≡ k.care = one_tree m (λ v. true_on v p) (λ v. true_on v q) plausible h.care k.care h.care_is k.care_is in
      one_own (is_false k.care) k.whole (k.care ∷ []) t u
      (subst (λ (x : Plain A). IsRestrictedTo x k.care t) whole (subst (λ (c : Plain Bool). IsRestrictedTo h.whole c t) care h.merged)) k.merged

  pub one_told : (r : Regions) (t u : Plain A) → IsToldTree r m f p t → IsToldTree r m g q u → t ≡ u
  one_told Paths t u h k = one_tree m f g same t u h k
  one_told Merged t u h k = one_merged t u h k
