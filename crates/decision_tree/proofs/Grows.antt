-- A forest with one more entry.
use Rattle.std.proofs.Common.{◌≡◌, ◌≢◌, ℕ, ◌+◌, Bool, true, false, List, [], ◌∷◌, ◌++◌, length, slice_get, Some, None, refl, sym, ◌∙◌, ap, subst, inl, inr, true≢false}
use Rattle.std.specs.Map.{lookup}
use Rattle.std.proofs.lemmas.Map.Entries.{place_from_lookup}
use Rattle.decision_tree.specs.Plain.{Plain, leaf, node, IsExact}
use Rattle.decision_tree.specs.declared.forest.Key.{Key}
use Rattle.decision_tree.specs.declared.forest.Key.TheVariants as key
use Rattle.decision_tree.specs.declared.tree.Tree.{Tree}
use Rattle.decision_tree.specs.declared.tree.Kept.{Kept}
use Rattle.std.specs.declared.rc.Rc.{Rc}
use Rattle.std.specs.declared.alloc.Global.{Global}
use Rattle.decision_tree.specs.Numbered.{Numbered, kept, branch, erase, root}
use Rattle.decision_tree.specs.Listed.{IsListed, Keeps}
use Rattle.decision_tree.specs.View.{numbered}
use Rattle.decision_tree.specs.Keys.{same_key}
use Rattle.decision_tree.specs.Entries.{IsEntry, trees, AreEntries}
use Rattle.decision_tree.proofs.Places.{kept_at, last_at, pushed_at, map-push, mapped_at, length-mapped, absent_at}

module _ {L : Type 0} where
  abbrev pub tree_of : Key L × Tree L → Plain L
  tree_of e = erase (numbered e.1)

  pub listed_more : (ts more : List (Plain L)) (t : Numbered L) → IsListed ts t → IsListed (ts ++ more) t
  listed_more ts more (kept n x) h = record { place = h.place; counted = h.counted; there = kept_at ts more h.place (leaf x) h.there }
  listed_more ts more (branch n k low high) h =
      (record { place = h.0.place; counted = h.0.counted; there = kept_at ts more h.0.place (node k (erase low) (erase high)) h.0.there }, listed_more ts more low h.1, listed_more ts more high h.2)

  -- the children stand in the list
  abbrev pub ChildrenListed : List (Plain L) → Numbered L → Type 0
  ChildrenListed ts (kept n x) = Unit {0}
  ChildrenListed ts (branch n k low high) = IsListed ts low × IsListed ts high

  pub listed_last : (ts : List (Plain L)) (t : Numbered L) (n : ℕ) → n ≡ length ts → root t ≡ n + 1 → ChildrenListed ts t → IsListed (ts ++ erase t ∷ []) t
  listed_last ts (kept m x) n e r h = record { place = length ts; counted = r ∙ ap (λ i. i + 1) e; there = last_at ts (leaf x) }
  listed_last ts (branch m k low high) n e r h =
      (record { place = length ts; counted = r ∙ ap (λ i. i + 1) e; there = last_at ts (node k (erase low) (erase high)) }, listed_more ts _ low h.0, listed_more ts _ high h.1)

  entry_root : (n : ℕ) (k : Key L) (t : Numbered L) → IsEntry n k t → root t ≡ n
  entry_root n (key.Leaf r) t h = ap root h
  entry_root n (key.Node a b c) t h = ap root h.2

  -- one more entry, whose tree is new
  pub one_more : (es : List (Key L × Tree L)) (k : Key L) (t : Tree L) → AreEntries es → IsEntry (length es + 1) k (numbered t) → ChildrenListed (trees es) (numbered t) → ((i : ℕ) → slice_get (trees es) i ≢ Some (erase (numbered t)))
      → AreEntries (es ++ (k, t) ∷ [])
  one_more es k t h entry children new =
      let more : trees (es ++ (k, t) ∷ []) ≡ trees es ++ erase (numbered t) ∷ [] = map-push tree_of es (k, t) in
      record {
        keyed = λ i e g. elim (pushed_at es (k, t) i e g) [
          | inl a ↦ h.keyed i e a
          | inr b ↦ subst (λ j. IsEntry (j + 1) e.0 (numbered e.1)) (sym b.0) (subst (λ d. IsEntry (length es + 1) d.0 (numbered d.1)) (sym b.1) entry)
        ];
        listed = λ i e g. subst (λ ts. IsListed ts (numbered e.1)) (sym more) (elim (pushed_at es (k, t) i e g) [
          | inl a ↦ listed_more (trees es) (erase (numbered t) ∷ []) (numbered e.1) (h.listed i e a)
          | inr b ↦ subst (λ d. IsListed (trees es ++ erase (numbered t) ∷ []) (numbered d.1)) (sym b.1)
              (listed_last (trees es) (numbered t) (length es) (sym (length-mapped tree_of es)) (entry_root (length es + 1) k (numbered t) entry) children)
        ]);
        distinct = λ i j u a b.
            let p = subst (λ ts. slice_get ts i ≡ Some u) more a in
            let q = subst (λ ts. slice_get ts j ≡ Some u) more b in
            elim (pushed_at (trees es) (erase (numbered t)) i u p) [
              | inl c ↦ elim (pushed_at (trees es) (erase (numbered t)) j u q) [
                | inl d ↦ h.distinct i j u c d
                | inr d ↦ absurd (new i (c ∙ ap Some d.1))
              ]
              | inr c ↦ elim (pushed_at (trees es) (erase (numbered t)) j u q) [
                | inl d ↦ absurd (new j (d ∙ ap Some c.1))
                | inr d ↦ c.0 ∙ sym d.0
              ]
            ];
      }

  abbrev pub same_leaf : (L → L → Bool) → L → Key L → Bool
  same_leaf eq x (key.Leaf r) = eq x r.value.value
  same_leaf eq x (key.Node a b c) = false

  -- a leaf whose value no key has is new
  pub leaf_absent : (eq : L → L → Bool) (x : L) (test : Key L → Bool) (es : List (Key L × Tree L)) → eq x x ≡ true → ((r : _) → test (key.Leaf r) ≡ eq x r.value.value) → AreEntries es → lookup test es ≡ None → (i : ℕ) → slice_get (trees es) i ≢ Some (leaf x)
  leaf_absent eq x test es same h ok none i there =
      let at = mapped_at tree_of es i (leaf x) there in
      let no = absent_at test es i at.0 none at.1 in
      let by : (k : Key L) (t : Numbered L) → IsEntry (i + 1) k t → erase t ≡ leaf x → test k ≡ false → ⊥ =
      λ k. elim k as (λ q. (t : Numbered L) → IsEntry (i + 1) q t → erase t ≡ leaf x → test q ≡ false → ⊥) [
        | key.Leaf r ↦ λ t e f g.
            let same_value : leaf r.value.value ≡ leaf x = sym (ap erase e) ∙ f in
            let value : r.value.value ≡ x = cc in
            true≢false (sym same ∙ (ap (eq x) (sym value) ∙ (sym (h r) ∙ g)))
        | key.Node a b c ↦ λ t e f g.
            let differ : node a (erase e.0) (erase e.1) ≡ leaf x = sym (ap erase e.2) ∙ f in cc
      ] in
      by at.0.0 (numbered at.0.1) (ok.keyed i at.0 at.1) at.2 no

  -- and one that a key has is there
  pub leaf_found : (eq : L → L → Bool) (x : L) (test : Key L → Bool) (es : List (Key L × Tree L)) (t : Tree L) → IsExact eq → ((r : _) → test (key.Leaf r) ≡ eq x r.value.value) → ((a b c : ℕ) → test (key.Node a b c) ≡ false) → AreEntries es → lookup test es ≡ Some t
      → (erase (numbered t) ≡ leaf x) × IsListed (trees es) (numbered t)
  leaf_found eq x test es t exact h other ok there =
      let at = place_from_lookup test es t there in
      let by : (k : Key L) (u : Numbered L) → IsEntry (at.0 + 1) k u → test k ≡ true → erase u ≡ leaf x =
      λ k. elim k as (λ q. (u : Numbered L) → IsEntry (at.0 + 1) q u → test q ≡ true → erase u ≡ leaf x) [
        | key.Leaf r ↦ λ u e g. ap erase e ∙ ap leaf (sym (exact x r.value.value (sym (h r) ∙ g)))
        | key.Node a b c ↦ λ u e g. absurd (true≢false (sym g ∙ other a b c))
      ] in
      (by at.1 (numbered t) (ok.keyed at.0 (at.1, t) at.2) at.3, ok.listed at.0 (at.1, t) at.2)

  -- the forest of a new leaf
  pub leaf_added : (eq : L → L → Bool) (x : L) (k : Key L) (t : Tree L) (es fs : List (Key L × Tree L)) → eq x x ≡ true → AreEntries es → lookup (same_key eq k) es ≡ None → ((i : Key L) → same_key eq k i ≡ same_leaf eq x i) → IsEntry (length es + 1) k (numbered t) → numbered t ≡ kept (length es + 1) x → fs ≡ es ++ (k, t) ∷ []
      → AreEntries fs
  leaf_added eq x k t es fs same ok none keyed entry is more =
      subst AreEntries (sym more) (one_more es k t ok entry (subst (ChildrenListed (trees es)) (sym is) tt)
      (λ i there. leaf_absent eq x (same_key eq k) es same (λ r. keyed (key.Leaf r)) ok none i (there ∙ ap (λ u. Some (erase u)) is)))

  pub keys_of_leaf : (eq : L → L → Bool) (r : Rc (Kept L) Global) (x : L) → r.value.value ≡ x → (i : Key L) → same_key eq (key.Leaf r) i ≡ same_leaf eq x i
  keys_of_leaf eq r x e (key.Leaf q) = ap (λ y. eq y q.value.value) e
  keys_of_leaf eq r x e (key.Node a b c) = refl

  -- what a known leaf is
  pub known_leaf : (eq : L → L → Bool) (r : Rc (Kept L) Global) (x : L) (es : List (Key L × Tree L)) (t : Tree L) → IsExact eq → r.value.value ≡ x → AreEntries es → lookup (same_key eq (key.Leaf r)) es ≡ Some t → (erase (numbered t) ≡ leaf x) × IsListed (trees es) (numbered t)
  known_leaf eq r x es t exact e ok there =
      leaf_found eq x (same_key eq (key.Leaf r)) es t exact (λ q. keys_of_leaf eq r x e (key.Leaf q)) (λ a b c. refl) ok there

  -- the last entry's tree is listed
  pub last_listed : (es fs : List (Key L × Tree L)) (k : Key L) (t : Tree L) → fs ≡ es ++ (k, t) ∷ [] → AreEntries fs → IsListed (trees fs) (numbered t)
  last_listed es fs k t e ok = ok.listed (length es) (k, t) (subst (λ s. slice_get s (length es) ≡ Some (k, t)) (sym e) (last_at es (k, t)))

  pub trees_more : (es fs : List (Key L × Tree L)) (k : Key L) (t : Tree L) → fs ≡ es ++ (k, t) ∷ [] → trees fs ≡ trees es ++ erase (numbered t) ∷ []
  trees_more es fs k t e = ap trees e ∙ map-push tree_of es (k, t)

  pub new_listed : (es fs : List (Key L × Tree L)) (k : Key L) (t : Tree L) (x : L) (u : Numbered L) → fs ≡ es ++ (k, t) ∷ [] → numbered t ≡ kept (length es + 1) x → u ≡ numbered t → IsListed (trees fs) u
  new_listed es fs k t x u e is same =
      subst (λ ts. IsListed ts u) (sym (trees_more es fs k t e)) (subst (λ n. IsListed (trees es ++ erase (numbered t) ∷ []) n) (sym same)
      (listed_last (trees es) (numbered t) (length es) (sym (length-mapped tree_of es)) (ap root is) (subst (ChildrenListed (trees es)) (sym is) tt)))

  -- a forest with one more entry keeps all that it had
  pub keeps_more : (es fs : List (Key L × Tree L)) (k : Key L) (t : Tree L) (v : List (Plain L)) → fs ≡ es ++ (k, t) ∷ [] → trees es ≡ v → AreEntries fs → Keeps v (trees fs)
  keeps_more es fs k t v e f ok =
      let begins : trees fs ≡ v ++ erase (numbered t) ∷ [] = trees_more es fs k t e ∙ ap (λ ts. ts ++ erase (numbered t) ∷ []) f in
      record {
        more = erase (numbered t) ∷ [];
        begins = begins;
        stay = λ u h. record { listed = subst (λ ts. IsListed ts u) (sym begins) (listed_more v (erase (numbered t) ∷ []) u h.listed); distinct = ok.distinct };
      }
