-- A forest with one more node.
use Rattle.std.proofs.Common.{slice_index_or, ◌≡◌, ◌≢◌, ℕ, ◌+◌, ◌<◌, ◌&&◌, Bool, true, false, cond, eqb, List, [], ◌∷◌, ◌++◌, length, slice_get, Some, None, refl, sym, ◌∙◌, ap, subst, inl, inr, arith, true≢false}
use Rattle.std.specs.Map.{lookup}
use Rattle.std.proofs.lemmas.Map.Entries.{place_from_lookup}
use Rattle.std.proofs.lemmas.Bool.Decides.{nat_tests, eqb_tells}
use Rattle.decision_tree.specs.Plain.{Plain, leaf, node, leaf_of, IsReducedFrom, IsNodeOf, TestsBelow}
use Rattle.decision_tree.proofs.Reduced.{lower_bound, below_of_made}
use Rattle.decision_tree.specs.declared.forest.Key.{Key}
use Rattle.decision_tree.specs.declared.forest.Key.TheVariants as key
use Rattle.decision_tree.specs.declared.tree.Tree.{Tree}
use Rattle.decision_tree.specs.Keys.{same_key}
use Rattle.decision_tree.specs.Numbered.{Numbered, kept, branch, erase, root}
use Rattle.decision_tree.specs.Listed.{StandsAt, IsListed, IsOf, IsTreeIn}
use Rattle.decision_tree.specs.View.{numbered}
use Rattle.decision_tree.specs.Entries.{IsEntry, trees, AreEntries}
use Rattle.decision_tree.proofs.Places.{mapped_at, absent_at, length-mapped}
use Rattle.decision_tree.proofs.Grows.{ChildrenListed, one_more, tree_of, listed_last, trees_more}

eqb_of : (a b : ℕ) → a ≡ b → eqb a b ≡ true
eqb_of a b e = grind (arith, nat_tests)

of_eqb : (a b : ℕ) → eqb a b ≡ true → a ≡ b
of_eqb a b e = elim (eqb_tells a b) [ inl h ↦ h.1 | inr h ↦ absurd (true≢false (sym e ∙ h.0)) ]

left_of : (x y : Bool) → (x && y) ≡ true → x ≡ true
left_of true y e = refl
left_of false y e = cc

right_of : (x y : Bool) → (x && y) ≡ true → y ≡ true
right_of true y e = e
right_of false y e = cc

all_true : (x y z : Bool) → x ≡ true → y ≡ true → z ≡ true → (x && (y && z)) ≡ true
all_true x y z e f g = cc

module _ {L : Type 0} where
  stands : (ts : List (Plain L)) (t : Numbered L) → IsListed ts t → StandsAt ts (root t) (erase t)
  stands ts (kept n x) h = h
  stands ts (branch n k low high) h = h.0

  abbrev pub Distinct : List (Plain L) → Type 0
  Distinct ts = (i j : ℕ) (t : Plain L) → slice_get ts i ≡ Some t → slice_get ts j ≡ Some t → i ≡ j

  pub same_root : (ts : List (Plain L)) (t u : Numbered L) → Distinct ts → IsListed ts t → IsListed ts u → erase t ≡ erase u → root t ≡ root u
  same_root ts t u d h i e =
      let a = stands ts t h in
      let b = stands ts u i in
      a.counted ∙ (ap (λ n. n + 1) (d a.place b.place (erase u) (a.there ∙ ap Some e) b.there) ∙ sym b.counted)

  pub same_tree : (ts : List (Plain L)) (t u : Numbered L) → IsListed ts t → IsListed ts u → root t ≡ root u → erase t ≡ erase u
  same_tree ts t u h i e =
      let a = stands ts t h in
      let b = stands ts u i in
      let place : a.place ≡ b.place = omega (arith, a.counted, b.counted, e) in
      let both : Some (erase t) ≡ Some (erase u) = sym a.there ∙ (ap (slice_get ts) place ∙ b.there) in
      cc

  -- the parts of a node's entry
  pub node_absent : (eq : L → L → Bool) (k : ℕ) (off on : Numbered L) (es : List (Key L × Tree L)) → AreEntries es → IsListed (trees es) off → IsListed (trees es) on → lookup (same_key eq (key.Node k (root off) (root on))) es ≡ None
      → (i : ℕ) → slice_get (trees es) i ≢ Some (node k (erase off) (erase on))
  node_absent eq k off on es ok hn hy none i there =
      let at = mapped_at tree_of es i (node k (erase off) (erase on)) there in
      let fails = absent_at (same_key eq (key.Node k (root off) (root on))) es i at.0 none at.1 in
      let by : (q : Key L) (t : Numbered L) → IsEntry (i + 1) q t → IsListed (trees es) t → erase t ≡ node k (erase off) (erase on) → same_key eq (key.Node k (root off) (root on)) q ≡ false → ⊥ =
      λ q. elim q as (λ p. (t : Numbered L) → IsEntry (i + 1) p t → IsListed (trees es) t → erase t ≡ node k (erase off) (erase on) → same_key eq (key.Node k (root off) (root on)) p ≡ false → ⊥) [
        | key.Leaf r ↦ λ t e l f g.
            let differ : leaf r.value.value ≡ node k (erase off) (erase on) = sym (ap erase e) ∙ f in cc
        | key.Node a b c ↦ λ t e l f g.
            let same : node a (erase e.0) (erase e.1) ≡ node k (erase off) (erase on) = sym (ap erase e.2) ∙ f in
            let listed = subst (IsListed (trees es)) e.2 l in
            let test : a ≡ k = cc in
            let low : erase e.0 ≡ erase off = cc in
            let high : erase e.1 ≡ erase on = cc in
            let first = same_root (trees es) off e.0 ok.distinct hn listed.1 (sym low) ∙ sym e.3 in
            let second = same_root (trees es) on e.1 ok.distinct hy listed.2 (sym high) ∙ sym e.4 in
            true≢false (sym (all_true (eqb k a) (eqb (root off) b) (eqb (root on) c) (eqb_of k a (sym test)) (eqb_of (root off) b first) (eqb_of (root on) c second)) ∙ g)
      ] in
      by at.0.0 (numbered at.0.1) (ok.keyed i at.0 at.1) (ok.listed i at.0 at.1) at.2 fails

  pub node_found : (eq : L → L → Bool) (k : ℕ) (off on : Numbered L) (es : List (Key L × Tree L)) (t : Tree L) → AreEntries es → IsListed (trees es) off → IsListed (trees es) on → lookup (same_key eq (key.Node k (root off) (root on))) es ≡ Some t
      → (erase (numbered t) ≡ node k (erase off) (erase on)) × IsListed (trees es) (numbered t)
  node_found eq k off on es t ok hn hy there =
      let at = place_from_lookup (same_key eq (key.Node k (root off) (root on))) es t there in
      let by : (q : Key L) (u : Numbered L) → IsEntry (at.0 + 1) q u → IsListed (trees es) u → same_key eq (key.Node k (root off) (root on)) q ≡ true → erase u ≡ node k (erase off) (erase on) =
      λ q. elim q as (λ p. (u : Numbered L) → IsEntry (at.0 + 1) p u → IsListed (trees es) u → same_key eq (key.Node k (root off) (root on)) p ≡ true → erase u ≡ node k (erase off) (erase on)) [
        | key.Leaf r ↦ λ u e l g. absurd (true≢false (sym g))
        | key.Node a b c ↦ λ u e l g.
            let listed = subst (IsListed (trees es)) e.2 l in
            let test : k ≡ a = of_eqb k a (left_of (eqb k a) (eqb (root off) b && eqb (root on) c) g) in
            let rest = right_of (eqb k a) (eqb (root off) b && eqb (root on) c) g in
            let first : root off ≡ b = of_eqb (root off) b (left_of (eqb (root off) b) (eqb (root on) c) rest) in
            let second : root on ≡ c = of_eqb (root on) c (right_of (eqb (root off) b) (eqb (root on) c) rest) in
            let low : erase e.0 ≡ erase off = same_tree (trees es) e.0 off listed.1 hn (sym e.3 ∙ sym first) in
            let high : erase e.1 ≡ erase on = same_tree (trees es) e.1 on listed.2 hy (sym e.4 ∙ sym second) in
            let shape : erase u ≡ node a (erase e.0) (erase e.1) = ap erase e.2 in
            cc
      ] in
      (by at.1 (numbered t) (ok.keyed at.0 (at.1, t) at.2) (ok.listed at.0 (at.1, t) at.2) at.3, ok.listed at.0 (at.1, t) at.2)

  pub differ_of_roots : (ts : List (Plain L)) (t u : Numbered L) → Distinct ts → IsListed ts t → IsListed ts u → root t ≢ root u → erase t ≢ erase u
  differ_of_roots ts t u d h i n e = n (same_root ts t u d h i e)

  pub node_added : (eq : L → L → Bool) (k : ℕ) (off on : Numbered L) (t : Tree L) (es fs : List (Key L × Tree L)) → AreEntries es → IsListed (trees es) off → IsListed (trees es) on → lookup (same_key eq (key.Node k (root off) (root on))) es ≡ None
      → numbered t ≡ branch (length es + 1) k off on → fs ≡ es ++ (key.Node k (root off) (root on), t) ∷ [] → AreEntries fs
  node_added eq k off on t es fs ok hn hy none is more =
      subst AreEntries (sym more) (one_more es (key.Node k (root off) (root on)) t ok (off, on, is, refl, refl) (subst (ChildrenListed (trees es)) (sym is) (hn, hy))
      (λ i there. node_absent eq k off on es ok hn hy none i (there ∙ ap (λ u. Some (erase u)) is)))

  pub new_node_listed : (es fs : List (Key L × Tree L)) (q : Key L) (t : Tree L) (k : ℕ) (off on u : Numbered L) → fs ≡ es ++ (q, t) ∷ [] → numbered t ≡ branch (length es + 1) k off on → IsListed (trees es) off → IsListed (trees es) on → u ≡ numbered t → IsListed (trees fs) u
  new_node_listed es fs q t k off on u e is hn hy same =
      subst (λ ts. IsListed ts u) (sym (trees_more es fs q t e)) (subst (λ n. IsListed (trees es ++ erase (numbered t) ∷ []) n) (sym same)
      (listed_last (trees es) (numbered t) (length es) (sym (length-mapped tree_of es)) (ap root is) (subst (ChildrenListed (trees es)) (sym is) (hn, hy))))

  pub node_added_at : (eq : L → L → Bool) (k a b : ℕ) (off on : Numbered L) (t : Tree L) (es fs : List (Key L × Tree L)) → AreEntries es → IsListed (trees es) off → IsListed (trees es) on → a ≡ root off → b ≡ root on
      → lookup (same_key eq (key.Node k (root off) (root on))) es ≡ None → numbered t ≡ branch (length es + 1) k off on → fs ≡ es ++ (key.Node k a b, t) ∷ [] → AreEntries fs
  node_added_at eq k a b off on t es fs ok hn hy e f none is more =
      node_added eq k off on t es fs ok hn hy none is (more ∙ (ap (λ i. es ++ (key.Node k i b, t) ∷ []) e ∙ ap (λ i. es ++ (key.Node k (root off) i, t) ∷ []) f))

  pub grown : (es fs : List (Key L × Tree L)) (q : Key L) (t : Tree L) (v : List (Plain L)) → fs ≡ es ++ (q, t) ∷ [] → trees es ≡ v → (more : List (Plain L)) × (trees fs ≡ v ++ more)
  grown es fs q t v e f = (erase (numbered t) ∷ [], trees_more es fs q t e ∙ ap (λ ts. ts ++ erase (numbered t) ∷ []) f)

  pub reduced_of_made : (k : ℕ) (low high t : Plain L) → IsReducedFrom (k + 1) low → IsReducedFrom (k + 1) high → IsNodeOf k low high t → IsReducedFrom k t
  reduced_of_made k low high t r s (inl h) = subst (IsReducedFrom k) (sym h.1) (lower_bound low (k + 1) k (omega arith) r)
  reduced_of_made k low high t r s (inr h) = subst (IsReducedFrom k) (sym h.1) (omega arith, h.0, r, s)

  same_sides : (b : Bool) (x y : L) → x ≡ y → x ≡ cond b y x
  same_sides true x y e = e
  same_sides false x y e = refl

  pub leads_of_made : (k : ℕ) (low high t : Plain L) → IsNodeOf k low high t → (v : List Bool) → leaf_of t v ≡ leaf_of (node k low high) v
  leads_of_made k low high t (inl h) v = ap (λ u. leaf_of u v) h.1 ∙ same_sides (slice_index_or v k false) (leaf_of low v) (leaf_of high v) (ap (λ u. leaf_of u v) h.0)
  leads_of_made k low high t (inr h) v = ap (λ u. leaf_of u v) h.1

  -- the tree that is made of a test and two trees of a forest
  pub tree_made : (k : ℕ) (before after : List (Plain L)) (off on t : Numbered L) → k < 320 → IsTreeIn (k + 1) 320 before off → IsTreeIn (k + 1) 320 before on → IsNodeOf k (erase off) (erase on) (erase t) → IsOf after t → IsTreeIn k 320 after t
  tree_made k before after off on t small no_tree yes_tree made own = record {
    reduced = reduced_of_made k (erase off) (erase on) (erase t) no_tree.reduced yes_tree.reduced made;
    small = below_of_made 320 k (erase off) (erase on) (erase t) made small no_tree.small yes_tree.small;
    own = own;
  }

  -- where both children are equal, it is the first
  pub tree_of_equal : (k : ℕ) (forest : List (Plain L)) (off t : Numbered L) → t ≡ off → IsTreeIn (k + 1) 320 forest off → IsTreeIn k 320 forest t
  tree_of_equal k forest off t e h = subst (IsTreeIn k 320 forest) (sym e) (record { reduced = lower_bound (erase off) (k + 1) k (omega arith) h.reduced; small = h.small; own = h.own })

  -- a leaf that a forest has is a tree in it, with any bounds
  pub leaf_tree : (first bound : ℕ) (forest : List (Plain L)) (t : Numbered L) (x : L) → erase t ≡ leaf x → IsOf forest t → IsTreeIn first bound forest t
  leaf_tree first bound forest t x e own = record {
    reduced = subst (IsReducedFrom first) (sym e) tt;
    small = subst (TestsBelow bound) (sym e) tt;
    own = own;
  }
