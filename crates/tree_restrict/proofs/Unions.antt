-- The union of two trees of a forest, and the sides of one.
use Rattle.std.proofs.Common.{◌≡◌, ◌⊎◌, ◌↔◌, ℕ, ◌+◌, ◌<◌, ◌≤◌, ◌-◌, Bool, true, false, cond, ◌||◌, ◌==◌, List, [], ◌∷◌, map, refl, sym, ◌∙◌, ap, subst, inl, inr, arith, true≢false, Result, Ok, Err, IfOk}
use Rattle.std.specs.List.{range_with_len, Contains}
use Rattle.decision_tree.specs.declared.tree.Tree.{Tree}
use Rattle.decision_tree.specs.Plain.{Plain, leaf, node, leaf_of, HasTest, IsReducedFrom, IsReduced, TestsBelow}
use Rattle.decision_tree.specs.Numbered.{Numbered, branch, erase}
use Rattle.decision_tree.specs.Listed.{IsTreeIn}
use Rattle.decision_tree.specs.View.{plain}
use Rattle.decision_tree.proofs.Assigned.{value_at, leaf_of-assigned}
use Rattle.decision_tree.proofs.Reduced.{lower_bound}
use Rattle.tree_unify.specs.Leafwise.{IsUnified, TestsAreOfEither}
use Rattle.tree_unify.specs.Leaves.{HoldsLeaves}
use Rattle.tree_unify.specs.Sides.{first_of, side_of, node_count}
use Rattle.tree_restrict.proofs.Holding.{Alike}
use Rattle.tree_restrict.specs.Reached.{IsUnionOf, IsReached, itself, low_side, high_side, union}

module _ {L : Type 0} where
  -- a tree with each test from m on
  pub test_from : (t : Plain L) (m k : ℕ) → IsReducedFrom m t → HasTest k t → m ≤ k
  test_from (leaf x) m k r w = absurd w
  test_from (node j l h) m k r (inl e) = omega (arith, r.0)
  test_from (node j l h) m k r (inr (inl w)) = omega (arith, r.0, test_from l (j + 1) k r.2 w)
  test_from (node j l h) m k r (inr (inr w)) = omega (arith, r.0, test_from h (j + 1) k r.3 w)

  pub raised : (t : Plain L) (m : ℕ) → IsReduced t → ((k : ℕ) → HasTest k t → m ≤ k) → IsReducedFrom m t
  raised (leaf x) m r h = tt
  raised (node j l h) m r from = (from j (inl refl), r.1, r.2, r.3)

  -- the children of a tree of a forest
  pub low_tree : (first n k : ℕ) (forest : List (Plain L)) (low high : Numbered L) → IsTreeIn first 320 forest (branch n k low high) → IsTreeIn (k + 1) 320 forest low
  low_tree first n k forest low high h = record { reduced = h.reduced.2; small = h.small.1; own = record { listed = h.own.listed.1; distinct = h.own.distinct } }

  pub high_tree : (first n k : ℕ) (forest : List (Plain L)) (low high : Numbered L) → IsTreeIn first 320 forest (branch n k low high) → IsTreeIn (k + 1) 320 forest high
  high_tree first n k forest low high h = record { reduced = h.reduced.3; small = h.small.2; own = record { listed = h.own.listed.2; distinct = h.own.distinct } }

  pub lowered : (first : ℕ) (forest : List (Plain L)) (t : Numbered L) → IsTreeIn first 320 forest t → IsTreeIn 0 320 forest t
  lowered first forest t h = record { reduced = lower_bound (erase t) first 0 (omega arith) h.reduced; small = h.small; own = h.own }

  pub low_child : (first n k : ℕ) (forest : List (Plain L)) (t low high : Numbered L) → t ≡ branch n k low high → IsTreeIn first 320 forest t → IsTreeIn (k + 1) 320 forest low
  low_child first n k forest t low high e h = low_tree first n k forest low high (subst (IsTreeIn first 320 forest) e h)

  pub high_child : (first n k : ℕ) (forest : List (Plain L)) (t low high : Numbered L) → t ≡ branch n k low high → IsTreeIn first 320 forest t → IsTreeIn (k + 1) 320 forest high
  high_child first n k forest t low high e h = high_tree first n k forest low high (subst (IsTreeIn first 320 forest) e h)

  pub low_part : (first n k : ℕ) (forest : List (Plain L)) (t low high : Numbered L) → t ≡ branch n k low high → IsTreeIn first 320 forest t → IsTreeIn 0 320 forest low
  low_part first n k forest t low high e h = lowered (k + 1) forest low (low_tree first n k forest low high (subst (IsTreeIn first 320 forest) e h))

  pub high_part : (first n k : ℕ) (forest : List (Plain L)) (t low high : Numbered L) → t ≡ branch n k low high → IsTreeIn first 320 forest t → IsTreeIn 0 320 forest high
  high_part first n k forest t low high e h = lowered (k + 1) forest high (high_tree first n k forest low high (subst (IsTreeIn first 320 forest) e h))

true_or : (x y z : Bool) → z ≡ (x || y) → (z ≡ true) ↔ ((x ≡ true) ⊎ (y ≡ true))
true_or true y z e = (λ _. inl refl, λ _. e)
true_or false y z e = (λ t. inr (sym e ∙ t), λ w. elim w [ inl f ↦ absurd (true≢false (sym f)) | inr t ↦ e ∙ t ])

-- the union, in terms of assignments
pub union_alike : (p q u : Plain Bool) → TestsBelow 320 p → TestsBelow 320 q → TestsBelow 320 u → IsUnified (λ a b c. c ≡ (a || b)) p q u → Alike (u ∷ []) (p ∷ q ∷ [])
union_alike p q u bp bq bu h f =
    let v = map f (range_with_len 0 320) in
    let e : value_at u f ≡ (value_at p f || value_at q f) =
    sym (leaf_of-assigned u 320 f bu) ∙ (h.at_each v ∙ (ap (λ x. x || leaf_of q v) (leaf_of-assigned p 320 f bp) ∙ ap (λ y. value_at p f || y) (leaf_of-assigned q 320 f bq))) in
    let d = true_or (value_at p f) (value_at q f) (value_at u f) e in (
      λ w. elim w [ inl t ↦ elim (d.0 t) [ inl x ↦ inl x | inr y ↦ inr (inl y) ] | inr n ↦ absurd n ],
      λ w. elim w [ inl x ↦ inl (d.1 (inl x)) | inr (inl y) ↦ inl (d.1 (inr y)) | inr (inr n) ↦ absurd n ],
    )

pub union_tree : (first : ℕ) (before after : List (Plain Bool)) (p q u : Numbered Bool) → IsTreeIn first 320 before p → IsTreeIn first 320 before q → TestsAreOfEither (erase p) (erase q) (erase u) → IsTreeIn 0 320 after u → IsTreeIn first 320 after u
union_tree first before after p q u hp hq tests h = record {
  reduced = raised (erase u) first h.reduced (λ k w. elim (tests.each k w) [ inl x ↦ test_from (erase p) first k hp.reduced x | inr y ↦ test_from (erase q) first k hq.reduced y ]);
  small = h.small;
  own = h.own;
}

pub both_ok : {X E : Type 0} (r : Result X E) (P Q R : X → Type 0) → ((x : X) → P x → Q x → R x) → IfOk r P → IfOk r Q → IfOk r R
both_ok r P Q R f = elim r as (λ s. IfOk s P → IfOk s Q → IfOk s R) [ Ok x ↦ f x | Err e ↦ λ _ _. tt ]

pub two_truths : (t : Plain Bool) → HoldsLeaves (false ∷ true ∷ []) t
two_truths t = record { each = λ x w. either x }
  where
    either : (x : Bool) → Contains (false ∷ true ∷ []) x
    either false = (0, omega arith, refl)
    either true = (1, omega arith, refl)

-- the measure falls
pub first_from : (c : Plain Bool) (m : ℕ) → m ≤ 320 → IsReducedFrom m c → m ≤ first_of c
first_from (leaf x) m h r = h
first_from (node j p q) m h r = r.0

pub fewer_union : (n j : ℕ) (c u p q : Plain Bool) → c ≡ node j p q → TestsBelow 320 c → IsReducedFrom (j + 1) u → n + (320 - first_of u) < n + (320 - first_of c)
fewer_union n j c u p q e b r =
    let small : TestsBelow 320 (node j p q) = subst (TestsBelow 320) e b in
    let at : first_of c ≡ j = ap first_of e in
    let more = first_from u (j + 1) (omega (arith, small.0)) r in
    omega (arith, small.0, at, more)

first_side : (c : Plain Bool) (k : ℕ) (b : Bool) → TestsBelow 320 c → IsReduced c → first_of c ≤ first_of (side_of k b c)
first_side (leaf x) k b small r = omega arith
first_side (node j p q) k b small r = by (j == k) b
  where
    low : j ≤ first_of p
    low = let h = first_from p (j + 1) (omega (arith, small.0)) r.2 in omega (arith, h)

    high : j ≤ first_of q
    high = let h = first_from q (j + 1) (omega (arith, small.0)) r.3 in omega (arith, h)

    by : (d e : Bool) → j ≤ first_of (cond d (cond e q p) (node j p q))
    by true true = high
    by true false = low
    by false e = omega arith

pub fewer_side : {L : Type 0} (t s l h : Plain L) (k : ℕ) (c d : Plain Bool) (b : Bool) → t ≡ node k l h → (s ≡ l) ⊎ (s ≡ h) → d ≡ side_of k b c → TestsBelow 320 c → IsReduced c → node_count s + (320 - first_of d) < node_count t + (320 - first_of c)
fewer_side t s l h k c d b et es ed small r =
    let more = first_side c k b small r in
    let at : first_of d ≡ first_of (side_of k b c) = ap first_of ed in
    let count : node_count t ≡ node_count l + node_count h + 1 = ap node_count et in
    elim es [
      | inl e ↦ let of_low : node_count s ≡ node_count l = ap node_count e in omega (arith, more, at, count, of_low)
      | inr e ↦ let of_high : node_count s ≡ node_count h = ap node_count e in omega (arith, more, at, count, of_high)
    ]

pub reached_side : (c d : Plain Bool) (k : ℕ) (b : Bool) → d ≡ side_of k b c → IsReached c d
reached_side c d k b e = subst (IsReached c) (sym e) (at c b)
  where
    chosen : (j : ℕ) (p q : Plain Bool) (x y : Bool) → IsReached (node j p q) (cond x (cond y q p) (node j p q))
    chosen j p q true true = high_side j p q itself
    chosen j p q true false = low_side j p q itself
    chosen j p q false y = itself

    at : (w : Plain Bool) (v : Bool) → IsReached w (side_of k v w)
    at (leaf x) v = itself
    at (node j p q) v = chosen j p q (j == k) v

pub reached_union : (c p q u : Plain Bool) (j : ℕ) → c ≡ node j p q → IsUnionOf p q u → IsReached c u
reached_union c p q u j e h = union j p q u (subst (IsReached c) e itself) h

pub union_of : {E : Type 0} (made : Result (Tree Bool) E) (p q : Plain Bool) → IfOk made (λ u. IsUnified (λ a b c. c ≡ (a || b)) p q (plain u)) → IfOk made (λ u. TestsAreOfEither p q (plain u)) → IfOk made (λ u. IsReduced (plain u)) → IfOk made (λ u. IsUnionOf p q (plain u))
union_of (Ok u) p q a b h = record { either = a; reduced = h; tests = b }
union_of (Err e) p q a b h = tt
