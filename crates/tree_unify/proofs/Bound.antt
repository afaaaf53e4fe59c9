-- How many pairs of leaves, and of subtrees, there can be.
use Rattle.std.proofs.Common.{◌≡◌, ℕ, zero, suc, ◌+◌, ◌*◌, ◌<◌, ◌≤◌, List, [], ◌∷◌, length, slice_get, Some, refl, sym, ◌∙◌, ap, subst, inl, inr, arith}
use Rattle.std.proofs.lemmas.Bool.{cases_order}
use Rattle.std.proofs.lemmas.Option.{slice_get-get_or}
use Rattle.std.specs.List.{Contains}
use Rattle.indexmap.proofs.IndexTableLemmas.Probe.{pigeonhole}
use Rattle.decision_tree.specs.Plain.{Plain}
use Rattle.decision_tree.specs.Numbered.{Numbered, kept, erase, root, IsWithin, IsNumbered}
use Rattle.tree_unify.specs.declared.memo.Pair.{Pair}
use Rattle.tree_unify.specs.Leaves.{HoldsLeaves}
use Rattle.tree_unify.specs.Subtrees.{HoldsSubtrees}
use Rattle.tree_unify.specs.Made.{IsPairOfLeaves, IsPairOf, IsTally}
use Rattle.tree_unify.proofs.Within.{leaf_within, subtree_within}

-- the places of a list's elements, where each element has a number below m
module _ {X : Type 0} (R : X → ℕ → Type 0) (m : ℕ) where
  abbrev Counted : List X → Type 0
  Counted ps = (i : ℕ) (p : X) → slice_get ps i ≡ Some p → (n : ℕ) × (n < m) × R p n

  abbrev number_at : (ps : List X) → Counted ps → ℕ → ℕ
  number_at [] h i = 0
  number_at (p ∷ ps) h zero = (h 0 p refl).0
  number_at (p ∷ ps) h (suc i) = number_at ps (λ j q g. h (suc j) q g) i

  number_there : (ps : List X) (h : Counted ps) (i : ℕ) → i < length ps → (p : X) × (slice_get ps i ≡ Some p) × (number_at ps h i < m) × R p (number_at ps h i)
  number_there [] h i lt = absurd (omega arith)
  number_there (p ∷ ps) h zero lt = (p, refl, (h 0 p refl).1, (h 0 p refl).2)
  number_there (p ∷ ps) h (suc i) lt = number_there ps (λ j q g. h (suc j) q g) i (omega arith)

  pub at_most : (ps : List X) → Counted ps → ((i j : ℕ) (p q : X) (n : ℕ) → slice_get ps i ≡ Some p → slice_get ps j ≡ Some q → R p n → R q n → i ≡ j) → length ps ≤ m
  at_most ps h one =
      pigeonhole (length ps) m (number_at ps h) (λ i lt. (number_there ps h i lt).2)
      (λ i j lt mt e.
      let a = number_there ps h i lt in
      let b = number_there ps h j mt in
      one i j a.0 b.0 (number_at ps h i) a.1 b.1 a.3 (subst (R b.0) (sym e) b.3))

-- two numbers as one
below_product : (i j n l : ℕ) → i < n → j < l → i * l + j < n * l
below_product i j n l h k = let e : (i + 1) * l ≤ n * l = grind (arith, row_le) in let f : (i + 1) * l ≡ i * l + l = grind arith in omega arith
  where
    row_le : (a b c : ℕ) → a ≤ b → a * c ≤ b * c
    row_le a b c p = grind arith

later_row : (i j p q l : ℕ) → j < l → i < p → i * l + j < p * l + q
later_row i j p q l h k = let e = below_product i j p l k h in omega arith

same_row : (i j p q l : ℕ) → j < l → q < l → i * l + j ≡ p * l + q → (i ≡ p) × (j ≡ q)
same_row i j p q l h k e =
    elim (cases_order i p) [
      | inl s ↦ (s, let f : i * l ≡ p * l = ap (λ x. x * l) s in omega arith)
      | inr (inl lt) ↦ let f = later_row i j p q l h lt in absurd (omega arith)
      | inr (inr lt) ↦ let f = later_row p q i j l k lt in absurd (omega arith)
    ]

place_of : {X : Type 0} (xs : List X) (x : X) → Contains xs x → (k : ℕ) × (k < length xs) × (slice_get xs k ≡ Some x)
place_of xs x h = (h.0, h.1, slice_get-get_or xs h.0 x h.1 ∙ ap Some h.2)

-- pairs whose left numbers each tell an element of one list, and whose right numbers each one of another
module _ {X Y : Type 0} (Q : Pair → Type 0) (Left : ℕ → X → Type 0) (Right : ℕ → Y → Type 0) (xs : List X) (ys : List Y) where
  -- the pair's elements stand at the row and the column that the number has
  record HasNumber (p : Pair) (n : ℕ) : Type 0 where
    pub row : ℕ
    pub column : ℕ
    pub narrow : column < length ys
    pub is : n ≡ row * length ys + column
    pub first : X
    pub second : Y
    pub left : Left p.left first
    pub right : Right p.right second
    pub at_row : slice_get xs row ≡ Some first
    pub at_column : slice_get ys column ≡ Some second

  abbrev Rows : Type 0
  Rows = (p : Pair) → Q p → (x : X) × Left p.left x × Contains xs x

  abbrev Columns : Type 0
  Columns = (p : Pair) → Q p → (y : Y) × Right p.right y × Contains ys y

  numbers : Rows → Columns → (p : Pair) → Q p → (n : ℕ) × (n < length xs * length ys) × HasNumber p n
  numbers rows columns p h =
      let x = rows p h in
      let y = columns p h in
      let a = place_of xs x.0 x.2 in
      let b = place_of ys y.0 y.2 in (
        a.0 * length ys + b.0,
        below_product a.0 b.0 (length xs) (length ys) a.1 b.1,
        record {
          row = a.0;
          column = b.0;
          narrow = b.1;
          is = refl;
          first = x.0;
          second = y.0;
          left = x.1;
          right = y.1;
          at_row = a.2;
          at_column = b.2;
        },
      )

  one_place : ((m n : ℕ) (x : X) → Left m x → Left n x → m ≡ n) → ((m n : ℕ) (y : Y) → Right m y → Right n y → m ≡ n) → (ps : List Pair) → IsTally Q ps → (i j : ℕ) (p q : Pair) (n : ℕ) → slice_get ps i ≡ Some p → slice_get ps j ≡ Some q → HasNumber p n → HasNumber q n → i ≡ j
  one_place lefts rights ps tally i j p q n a b c d =
      let both = same_row c.row c.column d.row d.column (length ys) c.narrow d.narrow (sym c.is ∙ d.is) in
      let some_first : Some c.first ≡ Some d.first = sym c.at_row ∙ (ap (slice_get xs) both.0 ∙ d.at_row) in
      let some_second : Some c.second ≡ Some d.second = sym c.at_column ∙ (ap (slice_get ys) both.1 ∙ d.at_column) in
      let first : c.first ≡ d.first = cc in
      let second : c.second ≡ d.second = cc in
      tally.distinct i j p q a b (lefts p.left q.left d.first (subst (Left p.left) first c.left) d.left) (rights p.right q.right d.second (subst (Right p.right) second c.right) d.right)

  -- no more pairs than there are elements of the one list with one of the other
  rows_by_columns : Rows → Columns → ((m n : ℕ) (x : X) → Left m x → Left n x → m ≡ n) → ((m n : ℕ) (y : Y) → Right m y → Right n y → m ≡ n) → (ps : List Pair) → IsTally Q ps → length ps ≤ length xs * length ys
  rows_by_columns rows columns lefts rights ps tally =
      at_most HasNumber (length xs * length ys) ps (λ i p g. numbers rows columns p (tally.each i p g)) (one_place lefts rights ps tally)

module _ {L : Type 0} (whole : Numbered L) (h : IsNumbered whole) where
  number_of_leaf : (m n : ℕ) (x : L) → IsWithin (kept m x) whole → IsWithin (kept n x) whole → m ≡ n
  number_of_leaf m n x v w = (h.tells (kept m x) (kept n x) v w).1 refl

  -- the number of a subtree that is this one
  record IsNumberOf (n : ℕ) (s : Plain L) : Type 0 where
    pub tree : Numbered L
    pub within : IsWithin tree whole
    pub number : n ≡ root tree
    pub plain : erase tree ≡ s

  number_of_subtree : (m n : ℕ) (s : Plain L) → IsNumberOf m s → IsNumberOf n s → m ≡ n
  number_of_subtree m n s v w = v.number ∙ (h.tells v.tree w.tree v.within w.within).1 (v.plain ∙ sym w.plain) ∙ sym w.number

module _ {A B : Type 0} (t : Numbered A) (u : Numbered B) (ps : List Pair) (ht : IsNumbered t) (hu : IsNumbered u) where
  -- no more pairs of leaves than there are pairs of leaf values
  pub tally_bound : (xs : List A) (ys : List B) → IsTally (IsPairOfLeaves t u) ps → HoldsLeaves xs (erase t) → HoldsLeaves ys (erase u) → length ps ≤ length xs * length ys
  tally_bound xs ys tally hx hy =
      rows_by_columns (IsPairOfLeaves t u) (λ n x. IsWithin (kept n x) t) (λ n y. IsWithin (kept n y) u) xs ys
      (λ p q. (q.first, q.left, hx.each q.first (leaf_within t p.left q.first q.left)))
      (λ p q. (q.second, q.right, hy.each q.second (leaf_within u p.right q.second q.right)))
      (number_of_leaf t ht) (number_of_leaf u hu) ps tally

  -- no more pairs of subtrees than there are pairs of different subtrees
  pub walk_bound : (xs : List (Plain A)) (ys : List (Plain B)) → IsTally (IsPairOf t u) ps → HoldsSubtrees xs (erase t) → HoldsSubtrees ys (erase u) → length ps ≤ length xs * length ys
  walk_bound xs ys tally hx hy =
      rows_by_columns (IsPairOf t u) (IsNumberOf t ht) (IsNumberOf u hu) xs ys
      (λ p q. (erase q.first, record { tree = q.first; within = q.first_within; number = q.left; plain = refl }, hx.each (erase q.first) (subtree_within t q.first q.first_within)))
      (λ p q. (erase q.second, record { tree = q.second; within = q.second_within; number = q.right; plain = refl }, hy.each (erase q.second) (subtree_within u q.second q.second_within)))
      (number_of_subtree t ht) (number_of_subtree u hu) ps tally
