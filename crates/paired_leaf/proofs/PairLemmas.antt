-- The parts of a pair are the leaves that it is made of.
use Rattle.std.proofs.Common.{◌≡◌, ℕ, ◌≤◌, ℤ, Bool, true, false, ◌&&◌, if◌then◌else◌, List, [], ◌∷◌, ◌++◌, Option, Some, None, length, drop, refl, ap, sym, subst, ◌∙◌}
use Rattle.std.proofs.Math.Seq.{take-append_seam}
use Rattle.leaf_domain.specs.Leaves.{LeafValue, LeafMeaning, LeafLaws, nothing_of, is_nothing_of}
use Rattle.paired_leaf.specs.Pairs.{pair_content, pair_of, first_numbers, second_numbers, part_content, first_of, second_of, IsPair, HoldsBoth}

abbrev pub at : ℕ → Option (List ℤ) → LeafValue
at n c = record { variables = n; content = c }

-- ---- tests
pub both_true : (p q : Bool) → (p && q) ≡ true → (p ≡ true) × (q ≡ true)
both_true true q e = (refl, e)
both_true false q e = cc

pub true_both : (p q : Bool) → p ≡ true → q ≡ true → (p && q) ≡ true
true_both true q e f = f
true_both false q e f = cc

pub of_either : {X : Type 0} (P : X → Type 0) (t : Bool) (a b : X) → P a → P b → P (if t then a else b)
of_either P true a b p q = p
of_either P false a b p q = q

-- ---- Nothing
pub first_nothing : (v : LeafValue) → is_nothing_of (first_of v) ≡ is_nothing_of v
first_nothing v = by_content v.variables v.content
  where
    by_content : (n : ℕ) (c : Option (List ℤ)) → is_nothing_of (first_of (at n c)) ≡ is_nothing_of (at n c)
    by_content n None = refl
    by_content n (Some ns) = refl

pub second_nothing : (v : LeafValue) → is_nothing_of (second_of v) ≡ is_nothing_of v
second_nothing v = by_content v.variables v.content
  where
    by_content : (n : ℕ) (c : Option (List ℤ)) → is_nothing_of (second_of (at n c)) ≡ is_nothing_of (at n c)
    by_content n None = refl
    by_content n (Some ns) = refl

pub nothing_value : (v : LeafValue) → is_nothing_of v ≡ true → v ≡ nothing_of v.variables
nothing_value v e = by_content v.variables v.content e
  where
    by_content : (n : ℕ) (c : Option (List ℤ)) → is_nothing_of (at n c) ≡ true → at n c ≡ nothing_of n
    by_content n None e = refl
    by_content n (Some ns) e = cc

-- a leaf that holds a store is not Nothing
pub some_held : (M : LeafMeaning) (L : LeafLaws M) (v : LeafValue) (s : List ℤ) → M.holds v s → is_nothing_of v ≡ false
some_held M L v s h = by_content v.variables v.content h
  where
    by_content : (n : ℕ) (c : Option (List ℤ)) → M.holds (at n c) s → is_nothing_of (at n c) ≡ false
    by_content n None h = absurd (L.nothing_holds n s h)
    by_content n (Some ns) h = refl

-- ---- the parts
drop_seam : (ns ms : List ℤ) → drop (length ns) (ns ++ ms) ≡ ms
drop_seam [] ms = refl
drop_seam (n ∷ ns) ms = drop_seam ns ms

first_content : (c d : Option (List ℤ)) → is_nothing_of (at 0 c) ≡ false → is_nothing_of (at 0 d) ≡ false → part_content first_numbers (pair_content c d) ≡ c
first_content None d e f = cc
first_content (Some ns) None e f = cc
first_content (Some ns) (Some ms) e f = ap Some (take-append_seam ns ms)

second_content : (c d : Option (List ℤ)) → is_nothing_of (at 0 c) ≡ false → is_nothing_of (at 0 d) ≡ false → part_content second_numbers (pair_content c d) ≡ d
second_content None d e f = cc
second_content (Some ns) None e f = cc
second_content (Some ns) (Some ms) e f = ap Some (drop_seam ns ms)

pub first_is : (a b : LeafValue) → is_nothing_of a ≡ false → is_nothing_of b ≡ false → first_of (pair_of a b) ≡ a
first_is a b e f = ap (λ c. at a.variables c) (first_content a.content b.content e f)

pub second_is : (a b : LeafValue) → a.variables ≡ b.variables → is_nothing_of a ≡ false → is_nothing_of b ≡ false → second_of (pair_of a b) ≡ b
second_is a b s e f = ap (λ c. at a.variables c) (second_content a.content b.content e f) ∙ ap (λ n. at n b.content) s

pub pair_some : (a b : LeafValue) → is_nothing_of a ≡ false → is_nothing_of b ≡ false → is_nothing_of (pair_of a b) ≡ false
pair_some a b e f = by_content a.content b.content e f
  where
    by_content : (c d : Option (List ℤ)) → is_nothing_of (at 0 c) ≡ false → is_nothing_of (at 0 d) ≡ false → is_nothing_of (at 0 (pair_content c d)) ≡ false
    by_content None d e f = cc
    by_content (Some ns) None e f = cc
    by_content (Some ns) (Some ms) e f = refl

pub pair_nothing : (a b : LeafValue) → is_nothing_of a ≡ true → is_nothing_of (pair_of a b) ≡ true
pair_nothing a b e = by_content a.content e
  where
    by_content : (c : Option (List ℤ)) → is_nothing_of (at 0 c) ≡ true → is_nothing_of (at 0 (pair_content c b.content)) ≡ true
    by_content None e = refl
    by_content (Some ns) e = cc

-- ---- pairs of two kinds
module _ (A B : LeafMeaning) (L : LeafLaws A) (K : LeafLaws B) where
  -- the pair holds the stores of both
  pub pair_holds : (a b : LeafValue) (s : List ℤ) → a.variables ≡ b.variables → A.holds a s → B.holds b s → HoldsBoth A B (pair_of a b) s
  pair_holds a b s e h k =
      let p : is_nothing_of a ≡ false = some_held A L a s h in
      let q : is_nothing_of b ≡ false = some_held B K b s k in
      let P : LeafValue → Type 0 = λ v. A.holds v s in
      let Q : LeafValue → Type 0 = λ v. B.holds v s in
      (subst P (sym (first_is a b p q)) h, subst Q (sym (second_is a b e p q)) k)

  -- and no other
  pub pair_only : (a b : LeafValue) (s : List ℤ) → a.variables ≡ b.variables → HoldsBoth A B (pair_of a b) s → A.holds a s × B.holds b s
  pair_only a b s e h = by_content a.variables b.variables a.content b.content e h
    where
      by_content : (n m : ℕ) (c d : Option (List ℤ)) → n ≡ m → HoldsBoth A B (pair_of (at n c) (at m d)) s → A.holds (at n c) s × B.holds (at m d) s
      by_content n m None d e h = absurd (L.nothing_holds n s h.0)
      by_content n m (Some ns) None e h = absurd (L.nothing_holds n s h.0)
      by_content n m (Some ns) (Some ms) e h =
          let P : LeafValue → Type 0 = λ v. A.holds v s in
          let Q : LeafValue → Type 0 = λ v. B.holds v s in
          (subst P (first_is (at n (Some ns)) (at m (Some ms)) refl refl) h.0, subst Q (second_is (at n (Some ns)) (at m (Some ms)) e refl refl) h.1)

  pub nothing_pair : (n : ℕ) → n ≤ 48 → IsPair A B (nothing_of n)
  nothing_pair n h = record { first = L.nothing_valid n h; second = K.nothing_valid n h; is = refl }

  pub pair_valid : (a b : LeafValue) → A.valid a → B.valid b → a.variables ≡ b.variables → IsPair A B (pair_of a b)
  pair_valid a b p q e = by_content a.variables b.variables a.content b.content p q e
    where
      by_content : (n m : ℕ) (c d : Option (List ℤ)) → A.valid (at n c) → B.valid (at m d) → n ≡ m → IsPair A B (pair_of (at n c) (at m d))
      by_content n m None d p q e = nothing_pair n (L.valid_few (at n None) p)
      by_content n m (Some ns) None p q e = nothing_pair n (L.valid_few (at n (Some ns)) p)
      by_content n m (Some ns) (Some ms) p q e =
          let f = first_is (at n (Some ns)) (at m (Some ms)) refl refl in
          let g = second_is (at n (Some ns)) (at m (Some ms)) e refl refl in
          record {
            first = subst A.valid (sym f) p;
            second = subst B.valid (sym g) q;
            is = ap (λ v. pair_of v (second_of (pair_of (at n (Some ns)) (at m (Some ms))))) f ∙ ap (λ w. pair_of (at n (Some ns)) w) g;
          }
