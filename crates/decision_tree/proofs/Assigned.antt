-- What assignments of truth values to all tests lead to.
use Rattle.std.proofs.Common.{◌≡◌, ◌≢◌, ℕ, ◌+◌, ◌<◌, Bool, true, false, cond, eqb, map, refl, ◌∙◌, ap, arith}
use Rattle.std.specs.List.{range_with_len}
use Rattle.std.proofs.lemmas.Bool.Decides.{nat_tests}
use Rattle.std.proofs.lemmas.List.FromFn.{get_or-map-range_with_len}
use Rattle.decision_tree.specs.Plain.{Plain, leaf, node, leaf_of, TestsBelow, IsReducedFrom}

-- f, but b at k
abbrev pub put : (ℕ → Bool) → ℕ → Bool → ℕ → Bool
put f k b j = cond (eqb j k) b (f j)

put-same : (f : ℕ → Bool) (k : ℕ) (b : Bool) → put f k b k ≡ b
put-same f k b = grind (arith, nat_tests)

put-other : (f : ℕ → Bool) (k j : ℕ) (b : Bool) → k ≢ j → put f k b j ≡ f j
put-other f k j b h = grind (arith, nat_tests)

cond_same : {A : Type 0} (b c : Bool) (x y p q : A) → b ≡ c → x ≡ p → y ≡ q → cond b x y ≡ cond c p q
cond_same b c x y p q e f g = cc

apart : (k j : ℕ) → k < j → k ≢ j
apart k j h e = omega arith

module _ {L : Type 0} where
  -- the leaf that an assignment of truth values leads to
  abbrev pub value_at : Plain L → (ℕ → Bool) → L
  value_at (leaf x) f = x
  value_at (node k low high) f = cond (f k) (value_at high f) (value_at low f)

  -- a test below all of a tree's does not matter to it
  pub value_at-put : (t : Plain L) (m k : ℕ) (b : Bool) (f : ℕ → Bool) → k < m → IsReducedFrom m t → value_at t (put f k b) ≡ value_at t f
  value_at-put (leaf x) m k b f lt r = refl
  value_at-put (node j low high) m k b f lt r =
      cond_same (put f k b j) (f j) _ _ _ _ (put-other f k j b (apart k j (omega arith)))
      (value_at-put high (j + 1) k b f (omega arith) r.3)
      (value_at-put low (j + 1) k b f (omega arith) r.2)

  -- what a node leads to once its test is set
  pub side_at : (k : ℕ) (low high : Plain L) (f : ℕ → Bool) (b : Bool) → IsReducedFrom (k + 1) low → IsReducedFrom (k + 1) high → value_at (node k low high) (put f k b) ≡ value_at (cond b high low) f
  side_at k low high f true r s =
      ap (λ c. cond c (value_at high (put f k true)) (value_at low (put f k true))) (put-same f k true) ∙ value_at-put high (k + 1) k true f (omega arith) s
  side_at k low high f false r s =
      ap (λ c. cond c (value_at high (put f k false)) (value_at low (put f k false))) (put-same f k false) ∙ value_at-put low (k + 1) k false f (omega arith) r

  -- an assignment, as a vector of m truth values
  pub leaf_of-assigned : (t : Plain L) (m : ℕ) (f : ℕ → Bool) → TestsBelow m t → leaf_of t (map f (range_with_len 0 m)) ≡ value_at t f
  leaf_of-assigned (leaf x) m f b = refl
  leaf_of-assigned (node k low high) m f b =
      cond_same _ (f k) _ _ _ _ (get_or-map-range_with_len f 0 m k k false b.0 (omega arith))
      (leaf_of-assigned high m f b.2)
      (leaf_of-assigned low m f b.1)
