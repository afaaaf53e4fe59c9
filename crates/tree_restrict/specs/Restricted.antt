-- A tree restricted to where another is true.
--
-- This is the operator restrict of O. Coudert and J. C. Madre, "A unified framework for the formal verification of sequential circuits",
-- ICCAD 1990. Their equations are laws of the crate (src/laws.rt).
use Rattle.std.specs.Prelude.{ℕ, Bool, true, false, cond, not, ◌&&◌, ◌==◌, nat_lt, List, [], ◌∷◌, ◌++◌}
use Rattle.decision_tree.specs.Plain.{Plain, leaf, node}

-- the tree that is false everywhere
abbrev pub is_false : Plain Bool → Bool
is_false (leaf b) = not b
is_false (node test low high) = false

-- all trees are false everywhere
abbrev pub never : List (Plain Bool) → Bool
never [] = true
never (c ∷ cs) = is_false c && never cs

-- what c leads to once test k has the value, whatever the tests below k are
abbrev pub after : ℕ → Bool → Plain Bool → List (Plain Bool)
after k value (leaf b) = leaf b ∷ []
after k value (node test low high) =
    cond (nat_lt test k) (after k value low ++ after k value high)
    (cond (test == k) (cond value high low ∷ []) (node test low high ∷ []))

abbrev pub afters : ℕ → Bool → List (Plain Bool) → List (Plain Bool)
afters k value [] = []
afters k value (c ∷ cs) = after k value c ++ afters k value cs

module _ {L : Type 0} (eq : L → L → Bool) where
  -- the trees are the same
  abbrev pub same : Plain L → Plain L → Bool
  same (leaf x) (leaf y) = eq x y
  same (leaf x) (node test low high) = false
  same (node test low high) (leaf y) = false
  same (node test low high) (node other left right) = (test == other) && (same low left && same high right)

  -- the tree that tests first, or the one child where the two are equal
  abbrev pub joined : ℕ → Plain L → Plain L → Plain L
  joined test low high = cond (same low high) low (node test low high)

  -- the one side that is left, where it is one
  abbrev pub sides_left : ℕ → Bool → Bool → Plain L → Plain L → Plain L
  sides_left test no_never yes_never low high = cond no_never high (cond yes_never low (joined test low high))

  -- t restricted to where one of the trees is true
  abbrev pub restricted_by : Plain L → List (Plain Bool) → Plain L
  restricted_by (leaf x) cs = leaf x
  restricted_by (node test low high) cs =
      sides_left test (never (afters test false cs)) (never (afters test true cs))
      (restricted_by low (afters test false cs)) (restricted_by high (afters test true cs))

  -- t restricted to where c is true: t itself where it is true nowhere
  abbrev pub restricted : Plain L → Plain Bool → Plain L
  restricted t c = cond (is_false c) t (restricted_by t (c ∷ []))
