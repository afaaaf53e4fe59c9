-- Trees whose leaves are replaced one by one.
use Rattle.std.specs.Prelude.{◌≡◌, ℕ, Bool}
use Rattle.decision_tree.specs.Plain.{Plain, leaf, node}

module _ {A B : Type 0} where
  -- g puts f x in the place of each leaf x, and leaves the tests as they are
  pub record ReplacesLeaves (f : A → B) (g : Plain A → Plain B) : Type 0 where
    pub leaves : (x : A) → g (leaf x) ≡ leaf (f x)
    pub nodes : (k : ℕ) (low high : Plain A) → g (node k low high) ≡ node k (g low) (g high)

  -- the one test finds two values equal exactly where the other finds what f makes of them equal
  abbrev pub AgreeThrough : (A → B) → (A → A → Bool) → (B → B → Bool) → Type 0
  AgreeThrough f eq other = (a b : A) → other (f a) (f b) ≡ eq a b
