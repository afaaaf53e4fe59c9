-- Trees restricted to where another is true, as a relation (after Coudert and Madre), which needs no equality of leaves.
use Rattle.std.specs.Prelude.{◌≡◌, ℕ, Bool, true, false, List, [], ◌∷◌}
use Rattle.decision_tree.specs.Plain.{Plain, leaf, node, IsNodeOf}
use Rattle.tree_restrict.specs.Restricted.{is_false, never, afters}

module _ {L : Type 0} where
  -- what is left of a node: one side, where the care of the other is false everywhere, and else the reduced node of both
  abbrev pub IsLeft : ℕ → Bool → Bool → (Plain L → Type 0) → (Plain L → Type 0) → Plain L → Type 0
  IsLeft test true yes_never No Yes r = Yes r
  IsLeft test false true No Yes r = No r
  IsLeft test false false No Yes r = (low : Plain L) × (high : Plain L) × No low × Yes high × IsNodeOf test low high r

  -- r is t restricted to where one of the trees is true
  abbrev pub IsRestrictedBy : Plain L → List (Plain Bool) → Plain L → Type 0
  IsRestrictedBy (leaf x) cs r = r ≡ leaf x
  IsRestrictedBy (node test low high) cs r =
      IsLeft test (never (afters test false cs)) (never (afters test true cs))
      (IsRestrictedBy low (afters test false cs)) (IsRestrictedBy high (afters test true cs)) r

  abbrev pub IsOwn : Bool → Plain L → List (Plain Bool) → Plain L → Type 0
  IsOwn true t cs r = r ≡ t
  IsOwn false t cs r = IsRestrictedBy t cs r

  -- r is t restricted to where c is true: t itself where that is nowhere
  abbrev pub IsRestrictedTo : Plain L → Plain Bool → Plain L → Type 0
  IsRestrictedTo t c r = IsOwn (is_false c) t (c ∷ []) r
