-- What a loop does to a leaf: rounds of joining and widening, and then of checked narrowing.
use Rattle.std.specs.Prelude.{ℕ, ℤ, Bool, zero, suc, ◌+◌, ◌*◌, if◌then◌else◌, nat_lt, List, length}
use Rattle.leaf_domain.specs.Leaves.{LeafValue, LeafMeaning}
use Rattle.plain_analysis.specs.declared.options.Options.{Options}

-- what comes in at the head of a loop that is entered with d, where the head has x: d, and what a lap makes of x
abbrev pub turn_of : LeafMeaning → (LeafValue → LeafValue) → LeafValue → LeafValue → LeafValue
turn_of M lap d x = M.join d (lap x)

-- the head of a loop with x, where g comes in: both joined in an early round, and widened in a later one
abbrev pub moved_by : LeafMeaning → List ℤ → Bool → LeafValue → LeafValue → LeafValue
moved_by M ts is_early x g = if is_early then M.join x g else M.widen ts x g

-- one round: where what comes in is below x, x stays
abbrev pub round_by : LeafMeaning → List ℤ → Bool → LeafValue → LeafValue → LeafValue
round_by M ts is_early x g = if M.leq g x then x else moved_by M ts is_early x g

-- round number k
abbrev pub round_of : LeafMeaning → List ℤ → ℕ → (LeafValue → LeafValue) → ℕ → LeafValue → LeafValue
round_of M ts delay G k x = round_by M ts (nat_lt k delay) x (G x)

-- n rounds from number k on
abbrev pub rounds_of : LeafMeaning → List ℤ → ℕ → (LeafValue → LeafValue) → ℕ → ℕ → LeafValue → LeafValue
rounds_of M ts delay G zero k x = x
rounds_of M ts delay G (suc n) k x = rounds_of M ts delay G n (k + 1) (round_of M ts delay G k x)

-- how many rounds there are: those of joining, so many of widening as bounds can step through the thresholds and to the
-- type's, and one
abbrev pub round_count : LeafMeaning → List ℤ → ℕ → ℕ → ℕ
round_count M ts delay variables = delay + M.bound_count variables * (length ts + 1) + 1

-- the leaf at the head after all rounds of joining and widening, from the one with which the loop is entered
abbrev pub widened_leaf : LeafMeaning → List ℤ → ℕ → (LeafValue → LeafValue) → LeafValue → LeafValue
widened_leaf M ts delay G d = rounds_of M ts delay G (round_count M ts delay d.variables) 0 d

-- a candidate in place of x: it is taken only where g, which comes in with it, is below it
abbrev pub taken_by : LeafMeaning → LeafValue → LeafValue → LeafValue → LeafValue
taken_by M x candidate g = if M.leq g candidate then candidate else x

-- one round of narrowing
abbrev pub narrowing_of : LeafMeaning → List ℤ → (LeafValue → LeafValue) → LeafValue → LeafValue
narrowing_of M ts G x = taken_by M x (M.narrow ts x (G x)) (G (M.narrow ts x (G x)))

abbrev pub narrowings_of : LeafMeaning → List ℤ → (LeafValue → LeafValue) → ℕ → LeafValue → LeafValue
narrowings_of M ts G zero x = x
narrowings_of M ts G (suc n) x = narrowings_of M ts G n (narrowing_of M ts G x)

-- the final leaf of a loop with this lap that is entered with d
abbrev pub final_leaf : LeafMeaning → Options → (LeafValue → LeafValue) → LeafValue → LeafValue
final_leaf M o lap d =
    narrowings_of M o.thresholds (turn_of M lap d) o.narrow (widened_leaf M o.thresholds o.delay (turn_of M lap d) d)
