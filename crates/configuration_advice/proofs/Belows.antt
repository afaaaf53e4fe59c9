-- Tests of formulas are below a count.
use Rattle.std.proofs.Common.{◌≡◌, ℕ, suc, ◌+◌, ◌*◌, ◌≤◌, ◌<◌, List, [], ◌∷◌, length, sym, ap, subst, arith}
use Rattle.cpp_conditions.specs.Propositions.{Proposition, Test, Not, And, IsBelow}
use Rattle.configuration_advice.specs.declared.choices.Choice.{Choice}
use Rattle.configuration_advice.specs.Choices.{Tightens}

pub room_behind : (test count : ℕ) (cs behind : List Choice) (c : Choice) → cs ≡ c ∷ behind → test + 2 * length cs ≤ count → test + 2 + 2 * length behind ≤ count
room_behind test count cs behind c e h = let k : length cs ≡ suc (length behind) = ap length e in omega arith

room_here : (test count : ℕ) (cs behind : List Choice) (c : Choice) → cs ≡ c ∷ behind → test + 2 * length cs ≤ count → test + 1 < count
room_here test count cs behind c e h = let k : length cs ≡ suc (length behind) = ap length e in omega arith

module _ (test count : ℕ) (cs behind : List Choice) (c : Choice) (e : cs ≡ c ∷ behind) (room : test + 2 * length cs ≤ count) where
  one_below : (one : Proposition ℕ) → one ≡ And (Test test) (Not (Test (test + 1))) → IsBelow count one
  one_below one f = let k = room_here test count cs behind c e room in subst (IsBelow count) (sym f) (omega arith, k)

  pub kept_below : (one others made : Proposition ℕ) → one ≡ And (Test test) (Not (Test (test + 1))) → made ≡ And one others → IsBelow count others → IsBelow count made
  kept_below one others made f g h = subst (IsBelow count) (sym g) (one_below one f, h)

  pub changed_below : (one denied others made : Proposition ℕ) → one ≡ And (Test test) (Not (Test (test + 1))) → denied ≡ Not one → made ≡ And denied others → IsBelow count others → IsBelow count made
  changed_below one denied others made f d g h = subst (IsBelow count) (sym g) (subst (IsBelow count) (sym d) (one_below one f), h)

pub tight_length : (cs ds : List Choice) → Tightens cs ds → length ds ≡ length cs
tight_length [] [] h = let e : 0 ≡ 0 = omega arith in e
tight_length [] (d ∷ ds) h = absurd h
tight_length (c ∷ cs) [] h = absurd h
tight_length (c ∷ cs) (d ∷ ds) h = ap suc (tight_length cs ds h.1)
