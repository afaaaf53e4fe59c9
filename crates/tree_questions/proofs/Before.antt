-- The order of configurations.
use Rattle.std.proofs.Common.{◌≡◌, ℤ, ◌<ℤ◌, ◌⊎◌, inl, inr, List, [], ◌∷◌, Option, Some, sym, subst, ◌∙◌, arith}
use Rattle.std.proofs.lemmas.Int.{ints}
use Rattle.linear_atoms.specs.declared.atoms.Config.{Config}
use Rattle.atom_solver.specs.Solutions.{IsBefore}
use Rattle.tree_questions.specs.Least.{IsBehind}

less_trans : (a b c : ℤ) → a <ℤ b → b <ℤ c → a <ℤ c
less_trans a b c h k = omega (arith, ints)

pub before_trans : (us vs ws : List ℤ) → IsBefore us vs → IsBefore vs ws → IsBefore us ws
before_trans [] vs ws h k = absurd h
before_trans (u ∷ us) [] ws h k = absurd h
before_trans (u ∷ us) (v ∷ vs) [] h k = absurd k
before_trans (u ∷ us) (v ∷ vs) (w ∷ ws) (inl a) (inl b) = inl (less_trans u v w a b)
before_trans (u ∷ us) (v ∷ vs) (w ∷ ws) (inl a) (inr b) = inl (subst (λ x. u <ℤ x) b.0 a)
before_trans (u ∷ us) (v ∷ vs) (w ∷ ws) (inr a) (inl b) = inl (subst (λ x. x <ℤ w) (sym a.0) b)
before_trans (u ∷ us) (v ∷ vs) (w ∷ ws) (inr a) (inr b) = inr (a.0 ∙ b.0, before_trans us vs ws a.1 b.1)

-- what is not before the earlier one is not before the later one's place
pub behind_earlier : (best config : Config) → IsBefore config.values best.values → (values : List ℤ) → IsBehind values (Some best) → IsBefore values config.values → ⊥
behind_earlier best config h values k b = k (before_trans values config.values best.values b h)

pub behind_later : (best config : Config) → (best.values ≡ config.values) ⊎ IsBefore best.values config.values → (values : List ℤ) → (IsBefore values config.values → ⊥) → IsBehind values (Some best)
behind_later best config (inl e) values k b = k (subst (IsBefore values) e b)
behind_later best config (inr h) values k b = k (before_trans values best.values config.values b h)

-- the same, of what was compared
pub improves_yes : (best : Option Config) (config one : Config) (xs ys : List ℤ) → best ≡ Some one → xs ≡ config.values → ys ≡ one.values → IsBefore xs ys
    → (values : List ℤ) → IsBehind values best → IsBefore values config.values → ⊥
improves_yes best config one xs ys e f g h values k =
    behind_earlier one config (subst (λ zs. IsBefore zs one.values) f (subst (IsBefore xs) g h)) values (subst (IsBehind values) e k)

pub improves_no : (best : Option Config) (config one : Config) (xs ys : List ℤ) → best ≡ Some one → xs ≡ config.values → ys ≡ one.values → (ys ≡ xs) ⊎ IsBefore ys xs
    → (values : List ℤ) → (IsBefore values config.values → ⊥) → IsBehind values best
improves_no best config one xs ys e f g (inl h) values k = subst (IsBehind values) (sym e) (behind_later one config (inl (sym g ∙ h ∙ f)) values k)
improves_no best config one xs ys e f g (inr h) values k =
    subst (IsBehind values) (sym e) (behind_later one config (inr (subst (λ zs. IsBefore zs config.values) g (subst (IsBefore ys) f h))) values k)
