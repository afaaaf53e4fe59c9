-- Lists that are added one behind another.
use Rattle.std.proofs.Common.{◌≡◌, List, ℕ, ◌++◌, ap, ◌∙◌, append_assoc}

pub added : (t a b t1 t2 : List ℕ) → t1 ≡ t ++ a → t2 ≡ t1 ++ b → t2 ≡ t ++ (a ++ b)
added t a b t1 t2 e1 e2 = e2 ∙ ap (λ l. l ++ b) e1 ∙ append_assoc t a b
