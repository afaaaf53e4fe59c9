-- The texts of a page, joined as they come.
use Rattle.std.proofs.Common.{◌≡◌, ℕ, List, [], ◌++◌, refl, append_assoc}
use Rattle.std.proofs.lemmas.List.{append-nil}

pub joined : (a n f i m b c : List ℕ) → (((([] ++ a) ++ (n ++ f)) ++ (i ++ (m ++ b))) ++ c) ≡ (a ++ (n ++ (f ++ (i ++ (m ++ (b ++ [])))))) ++ c
joined a n f i m b c = simp (append_assoc, append-nil) refl
