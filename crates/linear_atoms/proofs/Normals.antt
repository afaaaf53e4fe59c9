-- Terms divided one by one, and the truth of the normal form.
use Rattle.std.proofs.Common.{◌≡◌, ℕ, ℤ, int_div, Bool, true, false, ◌&&◌, List, [], ◌∷◌, ◌++◌, sym, ap, refl, ◌∙◌, append_assoc}
use Rattle.std.proofs.lemmas.List.{append-nil}
use Rattle.linear_atoms.specs.Forms.{is_small, are_small}
use Rattle.linear_atoms.specs.Normal.{divided}

pub record Dividing (d : ℤ) (made rest whole : List (ℕ × ℤ)) : Type 0 where
  pub split : made ++ divided d rest ≡ whole
  pub small : are_small rest ≡ true

and_left : (a b : Bool) → (a && b) ≡ true → a ≡ true
and_left true b e = refl
and_left false b e = e

and_right : (a b : Bool) → (a && b) ≡ true → b ≡ true
and_right true b e = e
and_right false b e = cc

pub first_small : (n : ℕ) (a : ℤ) (rest behind : List (ℕ × ℤ)) → are_small rest ≡ true → rest ≡ (n, a) ∷ behind → is_small a ≡ true
first_small n a rest behind h e = and_left (is_small a) (are_small behind) (ap are_small (sym e) ∙ h)

pub divided_more : (d : ℤ) (made rest behind whole : List (ℕ × ℤ)) (n : ℕ) (a b : ℤ) → Dividing d made rest whole → rest ≡ (n, a) ∷ behind → b ≡ int_div a d → Dividing d (made ++ (n, b) ∷ []) behind whole
divided_more d made rest behind whole n a b m e f = record {
  split = append_assoc made ((n, b) ∷ []) (divided d behind) ∙ ap (λ x. made ++ (n, x) ∷ divided d behind) f ∙ ap (λ x. made ++ divided d x) (sym e) ∙ m.split;
  small = and_right (is_small a) (are_small behind) (ap are_small (sym e) ∙ m.small);
}

pub divided_all : (d : ℤ) (made rest whole : List (ℕ × ℤ)) → Dividing d made rest whole → rest ≡ [] → made ≡ whole
divided_all d made rest whole m e = sym (append-nil made) ∙ ap (λ x. made ++ divided d x) (sym e) ∙ m.split
