-- The text of the terms so far, and the terms left.
use Rattle.std.proofs.Common.{◌≡◌, ℕ, zero, suc, ◌<◌, ℤ, Bool, true, false, ◌&&◌, List, [], ◌∷◌, ◌++◌, length, get_or, sym, ap, subst, refl, ◌∙◌, arith, append_assoc}
use Rattle.std.proofs.lemmas.List.{append-nil}
use Rattle.linear_atoms.specs.declared.atoms.Feature.{Feature}
use Rattle.linear_atoms.specs.Forms.{is_small, are_small}
use Rattle.linear_atoms.specs.Atoms.{AreBelow}
use Rattle.linear_atoms.specs.Texts.{name_at, boolean_at, sign_text, sized_text, terms_text}

pub record Writing (features : List Feature) (first : Bool) (made : List ℕ) (rest : List (ℕ × ℤ)) (whole : List ℕ) : Type 0 where
  pub split : made ++ terms_text first features rest ≡ whole
  pub small : are_small rest ≡ true
  pub named : AreBelow (length features) rest

and_left : (a b : Bool) → (a && b) ≡ true → a ≡ true
and_left true b e = refl
and_left false b e = e

and_right : (a b : Bool) → (a && b) ≡ true → b ≡ true
and_right true b e = e
and_right false b e = cc

pub name_is : (fs : List Feature) (n : ℕ) (x : Feature) → n < length fs → x ≡ get_or fs n x → x.name ≡ name_at fs n
name_is [] n x h e = absurd (omega arith)
name_is (f ∷ fs) zero x h e = ap (λ (y : Feature). y.name) e
name_is (f ∷ fs) (suc n) x h e = name_is fs n x (omega arith) e

pub boolean_is : (fs : List Feature) (n : ℕ) (x : Feature) → n < length fs → x ≡ get_or fs n x → x.boolean ≡ boolean_at fs n
boolean_is [] n x h e = absurd (omega arith)
boolean_is (f ∷ fs) zero x h e = ap (λ (y : Feature). y.boolean) e
boolean_is (f ∷ fs) (suc n) x h e = boolean_is fs n x (omega arith) e

module _ (fs : List Feature) (first : Bool) (made : List ℕ) (rest behind : List (ℕ × ℤ)) (whole : List ℕ) (n : ℕ) (a : ℤ) (m : Writing fs first made rest whole) (e : rest ≡ (n, a) ∷ behind) where
  pub first_small : is_small a ≡ true
  first_small = and_left (is_small a) (are_small behind) (ap are_small (sym e) ∙ m.small)

  pub first_below : n < length fs
  first_below = let k : AreBelow (length fs) ((n, a) ∷ behind) = subst (AreBelow (length fs)) e m.named in k.0

  pub written_more : (after final name : List ℕ) → after ≡ made ++ sign_text first a → final ≡ after ++ sized_text a name → name ≡ name_at fs n → Writing fs false final behind whole
  written_more after final name f g h = record {
    split =
        ap (λ x. x ++ terms_text false fs behind) (g ∙ ap (λ x. x ++ sized_text a name) f ∙ append_assoc made (sign_text first a) (sized_text a name) ∙ ap (λ x. made ++ (sign_text first a ++ sized_text a x)) h)
        ∙ append_assoc made (sign_text first a ++ sized_text a (name_at fs n)) (terms_text false fs behind)
        ∙ ap (λ x. made ++ terms_text first fs x) (sym e) ∙ m.split;
    small = and_right (is_small a) (are_small behind) (ap are_small (sym e) ∙ m.small);
    named = (let q : AreBelow (length fs) ((n, a) ∷ behind) = subst (AreBelow (length fs)) e m.named in q.1);
  }

pub written_all : (fs : List Feature) (first : Bool) (made : List ℕ) (rest : List (ℕ × ℤ)) (whole : List ℕ) → Writing fs first made rest whole → rest ≡ [] → made ≡ whole
written_all fs first made rest whole m e = sym (append-nil made) ∙ ap (λ x. made ++ terms_text first fs x) (sym e) ∙ m.split
