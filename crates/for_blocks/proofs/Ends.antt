-- The braces that close blocks, and the blocks that stay open.
use Rattle.std.proofs.Common.{◌≡◌, ◌≤◌, ◌<◌, ℕ, List, [], ◌∷◌, ◌++◌, Some, None, slice_get, refl, sym, ap, ◌∙◌, arith}
use Rattle.std.proofs.lemmas.Bool.{eq-eqb, ne_eqb}
use Rattle.std.proofs.lemmas.List.{append-nil}
use Rattle.c_grammar.specs.declared.items.Item.{Item}
use Rattle.c_grammar.specs.declared.items.Sign.TheVariants as signs
use Rattle.c_grammar.specs.Grammar.{at}
use Rattle.fam_outer.specs.declared.faults.Place.{Place}
use Rattle.for_blocks.specs.declared.blocks.End.{End}
use Rattle.for_blocks.specs.Blocks.{closing, still_open}

-- no block ends here where none is open, or the innermost ends elsewhere
pub closing_none : (left : ℕ) (ends : List End) → None ≡ slice_get ends 0 → closing left ends ≡ []
closing_none left [] e = refl
closing_none left (x ∷ ends) e = cc

pub open_none : (left : ℕ) (ends : List End) → None ≡ slice_get ends 0 → still_open left ends ≡ ends
open_none left [] e = refl
open_none left (x ∷ ends) e = cc

other_end : (left : ℕ) (e : End) (x : End) → Some e ≡ Some x → (e.left ≡ left → ⊥) → left ≡ x.left → ⊥
other_end left e x same other is = let first : e ≡ x = cc in other (ap (λ (y : End). y.left) first ∙ sym is)

pub closing_other : (left : ℕ) (e : End) (ends : List End) → Some e ≡ slice_get ends 0 → (e.left ≡ left → ⊥) → closing left ends ≡ []
closing_other left e [] same other = cc
closing_other left e (x ∷ ends) same other = rw (ne_eqb left x.left (other_end left e x same other)) refl

pub open_other : (left : ℕ) (e : End) (ends : List End) → Some e ≡ slice_get ends 0 → (e.left ≡ left → ⊥) → still_open left ends ≡ ends
open_other left e [] same other = cc
open_other left e (x ∷ ends) same other = rw (ne_eqb left x.left (other_end left e x same other)) refl

pub closed : (made before : List Item) (braces first : List Item) → made ++ braces ≡ before ++ first → braces ≡ [] → made ≡ before ++ first
closed made before braces first is none = sym (append-nil made) ∙ ap (λ (xs : List Item). made ++ xs) (sym none) ∙ is

-- ---- blocks that end later

-- each block ends where at most so many items are left
abbrev pub AreWithin : ℕ → List End → Type 0
AreWithin n [] = Unit {0}
AreWithin n (e ∷ ends) = (e.left ≤ n) × AreWithin n ends

pub within_more : (n m : ℕ) (ends : List End) → n ≤ m → AreWithin n ends → AreWithin m ends
within_more n m [] le h = tt
within_more n m (e ∷ ends) le h = (omega (arith, h.0), within_more n m ends le h.1)

pub closing_later : (n m : ℕ) (ends : List End) → n < m → AreWithin n ends → closing m ends ≡ []
closing_later n m [] lt h = refl
closing_later n m (e ∷ ends) lt h = rw (ne_eqb m e.left (λ i. omega (arith, h.0))) refl

pub open_later : (n m : ℕ) (ends : List End) → n < m → AreWithin n ends → still_open m ends ≡ ends
open_later n m [] lt h = refl
open_later n m (e ∷ ends) lt h = rw (ne_eqb m e.left (λ i. omega (arith, h.0))) refl

-- ---- a block that ends here

pub closing_here : (m : ℕ) (p : Place) (ends : List End) → closing m (record { left = m; place = p } ∷ ends) ≡ at p signs.RightBrace ∷ closing m ends
closing_here m p ends = rw (eq-eqb m m refl) refl

pub open_here : (m : ℕ) (p : Place) (ends : List End) → still_open m (record { left = m; place = p } ∷ ends) ≡ still_open m ends
open_here m p ends = rw (eq-eqb m m refl) refl
