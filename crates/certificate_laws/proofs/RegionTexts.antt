-- The text of each region means a formula, or has a piece that stands for nothing.
use Rattle.std.proofs.Common.{◌≡◌, ◌⊎◌, inl, inr, ℕ, true, List, [], ◌∷◌, ◌++◌, codes, map, refl, sym, ap, ap₂, subst, arith}
use Rattle.std.specs.Prelude.{flat_map, Option, Some, None}
use Rattle.std.specs.Global.{Global, Box}
use denote.RawPtr.{null_ptr}
use Rattle.cpp_conditions.specs.declared.formulas.Formula.{Formula}
use Rattle.cpp_conditions.specs.declared.formulas.Formula.TheVariants as formulas
use Rattle.cpp_conditions.specs.Propositions.{Proposition, Const, Test, Not, And, Or}
use Rattle.cpp_conditions.specs.View.{formula}
use Rattle.certificate_format.specs.declared.literals.Piece.{Piece}
use Rattle.certificate_format.specs.Cuts.{Lacks, IsCut, Begins, IsBetween}
use Rattle.certificate_format.specs.Regions.{all_of, distinct, literals_in, IsMeant, IsStrange}
use Rattle.certificate_laws.proofs.Deciding.{is_text}
use Rattle.certificate_laws.proofs.Parting.{HasParts, has_parts}

-- ---- formulas

abbrev pub heap : Global
heap = record { memory = record { seal = tt } }

abbrev box : Box (Unit {0})
box = record { ptr = null_ptr; alloc = heap; value = tt }

-- the formula of a proposition
abbrev pub formula_with : Proposition ℕ → Formula
formula_with (Const b) = formulas.Const b
formula_with (Test n) = formulas.Test n
formula_with (Not p) = formulas.Not' box (formula_with p)
formula_with (And p q) = formulas.And' box (formula_with p) box (formula_with q)
formula_with (Or p q) = formulas.Or' box (formula_with p) box (formula_with q)

pub formula-with : (p : Proposition ℕ) → formula (formula_with p) ≡ p
formula-with (Const b) = refl
formula-with (Test n) = refl
formula-with (Not p) = ap (λ (x : Proposition ℕ). Not x) (formula-with p)
formula-with (And p q) = ap₂ (λ (x y : Proposition ℕ). And x y) (formula-with p) (formula-with q)
formula-with (Or p q) = ap₂ (λ (x y : Proposition ℕ). Or x y) (formula-with p) (formula-with q)

-- ---- pieces

module _ (of : List ℕ → Option Piece) where
  -- what all of these texts stand for
  record AreSpelled (texts : List (List ℕ)) : Type 0 where
    pieces : List Piece
    spelled : map of texts ≡ map Some pieces

  -- a piece of the text that stands for nothing
  record HasUnspelled (s t : List ℕ) : Type 0 where
    piece : List ℕ
    between : IsBetween s t piece
    none : of piece ≡ None

  module _ (s : List ℕ) where
    last_by : (t last : List ℕ) → t ≡ last → Lacks s last → (o : Option Piece) → of last ≡ o → AreSpelled (last ∷ []) ⊎ HasUnspelled s t
    last_by t last e lacks (Some p) is = inl (record { pieces = p ∷ []; spelled = ap (λ o. o ∷ []) is })
    last_by t last e lacks None is = inr (record {
      piece = last;
      between = record { front = []; last = t; begins = refl; part_is = inr (sym e, subst (Lacks s) (sym e) lacks) };
      none = is;
    })

    more_by : (t part behind : List ℕ) (parts : List (List ℕ)) → IsCut s t part behind → AreSpelled parts ⊎ HasUnspelled s behind → (o : Option Piece) → of part ≡ o
        → AreSpelled (part ∷ parts) ⊎ HasUnspelled s t
    more_by t part behind parts cut later None is = inr (record {
      piece = part;
      between = record { front = []; last = t; begins = refl; part_is = inl (behind, cut) };
      none = is;
    })
    more_by t part behind parts cut (inl all) (Some p) is = inl (record { pieces = p ∷ all.pieces; spelled = ap₂ (λ (o : Option Piece) (os : List (Option Piece)). o ∷ os) is all.spelled })
    more_by t part behind parts cut (inr h) (Some p) is = inr (record {
      piece = h.piece;
      between = record { front = part ∷ h.between.front; last = h.between.last; begins = (behind, cut, h.between.begins); part_is = h.between.part_is };
      none = h.none;
    })

    spelled_or_not : (t : List ℕ) (parts : List (List ℕ)) (last : List ℕ) → Begins s t parts last → Lacks s last → AreSpelled (parts ++ (last ∷ [])) ⊎ HasUnspelled s t
    spelled_or_not t [] last begins lacks = last_by t last begins lacks (of last) refl
    spelled_or_not t (part ∷ parts) last (behind, cut, begins) lacks =
        more_by t part behind (parts ++ (last ∷ [])) cut (spelled_or_not behind parts last begins lacks) (of part) refl

  -- ---- regions

  -- the formula of a region
  pub record HasMeaning (region : List ℕ) : Type 0 where
    pub meaning : Proposition ℕ
    pub meant : IsMeant of region meaning

  meant_by : (region : List ℕ) → ¬ (region ≡ codes "1") → (h : HasParts (codes " && ") region) → AreSpelled (h.parts ++ (h.last ∷ [])) ⊎ HasUnspelled (codes " && ") region
      → HasMeaning region ⊎ IsStrange of region
  meant_by region other h (inl all) = inl (record {
    meaning = all_of (distinct (flat_map literals_in all.pieces));
    meant = inr (
      other,
      record {
        texts = h.parts ++ (h.last ∷ []);
        pieces = all.pieces;
        between = record { front = h.parts; last = h.last; begins = h.begins; ends = h.ends; parts_are = refl };
        spelled = all.spelled;
        formula_is = refl;
      },
    );
  })
  meant_by region other h (inr u) = inr (record { other = other; piece = u.piece; between = u.between; unspelled = u.none })

  parted : (region : List ℕ) → ¬ (region ≡ codes "1") → HasParts (codes " && ") region → HasMeaning region ⊎ IsStrange of region
  parted region other h = meant_by region other h (spelled_or_not (codes " && ") region h.parts h.last h.begins h.ends)

  one_or_parted : (region : List ℕ) → Dec (region ≡ codes "1") → HasMeaning region ⊎ IsStrange of region
  one_or_parted region (yes e) = inl (record { meaning = Const true; meant = inl (e, refl) })
  one_or_parted region (no other) = parted region other (has_parts (codes " && ") (omega arith) region)

  pub meant_or_strange : (region : List ℕ) → HasMeaning region ⊎ IsStrange of region
  meant_or_strange region = one_or_parted region (is_text region (codes "1"))
