-- Generated families have no `for` that declares variables, so their names are judged on their items as they are.
use Rattle.std.proofs.Common.{◌≡◌, ℕ, Bool, true, false, ◌&&◌, List, [], ◌∷◌, ◌++◌, refl, ap, ◌∙◌}
use Rattle.fam_outer.specs.declared.faults.Place.{Place}
use Rattle.c_grammar.specs.declared.items.Item.{Item}
use Rattle.c_grammar.specs.declared.items.Sign.{Sign}
use Rattle.c_grammar.specs.declared.items.Sign.TheVariants as signs
use Rattle.c_grammar.specs.Grammar.{at}
use Rattle.for_blocks.specs.Blocks.{is_for, is_opening, begins_type, declares, unfolded}
use Rattle.for_blocks.specs.Laws.{NoneDeclares, OthersStay}
use Rattle.for_blocks.proofs.Others.{not_for}
use Rattle.family_generator.proofs.BlockTexts.{Block}
use Rattle.family_generator.proofs.FreeNames.{statements_own}
use Rattle.family_generator.proofs.NameFaults.{IsOwn, AreOwn}
use Rattle.family_generator.proofs.Signs.{laid, blocks_signs, header_signs, file_signs}

-- ---- statements, in which no type stands

no_type : (x y : ℕ) (s : Sign) → IsOwn x y s → begins_type s ≡ false
no_type x y signs.Int h = absurd h
no_type x y signs.Int32 h = absurd h
no_type x y signs.Signed h = absurd h
no_type x y signs.Const h = absurd h
no_type x y _ h = refl

never : (a b : Bool) → (a && (b && false)) ≡ false
never true true = refl
never true false = refl
never false b = refl

own_declares : (x y : ℕ) (i : Item) (is : List Item) → AreOwn x y is → declares i is ≡ false
own_declares x y i [] h = refl
own_declares x y i (j ∷ []) h = refl
own_declares x y i (j ∷ k ∷ is) h = ap (λ (b : Bool). is_for i.sign && (is_opening j.sign && b)) (no_type x y k.sign h.1.0) ∙ never (is_for i.sign) (is_opening j.sign)

own_none : (x y : ℕ) (is : List Item) → AreOwn x y is → NoneDeclares is
own_none x y [] h = tt
own_none x y (i ∷ is) h = (own_declares x y i is h.1, own_none x y is h.1)

-- ---- files

behind_header : (f : ℕ → Place) (x y : ℕ) (rest : List Item) → NoneDeclares rest → NoneDeclares (laid f 0 (header_signs x y) ++ rest)
behind_header f x y rest none =
    (refl, (refl, (refl, (refl, (refl, (refl, (refl, (refl, (refl, (refl, (not_for (at (f 10) signs.Close) (at (f 11) signs.LeftBrace ∷ rest) refl, (not_for (at (f 11) signs.LeftBrace) rest refl, none))))))))))))

-- the items of a generated family stay where loops that declare variables become blocks
pub file_stays : OthersStay → (f : ℕ → Place) (x y : ℕ) (bs : List Block) → unfolded (laid f 0 (file_signs x y bs)) ≡ laid f 0 (file_signs x y bs)
file_stays law f x y bs =
    let statements : List Item = laid f 12 (blocks_signs x y 0 bs ++ signs.RightBrace ∷ []) in
    law (laid f 0 (file_signs x y bs)) (behind_header f x y statements (own_none x y statements (statements_own f x y bs)))
