-- The names of items where loops that declare variables stand as blocks are those of the items.
use Rattle.std.proofs.Common.{◌≡◌, ℕ, true, false, ◌||◌, nat_eq, List, [], ◌∷◌, length, None, refl, sym, ap, ◌∙◌}
use Rattle.std.specs.List.{list_any}
use Rattle.std.proofs.lemmas.List.Folds.{list_any-append}
use Rattle.c_grammar.specs.declared.items.Item.{Item}
use Rattle.c_grammar.specs.declared.items.Sign.{Sign}
use Rattle.c_grammar.specs.declared.items.Sign.TheVariants as signs
use Rattle.for_blocks.specs.Blocks.{unfolded}
use Rattle.for_blocks.specs.Names.{NamesStay, DeclarationsStay}
use Rattle.family_names.proofs.Declared.{or_false}
use Rattle.c_parser.specs.declared.names.Limits.{Limits}
use Rattle.c_parser.specs.FamilyItems.{is_name, has}
use Rattle.c_parser.specs.Judging.{counted}
use Rattle.c_parser.specs.Names.{name_of, names_of, names_at, each_once, declared_by, first_name_fault}
use Rattle.c_parser.proofs.Declared.{AreTold, all_told, each_declared, still_told}
use Rattle.c_parser.proofs.NameNumbers.{AreBelow}

-- what laws say of these names
pub record BlockLaws : Type 0 where
  pub names : NamesStay
  pub declarations : DeclarationsStay

-- ---- files without groups

-- where no name of the blocks has a fault, the items declare all their names, in the order of their first occurrence
pub blocks_told : BlockLaws → (limits : Limits) (all : List (List ℕ)) (items : List Item) → AreBelow (length all) (names_of items) → first_name_fault (counted limits) (unfolded items) ≡ None
    → AreTold limits all (each_once [] (names_at all (names_of items))) items
blocks_told laws limits all items below none =
    let told = all_told limits all (unfolded items) (λ x h. below x (ap (list_any (nat_eq x)) (sym (laws.names items)) ∙ h)) none in
    still_told limits all (each_once [] (names_at all (names_of items))) (unfolded items) items (sym (laws.declarations items))
    (record { told = told.told ∙ ap (λ (ns : List ℕ). each_once [] (names_at all ns)) (laws.names items); each = told.each })

-- each of them is declared
pub block_declared : BlockLaws → (limits : Limits) (items : List Item) (x : ℕ) → first_name_fault (counted limits) (unfolded items) ≡ None → list_any (nat_eq x) (names_of items) ≡ true → list_any (nat_eq x) (declared_by items) ≡ true
block_declared laws limits items x none h =
    ap (list_any (nat_eq x)) (sym (laws.declarations items)) ∙ each_declared limits (unfolded items) x none (ap (list_any (nat_eq x)) (laws.names items) ∙ h)

-- ---- families

sign_has : (x : ℕ) (s : Sign) → is_name x s ≡ list_any (nat_eq x) (name_of s)
sign_has x (signs.Name y) = sym (or_false (nat_eq x y))
sign_has x _ = refl

has_among : (x : ℕ) (items : List Item) → has x items ≡ list_any (nat_eq x) (names_of items)
has_among x [] = refl
has_among x (y ∷ ys) = ap (λ b. b || has x ys) (sign_has x y.sign) ∙ ap (λ b. list_any (nat_eq x) (name_of y.sign) || b) (has_among x ys) ∙ sym (list_any-append (nat_eq x) (name_of y.sign) (names_of ys))

-- a name stands among the blocks where it stands among the items
pub block_has : NamesStay → (x : ℕ) (items : List Item) → has x (unfolded items) ≡ has x items
block_has law x items = has_among x (unfolded items) ∙ ap (list_any (nat_eq x)) (law items) ∙ sym (has_among x items)
