-- What blocks for loops that declare variables leave as it is.
use Rattle.std.proofs.Common.{◌≡◌, ℕ, suc, Bool, true, false, ◌||◌, ◌&&◌, List, [], ◌∷◌, ◌++◌, length, refl, sym, ap, ◌∙◌, arith}
use Rattle.std.specs.Prelude.{nat_eq, if◌then◌else◌}
use Rattle.c_grammar.specs.declared.items.Item.{Item}
use Rattle.c_grammar.specs.declared.items.Sign.{Sign}
use Rattle.c_grammar.specs.declared.items.Sign.TheVariants as signs
use Rattle.c_grammar.specs.Facts.{AreConditionsOf}
use Rattle.c_grammar.specs.Grammar.{at, is_group, has_groups}
use Rattle.fam_outer.specs.declared.faults.Place.{Place}
use Rattle.for_blocks.specs.declared.blocks.End.{End}
use Rattle.for_blocks.specs.declared.blocks.Part.{Part}
use Rattle.for_blocks.specs.declared.blocks.Part.TheVariants.{Elsewhere, AtParenthesis, InDeclaration}
use Rattle.for_blocks.specs.Blocks.{is_for, is_opening, is_semicolon, begins_type, declares, in_block, end_of, closing, still_open, unfolded_from, unfolded}
use Rattle.for_blocks.specs.Laws.{NoneDeclares, OthersStay, GroupsStay, ConditionsStay}
use Rattle.for_blocks.proofs.Ends.{AreWithin, closing_later, open_later}

-- ---- an item that begins no such loop

pub not_for : (x : Item) (xs : List Item) → is_for x.sign ≡ false → declares x xs ≡ false
not_for x [] h = refl
not_for x (y ∷ []) h = refl
not_for x (y ∷ z ∷ xs) h = rw h refl

-- it stays where no block ends before it
pub stays : (x : Item) (xs : List Item) (ends : List End) → declares x xs ≡ false → AreWithin (length xs) ends → unfolded_from Elsewhere ends (x ∷ xs) ≡ x ∷ unfolded_from Elsewhere ends xs
unfolding unfolded_from
stays x xs ends d h =
    rw (closing_later (length xs) (suc (length xs)) ends (omega arith) h, open_later (length xs) (suc (length xs)) ends (omega arith) h, d) refl

others_from : (items : List Item) → NoneDeclares items → unfolded_from Elsewhere [] items ≡ items
unfolding unfolded_from
others_from [] none = refl
others_from (x ∷ xs) none = stays x xs [] none.0 tt ∙ ap (λ (ys : List Item). x ∷ ys) (others_from xs none.1)

pub others_stay_law : OthersStay
unfolding unfolded
others_stay_law items none = others_from items none

-- ---- group directives

both_true : (a b : Bool) → (a && b) ≡ true → (a ≡ true) × (b ≡ true)
both_true true b h = (refl, h)
both_true false b h = absurd cc

-- the parenthesis of a loop that declares variables is no directive
abbrev Fits : Part → List Item → Type 0
Fits (AtParenthesis p) (x ∷ xs) = is_group x.sign ≡ false
Fits _ xs = Unit {0}

for_alone : (s : Sign) → is_for s ≡ true → is_group s ≡ false
for_alone signs.For h = refl
for_alone _ h = absurd cc

opening_alone : (s : Sign) → is_opening s ≡ true → is_group s ≡ false
opening_alone signs.Open h = refl
opening_alone _ h = absurd cc

declaring_fits : (x : Item) (xs : List Item) → declares x xs ≡ true → (is_group x.sign ≡ false) × Fits (AtParenthesis x.place) xs
declaring_fits x [] h = absurd cc
declaring_fits x (y ∷ []) h = absurd cc
declaring_fits x (y ∷ z ∷ xs) h =
    let a = both_true (is_for x.sign) (is_opening y.sign && begins_type z.sign) h in
    let b = both_true (is_opening y.sign) (begins_type z.sign) a.1 in
    (for_alone x.sign a.0, opening_alone y.sign b.0)

braces_before : (left : ℕ) (ends : List End) (ts : List Item) → has_groups (closing left ends ++ ts) ≡ has_groups ts
braces_before left [] ts = refl
braces_before left (e ∷ ends) ts = elim (nat_eq left e.left) as (λ (b : Bool). has_groups ((if b then at e.place signs.RightBrace ∷ closing left ends else []) ++ ts) ≡ has_groups ts) [
  | true ↦ braces_before left ends ts
  | false ↦ refl
]

abbrev Groups : List Item → Type 0
Groups xs = (part : Part) (ends : List End) → Fits part xs → has_groups (unfolded_from part ends xs) ≡ has_groups xs

groups_elsewhere : (x : Item) (xs : List Item) (ends : List End) (b : Bool) → declares x xs ≡ b → Groups xs
    → has_groups ((if b then at x.place signs.LeftBrace ∷ [] else x ∷ []) ++ unfolded_from (if b then AtParenthesis x.place else Elsewhere) (if b then end_of x xs ∷ ends else ends) xs) ≡ (is_group x.sign || has_groups xs)
groups_elsewhere x xs ends true d on =
    let f = declaring_fits x xs d in
    on (AtParenthesis x.place) (end_of x xs ∷ ends) f.1 ∙ ap (λ (b : Bool). b || has_groups xs) (sym f.0)
groups_elsewhere x xs ends false d on = ap (λ (b : Bool). is_group x.sign || b) (on Elsewhere ends tt)

groups_declared : (p : Place) (x : Item) (xs : List Item) (ends : List End) (b : Bool) → Groups xs
    → has_groups ((if b then x ∷ at p signs.For ∷ at p signs.Open ∷ at p signs.Semicolon ∷ [] else x ∷ []) ++ unfolded_from (if b then Elsewhere else InDeclaration p) ends xs) ≡ (is_group x.sign || has_groups xs)
groups_declared p x xs ends true on = ap (λ (b : Bool). is_group x.sign || b) (on Elsewhere ends tt)
groups_declared p x xs ends false on = ap (λ (b : Bool). is_group x.sign || b) (on (InDeclaration p) ends tt)

groups_from : (items : List Item) → Groups items
unfolding unfolded_from
groups_from [] part ends f = refl
groups_from (x ∷ xs) Elsewhere ends f =
    braces_before (suc (length xs)) ends (in_block Elsewhere x xs ++ unfolded_from (if declares x xs then AtParenthesis x.place else Elsewhere) (if declares x xs then end_of x xs ∷ still_open (suc (length xs)) ends else still_open (suc (length xs)) ends) xs)
    ∙ groups_elsewhere x xs (still_open (suc (length xs)) ends) (declares x xs) refl (groups_from xs)
groups_from (x ∷ xs) (AtParenthesis p) ends f =
    braces_before (suc (length xs)) ends (unfolded_from (InDeclaration p) (still_open (suc (length xs)) ends) xs)
    ∙ groups_from xs (InDeclaration p) (still_open (suc (length xs)) ends) tt
    ∙ ap (λ (b : Bool). b || has_groups xs) (sym f)
groups_from (x ∷ xs) (InDeclaration p) ends f =
    braces_before (suc (length xs)) ends (in_block (InDeclaration p) x xs ++ unfolded_from (if is_semicolon x.sign then Elsewhere else InDeclaration p) (still_open (suc (length xs)) ends) xs)
    ∙ groups_declared p x xs (still_open (suc (length xs)) ends) (is_semicolon x.sign) (groups_from xs)

pub groups_stay_law : GroupsStay
unfolding unfolded
groups_stay_law items = groups_from items Elsewhere [] tt

-- ---- conditions

braces_conditioned : (count left : ℕ) (ends : List End) (ts : List Item) → AreConditionsOf count ts → AreConditionsOf count (closing left ends ++ ts)
braces_conditioned count left [] ts h = h
braces_conditioned count left (e ∷ ends) ts h = elim (nat_eq left e.left) as (λ (b : Bool). AreConditionsOf count ((if b then at e.place signs.RightBrace ∷ closing left ends else []) ++ ts)) [
  | true ↦ (tt, braces_conditioned count left ends ts h)
  | false ↦ h
]

abbrev Conditions : ℕ → List Item → Type 0
Conditions count xs = (part : Part) (ends : List End) → AreConditionsOf count xs → AreConditionsOf count (unfolded_from part ends xs)

conditions_elsewhere : (count : ℕ) (x : Item) (xs : List Item) (ends : List End) (b : Bool) → Conditions count xs → AreConditionsOf count (x ∷ xs)
    → AreConditionsOf count ((if b then at x.place signs.LeftBrace ∷ [] else x ∷ []) ++ unfolded_from (if b then AtParenthesis x.place else Elsewhere) (if b then end_of x xs ∷ ends else ends) xs)
conditions_elsewhere count x xs ends true on h = (tt, on (AtParenthesis x.place) (end_of x xs ∷ ends) h.1)
conditions_elsewhere count x xs ends false on h = (h.0, on Elsewhere ends h.1)

conditions_declared : (count : ℕ) (p : Place) (x : Item) (xs : List Item) (ends : List End) (b : Bool) → Conditions count xs → AreConditionsOf count (x ∷ xs)
    → AreConditionsOf count ((if b then x ∷ at p signs.For ∷ at p signs.Open ∷ at p signs.Semicolon ∷ [] else x ∷ []) ++ unfolded_from (if b then Elsewhere else InDeclaration p) ends xs)
conditions_declared count p x xs ends true on h = (h.0, (tt, (tt, (tt, on Elsewhere ends h.1))))
conditions_declared count p x xs ends false on h = (h.0, on (InDeclaration p) ends h.1)

conditions_from : (count : ℕ) (items : List Item) → Conditions count items
unfolding unfolded_from
conditions_from count [] part ends h = h
conditions_from count (x ∷ xs) Elsewhere ends h =
    braces_conditioned count (suc (length xs)) ends (in_block Elsewhere x xs ++ unfolded_from (if declares x xs then AtParenthesis x.place else Elsewhere) (if declares x xs then end_of x xs ∷ still_open (suc (length xs)) ends else still_open (suc (length xs)) ends) xs)
    (conditions_elsewhere count x xs (still_open (suc (length xs)) ends) (declares x xs) (conditions_from count xs) h)
conditions_from count (x ∷ xs) (AtParenthesis p) ends h =
    braces_conditioned count (suc (length xs)) ends (unfolded_from (InDeclaration p) (still_open (suc (length xs)) ends) xs)
    (conditions_from count xs (InDeclaration p) (still_open (suc (length xs)) ends) h.1)
conditions_from count (x ∷ xs) (InDeclaration p) ends h =
    braces_conditioned count (suc (length xs)) ends (in_block (InDeclaration p) x xs ++ unfolded_from (if is_semicolon x.sign then Elsewhere else InDeclaration p) (still_open (suc (length xs)) ends) xs)
    (conditions_declared count p x xs (still_open (suc (length xs)) ends) (is_semicolon x.sign) (conditions_from count xs) h)

pub conditions_stay_law : ConditionsStay
unfolding unfolded
conditions_stay_law count items h = conditions_from count items Elsewhere [] h
