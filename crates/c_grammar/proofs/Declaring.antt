-- Which items are those of declarations among items and others behind them, and what stands last among them.
use Rattle.std.proofs.Common.{◌≡◌, Bool, true, false, not, ◌&&◌, List, [], ◌∷◌, ◌++◌, Option, Some, None, refl, sym, ap, ◌∙◌}
use Rattle.std.specs.Prelude.{◌||◌, if◌then◌else◌}
use Rattle.std.specs.List.{list_any}
use Rattle.c_grammar.specs.declared.constants.NameKind.{NameKind}
use Rattle.c_grammar.specs.declared.constants.NameKind.TheVariants as kinds
use Rattle.c_grammar.specs.declared.items.Item.{Item}
use Rattle.c_grammar.specs.declared.items.Sign.{Sign}
use Rattle.c_grammar.specs.declared.items.Sign.TheVariants as signs
use Rattle.c_grammar.specs.Constants.{is_name, is_constant, kind_behind, kind_after, constants_from, of_constants, last_from}
use Rattle.c_grammar.specs.Functions.{has_sign}
use Rattle.c_grammar.specs.Locals.{is_main, is_declaring, declares_behind, declarations_from, of_declarations}

-- `main` stands among the items
abbrev has_main : List Item → Bool
has_main items = list_any (λ x. is_main x.sign) items

main_alone : (main : Bool) → main ≡ (main || false)
main_alone true = refl
main_alone false = refl

main_earlier : (a b c : Bool) → ((a || b) || c) ≡ (a || (b || c))
main_earlier true b c = refl
main_earlier false b c = refl

from_more : (main : Bool) (last : Option Item) (before xs : List Item) → declarations_from main (has_sign is_declaring last) (before ++ xs)
    ≡ declarations_from main (has_sign is_declaring last) before ++ declarations_from (main || has_main before) (has_sign is_declaring (last_from last before)) xs
from_more main last [] xs = ap (λ (b : Bool). declarations_from b (has_sign is_declaring last) xs) (main_alone main)
from_more main last (y ∷ ys) xs =
    let m : Bool = main || is_main y.sign in
    let d : Bool = is_declaring y.sign in
    let more = declarations_from (main || (is_main y.sign || has_main ys)) (has_sign is_declaring (last_from (Some y) ys)) xs in
    let on : declarations_from m d (ys ++ xs) ≡ declarations_from m d ys ++ more = from_more m (Some y) ys xs
    ∙ ap (λ (b : Bool). declarations_from m d ys ++ declarations_from b (has_sign is_declaring (last_from (Some y) ys)) xs) (main_earlier main (is_main y.sign) (has_main ys)) in
    elim (main && not (has_sign is_declaring last) && is_name y.sign) as (λ t. (if t then declarations_from m d (ys ++ xs) else y ∷ declarations_from m d (ys ++ xs)) ≡ (if t then declarations_from m d ys else y ∷ declarations_from m d ys) ++ more) [
      | true ↦ on
      | false ↦ ap (λ (zs : List Item). y ∷ zs) on
    ]

-- the declarations of items and of others behind them
pub declarations_more : (before xs : List Item) → of_declarations (before ++ xs) ≡ of_declarations before ++ declarations_from (has_main before) (declares_behind before) xs
declarations_more before xs = from_more false None before xs

-- before `main` no item is left out
pub none_left_out : (declaring : Bool) (items : List Item) → has_main items ≡ false → declarations_from false declaring items ≡ items
none_left_out declaring [] h = refl
none_left_out declaring (y ∷ ys) h =
    ap (λ (zs : List Item). y ∷ zs)
    (elim (is_main y.sign) as (λ b. (b || has_main ys) ≡ false → declarations_from b (is_declaring y.sign) ys ≡ ys) [
      | true ↦ λ g. absurd cc
      | false ↦ λ g. none_left_out (is_declaring y.sign) ys g
    ] h)

-- ---- constants

-- a name that is left out of the constants is that of a variable, and so is one directly behind it
no_constant_behind : (kind : NameKind) (s : Sign) → (is_constant kind || not (is_name s)) ≡ false → is_constant (kind_behind kind s) ≡ false
no_constant_behind kinds.Constant s e = absurd cc
no_constant_behind kinds.Defined s e = absurd cc
no_constant_behind kinds.Variable (signs.Name n) e = refl
no_constant_behind kinds.Variable _ e = absurd cc

last_from_constants : (kind : NameKind) (last other : Option Item) (items : List Item) → (is_constant kind ≡ true → last ≡ other) → is_constant (kind_after kind items) ≡ true
    → last_from last (constants_from kind items) ≡ last_from other items
last_from_constants kind last other [] same c = same c
last_from_constants kind last other (y ∷ ys) same c =
    let k = kind_behind kind y.sign in
    elim (is_constant kind || not (is_name y.sign)) as (λ t. (is_constant kind || not (is_name y.sign)) ≡ t → last_from last (if t then y ∷ constants_from k ys else constants_from k ys) ≡ last_from (Some y) ys) [
      | true ↦ λ e. last_from_constants k (Some y) (Some y) ys (λ _. refl) c
      | false ↦ λ e. last_from_constants k last (Some y) ys (λ g. absurd (let no : true ≡ false = sym g ∙ no_constant_behind kind y.sign e in cc)) c
    ] refl

-- so a constant stands behind the same item among them as among all
pub last_of_constants : (items : List Item) → is_constant (kind_after kinds.Variable items) ≡ true → last_from None (of_constants items) ≡ last_from None items
last_of_constants items c = last_from_constants kinds.Variable None None items (λ _. refl) c
