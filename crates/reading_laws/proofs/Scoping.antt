-- Names that are left out of items open and leave no block and no section.
use Rattle.std.proofs.Common.{◌≡◌, ℕ, Bool, true, false, not, ◌&&◌, List, [], ◌∷◌, ◌++◌, Option, Some, None, refl, sym, ap, ◌∙◌}
use Rattle.std.specs.Prelude.{◌||◌, if◌then◌else◌}
use Rattle.cpp_groups.specs.declared.section.Section.{Section}
use Rattle.cpp_groups.specs.Kept.{sections_after}
use Rattle.c_grammar.specs.declared.constants.NameKind.{NameKind}
use Rattle.c_grammar.specs.declared.items.Item.{Item}
use Rattle.c_grammar.specs.declared.items.Sign.{Sign}
use Rattle.c_grammar.specs.declared.items.Sign.TheVariants as signs
use Rattle.c_grammar.specs.Constants.{is_name, is_constant, kind_behind, kind_after, constants_from}
use Rattle.c_grammar.specs.Kept.{directive_of}
use Rattle.c_grammar.specs.Locals.{is_main, is_declaring, declarations_from}
use Rattle.c_grammar.specs.Scopes.{inner_behind, inner_from, are_open, is_open_behind, scoped_from}
use Rattle.c_grammar.proofs.ScopingBlocks.{IsBalanced, balanced_whole, whole_balanced, inner_declarations}
use Rattle.family_names.specs.Names.{sections_behind}

-- what is so of the sign of a name
record IsOfName (s : Sign) : Type 0 where
  inner : (n : ℕ) → inner_behind n s ≡ Some n
  no_directive : directive_of s ≡ None

of_name : (s : Sign) → is_name s ≡ true → IsOfName s
of_name (signs.Name x) h = record { inner = λ n. refl; no_directive = refl }
of_name _ h = absurd cc

last_holds : (a b c : Bool) → (a && b && c) ≡ true → c ≡ true
last_holds true true c h = h
last_holds true false c h = absurd cc
last_holds false b c h = absurd cc

middle_holds : (a b c : Bool) → (a && b && c) ≡ true → b ≡ true
middle_holds true true c h = refl
middle_holds true false c h = absurd cc
middle_holds false b c h = absurd cc

no_constant_name : (a b : Bool) → (a || not b) ≡ false → b ≡ true
no_constant_name true b h = absurd cc
no_constant_name false true h = refl
no_constant_name false false h = absurd cc

-- ---- blocks

inner_constants : (o : Option ℕ) (kind : NameKind) (w : List Item) → inner_from o (constants_from kind w) ≡ inner_from o w
inner_constants None kind w = refl
inner_constants (Some n) kind [] = refl
inner_constants (Some n) kind (x ∷ xs) =
    let k : NameKind = kind_behind kind x.sign in
    elim (is_constant kind || not (is_name x.sign)) as (λ b. (is_constant kind || not (is_name x.sign)) ≡ b → inner_from (Some n) (if b then x ∷ constants_from k xs else constants_from k xs) ≡ inner_from (inner_behind n x.sign) xs) [
      | true ↦ λ e. inner_constants (inner_behind n x.sign) k xs
      | false ↦ λ e. inner_constants (Some n) k xs ∙ ap (λ (o : Option ℕ). inner_from o xs) (sym ((of_name x.sign (no_constant_name (is_constant kind) (is_name x.sign) e)).inner n))
    ] refl

pub open_declared : (main declaring : Bool) (w : List Item) → is_open_behind 0 (declarations_from main declaring w) ≡ is_open_behind 0 w
open_declared main declaring w = ap (are_open 0) (inner_declarations (Some 0) main declaring w)

pub open_constants : (kind : NameKind) (w : List Item) → is_open_behind 0 (constants_from kind w) ≡ is_open_behind 0 w
open_constants kind w = ap (are_open 0) (inner_constants (Some 0) kind w)

pub constants_balanced : (kind : NameKind) (us : List Item) → IsBalanced us → IsBalanced (constants_from kind us)
constants_balanced kind us b = whole_balanced (constants_from kind us) (λ n. inner_constants (Some n) kind us ∙ balanced_whole us b n)

-- the constants of items and of others behind them
pub constants_append : (kind : NameKind) (xs us : List Item) → constants_from kind (xs ++ us) ≡ constants_from kind xs ++ constants_from (kind_after kind xs) us
constants_append kind [] us = refl
constants_append kind (x ∷ xs) us =
    let k : NameKind = kind_behind kind x.sign in
    elim (is_constant kind || not (is_name x.sign)) as (λ b. (if b then x ∷ constants_from k (xs ++ us) else constants_from k (xs ++ us)) ≡ (if b then x ∷ constants_from k xs else constants_from k xs) ++ constants_from (kind_after k xs) us) [
      | true ↦ ap (λ (zs : List Item). x ∷ zs) (constants_append k xs us)
      | false ↦ constants_append k xs us
    ]

-- ---- sections

sections_on : (t : List Bool) (secs : List Section) (s : Sign) (xs : List Item) → is_name s ≡ true → sections_behind t secs xs ≡ sections_behind t (sections_after t secs (directive_of s)) xs
sections_on t secs s xs h = sym (ap (λ o. sections_behind t (sections_after t secs o) xs) (of_name s h).no_directive)

pub sections_declared : (t : List Bool) (secs : List Section) (main declaring : Bool) (w : List Item) → sections_behind t secs (declarations_from main declaring w) ≡ sections_behind t secs w
sections_declared t secs main declaring [] = refl
sections_declared t secs main declaring (x ∷ xs) =
    let m : Bool = main || is_main x.sign in
    let d : Bool = is_declaring x.sign in
    let next : List Section = sections_after t secs (directive_of x.sign) in
    elim (main && not declaring && is_name x.sign) as (λ b. (main && not declaring && is_name x.sign) ≡ b → sections_behind t secs (if b then declarations_from m d xs else x ∷ declarations_from m d xs) ≡ sections_behind t next xs) [
      | true ↦ λ e. sections_declared t secs m d xs ∙ sections_on t secs x.sign xs (last_holds main (not declaring) (is_name x.sign) e)
      | false ↦ λ e. sections_declared t next m d xs
    ] refl

pub sections_scoped : (t : List Bool) (secs : List Section) (main : Bool) (w : List Item) → sections_behind t secs (scoped_from 0 main w) ≡ sections_behind t secs w
sections_scoped t secs main [] = refl
sections_scoped t secs main (x ∷ xs) =
    let m : Bool = main || is_main x.sign in
    let next : List Section = sections_after t secs (directive_of x.sign) in
    elim (main && is_name x.sign && not (is_open_behind 0 xs)) as (λ b. (main && is_name x.sign && not (is_open_behind 0 xs)) ≡ b → sections_behind t secs (if b then scoped_from 0 m xs else x ∷ scoped_from 0 m xs) ≡ sections_behind t next xs) [
      | true ↦ λ e. sections_scoped t secs m xs ∙ sections_on t secs x.sign xs (middle_holds main (is_name x.sign) (not (is_open_behind 0 xs)) e)
      | false ↦ λ e. sections_scoped t next m xs
    ] refl
