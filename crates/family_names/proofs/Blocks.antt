-- What is in scope behind one item more, and lists of declarations that follow blocks.
use Rattle.std.proofs.Common.{◌≡◌, ℕ, zero, suc, Bool, true, false, not, List, [], ◌∷◌, ◌++◌, refl, sym, ap, ◌∙◌, append-nil}
use Rattle.std.specs.Prelude.{◌||◌, if◌then◌else◌}
use Rattle.fam_outer.specs.declared.faults.Place.{Place}
use Rattle.c_grammar.specs.declared.items.Item.{Item}
use Rattle.c_grammar.specs.declared.items.Sign.{Sign}
use Rattle.c_grammar.specs.declared.items.Sign.TheVariants as signs
use Rattle.c_grammar.specs.declared.scoped.Scoped.{Scoped}
use Rattle.c_grammar.specs.Constants.{is_name}
use Rattle.c_grammar.specs.Grammar.{at}
use Rattle.c_grammar.specs.Scoped.{IsSound, is_inside, still}
use Rattle.c_grammar.specs.Scopes.{still_in_scope}
use Rattle.c_grammar.proofs.Scoping as scoping
use Rattle.c_grammar.proofs.Scoping.{still_before_main, still_declared, still_declared_later, still_outside, still_other}
use Rattle.family_names.specs.declared.declarations.Declaration.{Declaration}
use Rattle.family_names.specs.Blocks.{is_shown, left_before, FollowsBlocks}
use Rattle.family_names.specs.Names.{is_main, has_main, is_used_behind}

-- ---- scopes behind an item more

-- as many blocks are left before a sign in `main` as the grammar says
left_in_main : (s : Sign) (n : ℕ) → scoping.left_before s n ≡ left_before s true n
left_in_main signs.LeftBrace zero = refl
left_in_main signs.LeftBrace (suc n) = refl
left_in_main _ n = refl

-- before `main` each name is in scope, whatever blocks are left
any_outside : (before : List Item) (m n : ℕ) → has_main before ≡ false → still_in_scope m before ≡ still_in_scope n before
any_outside before m n h = still_before_main m before h ∙ sym (still_before_main n before h)

-- an item that is no name
pub other_in_scope : (before : List Item) (x : Item) (n : ℕ) → is_name x.sign ≡ false → still_in_scope n (before ++ x ∷ []) ≡ still_in_scope (left_before x.sign (has_main before) n) before ++ x ∷ []
other_in_scope before x n other = elim (has_main before) as (λ b. has_main before ≡ b → still_in_scope n (before ++ x ∷ []) ≡ still_in_scope (left_before x.sign b n) before ++ x ∷ []) [
  | true ↦ λ h. still_other n before x other ∙ ap (λ (m : ℕ). still_in_scope m before ++ x ∷ []) (left_in_main x.sign n)
  | false ↦ λ h. still_outside n before x h ∙ ap (λ (ys : List Item). ys ++ x ∷ []) (any_outside before n (left_before x.sign false n) h)
] refl

-- a name that is declared
pub name_in_scope : (before : List Item) (p : Place) (x n : ℕ) → is_used_behind before ≡ false → still_in_scope n (before ++ at p (signs.Name x) ∷ []) ≡ still_in_scope n before ++ (if is_shown n (has_main before) then at p (signs.Name x) ∷ [] else [])
name_in_scope before p x zero unused = still_declared before (at p (signs.Name x)) unused refl
name_in_scope before p x (suc n) unused =
    elim (has_main before) as (λ b. has_main before ≡ b → still_in_scope (suc n) (before ++ at p (signs.Name x) ∷ []) ≡ still_in_scope (suc n) before ++ (if not b then at p (signs.Name x) ∷ [] else [])) [
      | true ↦ λ h. still_declared_later n before (at p (signs.Name x)) h unused refl ∙ sym (append-nil (still_in_scope (suc n) before))
      | false ↦ λ h. still_outside (suc n) before (at p (signs.Name x)) h
    ] refl

-- ---- lists of declarations

-- behind a sign at which no block begins or ends
pub stays : (list : Scoped Declaration) (main : Bool) (sign : Sign) → IsSound list → is_inside list ≡ main → (main || is_main sign) ≡ main → ((n : ℕ) → left_before sign main n ≡ n) → FollowsBlocks list main sign list
stays list main sign sound inside same left = record {
  sound = sound;
  inside = inside ∙ sym same;
  still_is = λ n. ap (λ (m : ℕ). still m list) (sym (left n));
}
