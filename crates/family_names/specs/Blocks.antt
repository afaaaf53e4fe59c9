-- Which names are in scope behind one item more, and lists of declarations that follow the blocks of a file (ISO/IEC 9899:2011, 6.2.1p4).
use Rattle.std.specs.Prelude.{◌≡◌, ℕ, zero, suc, pred, Bool, true, false, not, ◌||◌, List, [], ◌∷◌, ◌++◌, if◌then◌else◌}
use Rattle.c_grammar.specs.declared.items.Item.{Item}
use Rattle.c_grammar.specs.declared.items.Sign.{Sign}
use Rattle.c_grammar.specs.declared.items.Sign.TheVariants as signs
use Rattle.c_grammar.specs.declared.scoped.Scoped.{Scoped}
use Rattle.c_grammar.specs.Kept.{kept}
use Rattle.c_grammar.specs.Locals.{is_main, names_of}
use Rattle.c_grammar.specs.Scoped.{IsSound, is_inside, still}
use Rattle.c_grammar.specs.Scopes.{still_in_scope, of_locals}
use Rattle.family_names.specs.declared.declarations.Declaration.{Declaration}
use Rattle.family_names.specs.declared.groups.Group.{Group}

-- the names that are in scope behind the items, and where so many more blocks are left, and each condition has a truth
abbrev pub still_at : ℕ → List Bool → List Item → List ℕ
still_at n truths items = names_of (kept truths (still_in_scope n items))

-- the names that `main` declares, or only those that it declares as static, whatever block and group they stand in
abbrev pub locals_by : Bool → List Item → List ℕ
locals_by only items = names_of (of_locals only items)

-- those of them that are kept where each condition has a truth
abbrev pub locals_at : List Bool → Bool → List Item → List ℕ
locals_at truths only items = names_of (kept truths (of_locals only items))

-- a name that is declared here, in `main` or before it, is in scope where so many more blocks are left: one of a block until that is left
abbrev pub is_shown : ℕ → Bool → Bool
is_shown zero main = true
is_shown (suc n) main = not main

-- where so many more blocks are left behind a sign, so many are left before it, in `main` or not: a block begins at `main` and at each brace
-- in it
abbrev pub left_before : Sign → Bool → ℕ → ℕ
left_before signs.Main main n = if main then n else pred n
left_before signs.LeftBrace main n = if main then pred n else n
left_before signs.RightBrace main n = if main then suc n else n
left_before _ main n = n

-- the list behind a sign in `main` or before it
pub record FollowsBlocks (old : Scoped Declaration) (main : Bool) (sign : Sign) (new : Scoped Declaration) : Type 0 where
  pub sound : IsSound new
  pub inside : is_inside new ≡ (main || is_main sign)
  pub still_is : (n : ℕ) → still n new ≡ still (left_before sign main n) old

-- one more where it is shown
abbrev pub with_shown : Bool → List Declaration → Declaration → List Declaration
with_shown true declarations d = declarations ++ d ∷ []
with_shown false declarations d = declarations

-- the list with a declaration of the name in these groups
pub record AddsDeclaration (old : Scoped Declaration) (groups : List Group) (x : ℕ) (new : Scoped Declaration) : Type 0 where
  pub sound : IsSound new
  pub inside : is_inside new ≡ is_inside old
  pub still_is : (n : ℕ) → still n new ≡ with_shown (is_shown n (is_inside old)) (still n old) (record { name = x; groups = groups })
