-- What judging the names of items one by one answers.
use Rattle.std.specs.Prelude.{◌≡◌, ℕ, Bool, true, false, not, ◌&&◌, List, [], ◌∷◌, ◌++◌, Option, None, if◌then◌else◌}
use Rattle.fam_outer.specs.declared.faults.Place.{Place}
use Rattle.fam_outer.specs.declared.faults.FileCode.{FileCode}
use Rattle.c_grammar.specs.declared.items.Item.{Item}
use Rattle.c_grammar.specs.declared.items.Sign.{Sign}
use Rattle.c_grammar.specs.declared.items.Sign.TheVariants as signs
use Rattle.c_grammar.specs.declared.constants.NameKind.TheVariants as kinds
use Rattle.c_grammar.specs.declared.scoped.Scoped.{Scoped}
use Rattle.c_grammar.specs.Changes.{IsTrack}
use Rattle.c_grammar.specs.Constants.{is_constant, kind_after, of_constants}
use Rattle.c_grammar.specs.Grammar.{at}
use Rattle.c_grammar.specs.Scoped.{IsSound, is_inside, still}
use Rattle.c_grammar.specs.Scopes.{still_in_scope, of_locals}
use Rattle.c_parser.specs.declared.constants.Constants.{Constants}
use Rattle.c_parser.specs.declared.locals.Locals.{Locals}
use Rattle.c_parser.specs.declared.prototypes.Prototypes.{Prototypes}
use Rattle.c_parser.specs.declared.names.Known.{Known}
use Rattle.c_parser.specs.declared.names.Limits.{Limits}
use Rattle.c_parser.specs.Names.{Outside, has_main, names_of, is_used_behind, functions_by, unlike_fault, prototype_fault, call_fault, name_fault}

-- names that are to be counted, and none with a value from outside
abbrev pub counted : Limits → Outside
counted limits = record { variables = limits.variables; locals = limits.locals; constants = limits.constants; values = [] }

-- the names that are in scope behind these items, each one until its block is left
pub record AreInScope (before : List Item) (names : Scoped ℕ) : Type 0 where
  pub sound : IsSound names
  pub inside : is_inside names ≡ has_main before
  pub still_are : (n : ℕ) → still n names ≡ names_of (still_in_scope n before)

-- and behind a sign more
abbrev pub AreInScopeBehind : List Item → Sign → Scoped ℕ → Type 0
AreInScopeBehind before sign names = (p : Place) → AreInScope (before ++ at p sign ∷ []) names

-- a block begins at the sign, in `main` or before it: at `main`, and at each brace in it
abbrev pub begins_block : Bool → Sign → Bool
begins_block main signs.Main = not main
begins_block main signs.LeftBrace = main
begins_block main _ = false

-- the names that `main` declares among these items, whatever block they are in, and the static ones among them
pub record AreLocals (before : List Item) (locals : Locals) : Type 0 where
  pub all : locals.all.items ≡ names_of (of_locals false before)
  pub statics : locals.statics.items ≡ names_of (of_locals true before)

-- and behind a sign more
abbrev pub AreLocalsBehind : List Item → Sign → Locals → Type 0
AreLocalsBehind before sign locals = (p : Place) → AreLocals (before ++ at p sign ∷ []) locals

-- the fault of a declaration of a function, behind declarations like it and others; without one it stands behind those like it
pub record DeclaresAlike (old others : List ℕ) (k : ℕ) (new : List ℕ) (fault : Option FileCode) : Type 0 where
  pub fault_is : fault ≡ unlike_fault others k
  pub added : fault ≡ None → new ≡ old ++ k ∷ []

-- the functions that these items declare
pub record ArePrototypes (before : List Item) (prototypes : Prototypes) : Type 0 where
  pub valued : prototypes.valued.items ≡ functions_by false before
  pub void : prototypes.void.items ≡ functions_by true before

-- the fault of a function behind these; without one it is among the functions
pub record JudgesFunction (before : List Item) (k : ℕ) (prototypes : Prototypes) (fault : Option FileCode) : Type 0 where
  pub fault_is : fault ≡ (if has_main before then call_fault before k else prototype_fault before k)
  pub prototypes_are : fault ≡ None → (p : Place) → ArePrototypes (before ++ at p (signs.Function k) ∷ []) prototypes

-- what is known behind these items
pub record IsKnown (before : List Item) (known : Known) : Type 0 where
  pub declared : AreInScope before known.declared
  pub locals : AreLocals before known.locals
  pub prototypes : ArePrototypes before known.prototypes
  pub main : known.in_main ≡ has_main before

-- the fault of an item behind these; without one it is known too
pub record Judges (o : Outside) (before : List Item) (sign : Sign) (known : Known) (fault : Option FileCode) : Type 0 where
  pub fault_is : fault ≡ name_fault o before sign
  pub known_is : fault ≡ None → (p : Place) → IsKnown (before ++ at p sign ∷ []) known

-- a name behind these items is declared as a constant
abbrev pub declares_constant : List Item → Bool
declares_constant before = is_constant (kind_after kinds.Variable before) && not (is_used_behind before)

-- what is known of constants behind these items
pub record AreHeld (before : List Item) (constants : Constants) : Type 0 where
  pub track : IsTrack before constants.track
  pub names : AreInScope (of_constants before) constants.names
