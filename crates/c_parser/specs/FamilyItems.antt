-- The items of a file with groups: its tokens and its group directives, line by line (ISO/IEC 9899:2011, 5.1.1.2 and 6.10.1).
use Rattle.std.specs.Prelude.{◌≡◌, ◌⊎◌, ℕ, nat_eq, nat_lt, Bool, false, List, [], ◌∷◌, ◌++◌, map, Option, Some, None, Ok, Err}
use Rattle.std.specs.List.{filter, list_any}
use Rattle.fam_outer.specs.declared.dialect.Dialect.{Dialect}
use Rattle.fam_outer.specs.declared.faults.Place.{Place}
use Rattle.fam_outer.specs.declared.faults.FileCode.{FileCode}
use Rattle.cpp_conditions.specs.Validity.{Plain}
use Rattle.c_grammar.specs.declared.items.Item.{Item}
use Rattle.c_grammar.specs.declared.items.Sign.{Sign}
use Rattle.c_grammar.specs.declared.items.Sign.TheVariants as signs
use Rattle.c_grammar.specs.Grammar.{at}
use Rattle.cpp_lines.specs.Code.{code_of}
use Rattle.cpp_lines.specs.Sections.{Told, TextIsRead}
use Rattle.cpp_lines.specs.Whole.{blanked_file, HasLineFault}
use Rattle.cpp_lines.specs.declared.line.Line.{Line}
use Rattle.cpp_lines.specs.declared.line.LineKind.{LineKind}
use Rattle.cpp_lines.specs.declared.line.LineKind.TheVariants as kinds
use Rattle.c_parser.specs.Functions.{own_functions}
use Rattle.c_parser.specs.Items.{Listed}
use Rattle.c_parser.specs.Order.{arranged}
use Rattle.c_parser.specs.Reading.{items_of_code}

-- the sign of a line's group directive
abbrev pub group_sign : LineKind → Option Sign
group_sign kinds.Code = None
group_sign kinds.Include = None
group_sign kinds.Define = None
group_sign (kinds.If n) = Some (signs.GroupIf n)
group_sign (kinds.Elif n) = Some (signs.GroupElif n)
group_sign kinds.Else = Some signs.GroupElse
group_sign kinds.Endif = Some signs.GroupEnd

-- the item stands in the line of this number
abbrev pub stands_in : ℕ → Item → Bool
stands_in n x = nat_eq x.place.line n

-- the item stands above it
abbrev pub stands_above : ℕ → Item → Bool
stands_above n x = nat_lt x.place.line n

-- these, or the item of the group directive at its place
abbrev pub or_directive : Option Sign → Place → List Item → List Item
or_directive None place xs = xs
or_directive (Some sign) place xs = at place sign ∷ []

-- the items of a line, where these are those of all tokens
abbrev pub items_of_line : Line → List Item → List Item
items_of_line l xs = or_directive (group_sign l.kind) l.place (filter (stands_in l.place.line) xs)

abbrev pub by_line : List Line → List Item → List Item
by_line [] xs = []
by_line (l ∷ ls) xs = items_of_line l xs ++ by_line ls xs

-- the sign is the name with this number
abbrev pub is_name : ℕ → Sign → Bool
is_name x (signs.Name y) = nat_eq x y
is_name x _ = false

-- the name with this number stands among the items
abbrev pub has : ℕ → List Item → Bool
has x xs = list_any (λ i. is_name x i.sign) xs

-- names, and the items of a family over them
abbrev pub family_listed : List Line → Listed → Listed
family_listed lines l = record { names = l.names; items = by_line lines l.items }

-- ---- the phases before the grammar: the length, the comments, the lines with the conditions, and the tokens of the code

abbrev pub feature_names : Plain → List (List ℕ)
feature_names model = map (λ f. f.name) model.features

-- the lines and conditions of a family, and its items over its own functions and its names in their order
pub record HasItems (dialect : Dialect) (model : Plain) (bytes : List ℕ) (told : Told) (l : Listed) : Type 0 where
  pub blanked : List ℕ
  pub without_comments : blanked_file bytes ≡ Ok blanked
  pub read : TextIsRead dialect model blanked (Ok told)
  pub first : Listed
  pub first_are : items_of_code (own_functions (code_of blanked)) [] (code_of blanked) ≡ Ok first
  pub tokens : Listed
  pub tokens_are : items_of_code (own_functions (code_of blanked)) (arranged (feature_names model) first) (code_of blanked) ≡ Ok tokens
  pub is : l ≡ family_listed told.lines tokens

-- a token has this fault
pub record HasTokenFault (dialect : Dialect) (model : Plain) (bytes : List ℕ) (fault : FileCode × Place) : Type 0 where
  pub blanked : List ℕ
  pub told : Told
  pub without_comments : blanked_file bytes ≡ Ok blanked
  pub read : TextIsRead dialect model blanked (Ok told)
  pub token : items_of_code (own_functions (code_of blanked)) [] (code_of blanked) ≡ Err fault

abbrev pub HasEarlyFault : Dialect → Plain → List ℕ → FileCode × Place → Type 0
HasEarlyFault dialect model bytes fault = (blanked_file bytes ≡ Err fault) ⊎ (HasLineFault dialect model bytes fault ⊎ HasTokenFault dialect model bytes fault)
