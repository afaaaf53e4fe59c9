-- Declarations that are kept.
use Rattle.std.specs.Prelude.{ℕ, nat_eq, Bool, ◌&&◌, List}
use Rattle.std.specs.List.{list_any}
use Rattle.family_names.specs.declared.declarations.Declaration.{Declaration}
use Rattle.family_names.specs.Groups.{are_kept}

-- it is a declaration of the name, and kept
abbrev pub is_kept : List Bool → ℕ → Declaration → Bool
is_kept truths x d = nat_eq x d.name && are_kept truths d.groups

-- a declaration of the name is kept
abbrev pub is_declared : List Bool → List Declaration → ℕ → Bool
is_declared truths declarations x = list_any (λ d. is_kept truths x d) declarations

-- one of the declarations has the name
abbrev pub has_one : List Declaration → ℕ → Bool
has_one declarations x = list_any (λ d. nat_eq x d.name) declarations
