-- The features of generated families.
use Rattle.std.specs.Prelude.{ℕ, zero, suc, ◌+◌, pos, true, false, List, [], ◌∷◌, ◌++◌, codes}
use Rattle.std.specs.Fmt.{decimal}
use Rattle.fam_outer.specs.declared.dialect.Dialect.{Dialect}
use Rattle.fam_outer.specs.declared.dialect.Unknown.TheVariants.{Zero}
use Rattle.fam_outer.specs.declared.dialect.Includes.TheVariants.{Assert}
use Rattle.linear_atoms.specs.declared.atoms.Feature.{Feature}

-- the switch of this number, as `F0`
abbrev pub switch : ℕ → Feature
switch n = record { name = codes "F" ++ decimal n; boolean = true; low = pos 0; high = pos 1 }

-- so many switches, from this number on
abbrev pub switches : ℕ → ℕ → List Feature
switches n zero = []
switches n (suc left) = switch n ∷ switches (n + 1) left

-- the number `N` from 0 to 9
abbrev pub number : Feature
number = record { name = codes "N"; boolean = false; low = pos 0; high = pos 9 }

-- `F0` to `F7`, and `N`
abbrev pub generated_features : List Feature
generated_features = switches 0 8 ++ number ∷ []

-- how names and includes of generated families are read: as those of any file without the options for it
abbrev pub generated_dialect : Dialect
generated_dialect = record { unknown = Zero; includes = Assert }
