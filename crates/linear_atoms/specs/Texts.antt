-- The texts of literals.
use Rattle.std.specs.Prelude.{ℕ, nat_eq, ℤ, pos, ◌-ℤ◌, int_lt, unsigned_abs, Bool, true, false, ◌&&◌, if◌then◌else◌, List, [], ◌∷◌, ◌++◌, map, codes, slice_index_or}
use Rattle.std.specs.Fmt.{decimal, signed_decimal}
use Rattle.std.specs.Ordering.{int_eq}
use Rattle.linear_atoms.specs.declared.atoms.Atom.{Atom}
use Rattle.linear_atoms.specs.declared.atoms.Feature.{Feature}
use Rattle.linear_atoms.specs.declared.atoms.Literal.{Literal}

abbrev pub name_at : List Feature → ℕ → List ℕ
name_at features n = slice_index_or (map (λ (f : Feature). f.name) features) n []

abbrev pub boolean_at : List Feature → ℕ → Bool
boolean_at features n = slice_index_or (map (λ (f : Feature). f.boolean) features) n false

-- what stands before a term's size: nothing before the first, ` + ` before another, or the same with `-`
abbrev pub sign_text : Bool → ℤ → List ℕ
sign_text first a = if first then (if int_lt a (pos 0) then codes "-" else []) else (if int_lt a (pos 0) then codes " - " else codes " + ")

-- `N`, or `3*N`
abbrev pub sized_text : ℤ → List ℕ → List ℕ
sized_text a name = (if nat_eq (unsigned_abs a) 1 then [] else decimal (unsigned_abs a) ++ codes "*") ++ name

-- `N - 2*M`, of the first terms or of those behind others
abbrev pub terms_text : Bool → List Feature → List (ℕ × ℤ) → List ℕ
terms_text first features [] = []
terms_text first features (t ∷ ts) = (sign_text first t.1 ++ sized_text t.1 (name_at features t.0)) ++ terms_text false features ts

-- whether the atom is one Boolean feature with coefficient 1 and bound 1
abbrev pub is_switch : List Feature → List (ℕ × ℤ) → ℤ → Bool
is_switch features [] bound = false
is_switch features (t ∷ []) bound = (int_eq t.1 (pos 1) && boolean_at features t.0) && int_eq bound (pos 1)
is_switch features (t ∷ u ∷ ts) bound = false

-- the name or `!` and the name of a switch, else `T >= c` with the bound, or `T <= d` with the bound minus 1
abbrev pub literal_by : Bool → Bool → List ℕ → ℤ → List ℕ
literal_by true true terms bound = terms
literal_by true false terms bound = codes "!" ++ terms
literal_by false true terms bound = (terms ++ codes " >= ") ++ signed_decimal bound
literal_by false false terms bound = (terms ++ codes " <= ") ++ signed_decimal (bound -ℤ pos 1)

abbrev pub literal_text : List Feature → Literal → List ℕ
literal_text features literal = literal_by (is_switch features literal.atom.terms literal.atom.bound) literal.positive (terms_text true features literal.atom.terms) literal.atom.bound

-- the terms with the bound as their value: `T == c`
abbrev pub value_text : List Feature → Atom → List ℕ
value_text features atom = (terms_text true features atom.terms ++ codes " == ") ++ signed_decimal atom.bound
