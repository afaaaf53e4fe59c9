-- Signed terms, as in Miné's octagons: of variable x, term 2x is +x, and term 2x + 1 is -x.
use Rattle.std.specs.Prelude.{ℕ, ◌+◌, ◌-◌, ◌*◌, ◌%◌, ◌^◌, ℤ, pos, neg_ℤ, ◌-ℤ◌, Bool, nat_eq, ◌&&◌, ◌||◌, if◌then◌else◌}

-- the term with the other sign
unfoldable pub opposite : ℕ → ℕ
opposite a = a + 1 - 2 * (a % 2)

-- the ends of `int`
abbrev pub int_least : ℤ
int_least = neg_ℤ (pos (2 ^ 31))

abbrev pub int_greatest : ℤ
int_greatest = pos (2 ^ 31 - 1)

-- the ends of a term over the values of `int`
abbrev pub least_value : ℕ → ℤ
least_value a = if nat_eq (a % 2) 0 then int_least else neg_ℤ int_greatest

abbrev pub greatest_value : ℕ → ℤ
greatest_value a = if nat_eq (a % 2) 0 then int_greatest else neg_ℤ int_least

-- the bound that the type gives the first term minus the second
unfoldable pub type_bound : ℕ → ℕ → ℤ
type_bound a b = if nat_eq a b then pos 0 else greatest_value a -ℤ least_value b

-- the entry (c, d) is the entry (a, b) or its coherent twin, since a - b is (-b) - (-a)
abbrev pub is_pair : ℕ → ℕ → ℕ → ℕ → Bool
is_pair a b c d = (nat_eq c a && nat_eq d b) || (nat_eq c (opposite b) && nat_eq d (opposite a))
