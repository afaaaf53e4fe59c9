-- The normal form of "this is at least 0".
use Rattle.std.specs.Prelude.{◌≡◌, ⊤, ℕ, ℤ, pos, neg_ℤ, ◌-ℤ◌, int_div, int_lt, int_le, Bool, true, false, if◌then◌else◌, List, [], ◌∷◌, Result, Ok, Err}
use Rattle.std.specs.Int.{int_div_euclid}
use Rattle.linear_atoms.specs.declared.forms.Linear.{Linear}
use Rattle.linear_atoms.specs.declared.linear_fault.LinearFault.{LinearFault}
use Rattle.linear_atoms.specs.declared.linear_fault.LinearFault.TheVariants as faults
use Rattle.linear_atoms.specs.declared.atoms.Literal.{Literal}
use Rattle.linear_atoms.specs.declared.normal.Normal.{Normal}
use Rattle.linear_atoms.specs.declared.normal.Normal.TheVariants as normals
use Rattle.linear_atoms.specs.Divisors.{common_divisor}
use Rattle.linear_atoms.specs.Forms.{is_small_form}
use Rattle.linear_atoms.specs.Atoms.{literal_holds, IsAtom}

-- ---- the normal form

abbrev pub divided : ℤ → List (ℕ × ℤ) → List (ℕ × ℤ)
divided d [] = []
divided d (t ∷ ts) = (t.0, int_div t.1 d) ∷ divided d ts

-- `-k/g` rounded up
abbrev pub rounded_up : ℤ → ℤ → ℤ
rounded_up k g = neg_ℤ (int_div_euclid k g)

abbrev pub at_least : List (ℕ × ℤ) → ℤ → Bool → Literal
at_least ts bound positive = record { atom = record { terms = ts; bound = bound }; positive = positive }

-- the literal of terms with this first coefficient, for this divisor and constant
abbrev pub literal_by : ℤ → List (ℕ × ℤ) → ℤ → ℤ → Literal
literal_by first ts g k =
    if int_lt (pos 0) first then at_least (divided g ts) (rounded_up k g) true
    else at_least (divided (neg_ℤ g) ts) (pos 1 -ℤ rounded_up k g) false

abbrev pub normal_by : List (ℕ × ℤ) → ℕ → ℤ → Normal
normal_by [] g k = normals.Const (int_le (pos 0) k)
normal_by (t ∷ ts) g k = normals.Literal (literal_by t.1 (t ∷ ts) (pos g) k)

abbrev pub normal_of : Linear → Normal
normal_of form = normal_by form.terms (common_divisor form.terms) form.constant

abbrev pub normal_holds : Normal → List ℤ → Bool
normal_holds (normals.Const truth) values = truth
normal_holds (normals.Literal literal) values = literal_holds literal values

-- the normal form, where no number of the form is too large; and TooLarge where one is
abbrev pub NormalWithin : Result Normal LinearFault → Linear → Type 0
NormalWithin (Ok made) form = (made ≡ normal_of form) × (is_small_form form ≡ true)
NormalWithin (Err faults.NoMemory) form = ⊤
NormalWithin (Err faults.TooLarge) form = is_small_form form ≡ false

-- a truth, or a well-formed atom over so many features
abbrev pub IsNormal : ℕ → Normal → Type 0
IsNormal count (normals.Const truth) = Unit {0}
IsNormal count (normals.Literal literal) = IsAtom count literal.atom
