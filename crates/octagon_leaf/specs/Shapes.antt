-- Octagonal forms, and what a comparison of one with 0 meets.
use Rattle.std.specs.Prelude.{ℕ, ◌+◌, ◌*◌, ℤ, pos, negsuc, neg_ℤ, ◌+ℤ◌, ◌-ℤ◌, ◌*ℤ◌, Bool, true, false, ◌&&◌, ◌||◌, if◌then◌else◌, List, [], ◌∷◌, ◌++◌}
use Rattle.std.specs.Ordering.{int_eq}
use Rattle.leaf_domain.specs.declared.form.Form.{Form}
use Rattle.leaf_domain.specs.declared.range.Range.{Range}
use Rattle.leaf_domain.specs.declared.compare.Compare.{Compare}
use Rattle.leaf_domain.specs.declared.compare.Compare.TheVariants.{Lt, Le, Gt, Ge, Eq, Ne}
use Rattle.leaf_domain.specs.Ranges.{range_at}
use Rattle.octagon_matrix.specs.Terms.{opposite}
use Rattle.octagon_closure.specs.Sweeps.{half}
use Rattle.octagon_leaf.specs.declared.shape.Edge.{Edge}
use Rattle.octagon_leaf.specs.declared.shape.Shape.{Shape}
use Rattle.octagon_leaf.specs.declared.shape.Shape.TheVariants.{Constant, Terms, Other}
use Rattle.octagon_leaf.specs.declared.meets.Meet.{Meet}

-- ---- which forms are octagonal
abbrev pub is_unit : ℤ → Bool
is_unit k = int_eq k (pos 1) || int_eq k (negsuc 0)

-- the term of a variable with coefficient 1 or -1
abbrev pub term_of : ℕ → ℤ → ℕ
term_of x k = if int_eq k (pos 1) then 2 * x else 2 * x + 1

-- one term and a constant: twice the form is the term minus its opposite and twice the constant
abbrev pub single : ℕ → ℤ → ℤ → Shape
single x k c = if is_unit k then Terms (record { first = term_of x k; second = opposite (term_of x k); is_double = true; constant = c }) else Other

-- two terms and a constant: the form is the first minus the opposite of the second, and the constant
abbrev pub double : ℕ → ℤ → ℕ → ℤ → ℤ → Shape
double x k y l c =
    if is_unit k && is_unit l then Terms (record { first = term_of x k; second = opposite (term_of y l); is_double = false; constant = c }) else Other

abbrev pub shape_by : List (ℕ × ℤ) → ℤ → Shape
shape_by [] c = Constant c
shape_by (t ∷ []) c = single t.0 t.1 c
shape_by (t ∷ u ∷ []) c = double t.0 t.1 u.0 u.1 c
shape_by (t ∷ u ∷ v ∷ ts) c = Other

abbrev pub shape_of : Form → Shape
shape_of f = shape_by f.terms f.constant

-- ---- the range of a form
-- twice a number where the difference of the terms is twice that of the form
abbrev pub scaled : Bool → ℤ → ℤ
scaled true n = pos 2 *ℤ n
scaled false n = n

abbrev pub halved : Bool → ℤ → ℤ
halved true n = half n
halved false n = n

-- from the least to the greatest value, by the entries of a best matrix
abbrev pub edge_range : (ℕ → ℕ → ℤ) → Edge → Range
edge_range m e = range_at (e.constant -ℤ halved e.is_double (m e.second e.first)) (e.constant +ℤ halved e.is_double (m e.first e.second))

-- ---- what is met
abbrev pub meet_at : ℕ → ℕ → ℤ → Meet
meet_at a b n = record { first = a; second = b; bound = n }

-- the form plus a number is at most 0
abbrev pub at_most : Edge → ℤ → Meet
at_most e d = meet_at e.first e.second (neg_ℤ (scaled e.is_double (e.constant +ℤ d)))

-- the negated form plus a number is at most 0
abbrev pub at_least : Edge → ℤ → Meet
at_least e d = meet_at e.second e.first (neg_ℤ (scaled e.is_double (d -ℤ e.constant)))

abbrev pub one_if : Bool → Meet → List Meet
one_if t m = if t then m ∷ [] else []

-- what a comparison of the form with 0 meets. A form that is not 0 is above 0 where its range begins at 0, and
-- below 0 where its range ends there; at the range of 0 alone no store is both.
abbrev pub compared : Edge → Compare → Range → List Meet
compared e Lt r = at_most e (pos 1) ∷ []
compared e Le r = at_most e (pos 0) ∷ []
compared e Gt r = at_least e (pos 1) ∷ []
compared e Ge r = at_least e (pos 0) ∷ []
compared e Eq r = at_most e (pos 0) ∷ at_least e (pos 0) ∷ []
compared e Ne r = one_if (int_eq r.low (pos 0)) (at_least e (pos 1)) ++ one_if (int_eq r.high (pos 0)) (at_most e (pos 1))

-- variable x lies in the range
abbrev pub between : ℕ → Range → List Meet
between x r = meet_at (2 * x) (2 * x + 1) (pos 2 *ℤ r.high) ∷ meet_at (2 * x + 1) (2 * x) (neg_ℤ (pos 2 *ℤ r.low)) ∷ []

-- variable x is the term and the constant
abbrev pub equal_to : ℕ → ℕ → ℤ → List Meet
equal_to x t c = meet_at (2 * x) t c ∷ meet_at t (2 * x) (neg_ℤ c) ∷ []

-- the term lies from a low to a high
abbrev pub term_between : ℕ → ℤ → ℤ → List Meet
term_between t l h = meet_at t (opposite t) (pos 2 *ℤ h) ∷ meet_at (opposite t) t (neg_ℤ (pos 2 *ℤ l)) ∷ []
